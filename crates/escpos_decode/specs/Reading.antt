-- The results of reading a piece of a stream.
use Rattle.std.specs.Prelude.{ℕ, ◌≡◌, ◌+◌, ◌<◌, List, [], ◌∷◌, ◌++◌, length, take, slice_index, IsTrue}
use Rattle.escpos_command.specs.declared.command.Command.{Command}
use Rattle.escpos_command.specs.Grammar.{Half, Reads, FaultAt}
use Rattle.escpos_decode.specs.Push.{begins_content}
use Rattle.escpos_decode.specs.declared.reading.Stop.{Stop}
use Rattle.escpos_decode.specs.declared.reading.Stop.TheVariants.{Fault, Memory, Refused}

-- What a decoder reads: its half command, and the bytes of a piece that follow it.
pub record Given : Type 0 where
  pub half : List ℕ
  pub piece : List ℕ

abbrev pub given : List ℕ → List ℕ → Given
given half piece = record { half = half; piece = piece }

-- The bytes read as commands and this half command, and the commands were taken.
abbrev pub IsAccepted : (List Command → Type 0) → List ℕ → List ℕ → Type 0
IsAccepted accepted bytes half = (cs : List Command) × Reads bytes cs half × accepted cs

-- Where the reading stops before the end of the piece, and the half command then: at a fault, with no half command left;
-- out of memory, at a byte of a barcode or a raster that isn't refused, with the bytes before it read; or where the
-- consumer refuses a command.
abbrev pub StopsAt : {E : Type 0} → Stop E → (List Command → Type 0) → Given → List ℕ → Type 0
StopsAt (Fault at why) accepted g after =
    (cs : List Command) × (rest : List ℕ) × FaultAt (g.half ++ g.piece) cs rest (length g.half + at) why × accepted cs × (after ≡ [])
StopsAt Memory accepted g after =
    (k : ℕ) × (k < length g.piece) × IsAccepted accepted (g.half ++ take k g.piece) after × Half (after ++ slice_index g.piece k ∷ [])
    × IsTrue (begins_content (after ++ slice_index g.piece k ∷ []))
StopsAt (Refused refusal) accepted g after = Unit {0}

-- The bytes read as commands, of which all but this last one were taken.
abbrev pub EndsWith : Command → (List Command → Type 0) → List ℕ → Type 0
EndsWith command accepted bytes = (cs : List Command) × Reads bytes (cs ++ command ∷ []) [] × accepted cs

-- A fact of the refusal, where the reading stops for one.
abbrev pub IfRefused : {E : Type 0} → Stop E → (E → Type 0) → Type 0
IfRefused (Fault at why) P = Unit {0}
IfRefused Memory P = Unit {0}
IfRefused (Refused refusal) P = P refusal
