-- What the decoder does with one byte. Its model is its half command.
use Rattle.std.specs.Prelude.{ℕ, ◌≡◌, ◌⊎◌, ◌==◌, ◌&&◌, ◌||◌, Bool, false, List, [], ◌∷◌, ◌++◌, length, Result, Ok, Err}
use Rattle.escpos_decode.specs.declared.decoder.Step.{Step}
use Rattle.escpos_decode.specs.declared.decoder.Step.TheVariants.{More, Done}
use Rattle.escpos_decode.specs.declared.decoder.DecodeFault.{DecodeFault}
use Rattle.escpos_decode.specs.declared.decoder.DecodeFault.TheVariants.{Fault, Memory}
use Rattle.escpos_decode.specs.declared.decoder.Ahead.{Ahead}
use Rattle.escpos_decode.specs.declared.decoder.Ahead.TheVariants as ahead
use Rattle.escpos_command.specs.declared.bytes.TheConstants.{ESC}
use Rattle.escpos_command.specs.declared.command.Command.{Command}
use Rattle.escpos_command.specs.declared.command.Command.TheVariants as kind
use Rattle.escpos_command.specs.CommandTable.{Spells}
use Rattle.escpos_command.specs.Grammar.{Half, Reads, FaultAt}
use Rattle.escpos_command.specs.Places.{begins_barcode, begins_raster, begins_qr, begins_graphics, begins_long_graphics, reason_number}

-- What a decoder may hold: nothing, or a half command.
abbrev pub IsRest : List ℕ → Type 0
IsRest half = (half ≡ []) ⊎ Half half

-- The result for byte b after the half command, and the half command then.
abbrev pub PushIs : Result Step DecodeFault → List ℕ → ℕ → List ℕ → Type 0
PushIs (Ok (Done c)) half b after = Spells c (half ++ b ∷ []) × (after ≡ [])
PushIs (Ok More) half b after = Half (half ++ b ∷ []) × (after ≡ half ++ b ∷ [])
PushIs (Err (Fault at why)) half b after = FaultAt (half ++ b ∷ []) [] half at why × (at ≡ length half) × (after ≡ [])
PushIs (Err Memory) half b after = Half (half ++ b ∷ []) × (after ≡ half)

-- What byte b makes of a stream whose bytes a so far read as the commands cs and the half command: they are read on, or one
-- more command is; or the stream has a fault at this byte, whatever bytes follow it. If an allocation fails, nothing has
-- changed.
abbrev pub GoesOn : Result Step DecodeFault → List ℕ → ℕ → List ℕ → Type 0
GoesOn (Ok More) half b after = (a : List ℕ) (cs : List Command) → Reads a cs half → Reads (a ++ b ∷ []) cs after
GoesOn (Ok (Done c)) half b after = (a : List ℕ) (cs : List Command) → Reads a cs half → Reads (a ++ b ∷ []) (cs ++ c ∷ []) after
GoesOn (Err (Fault at why)) half b after =
    (a more : List ℕ) (cs : List Command) → Reads a cs half → FaultAt (a ++ b ∷ more) cs half (length a) why
GoesOn (Err Memory) half b after = after ≡ half

-- The numbers that programs print.
abbrev pub number_of_fault : DecodeFault → ℕ
number_of_fault (Fault at why) = reason_number why
number_of_fault Memory = 6

-- What a command ahead is: a status request, a mark, or any other.
abbrev pub ahead_of : Command → Ahead
ahead_of (kind.Status n) = ahead.Status
ahead_of (kind.Mark id) = ahead.Mark
ahead_of _ = ahead.Other

-- What a byte b after the half command would complete: no command, or one of this kind.
abbrev pub AheadIs : Ahead → List ℕ → ℕ → Type 0
AheadIs ahead.Nothing half b = (c : Command) → Spells c (half ++ b ∷ []) → ⊥
AheadIs ahead.Status half b = (c : Command) × Spells c (half ++ b ∷ []) × (ahead_of c ≡ ahead.Status)
AheadIs ahead.Mark half b = (c : Command) × Spells c (half ++ b ∷ []) × (ahead_of c ≡ ahead.Mark)
AheadIs ahead.Other half b = (c : Command) × Spells c (half ++ b ∷ []) × (ahead_of c ≡ ahead.Other)

-- GS ( k begins a function of QR codes.
abbrev pub begins_qr_code : ℕ → ℕ → List ℕ → Bool
begins_qr_code b letter [] = false
begins_qr_code b letter (third ∷ bs) = begins_qr b letter third

-- GS ( L or GS 8 L begins a function of graphics.
abbrev pub begins_either_graphics : ℕ → ℕ → List ℕ → Bool
begins_either_graphics b letter [] = false
begins_either_graphics b letter (third ∷ bs) = begins_graphics b letter third || begins_long_graphics b letter third

-- ESC D begins tab stops.
abbrev pub begins_tab_stops : ℕ → ℕ → Bool
begins_tab_stops b letter = b == ESC && letter == 0x44

-- The bytes begin as a barcode, a raster, tab stops or a function of QR codes or of graphics does: 1D 6B, 1D 76, 1B 44, 1D 28 6B,
-- 1D 28 4C or 1D 38 4C.
abbrev pub begins_content : List ℕ → Bool
begins_content [] = false
begins_content (b ∷ []) = false
begins_content (b ∷ letter ∷ bs) =
    begins_barcode b letter || begins_raster b letter || begins_tab_stops b letter || begins_qr_code b letter bs
    || begins_either_graphics b letter bs
