-- Bytes of other libraries as receipts: which commands of a stream are a receipt's, and why a stream is none.
use Rattle.std.specs.Prelude.{ℕ, ◌≡◌, ◌≢◌, ◌+◌, ◌&&◌, ◌==◌, Bool, true, false, not, IsTrue, List, [], ◌∷◌, ◌++◌, filter, length, map, slice_index}
use Rattle.std.specs.List.{AllByRecursion}
use Rattle.escpos_command.specs.declared.bytes.TheConstants.{ESC}
use Rattle.escpos_command.specs.declared.command.Command.{Command}
use Rattle.escpos_command.specs.declared.command.Command.TheVariants as kind
use Rattle.escpos_command.specs.CommandTable.{row, spell}
use Rattle.escpos_command.specs.Grammar.{FaultAt, Reads}
use Rattle.escpos_command.specs.Settings.{is_init}
use Rattle.escpos_receipt.specs.declared.receipt.ReceiptFault.{ReceiptFault}
use Rattle.escpos_receipt.specs.declared.receipt.ReceiptFault.TheVariants as reason
use Rattle.escpos_receipt.specs.Printable.{IsFirstLeftOut}
use Rattle.escpos_receipt.specs.Whole.{IsReceiptFault, Whole}
use Rattle.escpos_stream.specs.declared.fault.StreamFault.{StreamFault}
use Rattle.escpos_stream.specs.declared.fault.StreamFault.TheVariants as fault

-- ## What is a receipt's

-- The command asks the printer for answers, which a host asks for itself: GS a and DLE EOT. It prints nothing.
abbrev pub is_question : Command → Bool
is_question (kind.AutomaticStatus n) = true
is_question (kind.Status n) = true
is_question c = false

-- A command of a stream, and the place of its first byte.
pub record Placed : Type 0 where
  pub place : ℕ
  pub command : Command

-- The commands, one after another from this place on.
abbrev pub placed_from : ℕ → List Command → List Placed
placed_from place [] = []
placed_from place (c ∷ cs) = record { place = place; command = c } ∷ placed_from (place + length (row c)) cs

-- The commands of a stream that ask for no answers.
abbrev pub without_questions : List Command → List Placed
without_questions cs = filter (λ p. not (is_question p.command)) (placed_from 0 cs)

-- Each of them is ESC @.
abbrev pub AreInits : List Placed → Type 0
AreInits = AllByRecursion (λ p. IsTrue (is_init p.command))

-- Of the commands of a stream these are kept: all that ask for no answers, without each ESC @ at the beginning and at the end.
pub record Keeps (cs : List Command) (kept : List Placed) : Type 0 where
  pub opening : List Placed
  pub closing : List Placed
  pub split : without_questions cs ≡ opening ++ kept ++ closing
  pub opens : AreInits opening
  pub closes : AreInits closing
  pub first : (p : Placed) (more : List Placed) → kept ≡ p ∷ more → is_init p.command ≡ false
  pub last : (before : List Placed) (p : Placed) → kept ≡ before ++ p ∷ [] → is_init p.command ≡ false

abbrev pub commands_of : List Placed → List Command
commands_of = map (λ p. p.command)

abbrev pub places_of : List Placed → List ℕ
places_of = map (λ p. p.place)

-- The bytes are commands to the end, of which these are kept.
abbrev pub StreamKeeps : List ℕ → List Placed → Type 0
StreamKeeps bytes kept = (cs : List Command) × Reads bytes cs [] × Keeps cs kept

-- The stream gives these commands.
abbrev pub StreamGives : List ℕ → List Command → Type 0
StreamGives bytes commands = (kept : List Placed) × StreamKeeps bytes kept × (commands ≡ commands_of kept)

-- ## Why a stream is no receipt

-- Why commands with these places are no receipt, told by the place of a byte and not by that of a command.
abbrev pub moved : List ℕ → ReceiptFault → ReceiptFault
moved places reason.Empty = reason.Empty
moved places (reason.Forbidden at) = reason.Forbidden (slice_index places at)
moved places reason.TextLeft = reason.TextLeft
moved places (reason.MidLine at) = reason.MidLine (slice_index places at)
moved places (reason.RealTime at) = reason.RealTime (slice_index places at)

-- The first reason for which the bytes are no receipt on lines of so many dots: a byte is refused; the last command isn't whole; the
-- commands that are kept are no receipt; a printer leaves out one of their codes.
abbrev pub IsStreamFault : ℕ → StreamFault → List ℕ → Type 0
IsStreamFault width (fault.Refused at why) bytes = (cs : List Command) × (rest : List ℕ) × FaultAt bytes cs rest at why
IsStreamFault width (fault.CutShort at) bytes = (cs : List Command) × (rest : List ℕ) × Reads bytes cs rest × (rest ≢ []) × (at ≡ length (spell cs))
IsStreamFault width (fault.NotWhole why) bytes =
    (kept : List Placed) × StreamKeeps bytes kept × (because : ReceiptFault) × IsReceiptFault because (commands_of kept) × (why ≡ moved (places_of kept) because)
IsStreamFault width (fault.NotPrintable at) bytes =
    (kept : List Placed) × StreamKeeps bytes kept × Whole (commands_of kept) × (k : ℕ) × IsFirstLeftOut width (commands_of kept) k × (at ≡ slice_index (places_of kept) k)

-- ## How a till keeps it

-- The bytes begin with ESC @. No text in JSON does.
abbrev pub begins_with_init : List ℕ → Bool
begins_with_init (first ∷ second ∷ bytes) = first == ESC && second == 0x40
begins_with_init bytes = false

-- The bytes, with ESC @ before them if they don't begin with it.
abbrev pub with_init : Bool → List ℕ → List ℕ
with_init true bytes = bytes
with_init false bytes = ESC ∷ 0x40 ∷ bytes
