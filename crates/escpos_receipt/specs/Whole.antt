-- What a receipt is: commands that print the same wherever they stand, and leave nothing in the line. (Profile.)
use Rattle.std.specs.Prelude.{ℕ, ◌≡◌, ◌≢◌, Bool, true, false, IsTrue, List, [], ◌∷◌, ◌++◌, length}
use Rattle.escpos_command.specs.declared.command.Command.{Command}
use Rattle.escpos_command.specs.declared.command.Command.TheVariants as kind
use Rattle.escpos_command.specs.CommandTable.{row, spell}
use Rattle.escpos_command.specs.Text.{text}
use Rattle.escpos_real_time.specs.RealTime.{HoldsRealTime}
use Rattle.escpos_receipt.specs.declared.receipt.ReceiptFault.{ReceiptFault}
use Rattle.escpos_receipt.specs.declared.receipt.ReceiptFault.TheVariants as fault

-- A receipt may not have this command: the host itself puts Init before a receipt, and the answers to status requests and
-- marks show the host how far the printer is.
abbrev pub is_forbidden : Command → Bool
is_forbidden kind.Init = true
is_forbidden (kind.AutomaticStatus n) = true
is_forbidden (kind.Status n) = true
is_forbidden (kind.Mark id) = true
is_forbidden _ = false

-- A barcode, a raster, graphics, a QR code or a cut would first print the text that is in the line.
abbrev pub needs_empty_line : Command → Bool
needs_empty_line (kind.Bars bars) = true
needs_empty_line (kind.Raster raster) = true
needs_empty_line (kind.GraphicsPrint fn) = true
needs_empty_line kind.QrPrint = true
needs_empty_line (kind.Cut cut) = true
needs_empty_line (kind.OldCut b) = true
needs_empty_line _ = false

abbrev pub is_nonempty : {X : Type 0} → List X → Bool
is_nonempty [] = false
is_nonempty (x ∷ xs) = true

-- After these commands there is text in the line.
abbrev pub has_text : List Command → Bool
has_text cs = is_nonempty (text cs)

-- In a receipt the command may come after these.
pub record MayFollow (before : List Command) (c : Command) : Type 0 where
  pub allowed : is_forbidden c ≡ false
  pub at_line_start : IsTrue (needs_empty_line c) → has_text before ≡ false

-- Each of the commands may come after those before it.
abbrev pub EachMayFollow : List Command → Type 0
EachMayFollow cs = (before : List Command) (c : Command) (following : List Command) → cs ≡ before ++ c ∷ following → MayFollow before c

-- No real-time command stands in the bytes of these commands: a printer would carry it out, although it is data of a command.
unfoldable pub HoldNoRealTime : List Command → Type 0
HoldNoRealTime cs = HoldsRealTime (spell cs) → ⊥

-- The commands are a receipt.
pub record Whole (cs : List Command) : Type 0 where
  pub nonempty : cs ≢ []
  pub in_place : EachMayFollow cs
  pub no_real_time : HoldNoRealTime cs
  pub no_text_left : has_text cs ≡ false

-- The command at this place, counted from 0, is this one, and those before it may each stand where they do and hold no real-time
-- command.
pub record StandsFirst (cs : List Command) (at : ℕ) (before : List Command) (c : Command) : Type 0 where
  pub following : List Command
  pub split : cs ≡ before ++ c ∷ following
  pub place : length before ≡ at
  pub in_place : EachMayFollow before
  pub no_real_time : HoldNoRealTime before

-- The first reason for which the commands aren't a receipt.
abbrev pub IsReceiptFault : ReceiptFault → List Command → Type 0
IsReceiptFault fault.Empty cs = cs ≡ []
IsReceiptFault (fault.Forbidden at) cs = (before : List Command) × (c : Command) × StandsFirst cs at before c × IsTrue (is_forbidden c)
IsReceiptFault (fault.MidLine at) cs =
    (before : List Command) × (c : Command) × StandsFirst cs at before c × IsTrue (needs_empty_line c) × IsTrue (has_text before)
IsReceiptFault (fault.RealTime at) cs =
    (before : List Command) × (c : Command) × StandsFirst cs at before c × MayFollow before c × HoldsRealTime (row c)
IsReceiptFault fault.TextLeft cs = (cs ≢ []) × EachMayFollow cs × HoldNoRealTime cs × IsTrue (has_text cs)
