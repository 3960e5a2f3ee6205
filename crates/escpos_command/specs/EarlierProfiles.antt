-- The earlier profiles of this project, by their numbers from 1 on: the command table without what came later.
use Rattle.std.specs.Prelude.{ℕ, ◌≡◌, ◌≤◌, ◌+◌, ◌*◌, nat_le, nat_lt, Bool, IsTrue, List, [], ◌∷◌, ◌++◌, if◌then◌else◌}
use Rattle.escpos_command.specs.declared.bytes.TheConstants.{HT, LF, CR, DLE, ESC, GS, EOT}
use Rattle.escpos_command.specs.declared.bars.Symbology.{Symbology}
use Rattle.escpos_command.specs.declared.bars.Symbology.TheVariants.{UpcE, Code93, Gs1Code128}
use Rattle.escpos_command.specs.declared.command.Command.{Command}
use Rattle.escpos_command.specs.declared.command.Command.TheVariants as kind
use Rattle.escpos_command.specs.Barcodes.{barcode_mode}
use Rattle.escpos_command.specs.CommandTable.{IsCommand}
use Rattle.escpos_command.specs.Graphics.{graphics_letters}
use Rattle.escpos_command.specs.Parameters.{is_byte, is_one_of_four}
use Rattle.escpos_command.specs.Positions.{position_prefix}
use Rattle.escpos_command.specs.Rasters.{is_width}
use Rattle.escpos_command.specs.SettingTable.{table, row_for, row_prefix}

-- The bytes that a command begins with, whatever its parameters are; for a cut and a barcode with its mode.
abbrev pub prefix_of : Command → List ℕ
prefix_of (kind.Char b) = b ∷ []
prefix_of kind.Tab = HT ∷ []
prefix_of kind.LineFeed = LF ∷ []
prefix_of kind.Return = CR ∷ []
prefix_of kind.Init = ESC ∷ 0x40 ∷ []
prefix_of (kind.Set s) = row_prefix (row_for table s.0)
prefix_of (kind.FeedLines n) = ESC ∷ 0x64 ∷ []
prefix_of (kind.FeedUnits n) = ESC ∷ 0x4A ∷ []
prefix_of (kind.Position p) = position_prefix p.0
prefix_of (kind.TabStops columns) = ESC ∷ 0x44 ∷ []
prefix_of (kind.Pulse pulse) = ESC ∷ 0x70 ∷ []
prefix_of (kind.Bars bars) = GS ∷ 0x6B ∷ barcode_mode bars.form bars.symbology ∷ []
prefix_of (kind.Raster raster) = GS ∷ 0x76 ∷ []
prefix_of (kind.GraphicsStore graphics) = graphics_letters graphics.head.form
prefix_of (kind.GraphicsPrint fn) = GS ∷ 0x28 ∷ 0x4C ∷ []
prefix_of (kind.QrModel n) = GS ∷ 0x28 ∷ 0x6B ∷ []
prefix_of (kind.QrSize n) = GS ∷ 0x28 ∷ 0x6B ∷ []
prefix_of (kind.QrLevel n) = GS ∷ 0x28 ∷ 0x6B ∷ []
prefix_of (kind.QrStore stored) = GS ∷ 0x28 ∷ 0x6B ∷ []
prefix_of kind.QrPrint = GS ∷ 0x28 ∷ 0x6B ∷ []
prefix_of (kind.Cut cut) = GS ∷ 0x56 ∷ cut.0 ∷ []
prefix_of (kind.OldCut b) = ESC ∷ b ∷ []
prefix_of (kind.AutomaticStatus n) = GS ∷ 0x61 ∷ []
prefix_of (kind.Status n) = DLE ∷ EOT ∷ []
prefix_of (kind.Mark id) = GS ∷ 0x28 ∷ 0x48 ∷ []

-- The profile that first had cuts of this mode.
abbrev pub cut_since : ℕ → ℕ
cut_since m = if nat_le 97 m then 4 else 1

-- The profile that first had barcodes of this symbology.
abbrev pub symbology_since : Symbology → ℕ
symbology_since UpcE = 4
symbology_since Code93 = 4
symbology_since Gs1Code128 = 4
symbology_since symbology = 1

-- The profile that first had commands of this prefix.
abbrev pub prefix_since : Command → ℕ
prefix_since (kind.Set s) = (row_for table s.0).since
prefix_since (kind.FeedUnits n) = 2
prefix_since (kind.Pulse pulse) = 2
prefix_since (kind.QrModel n) = 3
prefix_since (kind.QrSize n) = 3
prefix_since (kind.QrLevel n) = 3
prefix_since (kind.QrStore stored) = 3
prefix_since kind.QrPrint = 3
prefix_since (kind.AutomaticStatus n) = 4
prefix_since (kind.OldCut b) = 4
prefix_since (kind.GraphicsStore graphics) = 4
prefix_since (kind.GraphicsPrint fn) = 4
prefix_since kind.Tab = 4
prefix_since (kind.Position p) = 4
prefix_since (kind.TabStops columns) = 4
prefix_since (kind.Cut cut) = cut_since cut.0
prefix_since (kind.Bars bars) = symbology_since bars.symbology
prefix_since _ = 1

-- The profile that first had the command. A raster of more than 2,047 rows came later than others.
abbrev pub since : Command → ℕ
since (kind.Raster raster) = if nat_le raster.height 2047 then 1 else 2
since c = prefix_since c

-- The commands of a profile.
abbrev pub in_profile : ℕ → Command → Bool
in_profile n c = nat_le (since c) n

-- The byte b, which the profile refuses after a half command, is new: it goes on to a prefix that came later, and to none that
-- the profile had; or it is the high byte of a height of 2,048 to 4,095 rows, which the first profile refused.
pub data IsNew (n : ℕ) (rest : List ℕ) (b : ℕ) : Type 0 where
  prefix : (c : Command) → IsCommand c → IsTrue (nat_lt n (prefix_since c)) → (more : List ℕ) → prefix_of c ≡ rest ++ b ∷ more
      → ((d : Command) → IsCommand d → IsTrue (in_profile n d) → (others : List ℕ) → prefix_of d ≡ rest ++ b ∷ others → ⊥) → IsNew n rest b
  rows : n ≡ 1 → (scale width low : ℕ) → IsTrue (is_one_of_four scale) → IsTrue (is_width width) → IsTrue (is_byte low) → rest ≡ GS ∷ 0x76 ∷ 0x30 ∷ scale ∷ width ∷ 0x00 ∷ low ∷ []
      → 2048 ≤ low + 256 * b → low + 256 * b ≤ 4095 → IsNew n rest b
