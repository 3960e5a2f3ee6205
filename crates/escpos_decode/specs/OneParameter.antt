-- The letters after ESC, GS and DLE, and the functions of GS ( k, whose commands have one parameter byte and do more than set
-- something: which bytes lead to the parameter, which bytes it may be, and the command with it.
use Rattle.std.specs.Prelude.{ℕ, Bool, List, [], ◌∷◌}
use Rattle.escpos_command.specs.declared.bytes.TheConstants.{DLE, EOT, ESC, GS}
use Rattle.escpos_command.specs.declared.command.Command.{Command}
use Rattle.escpos_command.specs.declared.command.Command.TheVariants as kind
use Rattle.escpos_command.specs.Parameters.{is_byte, is_status_kind, is_qr_size, is_qr_level}
use Rattle.escpos_decode.specs.declared.one_parameter.OneParameter.{OneParameter}
use Rattle.escpos_decode.specs.declared.one_parameter.OneParameter.TheVariants as letter

-- The bytes before the parameter.
abbrev pub parameter_prefix : OneParameter → List ℕ
parameter_prefix letter.FeedUnits = ESC ∷ 0x4A ∷ []
parameter_prefix letter.FeedLines = ESC ∷ 0x64 ∷ []
parameter_prefix letter.AutomaticStatus = GS ∷ 0x61 ∷ []
parameter_prefix letter.Status = DLE ∷ EOT ∷ []
parameter_prefix letter.QrSize = GS ∷ 0x28 ∷ 0x6B ∷ 0x03 ∷ 0x00 ∷ 0x31 ∷ 0x43 ∷ []
parameter_prefix letter.QrLevel = GS ∷ 0x28 ∷ 0x6B ∷ 0x03 ∷ 0x00 ∷ 0x31 ∷ 0x45 ∷ []

-- The bytes that the parameter may be.
abbrev pub parameter_allows : OneParameter → ℕ → Bool
parameter_allows letter.FeedUnits = is_byte
parameter_allows letter.FeedLines = is_byte
parameter_allows letter.AutomaticStatus = is_byte
parameter_allows letter.Status = is_status_kind
parameter_allows letter.QrSize = is_qr_size
parameter_allows letter.QrLevel = is_qr_level

-- The command with a parameter.
abbrev pub parameter_command : OneParameter → ℕ → Command
parameter_command letter.FeedUnits = kind.FeedUnits
parameter_command letter.FeedLines = kind.FeedLines
parameter_command letter.AutomaticStatus = kind.AutomaticStatus
parameter_command letter.Status = kind.Status
parameter_command letter.QrSize = kind.QrSize
parameter_command letter.QrLevel = kind.QrLevel
