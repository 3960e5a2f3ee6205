-- The settings of codes as the code keeps them, and after one more command. Only private clauses and proofs use these definitions.
use Rattle.std.specs.Prelude.{None, option_map}
use Rattle.escpos_command.specs.declared.command.Command.{Command}
use Rattle.escpos_command.specs.Settings.{sets_stored}
use Rattle.escpos_paper.specs.Styles.{power_on_settings, set_after, sets_correction, sets_module_width, sets_qr_size}
use Rattle.escpos_receipt.specs.Printable.{CodeSettings}
use Rattle.escpos_receipt.specs.declared.codes.Codes.{Codes}

-- The settings that are kept.
abbrev pub kept : Codes → CodeSettings
kept codes = record {
  module_width = codes.module_width;
  size = codes.size;
  correction = codes.correction;
  stored = option_map (λ content. content.now) codes.stored;
}

abbrev pub code_settings_after : CodeSettings → Command → CodeSettings
code_settings_after s c = record {
  module_width = set_after sets_module_width power_on_settings.bars.module_width s.module_width c;
  size = set_after sets_qr_size power_on_settings.codes.size s.size c;
  correction = set_after sets_correction power_on_settings.codes.correction s.correction c;
  stored = set_after sets_stored None s.stored c;
}
