use Rattle.escpos_command.specs.SettingTable.{table}
use Rattle.escpos_help.proofs.settings.put_settings.Goals as goal

pub returns-clause-all : goal.returns-clause-all
unfolding table
returns-clause-all g c = c.put_rows.ensures.all
