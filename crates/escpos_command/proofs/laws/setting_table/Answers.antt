use Rattle.escpos_command.proofs.SettingFacts.{own_letters, own_parameters}
use Rattle.escpos_command.proofs.laws.setting_table.Goals as goal

pub returns-clause-letters : goal.returns-clause-letters
returns-clause-letters c = own_letters

pub returns-clause-parameters : goal.returns-clause-parameters
returns-clause-parameters c = own_parameters
