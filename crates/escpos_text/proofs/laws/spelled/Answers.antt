use Rattle.escpos_text.proofs.TextLaws.{written-of_text, in_range}
use Rattle.escpos_text.proofs.ReadCommands.{text_commands-spell}
use Rattle.escpos_text.proofs.laws.spelled.Goals as goal

pub returns-clause-of_text : goal.returns-clause-of_text
returns-clause-of_text c = written-of_text

pub returns-clause-in_range : goal.returns-clause-in_range
returns-clause-in_range c = in_range

pub returns-clause-read : goal.returns-clause-read
returns-clause-read c = text_commands-spell
