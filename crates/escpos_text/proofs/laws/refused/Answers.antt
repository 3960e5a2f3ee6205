use Rattle.escpos_text.proofs.TextLaws.{refused_character, refused_control}
use Rattle.escpos_text.proofs.laws.refused.Goals as goal

pub returns-clause-character : goal.returns-clause-character
returns-clause-character c = refused_character

pub returns-clause-control : goal.returns-clause-control
returns-clause-control c = refused_control
