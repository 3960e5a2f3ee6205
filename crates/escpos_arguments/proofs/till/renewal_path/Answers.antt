use Rattle.std.proofs.Common.{◌∙◌, Some, ap, sym, codes}
use Rattle.clap.specs.Words.{found_of}
use Rattle.clap.proofs.WalkLemmas.{first_value-rows}
use Rattle.escpos_arguments.proofs.till.renewal_path.Goals as goal

pub returns-in-Some : goal.returns-in-Some
returns-in-Some c = sym (c.in-Some.ensures ∙ first_value-rows (found_of c.args.given.now) (codes "renew")) ∙ ap Some (sym c.new.ensures)

pub returns-in-None : goal.returns-in-None
returns-in-None c = sym (c.in-None.ensures ∙ first_value-rows (found_of c.args.given.now) (codes "renew"))
