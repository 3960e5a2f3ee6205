use Rattle.std.proofs.Common.{length, subst}
use Rattle.escpos_command.specs.Barcodes.{has_form, has_length, is_content, all_from, allows, IsLeast}
use Rattle.escpos_command.proofs.Bytewise.{no_first}
use Rattle.escpos_command.proofs.Combinators.{and_right}
use Rattle.escpos_command.proofs.bars.Bars.new.Goals as goal

pub returns-in-Some-clause-exact : goal.returns-in-Some-clause-exact
returns-in-Some-clause-exact c = λ h.
    let s = c.args.symbology in
    let content = c.args.content.items in
    let all = and_right (has_length s (length content)) (all_from 0 (allows s (length content)) content) (and_right (has_form c.args.form s) (is_content s content) h) in
    let f = subst (λ v. IsLeast c.in-Some.at (allows s (length v)) v) c.deref.ensures.value c.in-Some.ensures in
    absurd (no_first (allows s (length content)) content c.in-Some.at all f.inside f.refused)
