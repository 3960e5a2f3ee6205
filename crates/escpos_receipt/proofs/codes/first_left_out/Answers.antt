use Rattle.std.proofs.Common.{take, sym, ◌∙◌, ap, subst}
use Rattle.escpos_receipt.specs.CodeSteps.{code_settings_after}
use Rattle.escpos_receipt.specs.Printable.{IsPrintable, code_settings, is_left_out}
use Rattle.escpos_receipt.proofs.Prefixes.{one_longer}
use Rattle.escpos_receipt.proofs.Printables.{code_settings-snoc, left_out_at, none_printable, one_more_printable}
use Rattle.escpos_receipt.proofs.codes.first_left_out.Goals as goal

pub loop-at-init : goal.loop-at-init
loop-at-init c = record { each = none_printable c.args.width; settings = c.power_on-codes.ensures }

pub returns-then-leaves_out : goal.returns-then-leaves_out
returns-then-leaves_out c =
    left_out_at c.args.width c.args.commands.now c.loop-at.at c.index-commands-at.result c.loop-at-test.true c.index-commands-at.is c.loop-at.invariant.each
    (ap (λ s. is_left_out c.args.width s c.index-commands-at.result) (sym c.loop-at.invariant.settings) ∙ sym c.leaves_out.ensures ∙ c.if-leaves_out.true)

pub loop-at-preserved : goal.loop-at-preserved
loop-at-preserved c =
    let cs = c.args.commands.now in
    let i = c.loop-at.at in
    let x = c.index-commands-at.result in
    let longer = one_longer cs i x c.loop-at-test.true c.index-commands-at.is in
    record {
      each = subst (IsPrintable c.args.width) (sym longer)
          (one_more_printable c.args.width (take i cs) x c.loop-at.invariant.each
          (ap (λ s. is_left_out c.args.width s x) (sym c.loop-at.invariant.settings) ∙ sym c.leaves_out.ensures ∙ c.if-leaves_out.false));
      settings = c.follow.ensures ∙ ap (λ s. code_settings_after s x) c.loop-at.invariant.settings ∙ sym (code_settings-snoc (take i cs) x)
          ∙ ap code_settings (sym longer);
    }
