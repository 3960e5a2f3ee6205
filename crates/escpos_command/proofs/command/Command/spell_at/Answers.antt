use Rattle.std.proofs.Common.{◌≡◌, ◌-◌, ◌∙◌, ◌++◌, ℕ, [], length, length-append, ap, subst, arith}
use Rattle.escpos_command.specs.Copied.{Copied}
use Rattle.escpos_command.proofs.Copied.{nothing, same_parts}
use Rattle.escpos_command.proofs.command.Command.spell_at.Goals as goal

pub returns : goal.returns
returns c =
    let old = c.args.out.now in
    let from = c.args.from in
    let front = c.parts-parts.result.prefix.now in
    let parameters = c.as_slice.result.now in
    let content = c.parts-parts.result.content.now in
    let suffix = c.parts-parts.result.suffix.now in
    let start : from ≡ from - length {A = ℕ} [] = omega arith in
    let after_front : c.saturating_sub-skipped.result ≡ from - length front = c.saturating_sub-skipped.ensures in
    let after_parameters : c.saturating_sub-skipped-2.result ≡ from - length (front ++ parameters) =
    omega (arith, after_front, c.saturating_sub-skipped-2.ensures, c.len.ensures.value, ap length c.as_slice.ensures.value, length-append front parameters) in
    let after_content : c.saturating_sub-skipped-3.result ≡ from - length (front ++ parameters ++ content) =
    omega (arith, after_parameters, c.saturating_sub-skipped-3.ensures, length-append (front ++ parameters) content) in
    let first = c.copy_part-filled.ensures.joined old [] from (nothing old from) start in
    let second = c.copy_part-filled-2.ensures.joined old front from first after_front in
    let third = c.copy_part-filled-3.ensures.joined old (front ++ parameters) from second after_parameters in
    subst (λ v. Copied old c.copy_part.new.out v from c.copy_part.result)
    (same_parts front parameters content suffix _ _ _ _ c.parts-parts.ensures.prefix (c.as_slice.ensures.value ∙ c.parts-parts.ensures.parameters) c.parts-parts.ensures.content c.parts-parts.ensures.suffix)
    (c.copy_part.ensures.joined old (front ++ parameters ++ content) from third after_content)
