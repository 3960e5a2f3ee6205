-- The text is one character that may be printed in place of others, or there is none.
use Rattle.std.proofs.Common.{◌≡◌, ◌∙◌, ◌∷◌, [], None, Some, Ok, IfSome, IsTrue, refl, ap, sym, subst, codes}
use Rattle.clap.specs.Words.{found_of}
use Rattle.clap.proofs.WalkLemmas.{first_value-rows}
use Rattle.escpos_text.specs.Replacements.{is_replacement}
use Rattle.escpos_arguments.specs.Arguments.{IsReplacedBy}
use Rattle.escpos_arguments.proofs.options.replacement_given.Goals as goal

pub returns-in-Some-replacement_of-clause-read : goal.returns-in-Some-replacement_of-clause-read
returns-in-Some-replacement_of-clause-read c =
    let found = c.in-Some.ensures ∙ first_value-rows (found_of c.args.given.now) (codes "replace") in
    let read = c.in-Some-replacement_of.ensures.read c.in-Some-replacement_of.replacement refl in
    let is : c.in-Some.text.now ≡ c.in-Some-replacement_of.replacement ∷ [] = sym c.as_bytes.ensures.value ∙ read.0 in
    subst (λ o. IsReplacedBy o (Some c.in-Some-replacement_of.replacement)) found (c.in-Some-replacement_of.replacement, is, refl)

pub returns-in-Some-replacement_of-clause-taken : goal.returns-in-Some-replacement_of-clause-taken
returns-in-Some-replacement_of-clause-taken c = λ replacement h range.
    let found = c.in-Some.ensures ∙ first_value-rows (found_of c.args.given.now) (codes "replace") in
    let read = c.in-Some-replacement_of.ensures.read c.in-Some-replacement_of.replacement refl in
    let (k, is, same) = subst (λ o. IsReplacedBy o replacement) (sym found) h in
    let both : c.in-Some-replacement_of.replacement ∷ [] ≡ k ∷ [] = sym read.0 ∙ c.as_bytes.ensures.value ∙ is in
    let one : c.in-Some-replacement_of.replacement ≡ k = cc in
    ap Ok (ap Some one ∙ sym same)

pub returns-in-None-replacement_of-clause-taken : goal.returns-in-None-replacement_of-clause-taken
returns-in-None-replacement_of-clause-taken c = λ replacement h range.
    let found = c.in-Some.ensures ∙ first_value-rows (found_of c.args.given.now) (codes "replace") in
    let (k, is, same) = subst (λ o. IsReplacedBy o replacement) (sym found) h in
    let may = subst (λ o. IfSome o (λ n. IsTrue (is_replacement n))) same range in
    let bad : None ≡ Some k = c.in-None-replacement_of.ensures.taken k (c.as_bytes.ensures.value ∙ is) may in
    cc

pub returns-in-None-clause-read : goal.returns-in-None-clause-read
returns-in-None-clause-read c =
    subst (λ o. IsReplacedBy o None) (c.in-None.ensures ∙ first_value-rows (found_of c.args.given.now) (codes "replace")) refl

pub returns-in-None-clause-taken : goal.returns-in-None-clause-taken
returns-in-None-clause-taken c = λ replacement h range.
    let found = c.in-None.ensures ∙ first_value-rows (found_of c.args.given.now) (codes "replace") in
    let none : replacement ≡ None = subst (λ o. IsReplacedBy o replacement) (sym found) h in
    ap Ok (sym none)
