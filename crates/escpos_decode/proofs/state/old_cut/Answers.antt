-- Each of the two letters ends its command.
use Rattle.std.proofs.Common.{◌≡◌, ◌∷◌, [], ℕ, List, Bool, true, false, refl, sym, subst}
use Rattle.std.specs.Prelude.{◌==◌, ◌||◌}
use Rattle.escpos_command.specs.declared.command.Command.TheVariants as kind
use Rattle.escpos_decode.specs.declared.state.State.TheVariants as state
use Rattle.escpos_decode.specs.declared.state.Next.TheVariants as next
use Rattle.escpos_command.proofs.Combinators.{same_number}
use Rattle.escpos_command.proofs.TableTree.{at_form}
use Rattle.escpos_decode.specs.State.{NextIs}
use Rattle.escpos_decode.proofs.Letters.{ends}
use Rattle.escpos_decode.proofs.state.old_cut.Goals as goal

by_letter : (b : ℕ) (s t : Bool) → (b == 0x69) ≡ s → (b == 0x6D) ≡ t → (s || t) ≡ true → (read : List ℕ) → NextIs (next.Done (kind.OldCut b)) state.Esc read b
by_letter b true t e f o read =
    subst (λ x. NextIs (next.Done (kind.OldCut x)) state.Esc read x) (sym (same_number b 0x69 e)) (ends state.Esc read 105 105 (kind.OldCut 105) refl refl (at_form (27 ∷ 105 ∷ []) refl), refl)
by_letter b false true e f o read =
    subst (λ x. NextIs (next.Done (kind.OldCut x)) state.Esc read x) (sym (same_number b 0x6D f)) (ends state.Esc read 109 109 (kind.OldCut 109) refl refl (at_form (27 ∷ 109 ∷ []) refl), refl)
by_letter b false false e f o read = absurd cc

pub returns : goal.returns
returns c = λ read. subst (λ x. NextIs (next.Done (kind.OldCut x)) state.Esc read c.args.letter) (sym c.in-Some.ensures.1) (by_letter c.args.letter (c.args.letter == 0x69) (c.args.letter == 0x6D) refl refl c.requires read)
