-- The round trip, from the law of one reading.
use Rattle.std.proofs.Common.{◌≡◌, ℕ, inl, List, [], ◌++◌, length, refl, sym, ◌∙◌, ap, subst, append-nil}
use Rattle.std.specs.List.{AllByRecursion}
use Rattle.std.proofs.lemmas.List.{nil_from_length}
use Rattle.escpos_command.specs.declared.command.Command.{Command}
use Rattle.escpos_command.specs.CommandTable.{IsCommand, spell}
use Rattle.escpos_command.specs.Laws.{IsRead, IsRefused}
use Rattle.escpos_command.specs.Grammar.{Reads}
use Rattle.escpos_decode.specs.declared.stream.End.{End}
use Rattle.escpos_decode.specs.declared.stream.End.TheVariants.{Read, Fault}
use Rattle.escpos_decode.specs.Stream.{EndsIn, LeavesNothing}

reads_spelled : (cs : List Command) → AllByRecursion IsCommand cs → Reads (spell cs) cs []
reads_spelled cs h = record { commands = h; whole = sym (append-nil (spell cs)); rest_is = inl refl }

pub again : ((bs : List ℕ) (cs ds : List Command) (x y : List ℕ) → Reads bs cs x → Reads bs ds y → (cs ≡ ds) × (x ≡ y))
    → ((bs : List ℕ) → IsRead bs → IsRefused bs → ⊥)
    → (bs : List ℕ) (end : End) (ds : List Command) → EndsIn end bs ds → (cs : List Command) → AllByRecursion IsCommand cs → bs ≡ spell cs → (ds ≡ cs) × LeavesNothing end
again one not_both bs (Read n) ds (rest, long, r) cs h e =
    let same = one bs ds cs rest [] r (subst (λ xs. Reads xs cs []) (sym e) (reads_spelled cs h)) in
    (same.0, ap Read (sym long ∙ ap length same.1))
again one not_both bs (Fault at why) ds (rest, f) cs h e =
    absurd (not_both bs (cs, [], subst (λ xs. Reads xs cs []) (sym e) (reads_spelled cs h)) (ds, rest, at, why, f))

half_count : (n : ℕ) → ◌≡◌ {A = End} (Read n) (Read 0) → n ≡ 0
half_count n e = cc

pub spelled_again : (bs : List ℕ) (end : End) (ds : List Command) → EndsIn end bs ds → LeavesNothing end → spell ds ≡ bs
spelled_again bs (Read n) ds (rest, long, r) e =
    let none : n ≡ 0 = half_count n e in
    let empty : rest ≡ [] = nil_from_length rest (long ∙ none) in
    sym (r.whole ∙ ap (λ v. spell ds ++ v) empty ∙ append-nil (spell ds))
spelled_again bs (Fault at why) ds (rest, f) e = absurd cc
