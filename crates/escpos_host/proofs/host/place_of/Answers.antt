-- One more number hasn't the id.
use Rattle.std.proofs.Common.{◌≡◌, ◌⊎◌, ◌≤◌, inl, inr, ℕ, List, [], ◌∷◌, ◌++◌, get_or, take, arith, sym, ◌∙◌, subst}
use Rattle.std.proofs.lemmas.List.{take_more}
use Rattle.escpos_host.specs.Counted.{id_of}
use Rattle.escpos_host.specs.Kept.{HasIdAmong}
use Rattle.escpos_host.proofs.host.place_of.Goals as goal
use Rattle.escpos_host.proofs.host.place_of.Goals.{else-least-number-via-then-least-number+else-is_id_of, else-least-number-via-else-least-number}

last_or_before : (least : ℕ) (ns : List ℕ) (n : ℕ) (id : List ℕ) → HasIdAmong least (ns ++ n ∷ []) id → HasIdAmong least ns id ⊎ ((least ≤ n) × (id_of n ≡ id))
last_or_before least [] n id (inl is) = inr is
last_or_before least [] n id (inr none) = absurd none
last_or_before least (m ∷ ns) n id (inl is) = inl (inl is)
last_or_before least (m ∷ ns) n id (inr later) = elim (last_or_before least ns n id later) [
  | inl before ↦ inl (inr before)
  | inr last ↦ inr last
]

pub loop-place-preserved : goal.loop-place-preserved
loop-place-preserved c =
    let numbers = c.args.numbers.now in
    record {
      none = λ among. elim (last_or_before c.args.least (take c.loop-place.place numbers) (get_or numbers c.loop-place.place 0) c.args.id
          (subst (λ ns. HasIdAmong c.args.least ns c.args.id) (take_more numbers c.loop-place.place 0 c.loop-place-test.true) among)) [
            | inl before ↦ c.loop-place.invariant.none before
            | inr last ↦ elim c.else-least-number.branch [
              | else-least-number-via-then-least-number+else-is_id_of w ↦ absurd (let bad = sym w.if-is_id_of.false ∙ w.is_id_of.ensures.1 last.1 in cc)
              | else-least-number-via-else-least-number w ↦ absurd (let more = w.if-least-number.false in omega (arith, more, last.0))
            ]
          ];
    }
