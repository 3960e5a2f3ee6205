-- The bytes that passed, and one more.
use Rattle.std.proofs.Common.{◌≡◌, ◌⊎◌, inl, inr, ℕ, List, [], ◌∷◌, ◌++◌, refl, sym, ◌∙◌, ap, subst, append-nil, append_assoc}
use Rattle.escpos_command.specs.declared.answer.Answer.{Answer}
use Rattle.escpos_command.specs.Answers.{AnswerSpells, HalfAnswer, Hears, answer_bytes, spell_answers}
use Rattle.escpos_receipt.proofs.Prefixes.{all_joined}
use Rattle.escpos_host.specs.declared.host.HostEvent.TheVariants as event
use Rattle.escpos_host.specs.Heard.{HearsByte, Ignores, Passed, with_half}
use Rattle.escpos_host.specs.Machine.{HostView}

-- Hearings join.
abbrev pub Joined : Type 0
Joined = (a b : List ℕ) (some others : List Answer) (r s : List ℕ) → Hears a some r → Hears (r ++ b) others s → Hears (a ++ b) (some ++ others) s

-- Nothing is heard yet.
pub none_passed : (h : HostView) → (h.half ≡ []) ⊎ HalfAnswer h.half → Passed h [] h.half
none_passed h sound = record { ignored = []; hears = record { in_range = tt; whole = append-nil h.half; rest_is = sound }; each = tt }

-- A byte continues a half answer.
half_heard : (bs : List ℕ) → HalfAnswer bs → Hears bs [] bs
half_heard bs half = record { in_range = tt; whole = refl; rest_is = inr half }

-- A byte makes an answer whole.
pub whole_heard : (bs : List ℕ) (a : Answer) → AnswerSpells a bs → Hears bs (a ∷ []) []
whole_heard bs a spelled = record {
  in_range = (spelled.in_range, tt);
  whole = spelled.in_table ∙ sym (append-nil (spell_answers (a ∷ [])) ∙ append-nil (answer_bytes a));
  rest_is = inl refl;
}

-- What passed, and what the host is then.
pub record PassedOn (h : HostView) (bytes : List ℕ) (after : HostView) : Type 0 where
  pub passed : Passed h bytes after.half
  pub same : after ≡ with_half h after.half

with_this : (h after : HostView) (bytes half : List ℕ) → Passed h bytes half → after ≡ with_half h half → PassedOn h bytes after
with_this h after bytes half passed same =
    let shown : after.half ≡ half = ap (λ (v : HostView). v.half) same in
    record { passed = subst (Passed h bytes) (sym shown) passed; same = same ∙ ap (with_half h) (sym shown) }

-- One more byte that brings no event.
pub one_more_passed : Joined → (h after : HostView) (bytes half : List ℕ) (byte at : ℕ) → Passed h bytes half → HearsByte (with_half h half) byte at event.None after
    → PassedOn h (bytes ++ byte ∷ []) after
one_more_passed joined h after bytes half byte at passed (inl grows) =
    with_this h after (bytes ++ byte ∷ []) (half ++ byte ∷ []) (record {
      ignored = passed.ignored;
      hears = subst (λ some. Hears (h.half ++ (bytes ++ byte ∷ [])) some (half ++ byte ∷ [])) (append-nil passed.ignored)
          (subst (λ bs. Hears bs (passed.ignored ++ []) (half ++ byte ∷ [])) (append_assoc h.half bytes (byte ∷ []))
          (joined (h.half ++ bytes) (byte ∷ []) passed.ignored [] half (half ++ byte ∷ []) passed.hears (half_heard (half ++ byte ∷ []) grows.1)));
      each = passed.each;
    }) grows.0
one_more_passed joined h after bytes half byte at passed (inr (inl misfit)) = absurd misfit
one_more_passed joined h after bytes half byte at passed (inr (inr (a, spelled, turns))) =
    with_this h after (bytes ++ byte ∷ []) [] (record {
      ignored = passed.ignored ++ a ∷ [];
      hears = subst (λ bs. Hears bs (passed.ignored ++ a ∷ []) []) (append_assoc h.half bytes (byte ∷ []))
          (joined (h.half ++ bytes) (byte ∷ []) passed.ignored (a ∷ []) half [] passed.hears (whole_heard (half ++ byte ∷ []) a spelled));
      each = all_joined (Ignores h.phase h.next) passed.ignored (a ∷ []) passed.each (turns.0, tt);
    }) turns.1
