-- What an answer that records receipts leaves as it was; and which receipts it records where there are few.
use Rattle.std.proofs.Common.{◌≡◌, ◌≢◌, ◌≤◌, inl, inr, ℕ, List, [], ◌∷◌, ◌++◌, refl, sym, ◌∙◌, ap, subst}
use Rattle.escpos_host.specs.Heard.{IsClosing, IsFirstWith, IsToldLate, RecordsUpTo}
use Rattle.escpos_host.specs.Machine.{HostView, InFlight, Phase, Down, Opening, Open}

-- The host has its link still, and has as much to say and has heard as much of an answer as before.
pub record Keeps (h after : HostView) : Type 0 where
  pub up : after.phase ≢ Down
  pub out : after.out ≡ h.out
  pub half : after.half ≡ h.half
  pub next : after.next ≡ h.next

still_up : (p phase after : Phase) → phase ≡ p → p ≢ Down → after ≡ phase → after ≢ Down
still_up p phase after is up same down = up (sym is ∙ sym same ∙ down)

pub keeps : (h after : HostView) (id : List ℕ) (number : ℕ) → RecordsUpTo h id number after → Keeps h after
keeps h after id number r = elim r.way [
  | inl (flight, is, f, same) ↦ record {
    up = still_up (Open r.others) (Open r.others) after.phase refl (λ e. cc e) (ap (λ (v : HostView). v.phase) same);
    out = ap (λ (v : HostView). v.out) same;
    half = ap (λ (v : HostView). v.half) same;
    next = ap (λ (v : HostView). v.next) same;
  }
  | inr (first, is, other, f, same) ↦ record {
    up = still_up (Opening first) h.phase after.phase is (λ e. cc e) (ap (λ (v : HostView). v.phase) same);
    out = ap (λ (v : HostView). v.out) same;
    half = ap (λ (v : HostView). v.half) same;
    next = ap (λ (v : HostView). v.next) same;
  }
]

-- The same of an answer to a mark of an older link that is told; and what is recorded and left is as it was.
pub record Told (h after : HostView) : Type 0 where
  pub keeps : Keeps h after
  pub phase : after.phase ≡ h.phase
  pub records : after.records ≡ h.records
  pub left : after.left ≡ h.left

pub told : (h after : HostView) (first : ℕ) (id : List ℕ) → h.phase ≡ Opening first → IsToldLate h first id after → Told h after
told h after first id is (inl (n, number, same)) = record {
  keeps = record {
    up = still_up (Opening first) h.phase after.phase is (λ e. cc e) (ap (λ (v : HostView). v.phase) same);
    out = ap (λ (v : HostView). v.out) same;
    half = ap (λ (v : HostView). v.half) same;
    next = ap (λ (v : HostView). v.next) same;
  };
  phase = ap (λ (v : HostView). v.phase) same;
  records = ap (λ (v : HostView). v.records) same;
  left = ap (λ (v : HostView). v.left) same;
}
told h after first id is (inr (none, same)) = record {
  keeps = record {
    up = still_up (Opening first) h.phase after.phase is (λ e. cc e) (ap (λ (v : HostView). v.phase) same);
    out = ap (λ (v : HostView). v.out) same;
    half = ap (λ (v : HostView). v.half) same;
    next = ap (λ (v : HostView). v.next) same;
  };
  phase = ap (λ (v : HostView). v.phase) same;
  records = ap (λ (v : HostView). v.records) same;
  left = ap (λ (v : HostView). v.left) same;
}

pub none_has : {X : Type 0} (before others : List X) (p : X) → [] ≡ before ++ p ∷ others → ⊥
none_has [] others p e = cc e
none_has (q ∷ before) others p e = cc e

head_is : {X : Type 0} (x y : X) (xs ys : List X) → x ∷ xs ≡ y ∷ ys → x ≡ y
head_is x y xs ys e = cc e

tail_is : {X : Type 0} (x y : X) (xs ys : List X) → x ∷ xs ≡ y ∷ ys → xs ≡ ys
tail_is x y xs ys e = cc e

-- Where there is one, it is that one.
pub one_has : {X : Type 0} (x p : X) (before others : List X) → x ∷ [] ≡ before ++ p ∷ others → (before ≡ []) × (p ≡ x) × (others ≡ [])
one_has x p [] others e = (refl, sym (head_is x p [] others e), sym (tail_is x p [] others e))
one_has x p (q ∷ before) others e = absurd (none_has before others p (tail_is x q [] (before ++ p ∷ others) e))

-- The oldest is the only one up to it.
pub oldest_has : (q : InFlight) (qs : List InFlight) (heard : ℕ) (id : List ℕ) (before others : List InFlight) (p : InFlight) → heard ≤ q.number → q.mark ≡ id
    → IsFirstWith heard id (q ∷ qs) before p others → (before ≡ []) × (p ≡ q) × (others ≡ qs)
oldest_has q qs heard id [] others p out mark f = (refl, sym (head_is q p qs others f.all_are), sym (tail_is q p qs others f.all_are))
oldest_has q qs heard id (b ∷ before) others p out mark f =
    let same = head_is q b qs (before ++ p ∷ others) f.all_are in
    absurd (f.first (inl (subst (λ (v : InFlight). heard ≤ v.number) same out, ap (λ (v : InFlight). v.mark) (sym same) ∙ mark)))

-- It is one of them.
pub is_closing : (heard : ℕ) (id : List ℕ) (before : List InFlight) (p : InFlight) (others : List InFlight) → heard ≤ p.number → p.mark ≡ id → IsClosing heard (before ++ p ∷ others) id
is_closing heard id [] p others out mark = inl (out, mark)
is_closing heard id (b ∷ before) p others out mark = inr (is_closing heard id before p others out mark)
