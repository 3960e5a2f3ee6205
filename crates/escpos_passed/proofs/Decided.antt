-- What some bytes are to a row: whether one of its commands begins them, or they are the start of one. Each list is one of these.
use Rattle.std.proofs.Common.{zero, suc, ◌≡◌, ◌≢◌, ◌⊎◌, inl, inr, ℕ, ◌+◌, ◌<◌, ◌≤◌, Bool, true, false, List, [], ◌∷◌, ◌++◌, length, take, drop, refl, sym, ◌∙◌, ap, subst, arith, append_assoc, append-nil, length-append, Option, None, Some}
use Rattle.std.specs.Prelude.{◌==◌, nat_le, IsTrue}
use Rattle.std.proofs.lemmas.Bool.{eqb-true, eq-eqb, leb-true, leb-false, cases_lt}
use Rattle.std.proofs.lemmas.List.{append_cancel_left, length-take-le, take-append-drop}
use Rattle.std.proofs.Math.Seq.{take-append-add, take-append_seam}
use Rattle.escpos_passed.specs.declared.table.Row.{Row}
use Rattle.escpos_passed.specs.Lengths.{whole_length}
use Rattle.escpos_passed.specs.declared.table.Except.{Except}
use Rattle.escpos_passed.specs.declared.table.Except.TheVariants as except
use Rattle.escpos_passed.specs.Table.{table, row_at, row_prefix, allows, may_allow, IsPassed, IsPassedBy, IsPart, IsPartBy, IsPrefixStart, IsUnfinished, IsShort}
use Rattle.escpos_passed.specs.Finding.{IsNone}
use Rattle.escpos_passed.proofs.Lengths.{stable, enough}
use Rattle.escpos_passed.proofs.TokenLaws.{none_left, tail_of}

no_more : (a m : List ℕ) → a ≡ a ++ m → m ≡ []
no_more a m e = sym (append_cancel_left a [] m (append-nil a ∙ e))

clear_of : (b : Bool) → b ≡ false → IsTrue b → ⊥
clear_of true e h = absurd cc
clear_of false e h = absurd cc

allows_more : (e : Option Except) (bs more : List ℕ) → IsTrue (allows e bs) → IsTrue (may_allow e (bs ++ more))
allows_more None bs more h = refl
allows_more (Some (except.First code)) [] more h = absurd cc
allows_more (Some (except.First code)) (low ∷ []) more h = absurd cc
allows_more (Some (except.First code)) (low ∷ high ∷ []) more h = absurd cc
allows_more (Some (except.First code)) (low ∷ high ∷ b ∷ bs) more h = h
allows_more (Some except.Graphics) [] more h = absurd cc
allows_more (Some except.Graphics) (low ∷ []) more h = absurd cc
allows_more (Some except.Graphics) (low ∷ high ∷ []) more h = absurd cc
allows_more (Some except.Graphics) (low ∷ high ∷ m ∷ []) more h = absurd cc
allows_more (Some except.Graphics) (low ∷ high ∷ m ∷ fn ∷ bs) more h = h
allows_more (Some except.LongGraphics) [] more h = absurd cc
allows_more (Some except.LongGraphics) (first ∷ []) more h = absurd cc
allows_more (Some except.LongGraphics) (first ∷ second ∷ []) more h = absurd cc
allows_more (Some except.LongGraphics) (first ∷ second ∷ third ∷ []) more h = absurd cc
allows_more (Some except.LongGraphics) (first ∷ second ∷ third ∷ fourth ∷ []) more h = absurd cc
allows_more (Some except.LongGraphics) (first ∷ second ∷ third ∷ fourth ∷ m ∷ []) more h = absurd cc
allows_more (Some except.LongGraphics) (first ∷ second ∷ third ∷ fourth ∷ m ∷ fn ∷ bs) more h = h

-- ## The bytes differ from the prefix, or end within it

pub none_other : (r : Row) (bs : List ℕ) → ((x y : List ℕ) → bs ++ x ≡ row_prefix r ++ y → ⊥) → IsNone r bs
none_other r bs other = record {
  not_passed = λ some more e p. other [] (p.rest ++ more) (append-nil bs ∙ e ∙ ap (λ v. v ++ more) p.begins ∙ append_assoc (row_prefix r) p.rest more);
  no_part = λ p. elim p [
    | inl s ↦ other s.more [] (sym s.starts ∙ sym (append-nil (row_prefix r)))
    | inr u ↦ other [] u.rest (append-nil bs ∙ u.begins)
  ];
}

pub part_start : (r : Row) (bs more : List ℕ) → bs ≢ [] → more ≢ [] → row_prefix r ≡ bs ++ more → IsPartBy r bs
part_start r bs more begun others e = inl (record { begun = begun; more = more; others = others; starts = e })

-- ## They begin with the prefix

-- What a whole command at their start has after the prefix, and what follows it.
rest_parts : (r : Row) (bs rest some more : List ℕ) → bs ≡ row_prefix r ++ rest → bs ≡ some ++ more → (p : IsPassedBy r some) → rest ≡ p.rest ++ more
rest_parts r bs rest some more b e p =
    append_cancel_left (row_prefix r) rest (p.rest ++ more) (sym b ∙ e ∙ ap (λ v. v ++ more) p.begins ∙ append_assoc (row_prefix r) p.rest more)

no_start : (r : Row) (bs rest : List ℕ) → bs ≡ row_prefix r ++ rest → IsPrefixStart r bs → ⊥
no_start r bs rest b s =
    let whole : row_prefix r ≡ row_prefix r ++ (rest ++ s.more) = s.starts ∙ ap (λ v. v ++ s.more) b ∙ append_assoc (row_prefix r) rest s.more in
    let none = ap length (no_more (row_prefix r) (rest ++ s.more) whole) in
    s.others (none_left s.more (let long = length-append rest s.more in omega arith))

same_rest : (r : Row) (bs rest : List ℕ) → bs ≡ row_prefix r ++ rest → (u : IsUnfinished r bs) → u.rest ≡ rest
same_rest r bs rest b u = append_cancel_left (row_prefix r) u.rest rest (sym u.begins ∙ b)

pub none_excepted : (r : Row) (bs rest : List ℕ) → bs ≡ row_prefix r ++ rest → may_allow r.except rest ≡ false → IsNone r bs
none_excepted r bs rest b x = record {
  not_passed = λ some more e p.
      clear_of (may_allow r.except rest) x (subst (λ v. IsTrue (may_allow r.except v)) (sym (rest_parts r bs rest some more b e p)) (allows_more r.except p.rest more p.allowed));
  no_part = λ p. elim p [
    | inl s ↦ no_start r bs rest b s
    | inr u ↦ clear_of (may_allow r.except rest) x (subst (λ v. IsTrue (may_allow r.except v)) (same_rest r bs rest b u) u.allowed)
  ];
}

pub whole_there : (r : Row) (bs rest : List ℕ) (n : ℕ) → bs ≡ row_prefix r ++ rest → whole_length r.form rest ≡ Some n → n ≤ length rest → IsTrue (allows r.except (take n rest))
    → IsPassedBy r (take (length (row_prefix r) + n) bs)
whole_there r bs rest n b w fits a = record {
  rest = take n rest;
  begins = ap (λ v. take (length (row_prefix r) + n) v) b ∙ take-append-add (row_prefix r) rest n;
  whole = enough r.form rest n n w (omega arith) ∙ ap Some (sym (length-take-le n rest fits));
  allowed = a;
}

some_of : (m n : ℕ) → Some m ≡ Some n → m ≡ n
some_of m n e = cc

not_short : (o : Option ℕ) (n k : ℕ) → o ≡ Some n → n ≤ k → IsShort o k → ⊥
not_short None n k e h s = absurd cc
not_short (Some m) n k e h s = let same : m ≡ n = some_of m n e in omega (arith, s, same, h)

pub none_whole : (r : Row) (bs rest : List ℕ) (n : ℕ) → bs ≡ row_prefix r ++ rest → whole_length r.form rest ≡ Some n → n ≤ length rest → allows r.except (take n rest) ≡ false → IsNone r bs
none_whole r bs rest n b w fits x = record {
  not_passed = λ some more e p.
      let parts = rest_parts r bs rest some more b e p in
      let told : whole_length r.form rest ≡ Some (length p.rest) = subst (λ v. whole_length r.form v ≡ Some (length p.rest)) (sym parts) (stable r.form p.rest more (length p.rest) p.whole) in
      let long : n ≡ length p.rest = some_of n (length p.rest) (sym w ∙ told) in
      let same : take n rest ≡ p.rest = ap (λ k. take k rest) long ∙ ap (take (length p.rest)) parts ∙ take-append_seam p.rest more in
      clear_of (allows r.except (take n rest)) x (subst (λ v. IsTrue (allows r.except v)) (sym same) p.allowed);
  no_part = λ p. elim p [
    | inl s ↦ no_start r bs rest b s
    | inr u ↦ not_short (whole_length r.form u.rest) n (length u.rest) (ap (whole_length r.form) (same_rest r bs rest b u) ∙ w) (subst (λ v. n ≤ length v) (sym (same_rest r bs rest b u)) fits) u.short
  ];
}

pub unfinished : (r : Row) (bs rest : List ℕ) → bs ≡ row_prefix r ++ rest → IsShort (whole_length r.form rest) (length rest) → IsTrue (may_allow r.except rest) → IsPartBy r bs
unfinished r bs rest b s a = inr (record { rest = rest; begins = b; short = s; allowed = a })

-- ## Each list is one of these

-- What a list is to a prefix.
data Compared (p bs : List ℕ) : Type 0 where
  goes_on : (rest : List ℕ) → bs ≡ p ++ rest → Compared p bs
  ends : (more : List ℕ) → more ≢ [] → p ≡ bs ++ more → Compared p bs
  differs : ((x y : List ℕ) → bs ++ x ≡ p ++ y → ⊥) → Compared p bs

not_none : (b : ℕ) (p : List ℕ) → b ∷ p ≢ []
not_none b p e = cc

not_same : (a b : ℕ) (x y : List ℕ) → (a == b) ≡ false → b ∷ x ≡ a ∷ y → ⊥
not_same a b x y e f = let same : a ≡ b = cc in let one = eq-eqb a b same in absurd cc

compared_after : (a b : ℕ) (p bs : List ℕ) → a ≡ b → Compared p bs → Compared (a ∷ p) (b ∷ bs)
compared_after a b p bs e (goes_on rest f) = goes_on rest (ap (λ v. v ∷ bs) (sym e) ∙ ap (λ v. a ∷ v) f)
compared_after a b p bs e (ends more h f) = ends more h (ap (λ v. v ∷ p) e ∙ ap (λ v. b ∷ v) f)
compared_after a b p bs e (differs h) = differs (λ x y f. h x y (tail_of b a (bs ++ x) (p ++ y) f))

compared_by : (t : Bool) (a b : ℕ) (p bs : List ℕ) → (a == b) ≡ t → Compared p bs → Compared (a ∷ p) (b ∷ bs)
compared_by true a b p bs e c = compared_after a b p bs (eqb-true a b e) c
compared_by false a b p bs e c = differs (λ x y f. not_same a b (bs ++ x) (p ++ y) e f)

compared : (p bs : List ℕ) → Compared p bs
compared [] bs = goes_on bs refl
compared (a ∷ p) [] = ends (a ∷ p) (not_none a p) refl
compared (a ∷ p) (b ∷ bs) = compared_by (a == b) a b p bs refl (compared p bs)

pub data Decided (r : Row) (bs : List ℕ) : Type 0 where
  begins : (some more : List ℕ) → bs ≡ some ++ more → IsPassedBy r some → Decided r bs
  part_of : IsPartBy r bs → Decided r bs
  no_such : IsNone r bs → Decided r bs

decided_whole : (t : Bool) (r : Row) (bs rest : List ℕ) (n : ℕ) → bs ≡ row_prefix r ++ rest → whole_length r.form rest ≡ Some n → n ≤ length rest → allows r.except (take n rest) ≡ t → Decided r bs
decided_whole true r bs rest n b w fits e =
    begins (take (length (row_prefix r) + n) bs) (drop (length (row_prefix r) + n) bs) (sym (take-append-drop (length (row_prefix r) + n) bs)) (whole_there r bs rest n b w fits e)
decided_whole false r bs rest n b w fits e = no_such (none_whole r bs rest n b w fits e)

decided_some : (t : Bool) (r : Row) (bs rest : List ℕ) (n : ℕ) → bs ≡ row_prefix r ++ rest → whole_length r.form rest ≡ Some n → nat_le n (length rest) ≡ t → IsTrue (may_allow r.except rest) → Decided r bs
decided_some true r bs rest n b w e a = decided_whole (allows r.except (take n rest)) r bs rest n b w (leb-true n (length rest) e) refl
decided_some false r bs rest n b w e a = part_of (unfinished r bs rest b (subst (λ o. IsShort o (length rest)) (sym w) (leb-false n (length rest) e)) a)

decided_length : (o : Option ℕ) (r : Row) (bs rest : List ℕ) → bs ≡ row_prefix r ++ rest → whole_length r.form rest ≡ o → IsTrue (may_allow r.except rest) → Decided r bs
decided_length None r bs rest b w a = part_of (unfinished r bs rest b (subst (λ o. IsShort o (length rest)) (sym w) tt) a)
decided_length (Some n) r bs rest b w a = decided_some (nat_le n (length rest)) r bs rest n b w refl a

decided_rest : (t : Bool) (r : Row) (bs rest : List ℕ) → bs ≡ row_prefix r ++ rest → may_allow r.except rest ≡ t → Decided r bs
decided_rest true r bs rest b e = decided_length (whole_length r.form rest) r bs rest b refl e
decided_rest false r bs rest b e = no_such (none_excepted r bs rest b e)

decided_by : (r : Row) (bs : List ℕ) → bs ≢ [] → Compared (row_prefix r) bs → Decided r bs
decided_by r bs begun (goes_on rest e) = decided_rest (may_allow r.except rest) r bs rest e refl
decided_by r bs begun (ends more h e) = part_of (part_start r bs more begun h e)
decided_by r bs begun (differs h) = no_such (none_other r bs h)

decided : (r : Row) (bs : List ℕ) → bs ≢ [] → Decided r bs
decided r bs begun = decided_by r bs begun (compared (row_prefix r) bs)

split_last : (i n : ℕ) → i < suc n → (i < n) ⊎ (i ≡ n)
split_last i n h = elim (cases_lt i n) [ inl less ↦ inl less | inr least ↦ inr (omega (arith, h, least)) ]

-- What a list is to the rows of the table before a place.
pub data Known (n : ℕ) (bs : List ℕ) : Type 0 where
  passed_over : (some more : List ℕ) → bs ≡ some ++ more → IsPassed some → Known n bs
  a_part : IsPart bs → Known n bs
  unknown : ((i : ℕ) → i < n → IsNone (row_at table i) bs) → Known n bs

one_more : (n : ℕ) (bs : List ℕ) → n < length table → Decided (row_at table n) bs → ((i : ℕ) → i < n → IsNone (row_at table i) bs) → Known (suc n) bs
one_more n bs h (begins some more e p) before = passed_over some more e (n, h, p)
one_more n bs h (part_of p) before = a_part (n, h, p)
one_more n bs h (no_such none) before = unknown (λ i k. elim (split_last i n k) [ inl less ↦ before i less | inr same ↦ subst (λ j. IsNone (row_at table j) bs) (sym same) none ])

known_below : (n : ℕ) (bs : List ℕ) → n ≤ length table → bs ≢ [] → Known n bs
known_below zero bs h begun = unknown (λ i k. absurd (omega (arith, k)))
known_below (suc n) bs h begun = elim (known_below n bs (omega (arith, h)) begun) [
  | passed_over some more e p ↦ passed_over some more e p
  | a_part p ↦ a_part p
  | unknown before ↦ one_more n bs (omega (arith, h)) (decided (row_at table n) bs begun) before
]

pub known : (bs : List ℕ) → bs ≢ [] → Known (length table) bs
known bs begun = known_below (length table) bs (omega arith) begun

-- ## The bytes of a prefix, one after another

pub start_none : (wanted : ℕ) (bs : List ℕ) → length bs ≤ 0 → (more : List ℕ) × (more ≢ []) × (wanted ∷ [] ≡ bs ++ more)
start_none wanted bs h = (wanted ∷ [], not_none wanted [], ap (λ v. v ++ wanted ∷ []) (sym (none_left bs (omega (arith, h)))))

pub start_more : (p q bs : List ℕ) → (more : List ℕ) × (more ≢ []) × (p ≡ bs ++ more) → (others : List ℕ) × (others ≢ []) × (p ++ q ≡ bs ++ others)
start_more p q bs s = (
  s.0 ++ q,
  λ e. s.1 (none_left s.0 (let long = ap length e in let sum = length-append s.0 q in omega arith)),
  ap (λ v. v ++ q) s.2 ∙ append_assoc bs s.0 q,
)

pub other_more : (p q bs : List ℕ) → ((x y : List ℕ) → bs ++ x ≡ p ++ y → ⊥) → (x y : List ℕ) → bs ++ x ≡ (p ++ q) ++ y → ⊥
other_more p q bs h x y e = h x (q ++ y) (e ∙ append_assoc p q y)
