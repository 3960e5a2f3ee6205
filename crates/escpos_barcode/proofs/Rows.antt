-- Rows of tables.
use Rattle.std.proofs.Common.{◌≡◌, ℕ, suc, ◌+◌, ◌-◌, ◌<◌, ◌≤◌, inl, inr, List, [], ◌∷◌, length, get_or, refl, sym, ap, ◌∙◌, arith, true, false, Bool}
use Rattle.std.specs.Prelude.{◌==◌, nat_le, IsTrue, if◌then◌else◌}
use Rattle.std.specs.List.{list_all}
use Rattle.std.proofs.lemmas.Bool.Decides.{eqb_tells}
use Rattle.std.proofs.lemmas.Bool.{and_parts, leb-true}
use Rattle.escpos_command.specs.Barcodes.{is_digit}
use Rattle.escpos_barcode.specs.Tables.{row, numbered}

-- A numbered table has its rows in order.
pub row_at : (rows : List (List ℕ)) (n s : ℕ) (d : List ℕ) → n ≤ s → s - n < length rows → get_or rows (s - n) d ≡ row (numbered n rows) s
row_at [] n s d h k = absurd (omega arith)
row_at (r ∷ rs) n s d h k = elim (eqb_tells n s) [
  | inl e ↦ let z : s - n ≡ 0 = omega arith in rw (z, e.0) refl
  | inr e ↦
      let z : s - n ≡ suc (s - (n + 1)) = omega arith in
      rw (z, e.0) (row_at rs (n + 1) s d (omega arith) (omega arith))
]

pub row_from_zero : (rows : List (List ℕ)) (s : ℕ) (d : List ℕ) → s < length rows → get_or rows s d ≡ row (numbered 0 rows) s
row_from_zero rows s d h =
    let z : s - 0 ≡ s = omega arith in ap (λ i. get_or rows i d) (sym z) ∙ row_at rows 0 s d (omega arith) (omega arith)

pub row_beyond : (rows : List (List ℕ)) (n s : ℕ) → n ≤ s → length rows ≤ s - n → row (numbered n rows) s ≡ []
row_beyond [] n s h k = refl
row_beyond (r ∷ rs) n s h k = elim (eqb_tells n s) [
  | inl e ↦ absurd (omega arith)
  | inr e ↦ rw (e.0) (row_beyond rs (n + 1) s (omega arith) (omega arith))
]

-- What holds of each pattern of a table, and of the empty one, holds of the one that is looked up.
pub row_all : (p : List ℕ → Bool) (table : List (ℕ × List ℕ)) (s : ℕ) → p [] ≡ true → list_all (λ r. p r.1) table ≡ true → p (row table s) ≡ true
row_all p [] s e h = e
row_all p (r ∷ rs) s e h =
    let parts = and_parts (p r.1) (list_all (λ q. p q.1) rs) h in
    elim (r.0 == s) as (λ b. p (if b then r.1 else row rs s) ≡ true) [ true ↦ parts.0 | false ↦ row_all p rs s e parts.1 ]

pub digit_range : (b : ℕ) → IsTrue (is_digit b) → (0x30 ≤ b) × (b ≤ 0x39)
digit_range b h = let parts = and_parts (nat_le 0x30 b) (nat_le b 0x39) h in (leb-true 0x30 b parts.0, leb-true b 0x39 parts.1)
