-- The standards' tables of characters and their patterns. A pattern is a list of widths, of bars and spaces in turn, in
-- modules; where there are two widths alone, 1 is narrow and 2 is wide. The drawing and the reader share these tables.
use Rattle.std.specs.Prelude.{ℕ, ◌==◌, ◌&&◌, ◌+◌, Bool, true, false, List, [], ◌∷◌, ◌++◌, map, reverse, Option, None, Some, if◌then◌else◌}
use Rattle.std.specs.List.{list_any}

-- ## Looking up

-- The pattern of a symbol: that of the first row with the symbol, and empty if there is none.
abbrev pub row : List (ℕ × List ℕ) → ℕ → List ℕ
row [] symbol = []
row (r ∷ rs) symbol = if r.0 == symbol then r.1 else row rs symbol

abbrev pub has_row : List (ℕ × List ℕ) → ℕ → Bool
has_row table symbol = list_any (λ r. r.0 == symbol) table

abbrev pub same : List ℕ → List ℕ → Bool
same [] [] = true
same [] (y ∷ ys) = false
same (x ∷ xs) [] = false
same (x ∷ xs) (y ∷ ys) = x == y && same xs ys

-- The symbol whose pattern this is.
abbrev pub symbol_of : List (ℕ × List ℕ) → List ℕ → Option ℕ
symbol_of [] pattern = None
symbol_of (r ∷ rs) pattern = if same r.1 pattern then Some r.0 else symbol_of rs pattern

-- A table whose symbols are numbers, in order from this one.
abbrev pub numbered : ℕ → List (List ℕ) → List (ℕ × List ℕ)
numbered n [] = []
numbered n (r ∷ rs) = (n, r) ∷ numbered (n + 1) rs

-- ## UPC-A, UPC-E, EAN-13 and EAN-8 (GS1 General Specifications 5.2)

-- Number set A: a space first, in the left half. Set C has the same widths, a bar first, in the right half.
unfoldable pub set_a : List (List ℕ)
set_a =
    (3 ∷ 2 ∷ 1 ∷ 1 ∷ []) ∷
    (2 ∷ 2 ∷ 2 ∷ 1 ∷ []) ∷
    (2 ∷ 1 ∷ 2 ∷ 2 ∷ []) ∷
    (1 ∷ 4 ∷ 1 ∷ 1 ∷ []) ∷
    (1 ∷ 1 ∷ 3 ∷ 2 ∷ []) ∷
    (1 ∷ 2 ∷ 3 ∷ 1 ∷ []) ∷
    (1 ∷ 1 ∷ 1 ∷ 4 ∷ []) ∷
    (1 ∷ 3 ∷ 1 ∷ 2 ∷ []) ∷
    (1 ∷ 2 ∷ 1 ∷ 3 ∷ []) ∷
    (3 ∷ 1 ∷ 1 ∷ 2 ∷ []) ∷ []

-- Number set B is set A from right to left.
unfoldable pub set_b : List (List ℕ)
unfolding set_a
set_b = map reverse set_a

-- The digits of the right half.
unfoldable pub right_digits : List (ℕ × List ℕ)
right_digits = numbered 0x30 set_a

-- The digits of the left half: 0 to 9 in set A, and 10 to 19 for the same in set B.
unfoldable pub left_digits : List (ℕ × List ℕ)
left_digits = numbered 0 (set_a ++ set_b)

-- The number sets of the left half of EAN-13, by which its first digit is known: 0 is set A, and 1 is set B.
unfoldable pub parity_rows : List (List ℕ)
parity_rows =
    (0 ∷ 0 ∷ 0 ∷ 0 ∷ 0 ∷ 0 ∷ []) ∷
    (0 ∷ 0 ∷ 1 ∷ 0 ∷ 1 ∷ 1 ∷ []) ∷
    (0 ∷ 0 ∷ 1 ∷ 1 ∷ 0 ∷ 1 ∷ []) ∷
    (0 ∷ 0 ∷ 1 ∷ 1 ∷ 1 ∷ 0 ∷ []) ∷
    (0 ∷ 1 ∷ 0 ∷ 0 ∷ 1 ∷ 1 ∷ []) ∷
    (0 ∷ 1 ∷ 1 ∷ 0 ∷ 0 ∷ 1 ∷ []) ∷
    (0 ∷ 1 ∷ 1 ∷ 1 ∷ 0 ∷ 0 ∷ []) ∷
    (0 ∷ 1 ∷ 0 ∷ 1 ∷ 0 ∷ 1 ∷ []) ∷
    (0 ∷ 1 ∷ 0 ∷ 1 ∷ 1 ∷ 0 ∷ []) ∷
    (0 ∷ 1 ∷ 1 ∷ 0 ∷ 1 ∷ 0 ∷ []) ∷ []

unfoldable pub parities : List (ℕ × List ℕ)
parities = numbered 0x30 parity_rows

-- The number sets of the six digits of UPC-E, by which its check digit is known.
unfoldable pub upce_parity_rows : List (List ℕ)
upce_parity_rows =
    (1 ∷ 1 ∷ 1 ∷ 0 ∷ 0 ∷ 0 ∷ []) ∷
    (1 ∷ 1 ∷ 0 ∷ 1 ∷ 0 ∷ 0 ∷ []) ∷
    (1 ∷ 1 ∷ 0 ∷ 0 ∷ 1 ∷ 0 ∷ []) ∷
    (1 ∷ 1 ∷ 0 ∷ 0 ∷ 0 ∷ 1 ∷ []) ∷
    (1 ∷ 0 ∷ 1 ∷ 1 ∷ 0 ∷ 0 ∷ []) ∷
    (1 ∷ 0 ∷ 0 ∷ 1 ∷ 1 ∷ 0 ∷ []) ∷
    (1 ∷ 0 ∷ 0 ∷ 0 ∷ 1 ∷ 1 ∷ []) ∷
    (1 ∷ 0 ∷ 1 ∷ 0 ∷ 1 ∷ 0 ∷ []) ∷
    (1 ∷ 0 ∷ 1 ∷ 0 ∷ 0 ∷ 1 ∷ []) ∷
    (1 ∷ 0 ∷ 0 ∷ 1 ∷ 0 ∷ 1 ∷ []) ∷ []

unfoldable pub upce_parities : List (ℕ × List ℕ)
upce_parities = numbered 0x30 upce_parity_rows

-- ## CODE39 (ISO/IEC 16388)

unfoldable pub code39_data : List (ℕ × List ℕ)
code39_data =
    (0x30, 1 ∷ 1 ∷ 1 ∷ 2 ∷ 2 ∷ 1 ∷ 2 ∷ 1 ∷ 1 ∷ []) ∷
    (0x31, 2 ∷ 1 ∷ 1 ∷ 2 ∷ 1 ∷ 1 ∷ 1 ∷ 1 ∷ 2 ∷ []) ∷
    (0x32, 1 ∷ 1 ∷ 2 ∷ 2 ∷ 1 ∷ 1 ∷ 1 ∷ 1 ∷ 2 ∷ []) ∷
    (0x33, 2 ∷ 1 ∷ 2 ∷ 2 ∷ 1 ∷ 1 ∷ 1 ∷ 1 ∷ 1 ∷ []) ∷
    (0x34, 1 ∷ 1 ∷ 1 ∷ 2 ∷ 2 ∷ 1 ∷ 1 ∷ 1 ∷ 2 ∷ []) ∷
    (0x35, 2 ∷ 1 ∷ 1 ∷ 2 ∷ 2 ∷ 1 ∷ 1 ∷ 1 ∷ 1 ∷ []) ∷
    (0x36, 1 ∷ 1 ∷ 2 ∷ 2 ∷ 2 ∷ 1 ∷ 1 ∷ 1 ∷ 1 ∷ []) ∷
    (0x37, 1 ∷ 1 ∷ 1 ∷ 2 ∷ 1 ∷ 1 ∷ 2 ∷ 1 ∷ 2 ∷ []) ∷
    (0x38, 2 ∷ 1 ∷ 1 ∷ 2 ∷ 1 ∷ 1 ∷ 2 ∷ 1 ∷ 1 ∷ []) ∷
    (0x39, 1 ∷ 1 ∷ 2 ∷ 2 ∷ 1 ∷ 1 ∷ 2 ∷ 1 ∷ 1 ∷ []) ∷
    (0x41, 2 ∷ 1 ∷ 1 ∷ 1 ∷ 1 ∷ 2 ∷ 1 ∷ 1 ∷ 2 ∷ []) ∷
    (0x42, 1 ∷ 1 ∷ 2 ∷ 1 ∷ 1 ∷ 2 ∷ 1 ∷ 1 ∷ 2 ∷ []) ∷
    (0x43, 2 ∷ 1 ∷ 2 ∷ 1 ∷ 1 ∷ 2 ∷ 1 ∷ 1 ∷ 1 ∷ []) ∷
    (0x44, 1 ∷ 1 ∷ 1 ∷ 1 ∷ 2 ∷ 2 ∷ 1 ∷ 1 ∷ 2 ∷ []) ∷
    (0x45, 2 ∷ 1 ∷ 1 ∷ 1 ∷ 2 ∷ 2 ∷ 1 ∷ 1 ∷ 1 ∷ []) ∷
    (0x46, 1 ∷ 1 ∷ 2 ∷ 1 ∷ 2 ∷ 2 ∷ 1 ∷ 1 ∷ 1 ∷ []) ∷
    (0x47, 1 ∷ 1 ∷ 1 ∷ 1 ∷ 1 ∷ 2 ∷ 2 ∷ 1 ∷ 2 ∷ []) ∷
    (0x48, 2 ∷ 1 ∷ 1 ∷ 1 ∷ 1 ∷ 2 ∷ 2 ∷ 1 ∷ 1 ∷ []) ∷
    (0x49, 1 ∷ 1 ∷ 2 ∷ 1 ∷ 1 ∷ 2 ∷ 2 ∷ 1 ∷ 1 ∷ []) ∷
    (0x4A, 1 ∷ 1 ∷ 1 ∷ 1 ∷ 2 ∷ 2 ∷ 2 ∷ 1 ∷ 1 ∷ []) ∷
    (0x4B, 2 ∷ 1 ∷ 1 ∷ 1 ∷ 1 ∷ 1 ∷ 1 ∷ 2 ∷ 2 ∷ []) ∷
    (0x4C, 1 ∷ 1 ∷ 2 ∷ 1 ∷ 1 ∷ 1 ∷ 1 ∷ 2 ∷ 2 ∷ []) ∷
    (0x4D, 2 ∷ 1 ∷ 2 ∷ 1 ∷ 1 ∷ 1 ∷ 1 ∷ 2 ∷ 1 ∷ []) ∷
    (0x4E, 1 ∷ 1 ∷ 1 ∷ 1 ∷ 2 ∷ 1 ∷ 1 ∷ 2 ∷ 2 ∷ []) ∷
    (0x4F, 2 ∷ 1 ∷ 1 ∷ 1 ∷ 2 ∷ 1 ∷ 1 ∷ 2 ∷ 1 ∷ []) ∷
    (0x50, 1 ∷ 1 ∷ 2 ∷ 1 ∷ 2 ∷ 1 ∷ 1 ∷ 2 ∷ 1 ∷ []) ∷
    (0x51, 1 ∷ 1 ∷ 1 ∷ 1 ∷ 1 ∷ 1 ∷ 2 ∷ 2 ∷ 2 ∷ []) ∷
    (0x52, 2 ∷ 1 ∷ 1 ∷ 1 ∷ 1 ∷ 1 ∷ 2 ∷ 2 ∷ 1 ∷ []) ∷
    (0x53, 1 ∷ 1 ∷ 2 ∷ 1 ∷ 1 ∷ 1 ∷ 2 ∷ 2 ∷ 1 ∷ []) ∷
    (0x54, 1 ∷ 1 ∷ 1 ∷ 1 ∷ 2 ∷ 1 ∷ 2 ∷ 2 ∷ 1 ∷ []) ∷
    (0x55, 2 ∷ 2 ∷ 1 ∷ 1 ∷ 1 ∷ 1 ∷ 1 ∷ 1 ∷ 2 ∷ []) ∷
    (0x56, 1 ∷ 2 ∷ 2 ∷ 1 ∷ 1 ∷ 1 ∷ 1 ∷ 1 ∷ 2 ∷ []) ∷
    (0x57, 2 ∷ 2 ∷ 2 ∷ 1 ∷ 1 ∷ 1 ∷ 1 ∷ 1 ∷ 1 ∷ []) ∷
    (0x58, 1 ∷ 2 ∷ 1 ∷ 1 ∷ 2 ∷ 1 ∷ 1 ∷ 1 ∷ 2 ∷ []) ∷
    (0x59, 2 ∷ 2 ∷ 1 ∷ 1 ∷ 2 ∷ 1 ∷ 1 ∷ 1 ∷ 1 ∷ []) ∷
    (0x5A, 1 ∷ 2 ∷ 2 ∷ 1 ∷ 2 ∷ 1 ∷ 1 ∷ 1 ∷ 1 ∷ []) ∷
    (0x2D, 1 ∷ 2 ∷ 1 ∷ 1 ∷ 1 ∷ 1 ∷ 2 ∷ 1 ∷ 2 ∷ []) ∷
    (0x2E, 2 ∷ 2 ∷ 1 ∷ 1 ∷ 1 ∷ 1 ∷ 2 ∷ 1 ∷ 1 ∷ []) ∷
    (0x20, 1 ∷ 2 ∷ 2 ∷ 1 ∷ 1 ∷ 1 ∷ 2 ∷ 1 ∷ 1 ∷ []) ∷
    (0x24, 1 ∷ 2 ∷ 1 ∷ 2 ∷ 1 ∷ 2 ∷ 1 ∷ 1 ∷ 1 ∷ []) ∷
    (0x2F, 1 ∷ 2 ∷ 1 ∷ 2 ∷ 1 ∷ 1 ∷ 1 ∷ 2 ∷ 1 ∷ []) ∷
    (0x2B, 1 ∷ 2 ∷ 1 ∷ 1 ∷ 1 ∷ 2 ∷ 1 ∷ 2 ∷ 1 ∷ []) ∷
    (0x25, 1 ∷ 1 ∷ 1 ∷ 2 ∷ 1 ∷ 2 ∷ 1 ∷ 2 ∷ 1 ∷ []) ∷ []

-- The asterisk starts and stops the barcode.
unfoldable pub code39_star : List ℕ
code39_star = 1 ∷ 2 ∷ 1 ∷ 1 ∷ 2 ∷ 1 ∷ 2 ∷ 1 ∷ 1 ∷ []

abbrev pub code39_table : List (ℕ × List ℕ)
code39_table = (0x2A, code39_star) ∷ code39_data

-- ## ITF (ISO/IEC 16390)

unfoldable pub itf_rows : List (List ℕ)
itf_rows =
    (1 ∷ 1 ∷ 2 ∷ 2 ∷ 1 ∷ []) ∷
    (2 ∷ 1 ∷ 1 ∷ 1 ∷ 2 ∷ []) ∷
    (1 ∷ 2 ∷ 1 ∷ 1 ∷ 2 ∷ []) ∷
    (2 ∷ 2 ∷ 1 ∷ 1 ∷ 1 ∷ []) ∷
    (1 ∷ 1 ∷ 2 ∷ 1 ∷ 2 ∷ []) ∷
    (2 ∷ 1 ∷ 2 ∷ 1 ∷ 1 ∷ []) ∷
    (1 ∷ 2 ∷ 2 ∷ 1 ∷ 1 ∷ []) ∷
    (1 ∷ 1 ∷ 1 ∷ 2 ∷ 2 ∷ []) ∷
    (2 ∷ 1 ∷ 1 ∷ 2 ∷ 1 ∷ []) ∷
    (1 ∷ 2 ∷ 1 ∷ 2 ∷ 1 ∷ []) ∷ []

unfoldable pub itf_digits : List (ℕ × List ℕ)
itf_digits = numbered 0x30 itf_rows

-- ## CODABAR (AIM BC3)

unfoldable pub codabar_table : List (ℕ × List ℕ)
codabar_table =
    (0x30, 1 ∷ 1 ∷ 1 ∷ 1 ∷ 1 ∷ 2 ∷ 2 ∷ []) ∷
    (0x31, 1 ∷ 1 ∷ 1 ∷ 1 ∷ 2 ∷ 2 ∷ 1 ∷ []) ∷
    (0x32, 1 ∷ 1 ∷ 1 ∷ 2 ∷ 1 ∷ 1 ∷ 2 ∷ []) ∷
    (0x33, 2 ∷ 2 ∷ 1 ∷ 1 ∷ 1 ∷ 1 ∷ 1 ∷ []) ∷
    (0x34, 1 ∷ 1 ∷ 2 ∷ 1 ∷ 1 ∷ 2 ∷ 1 ∷ []) ∷
    (0x35, 2 ∷ 1 ∷ 1 ∷ 1 ∷ 1 ∷ 2 ∷ 1 ∷ []) ∷
    (0x36, 1 ∷ 2 ∷ 1 ∷ 1 ∷ 1 ∷ 1 ∷ 2 ∷ []) ∷
    (0x37, 1 ∷ 2 ∷ 1 ∷ 1 ∷ 2 ∷ 1 ∷ 1 ∷ []) ∷
    (0x38, 1 ∷ 2 ∷ 2 ∷ 1 ∷ 1 ∷ 1 ∷ 1 ∷ []) ∷
    (0x39, 2 ∷ 1 ∷ 1 ∷ 2 ∷ 1 ∷ 1 ∷ 1 ∷ []) ∷
    (0x2D, 1 ∷ 1 ∷ 1 ∷ 2 ∷ 2 ∷ 1 ∷ 1 ∷ []) ∷
    (0x24, 1 ∷ 1 ∷ 2 ∷ 2 ∷ 1 ∷ 1 ∷ 1 ∷ []) ∷
    (0x3A, 2 ∷ 1 ∷ 1 ∷ 1 ∷ 2 ∷ 1 ∷ 2 ∷ []) ∷
    (0x2F, 2 ∷ 1 ∷ 2 ∷ 1 ∷ 1 ∷ 1 ∷ 2 ∷ []) ∷
    (0x2E, 2 ∷ 1 ∷ 2 ∷ 1 ∷ 2 ∷ 1 ∷ 1 ∷ []) ∷
    (0x2B, 1 ∷ 1 ∷ 2 ∷ 1 ∷ 2 ∷ 1 ∷ 2 ∷ []) ∷
    (0x41, 1 ∷ 1 ∷ 2 ∷ 2 ∷ 1 ∷ 2 ∷ 1 ∷ []) ∷
    (0x42, 1 ∷ 2 ∷ 1 ∷ 2 ∷ 1 ∷ 1 ∷ 2 ∷ []) ∷
    (0x43, 1 ∷ 1 ∷ 1 ∷ 2 ∷ 1 ∷ 2 ∷ 2 ∷ []) ∷
    (0x44, 1 ∷ 1 ∷ 1 ∷ 2 ∷ 2 ∷ 2 ∷ 1 ∷ []) ∷ []

-- ## CODE93 (AIM BC5)

unfoldable pub code93_rows : List (List ℕ)
code93_rows =
    (1 ∷ 3 ∷ 1 ∷ 1 ∷ 1 ∷ 2 ∷ []) ∷
    (1 ∷ 1 ∷ 1 ∷ 2 ∷ 1 ∷ 3 ∷ []) ∷
    (1 ∷ 1 ∷ 1 ∷ 3 ∷ 1 ∷ 2 ∷ []) ∷
    (1 ∷ 1 ∷ 1 ∷ 4 ∷ 1 ∷ 1 ∷ []) ∷
    (1 ∷ 2 ∷ 1 ∷ 1 ∷ 1 ∷ 3 ∷ []) ∷
    (1 ∷ 2 ∷ 1 ∷ 2 ∷ 1 ∷ 2 ∷ []) ∷
    (1 ∷ 2 ∷ 1 ∷ 3 ∷ 1 ∷ 1 ∷ []) ∷
    (1 ∷ 1 ∷ 1 ∷ 1 ∷ 1 ∷ 4 ∷ []) ∷
    (1 ∷ 3 ∷ 1 ∷ 2 ∷ 1 ∷ 1 ∷ []) ∷
    (1 ∷ 4 ∷ 1 ∷ 1 ∷ 1 ∷ 1 ∷ []) ∷
    (2 ∷ 1 ∷ 1 ∷ 1 ∷ 1 ∷ 3 ∷ []) ∷
    (2 ∷ 1 ∷ 1 ∷ 2 ∷ 1 ∷ 2 ∷ []) ∷
    (2 ∷ 1 ∷ 1 ∷ 3 ∷ 1 ∷ 1 ∷ []) ∷
    (2 ∷ 2 ∷ 1 ∷ 1 ∷ 1 ∷ 2 ∷ []) ∷
    (2 ∷ 2 ∷ 1 ∷ 2 ∷ 1 ∷ 1 ∷ []) ∷
    (2 ∷ 3 ∷ 1 ∷ 1 ∷ 1 ∷ 1 ∷ []) ∷
    (1 ∷ 1 ∷ 2 ∷ 1 ∷ 1 ∷ 3 ∷ []) ∷
    (1 ∷ 1 ∷ 2 ∷ 2 ∷ 1 ∷ 2 ∷ []) ∷
    (1 ∷ 1 ∷ 2 ∷ 3 ∷ 1 ∷ 1 ∷ []) ∷
    (1 ∷ 2 ∷ 2 ∷ 1 ∷ 1 ∷ 2 ∷ []) ∷
    (1 ∷ 3 ∷ 2 ∷ 1 ∷ 1 ∷ 1 ∷ []) ∷
    (1 ∷ 1 ∷ 1 ∷ 1 ∷ 2 ∷ 3 ∷ []) ∷
    (1 ∷ 1 ∷ 1 ∷ 2 ∷ 2 ∷ 2 ∷ []) ∷
    (1 ∷ 1 ∷ 1 ∷ 3 ∷ 2 ∷ 1 ∷ []) ∷
    (1 ∷ 2 ∷ 1 ∷ 1 ∷ 2 ∷ 2 ∷ []) ∷
    (1 ∷ 3 ∷ 1 ∷ 1 ∷ 2 ∷ 1 ∷ []) ∷
    (2 ∷ 1 ∷ 2 ∷ 1 ∷ 1 ∷ 2 ∷ []) ∷
    (2 ∷ 1 ∷ 2 ∷ 2 ∷ 1 ∷ 1 ∷ []) ∷
    (2 ∷ 1 ∷ 1 ∷ 1 ∷ 2 ∷ 2 ∷ []) ∷
    (2 ∷ 1 ∷ 1 ∷ 2 ∷ 2 ∷ 1 ∷ []) ∷
    (2 ∷ 2 ∷ 1 ∷ 1 ∷ 2 ∷ 1 ∷ []) ∷
    (2 ∷ 2 ∷ 2 ∷ 1 ∷ 1 ∷ 1 ∷ []) ∷
    (1 ∷ 1 ∷ 2 ∷ 1 ∷ 2 ∷ 2 ∷ []) ∷
    (1 ∷ 1 ∷ 2 ∷ 2 ∷ 2 ∷ 1 ∷ []) ∷
    (1 ∷ 2 ∷ 2 ∷ 1 ∷ 2 ∷ 1 ∷ []) ∷
    (1 ∷ 2 ∷ 3 ∷ 1 ∷ 1 ∷ 1 ∷ []) ∷
    (1 ∷ 2 ∷ 1 ∷ 1 ∷ 3 ∷ 1 ∷ []) ∷
    (3 ∷ 1 ∷ 1 ∷ 1 ∷ 1 ∷ 2 ∷ []) ∷
    (3 ∷ 1 ∷ 1 ∷ 2 ∷ 1 ∷ 1 ∷ []) ∷
    (3 ∷ 2 ∷ 1 ∷ 1 ∷ 1 ∷ 1 ∷ []) ∷
    (1 ∷ 1 ∷ 2 ∷ 1 ∷ 3 ∷ 1 ∷ []) ∷
    (1 ∷ 1 ∷ 3 ∷ 1 ∷ 2 ∷ 1 ∷ []) ∷
    (2 ∷ 1 ∷ 1 ∷ 1 ∷ 3 ∷ 1 ∷ []) ∷
    (1 ∷ 2 ∷ 1 ∷ 2 ∷ 2 ∷ 1 ∷ []) ∷
    (3 ∷ 1 ∷ 2 ∷ 1 ∷ 1 ∷ 1 ∷ []) ∷
    (3 ∷ 1 ∷ 1 ∷ 1 ∷ 2 ∷ 1 ∷ []) ∷
    (1 ∷ 2 ∷ 2 ∷ 2 ∷ 1 ∷ 1 ∷ []) ∷
    (1 ∷ 1 ∷ 1 ∷ 1 ∷ 4 ∷ 1 ∷ []) ∷ []

-- The symbols by their values: 0 to 9, A to Z, - . space $ / + %, the four shift characters, and the one that starts and stops.
unfoldable pub code93_table : List (ℕ × List ℕ)
code93_table = numbered 0 code93_rows

-- ## CODE128 (ISO/IEC 15417)

unfoldable pub code128_rows : List (List ℕ)
code128_rows =
    (2 ∷ 1 ∷ 2 ∷ 2 ∷ 2 ∷ 2 ∷ []) ∷
    (2 ∷ 2 ∷ 2 ∷ 1 ∷ 2 ∷ 2 ∷ []) ∷
    (2 ∷ 2 ∷ 2 ∷ 2 ∷ 2 ∷ 1 ∷ []) ∷
    (1 ∷ 2 ∷ 1 ∷ 2 ∷ 2 ∷ 3 ∷ []) ∷
    (1 ∷ 2 ∷ 1 ∷ 3 ∷ 2 ∷ 2 ∷ []) ∷
    (1 ∷ 3 ∷ 1 ∷ 2 ∷ 2 ∷ 2 ∷ []) ∷
    (1 ∷ 2 ∷ 2 ∷ 2 ∷ 1 ∷ 3 ∷ []) ∷
    (1 ∷ 2 ∷ 2 ∷ 3 ∷ 1 ∷ 2 ∷ []) ∷
    (1 ∷ 3 ∷ 2 ∷ 2 ∷ 1 ∷ 2 ∷ []) ∷
    (2 ∷ 2 ∷ 1 ∷ 2 ∷ 1 ∷ 3 ∷ []) ∷
    (2 ∷ 2 ∷ 1 ∷ 3 ∷ 1 ∷ 2 ∷ []) ∷
    (2 ∷ 3 ∷ 1 ∷ 2 ∷ 1 ∷ 2 ∷ []) ∷
    (1 ∷ 1 ∷ 2 ∷ 2 ∷ 3 ∷ 2 ∷ []) ∷
    (1 ∷ 2 ∷ 2 ∷ 1 ∷ 3 ∷ 2 ∷ []) ∷
    (1 ∷ 2 ∷ 2 ∷ 2 ∷ 3 ∷ 1 ∷ []) ∷
    (1 ∷ 1 ∷ 3 ∷ 2 ∷ 2 ∷ 2 ∷ []) ∷
    (1 ∷ 2 ∷ 3 ∷ 1 ∷ 2 ∷ 2 ∷ []) ∷
    (1 ∷ 2 ∷ 3 ∷ 2 ∷ 2 ∷ 1 ∷ []) ∷
    (2 ∷ 2 ∷ 3 ∷ 2 ∷ 1 ∷ 1 ∷ []) ∷
    (2 ∷ 2 ∷ 1 ∷ 1 ∷ 3 ∷ 2 ∷ []) ∷
    (2 ∷ 2 ∷ 1 ∷ 2 ∷ 3 ∷ 1 ∷ []) ∷
    (2 ∷ 1 ∷ 3 ∷ 2 ∷ 1 ∷ 2 ∷ []) ∷
    (2 ∷ 2 ∷ 3 ∷ 1 ∷ 1 ∷ 2 ∷ []) ∷
    (3 ∷ 1 ∷ 2 ∷ 1 ∷ 3 ∷ 1 ∷ []) ∷
    (3 ∷ 1 ∷ 1 ∷ 2 ∷ 2 ∷ 2 ∷ []) ∷
    (3 ∷ 2 ∷ 1 ∷ 1 ∷ 2 ∷ 2 ∷ []) ∷
    (3 ∷ 2 ∷ 1 ∷ 2 ∷ 2 ∷ 1 ∷ []) ∷
    (3 ∷ 1 ∷ 2 ∷ 2 ∷ 1 ∷ 2 ∷ []) ∷
    (3 ∷ 2 ∷ 2 ∷ 1 ∷ 1 ∷ 2 ∷ []) ∷
    (3 ∷ 2 ∷ 2 ∷ 2 ∷ 1 ∷ 1 ∷ []) ∷
    (2 ∷ 1 ∷ 2 ∷ 1 ∷ 2 ∷ 3 ∷ []) ∷
    (2 ∷ 1 ∷ 2 ∷ 3 ∷ 2 ∷ 1 ∷ []) ∷
    (2 ∷ 3 ∷ 2 ∷ 1 ∷ 2 ∷ 1 ∷ []) ∷
    (1 ∷ 1 ∷ 1 ∷ 3 ∷ 2 ∷ 3 ∷ []) ∷
    (1 ∷ 3 ∷ 1 ∷ 1 ∷ 2 ∷ 3 ∷ []) ∷
    (1 ∷ 3 ∷ 1 ∷ 3 ∷ 2 ∷ 1 ∷ []) ∷
    (1 ∷ 1 ∷ 2 ∷ 3 ∷ 1 ∷ 3 ∷ []) ∷
    (1 ∷ 3 ∷ 2 ∷ 1 ∷ 1 ∷ 3 ∷ []) ∷
    (1 ∷ 3 ∷ 2 ∷ 3 ∷ 1 ∷ 1 ∷ []) ∷
    (2 ∷ 1 ∷ 1 ∷ 3 ∷ 1 ∷ 3 ∷ []) ∷
    (2 ∷ 3 ∷ 1 ∷ 1 ∷ 1 ∷ 3 ∷ []) ∷
    (2 ∷ 3 ∷ 1 ∷ 3 ∷ 1 ∷ 1 ∷ []) ∷
    (1 ∷ 1 ∷ 2 ∷ 1 ∷ 3 ∷ 3 ∷ []) ∷
    (1 ∷ 1 ∷ 2 ∷ 3 ∷ 3 ∷ 1 ∷ []) ∷
    (1 ∷ 3 ∷ 2 ∷ 1 ∷ 3 ∷ 1 ∷ []) ∷
    (1 ∷ 1 ∷ 3 ∷ 1 ∷ 2 ∷ 3 ∷ []) ∷
    (1 ∷ 1 ∷ 3 ∷ 3 ∷ 2 ∷ 1 ∷ []) ∷
    (1 ∷ 3 ∷ 3 ∷ 1 ∷ 2 ∷ 1 ∷ []) ∷
    (3 ∷ 1 ∷ 3 ∷ 1 ∷ 2 ∷ 1 ∷ []) ∷
    (2 ∷ 1 ∷ 1 ∷ 3 ∷ 3 ∷ 1 ∷ []) ∷
    (2 ∷ 3 ∷ 1 ∷ 1 ∷ 3 ∷ 1 ∷ []) ∷
    (2 ∷ 1 ∷ 3 ∷ 1 ∷ 1 ∷ 3 ∷ []) ∷
    (2 ∷ 1 ∷ 3 ∷ 3 ∷ 1 ∷ 1 ∷ []) ∷
    (2 ∷ 1 ∷ 3 ∷ 1 ∷ 3 ∷ 1 ∷ []) ∷
    (3 ∷ 1 ∷ 1 ∷ 1 ∷ 2 ∷ 3 ∷ []) ∷
    (3 ∷ 1 ∷ 1 ∷ 3 ∷ 2 ∷ 1 ∷ []) ∷
    (3 ∷ 3 ∷ 1 ∷ 1 ∷ 2 ∷ 1 ∷ []) ∷
    (3 ∷ 1 ∷ 2 ∷ 1 ∷ 1 ∷ 3 ∷ []) ∷
    (3 ∷ 1 ∷ 2 ∷ 3 ∷ 1 ∷ 1 ∷ []) ∷
    (3 ∷ 3 ∷ 2 ∷ 1 ∷ 1 ∷ 1 ∷ []) ∷
    (3 ∷ 1 ∷ 4 ∷ 1 ∷ 1 ∷ 1 ∷ []) ∷
    (2 ∷ 2 ∷ 1 ∷ 4 ∷ 1 ∷ 1 ∷ []) ∷
    (4 ∷ 3 ∷ 1 ∷ 1 ∷ 1 ∷ 1 ∷ []) ∷
    (1 ∷ 1 ∷ 1 ∷ 2 ∷ 2 ∷ 4 ∷ []) ∷
    (1 ∷ 1 ∷ 1 ∷ 4 ∷ 2 ∷ 2 ∷ []) ∷
    (1 ∷ 2 ∷ 1 ∷ 1 ∷ 2 ∷ 4 ∷ []) ∷
    (1 ∷ 2 ∷ 1 ∷ 4 ∷ 2 ∷ 1 ∷ []) ∷
    (1 ∷ 4 ∷ 1 ∷ 1 ∷ 2 ∷ 2 ∷ []) ∷
    (1 ∷ 4 ∷ 1 ∷ 2 ∷ 2 ∷ 1 ∷ []) ∷
    (1 ∷ 1 ∷ 2 ∷ 2 ∷ 1 ∷ 4 ∷ []) ∷
    (1 ∷ 1 ∷ 2 ∷ 4 ∷ 1 ∷ 2 ∷ []) ∷
    (1 ∷ 2 ∷ 2 ∷ 1 ∷ 1 ∷ 4 ∷ []) ∷
    (1 ∷ 2 ∷ 2 ∷ 4 ∷ 1 ∷ 1 ∷ []) ∷
    (1 ∷ 4 ∷ 2 ∷ 1 ∷ 1 ∷ 2 ∷ []) ∷
    (1 ∷ 4 ∷ 2 ∷ 2 ∷ 1 ∷ 1 ∷ []) ∷
    (2 ∷ 4 ∷ 1 ∷ 2 ∷ 1 ∷ 1 ∷ []) ∷
    (2 ∷ 2 ∷ 1 ∷ 1 ∷ 1 ∷ 4 ∷ []) ∷
    (4 ∷ 1 ∷ 3 ∷ 1 ∷ 1 ∷ 1 ∷ []) ∷
    (2 ∷ 4 ∷ 1 ∷ 1 ∷ 1 ∷ 2 ∷ []) ∷
    (1 ∷ 3 ∷ 4 ∷ 1 ∷ 1 ∷ 1 ∷ []) ∷
    (1 ∷ 1 ∷ 1 ∷ 2 ∷ 4 ∷ 2 ∷ []) ∷
    (1 ∷ 2 ∷ 1 ∷ 1 ∷ 4 ∷ 2 ∷ []) ∷
    (1 ∷ 2 ∷ 1 ∷ 2 ∷ 4 ∷ 1 ∷ []) ∷
    (1 ∷ 1 ∷ 4 ∷ 2 ∷ 1 ∷ 2 ∷ []) ∷
    (1 ∷ 2 ∷ 4 ∷ 1 ∷ 1 ∷ 2 ∷ []) ∷
    (1 ∷ 2 ∷ 4 ∷ 2 ∷ 1 ∷ 1 ∷ []) ∷
    (4 ∷ 1 ∷ 1 ∷ 2 ∷ 1 ∷ 2 ∷ []) ∷
    (4 ∷ 2 ∷ 1 ∷ 1 ∷ 1 ∷ 2 ∷ []) ∷
    (4 ∷ 2 ∷ 1 ∷ 2 ∷ 1 ∷ 1 ∷ []) ∷
    (2 ∷ 1 ∷ 2 ∷ 1 ∷ 4 ∷ 1 ∷ []) ∷
    (2 ∷ 1 ∷ 4 ∷ 1 ∷ 2 ∷ 1 ∷ []) ∷
    (4 ∷ 1 ∷ 2 ∷ 1 ∷ 2 ∷ 1 ∷ []) ∷
    (1 ∷ 1 ∷ 1 ∷ 1 ∷ 4 ∷ 3 ∷ []) ∷
    (1 ∷ 1 ∷ 1 ∷ 3 ∷ 4 ∷ 1 ∷ []) ∷
    (1 ∷ 3 ∷ 1 ∷ 1 ∷ 4 ∷ 1 ∷ []) ∷
    (1 ∷ 1 ∷ 4 ∷ 1 ∷ 1 ∷ 3 ∷ []) ∷
    (1 ∷ 1 ∷ 4 ∷ 3 ∷ 1 ∷ 1 ∷ []) ∷
    (4 ∷ 1 ∷ 1 ∷ 1 ∷ 1 ∷ 3 ∷ []) ∷
    (4 ∷ 1 ∷ 1 ∷ 3 ∷ 1 ∷ 1 ∷ []) ∷
    (1 ∷ 1 ∷ 3 ∷ 1 ∷ 4 ∷ 1 ∷ []) ∷
    (1 ∷ 1 ∷ 4 ∷ 1 ∷ 3 ∷ 1 ∷ []) ∷
    (3 ∷ 1 ∷ 1 ∷ 1 ∷ 4 ∷ 1 ∷ []) ∷
    (4 ∷ 1 ∷ 1 ∷ 1 ∷ 3 ∷ 1 ∷ []) ∷
    (2 ∷ 1 ∷ 1 ∷ 4 ∷ 1 ∷ 2 ∷ []) ∷
    (2 ∷ 1 ∷ 1 ∷ 2 ∷ 1 ∷ 4 ∷ []) ∷
    (2 ∷ 1 ∷ 1 ∷ 2 ∷ 3 ∷ 2 ∷ []) ∷
    (2 ∷ 3 ∷ 3 ∷ 1 ∷ 1 ∷ 1 ∷ []) ∷ []

-- The characters by their values. 103 to 105 start the barcode in set A, B and C; 106 is the stop character without its
-- last bar.
unfoldable pub code128_table : List (ℕ × List ℕ)
code128_table = numbered 0 code128_rows
