-- How lines have texts at their beginning and at their end.
use Rattle.std.specs.Prelude.{ℕ, suc, ◌≡◌, ◌≢◌, ◌+◌, ◌≤◌, ◌⊎◌, List, [], ◌∷◌, ◌++◌, length}
use Rattle.std.specs.List.{AllByRecursion}
use Rattle.escpos_layout.specs.Layouts.{blanks}

-- Lines of at most so many characters.
abbrev pub AreNarrow : ℕ → List (List ℕ) → Type 0
AreNarrow columns lines = AllByRecursion (λ line. length line ≤ columns) lines

-- A line that begins with a text, and one of exactly so many characters that ends with one.
abbrev pub BeginsWith : List ℕ → List ℕ → Type 0
BeginsWith text line = (rest : List ℕ) × (line ≡ text ++ rest)

abbrev pub EndsWith : ℕ → List ℕ → List ℕ → Type 0
EndsWith columns text line = (length line ≡ columns) × (rest : List ℕ) × (line ≡ rest ++ text)

-- One line for each of these texts, which begins with it.
abbrev pub BeginWith : List (List ℕ) → List (List ℕ) → Type 0
BeginWith [] [] = Unit {0}
BeginWith [] (line ∷ lines) = ⊥
BeginWith (text ∷ texts) [] = ⊥
BeginWith (text ∷ texts) (line ∷ lines) = BeginsWith text line × BeginWith texts lines

-- One line for each of these texts; unless the text is empty, the line is full and ends with it.
abbrev pub EndWith : ℕ → List (List ℕ) → List (List ℕ) → Type 0
EndWith columns [] [] = Unit {0}
EndWith columns [] (line ∷ lines) = ⊥
EndWith columns (text ∷ texts) [] = ⊥
EndWith columns (text ∷ texts) (line ∷ lines) = (text ≢ [] → EndsWith columns text line) × EndWith columns texts lines

-- Two texts on one line don't touch, unless one of them is empty.
abbrev pub StandApart : List ℕ → List ℕ → List ℕ → Type 0
StandApart left right line = left ≢ [] → right ≢ [] → (n : ℕ) × (line ≡ left ++ (blanks (suc n) ++ right))

-- One line has the last text on the left and the first on the right; each other line has one text.
pub record ShareLine (lefts rights lines : List (List ℕ)) : Type 0 where
  pub above : List (List ℕ)
  pub left : List ℕ
  pub is_last : lefts ≡ above ++ left ∷ []
  pub right : List ℕ
  pub below : List (List ℕ)
  pub is_first : rights ≡ right ∷ below
  pub line : List ℕ
  pub others : List (List ℕ)
  pub is_shared : lines ≡ above ++ line ∷ others
  pub count : length others ≡ length below
  pub apart : StandApart left right line

-- The first lines begin with those on the left, the last lines end with those on the right, and at most one of them has both.
pub record HasSides (columns : ℕ) (lefts rights lines : List (List ℕ)) : Type 0 where
  pub first : List (List ℕ)
  pub after : List (List ℕ)
  pub left : lines ≡ first ++ after
  pub begin : BeginWith lefts first
  pub before : List (List ℕ)
  pub last : List (List ℕ)
  pub right : lines ≡ before ++ last
  pub end : EndWith columns rights last
  pub shared : (length lines ≡ length lefts + length rights) ⊎ ShareLine lefts rights lines
