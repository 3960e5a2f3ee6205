-- What it means that lines are those of a wrapped text: the law `one_wrapping` says that `wrap` gives them, and that there are no
-- others.
use Rattle.std.specs.Prelude.{ℕ, ◌≡◌, ◌≢◌, ◌-◌, ◌≤◌, ◌<◌, ◌⊎◌, List, [], ◌∷◌, length, take, drop, slice_index}

-- All of the text is one line.
pub record IsWhole (columns : ℕ) (text : List ℕ) (end next : ℕ) : Type 0 where
  pub fits : length text ≤ columns
  pub to_end : end ≡ length text
  pub nothing_left : next ≡ length text

-- The line is broken at blanks, which aren't printed: all that stand there. It can't be broken later, since the next word wouldn't
-- be whole on it.
pub record IsBrokenAtBlanks (columns : ℕ) (text : List ℕ) (end next : ℕ) : Type 0 where
  pub too_long : columns < length text
  pub narrow : end ≤ columns
  pub some : end < next
  pub in_text : next ≤ length text
  pub blanks : (k : ℕ) → end ≤ k → k < next → slice_index text k ≡ 0x20
  pub word_before : 0 < end → slice_index text (end - 1) ≢ 0x20
  pub word_after : next < length text → slice_index text next ≢ 0x20
  pub no_later : (k : ℕ) → next ≤ k → k ≤ columns → slice_index text k ≢ 0x20

-- The line begins with a word that is longer than it, and is cut after a whole line.
pub record IsCutInWord (columns : ℕ) (text : List ℕ) (end next : ℕ) : Type 0 where
  pub too_long : columns < length text
  pub one_word : (k : ℕ) → k ≤ columns → slice_index text k ≢ 0x20
  pub whole_line : end ≡ columns
  pub goes_on : next ≡ columns

-- The first line of a text ends at `end`, and the next begins at `next`.
abbrev pub IsLineBreak : ℕ → List ℕ → ℕ → ℕ → Type 0
IsLineBreak columns text end next = IsWhole columns text end next ⊎ (IsBrokenAtBlanks columns text end next ⊎ IsCutInWord columns text end next)

-- The lines of a text: its first, and those of the rest if there is a rest.
abbrev pub IsWrapped : ℕ → List ℕ → List (List ℕ) → Type 0
IsWrapped columns text [] = ⊥
IsWrapped columns text (line ∷ lines) =
    (end : ℕ) × (next : ℕ) × IsLineBreak columns text end next × (line ≡ take end text)
    × (((length text ≤ next) × (lines ≡ [])) ⊎ ((next < length text) × IsWrapped columns (drop next text) lines))
