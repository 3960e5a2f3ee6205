-- Where a text is broken into lines.
use Rattle.std.proofs.Common.{◌≡◌, ◌≢◌, inl, inr, ℕ, ◌+◌, ◌-◌, ◌≤◌, ◌<◌, zero, suc, Bool, true, false, cond, not, List, [], ◌∷◌, length, get_or, take, drop, refl, sym, ap, subst, ◌∙◌, arith}
use Rattle.std.specs.List.{prefix_len, suffix_len}
use Rattle.std.proofs.lemmas.Bool.{le-leb, lt-leb, cases_lt}
use Rattle.std.proofs.lemmas.List.{length-drop, drop_all}
use Rattle.std.proofs.lemmas.List.Sums.{prefix_len-le-length, prefix_len-drop_yes, suffix_len-take_yes, suffix_len-take_no}
use Rattle.escpos_layout.specs.Wrapping.{is_blank, is_blank_or_not, end_without, end_before_word, line_end, next_line, lines_within, wrap}

-- ## The end of a line

pub line_end-whole : (columns : ℕ) (text : List ℕ) → length text ≤ columns → line_end columns text ≡ length text
unfolding line_end
line_end-whole columns text h =
    ap (λ b. cond b (length text) (end_before_word columns text (end_without false (columns + 1) text))) (le-leb _ _ h)

pub line_end-broken : (columns : ℕ) (text : List ℕ) → columns < length text → line_end columns text ≡ end_before_word columns text (end_without false (columns + 1) text)
unfolding line_end
line_end-broken columns text h =
    ap (λ b. cond b (length text) (end_before_word columns text (end_without false (columns + 1) text))) (lt-leb _ _ h)

pub end-cut : (columns words : ℕ) (text : List ℕ) → words ≡ 0 → end_before_word columns text words ≡ columns
end-cut columns zero text h = refl
end-cut columns (suc n) text h = absurd (omega arith)

pub end-blank : (columns words : ℕ) (text : List ℕ) → words ≢ 0 → end_before_word columns text words ≡ end_without true words text
end-blank columns zero text h = absurd (h refl)
end-blank columns (suc n) text h = refl

-- One character of the kind is left out.
pub end-one : (blanks : Bool) (text : List ℕ) (n : ℕ) → n < length text → is_blank_or_not blanks (get_or text n 0) ≡ true → end_without blanks (suc n) text ≡ end_without blanks n text
end-one blanks text n h is =
    let same : suc n - 1 ≡ n = omega arith in
    let more = suffix_len-take_yes (is_blank_or_not blanks) text (suc n) 0 (omega arith) (omega arith) (subst (λ i. is_blank_or_not blanks (get_or text i 0) ≡ true) (sym same) is) in
    let again : suffix_len (is_blank_or_not blanks) (take (suc n) text) ≡ 1 + suffix_len (is_blank_or_not blanks) (take n text) =
    subst (λ i. suffix_len (is_blank_or_not blanks) (take (suc n) text) ≡ 1 + suffix_len (is_blank_or_not blanks) (take i text)) same more in
    omega (arith, again)

-- None is.
pub end-none : (blanks : Bool) (text : List ℕ) (n : ℕ) → n < length text → is_blank_or_not blanks (get_or text n 0) ≡ false → end_without blanks (suc n) text ≡ suc n
end-none blanks text n h is =
    let same : suc n - 1 ≡ n = omega arith in
    let none = suffix_len-take_no (is_blank_or_not blanks) text (suc n) 0 (omega arith) (omega arith) (subst (λ i. is_blank_or_not blanks (get_or text i 0) ≡ false) (sym same) is) in
    omega (arith, none)

-- The character before the end isn't of the kind.
pub stops : (blanks : Bool) (text : List ℕ) (m n : ℕ) → m ≤ length text → end_without blanks m text ≡ suc n → is_blank_or_not blanks (get_or text n 0) ≡ false
stops blanks text zero n h e = absurd (omega (arith, e))
stops blanks text (suc m) n h e = go (is_blank_or_not blanks (get_or text m 0)) refl (stops blanks text m n (omega arith)) where
  go : (b : Bool) → is_blank_or_not blanks (get_or text m 0) ≡ b → (end_without blanks m text ≡ suc n → is_blank_or_not blanks (get_or text n 0) ≡ false)
      → is_blank_or_not blanks (get_or text n 0) ≡ false
  go true is before = before (sym (end-one blanks text m (omega arith) is) ∙ e)
  go false is before =
      let same : n ≡ m = omega (arith, end-none blanks text m (omega arith) is, e) in
      subst (λ i. is_blank_or_not blanks (get_or text i 0) ≡ false) (sym same) is

-- If all characters are of the kind, so is the first.
all_of_kind : (blanks : Bool) (text : List ℕ) (m : ℕ) → 0 < m → m ≤ length text → end_without blanks m text ≡ 0 → is_blank_or_not blanks (get_or text 0 0) ≡ true
all_of_kind blanks text zero some h e = absurd (omega arith)
all_of_kind blanks text (suc m) some h e = go m h e (is_blank_or_not blanks (get_or text m 0)) refl (λ more. all_of_kind blanks text m more (omega arith)) where
  go : (m : ℕ) → suc m ≤ length text → end_without blanks (suc m) text ≡ 0 → (b : Bool) → is_blank_or_not blanks (get_or text m 0) ≡ b
      → (0 < m → end_without blanks m text ≡ 0 → is_blank_or_not blanks (get_or text 0 0) ≡ true) → is_blank_or_not blanks (get_or text 0 0) ≡ true
  go m h e false is before = absurd (omega (arith, end-none blanks text m (omega arith) is, e))
  go zero h e true is before = is
  go (suc k) h e true is before = before (omega arith) (sym (end-one blanks text (suc k) (omega arith) is) ∙ e)

pub is_one : (c : ℕ) → is_blank_or_not false c ≡ false → is_blank c ≡ true
is_one c h = go (is_blank c) h where
  go : (b : Bool) → not b ≡ false → b ≡ true
  go true e = refl
  go false e = absurd cc

pub end-le : (blanks : Bool) (n : ℕ) (text : List ℕ) → end_without blanks n text ≤ n
end-le blanks n text = omega arith

-- A line is no longer than it may be.
broken-le : (columns : ℕ) (text : List ℕ) (words : ℕ) → columns < length text → end_without false (columns + 1) text ≡ words → end_before_word columns text words ≤ columns
broken-le columns text zero h e = omega arith
broken-le columns text (suc n) h e =
    let blank = is_one (get_or text n 0) (stops false text (columns + 1) n (omega arith) e) in
    let most = end-le false (columns + 1) text in
    let shorter = end-one true text n (omega (arith, e, most)) blank in
    omega (arith, shorter, e, most, end-le true n text)

pub line_end-le : (columns : ℕ) (text : List ℕ) → columns < length text → line_end columns text ≤ columns
line_end-le columns text h =
    omega (arith, line_end-broken columns text h, broken-le columns text (end_without false (columns + 1) text) h refl)

pub line_end-within : (columns : ℕ) (text : List ℕ) → line_end columns text ≤ length text
line_end-within columns text = elim (cases_lt columns (length text)) [
  | inl more ↦ omega (arith, line_end-le columns text more)
  | inr whole ↦ omega (arith, line_end-whole columns text whole)
]

pub line_end-most : (columns : ℕ) (text : List ℕ) → line_end columns text ≤ columns
line_end-most columns text = elim (cases_lt columns (length text)) [
  | inl more ↦ line_end-le columns text more
  | inr whole ↦ omega (arith, line_end-whole columns text whole)
]

-- ## Where the next line begins

pub next_line-is : (columns : ℕ) (text : List ℕ) → next_line columns text ≡ line_end columns text + prefix_len is_blank (drop (line_end columns text) text)
unfolding next_line
next_line-is columns text = refl

pub next_line-within : (columns : ℕ) (text : List ℕ) → next_line columns text ≤ length text
next_line-within columns text =
    omega (
      arith,
      next_line-is columns text,
      prefix_len-le-length is_blank (drop (line_end columns text) text),
      length-drop (line_end columns text) text,
      line_end-within columns text,
    )

-- If a line has no character, blanks begin the text.
broken-goes_on : (columns : ℕ) (text : List ℕ) (words : ℕ) → 1 ≤ columns → columns < length text → end_without false (columns + 1) text ≡ words
    → end_before_word columns text words ≡ 0 → is_blank (get_or text 0 0) ≡ true
broken-goes_on columns text zero some h e none = absurd (omega arith)
broken-goes_on columns text (suc n) some h e none =
    all_of_kind true text (suc n) (omega arith) (omega (arith, e, end-le false (columns + 1) text)) none

begins_blank : (columns : ℕ) (text : List ℕ) → 1 ≤ columns → 0 < length text → line_end columns text ≡ 0 → is_blank (get_or text 0 0) ≡ true
begins_blank columns text some h none = elim (cases_lt columns (length text)) [
  | inl more ↦ broken-goes_on columns text (end_without false (columns + 1) text) some more refl (sym (line_end-broken columns text more) ∙ none)
  | inr whole ↦ absurd (omega (arith, line_end-whole columns text whole))
]

-- So the next line begins later.
pub next_line-later : (columns : ℕ) (text : List ℕ) → 1 ≤ columns → 0 < length text → 0 < next_line columns text
next_line-later columns text some h = go (line_end columns text) refl where
  go : (n : ℕ) → line_end columns text ≡ n → 0 < next_line columns text
  go (suc n) e = omega (arith, next_line-is columns text, e)
  go zero e =
      let one = prefix_len-drop_yes is_blank text 0 0 h (begins_blank columns text some h e) in
      let at : prefix_len is_blank (drop (line_end columns text) text) ≡ prefix_len is_blank (drop 0 text) = ap (λ n. prefix_len is_blank (drop n text)) e in
      omega (arith, next_line-is columns text, at, one)

-- ## The lines

enough : (m n columns : ℕ) (text : List ℕ) → 1 ≤ columns → length text ≤ m → length text ≤ n → lines_within m columns text ≡ lines_within n columns text
enough m n columns [] some h k = refl
enough zero n columns (c ∷ cs) some h k = absurd (omega arith)
enough (suc m) zero columns (c ∷ cs) some h k = absurd (omega arith)
enough (suc m) (suc n) columns (c ∷ cs) some h k =
    let later = next_line-later columns (c ∷ cs) some (omega arith) in
    let shorter = length-drop (next_line columns (c ∷ cs)) (c ∷ cs) in
    ap (λ rest. take (line_end columns (c ∷ cs)) (c ∷ cs) ∷ rest)
    (enough m n columns (drop (next_line columns (c ∷ cs)) (c ∷ cs)) some (omega (arith, later, shorter)) (omega (arith, later, shorter)))

are_wrapped : (most columns : ℕ) (text : List ℕ) → 1 ≤ columns → 0 < length text → length text ≤ most → lines_within most columns text ≡ wrap columns text
unfolding wrap
are_wrapped most columns [] some h k = absurd (omega arith)
are_wrapped zero columns (c ∷ cs) some h k = absurd (omega arith)
are_wrapped (suc most) columns (c ∷ cs) some h k =
    let later = next_line-later columns (c ∷ cs) some h in
    let shorter = length-drop (next_line columns (c ∷ cs)) (c ∷ cs) in
    ap (λ rest. take (line_end columns (c ∷ cs)) (c ∷ cs) ∷ rest)
    (enough most (length (c ∷ cs)) columns (drop (next_line columns (c ∷ cs)) (c ∷ cs)) some (omega (arith, later, shorter)) (omega (arith, later, shorter)))

-- The first line, and those of the rest.
pub wrap-more : (columns : ℕ) (text : List ℕ) → 1 ≤ columns → next_line columns text < length text
    → wrap columns text ≡ take (line_end columns text) text ∷ wrap columns (drop (next_line columns text) text)
unfolding wrap
wrap-more columns text some h =
    let shorter = length-drop (next_line columns text) text in
    ap (λ rest. take (line_end columns text) text ∷ rest)
    (are_wrapped (length text) columns (drop (next_line columns text) text) some (omega (arith, shorter)) (omega (arith, shorter)))

-- The only line.
pub wrap-last : (columns : ℕ) (text : List ℕ) → length text ≤ next_line columns text → wrap columns text ≡ take (line_end columns text) text ∷ []
unfolding wrap
wrap-last columns text h =
    ap (λ rest. take (line_end columns text) text ∷ lines_within (length text) columns rest) (drop_all (next_line columns text) text h)
