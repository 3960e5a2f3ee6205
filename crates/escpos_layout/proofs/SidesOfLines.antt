-- How long the lines of each layout are, and where the texts of a pair stand.
use Rattle.std.proofs.Common.{◌≡◌, ◌≢◌, ℕ, ◌+◌, ◌-◌, ◌≤◌, inl, inr, zero, suc, Bool, true, false, cond, List, [], ◌∷◌, ◌++◌, length, take, drop, map, length-append, refl, sym, ap, ◌∙◌, append-nil, append_assoc, arith}
use Rattle.std.proofs.lemmas.Bool.{leb-true}
use Rattle.std.proofs.lemmas.List.{length-replicate, length-take}
use Rattle.std.proofs.lemmas.List.Sums.{sum_by-cons}
use Rattle.escpos_layout.specs.declared.row.Field.{Field}
use Rattle.escpos_layout.specs.declared.row.Side.{Side}
use Rattle.escpos_layout.specs.declared.row.Side.TheVariants.{Left, Right}
use Rattle.escpos_layout.specs.Layouts.{blanks, between, alone, fit_together, joined_lines, pair, with_blanks, field_text, row, row_width}
use Rattle.escpos_layout.specs.Sides.{AreNarrow, BeginsWith, EndsWith, EndWith, StandApart, ShareLine, HasSides}
use Rattle.escpos_layout.specs.Wrapping.{line_end, next_line, lines_within, wrap}
use Rattle.escpos_layout.proofs.Breaks.{line_end-most}

-- ## Wrapped texts

first_narrow : (columns : ℕ) (text : List ℕ) → length (take (line_end columns text) text) ≤ columns
first_narrow columns text = omega (arith, line_end-most columns text, length-take (line_end columns text) text)

within_narrow : (most columns : ℕ) (text : List ℕ) → AreNarrow columns (lines_within most columns text)
within_narrow most columns [] = tt
within_narrow zero columns (c ∷ cs) = tt
within_narrow (suc most) columns (c ∷ cs) = (first_narrow columns (c ∷ cs), within_narrow most columns (drop (next_line columns (c ∷ cs)) (c ∷ cs)))

pub wrap_narrow : (columns : ℕ) (text : List ℕ) → AreNarrow columns (wrap columns text)
unfolding wrap
wrap_narrow columns text = (first_narrow columns text, within_narrow (length text) columns (drop (next_line columns text) text))

-- ## Lines with text at both ends

-- If they fit, such a line is full.
pub between_full : (columns : ℕ) (left right : List ℕ) → right ≢ [] → length left + length right ≤ columns → length (between columns left right) ≡ columns
between_full columns left [] some fit = absurd (some refl)
between_full columns left (c ∷ cs) some fit =
    let n = columns - (length left + length (c ∷ cs)) in
    omega (arith, length-append (left ++ blanks n) (c ∷ cs), length-append left (blanks n), length-replicate {A = ℕ} n 0x20)

between_ends : (columns : ℕ) (left right : List ℕ) → length left + length right ≤ columns → right ≢ [] → EndsWith columns right (between columns left right)
between_ends columns left [] fit some = absurd (some refl)
between_ends columns left (c ∷ cs) fit some =
    (between_full columns left (c ∷ cs) some fit, left ++ blanks (columns - (length left + length (c ∷ cs))), refl)

between_begins : (columns : ℕ) (left right : List ℕ) → BeginsWith left (between columns left right)
between_begins columns left [] = ([], sym (append-nil left))
between_begins columns left (c ∷ cs) =
    let n = columns - (length left + length (c ∷ cs)) in (blanks n ++ c ∷ cs, append_assoc left (blanks n) (c ∷ cs))

between_narrow : (columns : ℕ) (left right : List ℕ) → length left ≤ columns → (right ≢ [] → length left + length right ≤ columns)
    → length (between columns left right) ≤ columns
between_narrow columns left [] narrow fit = narrow
between_narrow columns left (c ∷ cs) narrow fit = omega (arith, between_full columns left (c ∷ cs) (λ e. absurd cc) (fit (λ e. absurd cc)))

-- What it means that they fit.
fit_means : (columns : ℕ) (left right : List ℕ) → length left ≤ columns → length right ≤ columns → fit_together columns left right ≡ true → length left + length right ≤ columns
fit_means columns [] right h k fit = omega arith
fit_means columns (c ∷ cs) [] h k fit = omega arith
fit_means columns (c ∷ cs) (d ∷ ds) h k fit = omega (arith, leb-true _ _ fit)

-- They don't touch.
stand_apart : (columns : ℕ) (left right : List ℕ) → fit_together columns left right ≡ true → StandApart left right (between columns left right)
stand_apart columns [] right fit some other = absurd (some refl)
stand_apart columns (c ∷ cs) [] fit some other = absurd (other refl)
stand_apart columns (c ∷ cs) (d ∷ ds) fit some other =
    let left : List ℕ = c ∷ cs in
    let right : List ℕ = d ∷ ds in
    let n = columns - (length left + length right) in
    let more : suc (n - 1) ≡ n = omega (arith, leb-true _ _ fit) in
    (n - 1, append_assoc left (blanks n) right ∙ ap (λ k. left ++ (blanks k ++ right)) (sym more))

-- Lines on the right.
rights_narrow : (columns : ℕ) (rights : List (List ℕ)) → AreNarrow columns rights → AreNarrow columns (map (alone Right columns) rights)
rights_narrow columns [] h = tt
rights_narrow columns (right ∷ rights) h = (between_narrow columns [] right (omega arith) (λ some. omega (arith, h.0)), rights_narrow columns rights h.1)

rights_end : (columns : ℕ) (rights : List (List ℕ)) → AreNarrow columns rights → EndWith columns rights (map (alone Right columns) rights)
rights_end columns [] h = tt
rights_end columns (right ∷ rights) h = (between_ends columns [] right (omega (arith, h.0)), rights_end columns rights h.1)

rights_count : (columns : ℕ) (rights : List (List ℕ)) → length (map (alone Right columns) rights) ≡ length rights
rights_count columns [] = refl
rights_count columns (right ∷ rights) = ap suc (rights_count columns rights)

-- ## Pairs

-- The last line on the left, and the lines on the right.
abbrev last_lines : ℕ → List ℕ → List ℕ → List (List ℕ) → Bool → List (List ℕ)
last_lines columns left right rights fit = cond fit (between columns left right ∷ []) (left ∷ between columns [] right ∷ []) ++ map (alone Right columns) rights

last_narrow : (columns : ℕ) (left right : List ℕ) (rights : List (List ℕ)) (fit : Bool) → length left ≤ columns → length right ≤ columns → AreNarrow columns rights
    → fit_together columns left right ≡ fit → AreNarrow columns (last_lines columns left right rights fit)
last_narrow columns left right rights true h k narrow is =
    (between_narrow columns left right h (λ some. fit_means columns left right h k is), rights_narrow columns rights narrow)
last_narrow columns left right rights false h k narrow is =
    (h, (between_narrow columns [] right (omega arith) (λ some. omega arith), rights_narrow columns rights narrow))

last_sides : (columns : ℕ) (left right : List ℕ) (rights : List (List ℕ)) (fit : Bool) → length left ≤ columns → length right ≤ columns → AreNarrow columns rights
    → fit_together columns left right ≡ fit → HasSides columns (left ∷ []) (right ∷ rights) (last_lines columns left right rights fit)
last_sides columns left right rights true h k narrow is = record {
  first = between columns left right ∷ [];
  after = map (alone Right columns) rights;
  left = refl;
  begin = (between_begins columns left right, tt);
  before = [];
  last = between columns left right ∷ map (alone Right columns) rights;
  right = refl;
  end = (between_ends columns left right (fit_means columns left right h k is), rights_end columns rights narrow);
  shared = inr (record {
    above = [];
    left = left;
    is_last = refl;
    right = right;
    below = rights;
    is_first = refl;
    line = between columns left right;
    others = map (alone Right columns) rights;
    is_shared = refl;
    count = rights_count columns rights;
    apart = stand_apart columns left right is;
  });
}
last_sides columns left right rights false h k narrow is = record {
  first = left ∷ [];
  after = between columns [] right ∷ map (alone Right columns) rights;
  left = refl;
  begin = (([], sym (append-nil left)), tt);
  before = left ∷ [];
  last = between columns [] right ∷ map (alone Right columns) rights;
  right = refl;
  end = (between_ends columns [] right (omega arith), rights_end columns rights narrow);
  shared = inl (omega (arith, rights_count columns rights));
}

joined_narrow : (columns : ℕ) (lefts rights : List (List ℕ)) → AreNarrow columns lefts → AreNarrow columns rights → AreNarrow columns (joined_lines columns lefts rights)
joined_narrow columns [] rights h k = rights_narrow columns rights k
joined_narrow columns (left ∷ []) [] h k = h
joined_narrow columns (left ∷ []) (right ∷ rights) h k = last_narrow columns left right rights (fit_together columns left right) h.0 k.0 k.1 refl
joined_narrow columns (left ∷ next ∷ lefts) rights h k = (h.0, joined_narrow columns (next ∷ lefts) rights h.1 k)

-- One more line on the left.
share_below : (left : List ℕ) (lefts rights lines : List (List ℕ)) → ShareLine lefts rights lines → ShareLine (left ∷ lefts) rights (left ∷ lines)
share_below left lefts rights lines s = record {
  above = left ∷ s.above;
  left = s.left;
  is_last = ap (λ xs. left ∷ xs) s.is_last;
  right = s.right;
  below = s.below;
  is_first = s.is_first;
  line = s.line;
  others = s.others;
  is_shared = ap (λ xs. left ∷ xs) s.is_shared;
  count = s.count;
  apart = s.apart;
}

line_above : (columns : ℕ) (left : List ℕ) (lefts rights lines : List (List ℕ)) → HasSides columns lefts rights lines → HasSides columns (left ∷ lefts) rights (left ∷ lines)
line_above columns left lefts rights lines s = record {
  first = left ∷ s.first;
  after = s.after;
  left = ap (λ xs. left ∷ xs) s.left;
  begin = (([], sym (append-nil left)), s.begin);
  before = left ∷ s.before;
  last = s.last;
  right = ap (λ xs. left ∷ xs) s.right;
  end = s.end;
  shared = elim (s.shared) [ inl apart ↦ inl (omega (arith, apart)) | inr one ↦ inr (share_below left lefts rights lines one) ];
}

joined_sides : (columns : ℕ) (left : List ℕ) (lefts : List (List ℕ)) (right : List ℕ) (rights : List (List ℕ)) → AreNarrow columns (left ∷ lefts) → AreNarrow columns (right ∷ rights)
    → HasSides columns (left ∷ lefts) (right ∷ rights) (joined_lines columns (left ∷ lefts) (right ∷ rights))
joined_sides columns left [] right rights h k = last_sides columns left right rights (fit_together columns left right) h.0 k.0 k.1 refl
joined_sides columns left (next ∷ lefts) right rights h k =
    line_above columns left (next ∷ lefts) (right ∷ rights) (joined_lines columns (next ∷ lefts) (right ∷ rights)) (joined_sides columns next lefts right rights h.1 k)

pub pair_narrow : (columns : ℕ) (left right : List ℕ) → AreNarrow columns (pair columns left right)
unfolding pair
pair_narrow columns left right = joined_narrow columns (wrap columns left) (wrap columns right) (wrap_narrow columns left) (wrap_narrow columns right)

pub pair_sides : (columns : ℕ) (left right : List ℕ) → HasSides columns (wrap columns left) (wrap columns right) (pair columns left right)
unfolding pair wrap
pair_sides columns left right =
    joined_sides columns (take (line_end columns left) left) (lines_within (length left) columns (drop (next_line columns left) left))
    (take (line_end columns right) right) (lines_within (length right) columns (drop (next_line columns right) right))
    (wrap_narrow columns left) (wrap_narrow columns right)

-- ## Rows

field_full : (field : Field) → length (field_text field) ≡ field.width
field_full field = go (field.side) where
  go : (side : Side) → length (with_blanks side (field.width - length (take field.width field.text)) (take field.width field.text)) ≡ field.width
  go Left =
      let n = field.width - length (take field.width field.text) in
      omega (arith, length-append (take field.width field.text) (blanks n), length-replicate {A = ℕ} n 0x20, length-take field.width field.text)
  go Right =
      let n = field.width - length (take field.width field.text) in
      omega (arith, length-append (blanks n) (take field.width field.text), length-replicate {A = ℕ} n 0x20, length-take field.width field.text)

pub row_full : (fields : List Field) → length (row fields) ≡ row_width fields
row_full [] = refl
row_full (field ∷ fields) =
    omega (arith, length-append (field_text field) (row fields), field_full field, row_full fields, sum_by-cons (λ (f : Field). f.width) field fields)
