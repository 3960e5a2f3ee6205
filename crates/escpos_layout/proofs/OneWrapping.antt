-- A text is wrapped in one way.
use Rattle.std.proofs.Common.{◌≡◌, ◌≢◌, ℕ, ◌+◌, ◌-◌, ◌≤◌, ◌<◌, ◌⊎◌, inl, inr, zero, suc, Bool, true, false, not, List, [], ◌∷◌, length, get_or, take, drop, refl, sym, ap, subst, ◌∙◌, arith, eqb-true, eq-eqb}
use Rattle.std.specs.List.{prefix_len}
use Rattle.std.proofs.lemmas.Bool.{cases_lt}
use Rattle.std.proofs.lemmas.List.{get_or-take, get_or-drop, length-drop, length-take}
use Rattle.std.proofs.lemmas.List.Sums.{prefix_len_is, prefix_len_passes, prefix_len_stops, prefix_len-drop_no, suffix_len_is}
use Rattle.escpos_layout.specs.Wrapped.{IsWhole, IsBrokenAtBlanks, IsCutInWord, IsLineBreak, IsWrapped}
use Rattle.escpos_layout.specs.Wrapping.{is_blank, is_blank_or_not, end_without, end_before_word, line_end, next_line, wrap}
use Rattle.escpos_layout.proofs.BlankOrNot.{of_kind}
use Rattle.escpos_layout.proofs.Breaks.{line_end-whole, line_end-broken, end-cut, end-blank, end-one, end-none, end-le, stops, is_one, line_end-le, next_line-is, next_line-within, next_line-later, wrap-more, wrap-last}

-- ## Tests of blanks

blank_test : (c : ℕ) → c ≡ 0x20 → is_blank c ≡ true
blank_test c h = eq-eqb c 0x20 h

no_blank_test : (c : ℕ) → c ≢ 0x20 → is_blank c ≡ false
no_blank_test c h = go (is_blank c) refl where
  go : (b : Bool) → is_blank c ≡ b → b ≡ false
  go true e = absurd (h (eqb-true c 0x20 e))
  go false e = refl

from_blank : (c : ℕ) → is_blank c ≡ true → c ≡ 0x20
from_blank c h = eqb-true c 0x20 h

from_no_blank : (c : ℕ) → is_blank c ≡ false → c ≢ 0x20
from_no_blank c h e = let clash : false ≡ true = sym h ∙ eq-eqb c 0x20 e in absurd cc

not_of_word : (c : ℕ) → is_blank c ≡ true → is_blank_or_not false c ≡ false
not_of_word c h = ap not h

not_blank_is : (c : ℕ) → is_blank_or_not false c ≡ true → is_blank c ≡ false
not_blank_is c h = go (is_blank c) h where
  go : (b : Bool) → not b ≡ true → b ≡ false
  go true e = absurd cc
  go false e = refl

-- ## One break

-- Where characters of a kind begin that end a prefix.
end_is : (blanks : Bool) (text : List ℕ) (m n : ℕ) → n ≤ m → m ≤ length text → ((k : ℕ) → n ≤ k → k < m → is_blank_or_not blanks (get_or text k 0) ≡ true)
    → (0 < n → is_blank_or_not blanks (get_or text (n - 1) 0) ≡ false) → end_without blanks m text ≡ n
end_is blanks text m n h within all before =
    let p = is_blank_or_not blanks in
    let long : length (take m text) ≡ m = omega (arith, length-take m text) in
    let found = suffix_len_is p (take m text) n 0 (omega (arith, long))
    (λ k from below. ap p (get_or-take m text k 0 (omega (arith, long, below))) ∙ all k from (omega (arith, long, below)))
    (λ some. ap p (get_or-take m text (n - 1) 0 (omega (arith, some))) ∙ before some) in
    omega (arith, found, long)

-- The characters after it are of the kind.
after_end : (blanks : Bool) (text : List ℕ) (m k : ℕ) → m ≤ length text → end_without blanks m text ≤ k → k < m → is_blank_or_not blanks (get_or text k 0) ≡ true
after_end blanks text zero k h from below = absurd (omega arith)
after_end blanks text (suc m) k h from below = go (is_blank_or_not blanks (get_or text m 0)) refl (cases_lt k m) (after_end blanks text m k (omega arith)) where
  go : (b : Bool) → is_blank_or_not blanks (get_or text m 0) ≡ b → (k < m) ⊎ (m ≤ k)
      → (end_without blanks m text ≤ k → k < m → is_blank_or_not blanks (get_or text k 0) ≡ true) → is_blank_or_not blanks (get_or text k 0) ≡ true
  go false is which before = absurd (omega (arith, end-none blanks text m (omega arith) is, from, below))
  go true is (inl less) before = before (omega (arith, end-one blanks text m (omega arith) is, from)) less
  go true is (inr last) before = let same : k ≡ m = omega (arith, last, below) in subst (λ i. is_blank_or_not blanks (get_or text i 0) ≡ true) (sym same) is

-- The blanks from a place on.
blanks_are : (text : List ℕ) (end next : ℕ) → end ≤ next → next ≤ length text → ((k : ℕ) → end ≤ k → k < next → is_blank (get_or text k 0) ≡ true)
    → (next < length text → is_blank (get_or text next 0) ≡ false) → end + prefix_len is_blank (drop end text) ≡ next
blanks_are text end next h within all after =
    let left = length-drop end text in
    let at : end + (next - end) ≡ next = omega arith in
    let found = prefix_len_is is_blank (drop end text) (next - end) 0 (omega (arith, left))
    (λ k below. ap is_blank (get_or-drop end text k 0) ∙ all (end + k) (omega arith) (omega (arith, below)))
    (λ more. ap is_blank (get_or-drop end text (next - end) 0 ∙ ap (λ i. get_or text i 0) at) ∙ after (omega (arith, left, more))) in
    omega (arith, found)

-- The break that the definitions find.
record IsFound (columns : ℕ) (text : List ℕ) (end next : ℕ) : Type 0 where
  end_is : line_end columns text ≡ end
  next_is : next_line columns text ≡ next

whole_found : (columns : ℕ) (text : List ℕ) (end next : ℕ) → IsWhole columns text end next → IsFound columns text end next
whole_found columns text end next b =
    let found = line_end-whole columns text b.fits in
    record {
      end_is = found ∙ sym b.to_end;
      next_is = omega (arith, next_line-is columns text, next_line-within columns text, found, b.nothing_left);
    }

-- Where the last word begins, if blanks break the line.
words_are : (columns : ℕ) (text : List ℕ) (end next : ℕ) → IsBrokenAtBlanks columns text end next → (n : ℕ) → end < n → n ≤ next → n ≤ columns + 1
    → ((n ≡ next) ⊎ (n ≡ columns + 1)) → end_without false (columns + 1) text ≡ n
words_are columns text end next b n over under few which =
    end_is false text (columns + 1) n few (omega (arith, b.too_long))
    (λ k from below. elim which [
      | inl same ↦ of_kind false (get_or text k 0) (no_blank_test (get_or text k 0) (b.no_later k (omega (arith, same, from)) (omega (arith, below))))
      | inr full ↦ absurd (omega (arith, full, from, below))
    ])
    (λ some. not_of_word (get_or text (n - 1) 0) (blank_test (get_or text (n - 1) 0) (b.blanks (n - 1) (omega (arith, over)) (omega (arith, over, under)))))

broken_by : (columns : ℕ) (text : List ℕ) (end next : ℕ) → IsBrokenAtBlanks columns text end next → (n : ℕ) → end < n → n ≤ next → n ≤ columns + 1
    → ((n ≡ next) ⊎ (n ≡ columns + 1)) → line_end columns text ≡ end
broken_by columns text end next b n over under few which =
    line_end-broken columns text b.too_long
    ∙ ap (end_before_word columns text) (words_are columns text end next b n over under few which)
    ∙ end-blank columns n text (λ none. absurd (omega (arith, none, over)))
    ∙ end_is true text n end (omega (arith, over)) (omega (arith, under, b.in_text))
    (λ k from below. blank_test (get_or text k 0) (b.blanks k from (omega (arith, below, under))))
    (λ some. no_blank_test (get_or text (end - 1) 0) (b.word_before some))

broken_found : (columns : ℕ) (text : List ℕ) (end next : ℕ) → IsBrokenAtBlanks columns text end next → IsFound columns text end next
broken_found columns text end next b =
    let at : line_end columns text ≡ end = elim (cases_lt next (columns + 1)) [
      | inl inside ↦ broken_by columns text end next b next b.some (omega arith) (omega (arith, inside)) (inl refl)
      | inr over ↦ broken_by columns text end next b (columns + 1) (omega (arith, b.narrow)) over (omega arith) (inr refl)
    ] in
    record {
      end_is = at;
      next_is =
          next_line-is columns text ∙ ap (λ n. n + prefix_len is_blank (drop n text)) at
          ∙ blanks_are text end next (omega (arith, b.some)) b.in_text (λ k from below. blank_test (get_or text k 0) (b.blanks k from below))
          (λ more. no_blank_test (get_or text next 0) (b.word_after more));
    }

cut_found : (columns : ℕ) (text : List ℕ) (end next : ℕ) → IsCutInWord columns text end next → IsFound columns text end next
cut_found columns text end next b =
    let none = end_is false text (columns + 1) 0 (omega arith) (omega (arith, b.too_long))
    (λ k from below. of_kind false (get_or text k 0) (no_blank_test (get_or text k 0) (b.one_word k (omega (arith, below))))) (λ some. absurd (omega (arith, some))) in
    let at : line_end columns text ≡ columns = line_end-broken columns text b.too_long ∙ end-cut columns (end_without false (columns + 1) text) text none in
    let after = prefix_len-drop_no is_blank text columns 0 b.too_long (no_blank_test (get_or text columns 0) (b.one_word columns (omega arith))) in
    record {
      end_is = at ∙ sym b.whole_line;
      next_is =
          next_line-is columns text ∙ ap (λ n. n + prefix_len is_blank (drop n text)) at ∙ ap (λ n. columns + n) after
          ∙ omega (arith, b.goes_on);
    }

found : (columns : ℕ) (text : List ℕ) (end next : ℕ) → IsLineBreak columns text end next → IsFound columns text end next
found columns text end next (inl b) = whole_found columns text end next b
found columns text end next (inr (inl b)) = broken_found columns text end next b
found columns text end next (inr (inr b)) = cut_found columns text end next b

-- ## It is one

-- Blanks begin where the line ends, and a word where the next line begins.
blank_between : (columns : ℕ) (text : List ℕ) (k : ℕ) → line_end columns text ≤ k → k < next_line columns text → is_blank (get_or text k 0) ≡ true
blank_between columns text k from below =
    let end = line_end columns text in
    let at : end + (k - end) ≡ k = omega arith in
    sym (ap is_blank (get_or-drop end text (k - end) 0 ∙ ap (λ i. get_or text i 0) at))
    ∙ prefix_len_passes is_blank (drop end text) (k - end) 0 (omega (arith, next_line-is columns text, from, below))

word_next : (columns : ℕ) (text : List ℕ) → next_line columns text < length text → is_blank (get_or text (next_line columns text) 0) ≡ false
word_next columns text more =
    let end = line_end columns text in
    sym (ap is_blank (get_or-drop end text (prefix_len is_blank (drop end text)) 0 ∙ ap (λ i. get_or text i 0) (sym (next_line-is columns text))))
    ∙ prefix_len_stops is_blank (drop end text) 0 (omega (arith, length-drop end text, next_line-is columns text, more))

-- The line and its blanks reach as far as the last blank.
reaches : (columns : ℕ) (text : List ℕ) (n : ℕ) → columns < length text → suc n ≤ length text → line_end columns text ≡ end_without true (suc n) text → suc n ≤ next_line columns text
reaches columns text n long within e = elim (cases_lt (next_line columns text) (suc n)) [
  | inr there ↦ there
  | inl short ↦
      let later = next_line-is columns text in
      let blank = after_end true text (suc n) (next_line columns text) within (omega (arith, e, later)) short in
      let word = word_next columns text (omega (arith, short, within)) in
      let clash : true ≡ false = sym blank ∙ word in
      absurd cc
]

by_words : (columns : ℕ) (text : List ℕ) (words : ℕ) → columns < length text → end_without false (columns + 1) text ≡ words
    → IsLineBreak columns text (line_end columns text) (next_line columns text)
by_words columns text zero long e =
    let at : line_end columns text ≡ columns = line_end-broken columns text long ∙ end-cut columns (end_without false (columns + 1) text) text e in
    let no_blank : (k : ℕ) → k ≤ columns → is_blank (get_or text k 0) ≡ false = λ k h. not_blank_is (get_or text k 0)
    (after_end false text (columns + 1) k (omega (arith, long)) (omega (arith, e)) (omega (arith, h))) in
    let after = prefix_len-drop_no is_blank text columns 0 long (no_blank columns (omega arith)) in
    inr
    (inr (record {
      too_long = long;
      one_word = λ k h. from_no_blank (get_or text k 0) (no_blank k h);
      whole_line = at;
      goes_on = next_line-is columns text ∙ ap (λ n. n + prefix_len is_blank (drop n text)) at ∙ ap (λ n. columns + n) after ∙ omega arith;
    }))
by_words columns text (suc n) long e =
    let most = end-le false (columns + 1) text in
    let at : line_end columns text ≡ end_without true (suc n) text =
    line_end-broken columns text long ∙ ap (end_before_word columns text) e in
    let within : suc n ≤ length text = omega (arith, most, e, long) in
    let far = reaches columns text n long within at in
    let narrow = line_end-le columns text long in
    let blank = is_one (get_or text n 0) (stops false text (columns + 1) n (omega (arith, long)) e) in
    let shorter = end-one true text n (omega (arith, within)) blank in
    inr
    (inl (record {
      too_long = long;
      narrow = narrow;
      some = omega (arith, far, at, shorter, end-le true n text);
      in_text = next_line-within columns text;
      blanks = λ k from below. from_blank (get_or text k 0) (blank_between columns text k from below);
      word_before = λ some. word_before (line_end columns text) at some;
      word_after = λ more. from_no_blank (get_or text (next_line columns text) 0) (word_next columns text more);
      no_later = λ k from below. from_no_blank (get_or text k 0)
          (not_blank_is (get_or text k 0) (after_end false text (columns + 1) k (omega (arith, long)) (omega (arith, e, far, from)) (omega (arith, below))));
    })) where
      word_before : (end : ℕ) → end ≡ end_without true (suc n) text → 0 < end → get_or text (end - 1) 0 ≢ 0x20
      word_before zero is some = absurd (omega arith)
      word_before (suc j) is some =
          let same : suc j - 1 ≡ j = omega arith in
          let most = end-le false (columns + 1) text in
          subst (λ i. get_or text i 0 ≢ 0x20) (sym same)
          (from_no_blank (get_or text j 0) (stops true text (suc n) j (omega (arith, most, e, long)) (sym is)))

line_break : (columns : ℕ) (text : List ℕ) → IsLineBreak columns text (line_end columns text) (next_line columns text)
line_break columns text = elim (cases_lt columns (length text)) [
  | inl long ↦ by_words columns text (end_without false (columns + 1) text) long refl
  | inr fits ↦
      let at = line_end-whole columns text fits in
      inl (record { fits = fits; to_end = at; nothing_left = omega (arith, at, next_line-is columns text, next_line-within columns text) })
]

-- ## All lines

last_line : (columns : ℕ) (text : List ℕ) → length text ≤ next_line columns text → IsWrapped columns text (wrap columns text)
last_line columns text last =
    subst (IsWrapped columns text) (sym (wrap-last columns text last))
    (line_end columns text, next_line columns text, line_break columns text, refl, inl (last, refl))

wrapped_within : (most columns : ℕ) (text : List ℕ) → 1 ≤ columns → length text ≤ most → IsWrapped columns text (wrap columns text)
wrapped_within zero columns text some few = last_line columns text (omega (arith, few))
wrapped_within (suc most) columns text some few = go (cases_lt (next_line columns text) (length text)) (wrapped_within most columns (drop (next_line columns text) text) some) where
  go : (next_line columns text < length text) ⊎ (length text ≤ next_line columns text)
      → (length (drop (next_line columns text) text) ≤ most → IsWrapped columns (drop (next_line columns text) text) (wrap columns (drop (next_line columns text) text)))
      → IsWrapped columns text (wrap columns text)
  go (inr last) rest = last_line columns text last
  go (inl more) rest =
      let later = next_line-later columns text some (omega (arith, more)) in
      let left = length-drop (next_line columns text) text in
      subst (IsWrapped columns text) (sym (wrap-more columns text some more)) (
        line_end columns text,
        next_line columns text,
        line_break columns text,
        refl,
        inr (more, rest (omega (arith, later, left, few))),
      )

pub is_wrapped : (columns : ℕ) (text : List ℕ) → 1 ≤ columns → IsWrapped columns text (wrap columns text)
is_wrapped columns text some = wrapped_within (length text) columns text some (omega arith)

pub no_other : (columns : ℕ) (text : List ℕ) (lines : List (List ℕ)) → 1 ≤ columns → IsWrapped columns text lines → lines ≡ wrap columns text
no_other columns text [] some w = absurd w
no_other columns text (line ∷ lines) some (end, next, b, is, others) = go (found columns text end next b) others (no_other columns (drop next text) lines some) where
  go : IsFound columns text end next → (((length text ≤ next) × (lines ≡ [])) ⊎ ((next < length text) × IsWrapped columns (drop next text) lines))
      → (IsWrapped columns (drop next text) lines → lines ≡ wrap columns (drop next text)) → line ∷ lines ≡ wrap columns text
  go f (inl last) more =
      let same : line ≡ take (line_end columns text) text = is ∙ ap (λ n. take n text) (sym f.end_is) in
      ap (λ l. l ∷ lines) same ∙ ap (λ ls. take (line_end columns text) text ∷ ls) (last.1)
      ∙ sym (wrap-last columns text (omega (arith, f.next_is, last.0)))
  go f (inr rest) more =
      let same : line ≡ take (line_end columns text) text = is ∙ ap (λ n. take n text) (sym f.end_is) in
      ap (λ l. l ∷ lines) same
      ∙ ap (λ ls. take (line_end columns text) text ∷ ls) (more (rest.1) ∙ ap (λ n. wrap columns (drop n text)) (sym f.next_is))
      ∙ sym (wrap-more columns text some (omega (arith, f.next_is, rest.0)))
