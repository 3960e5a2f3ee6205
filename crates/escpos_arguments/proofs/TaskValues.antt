-- What the values after an argument say: numbers, widths and links.
use Rattle.std.proofs.Common.{◌≡◌, ◌∙◌, IsTrue, ℕ, List, Option, Some, None, Result, Ok, Err, refl, sym, ap, subst, codes}
use Rattle.std.specs.Prelude.{MatchResult, IfSome, IsSomeAnd, unwrap_or}
use Rattle.std.specs.Str.Parse.{ParsesUnsigned}
use Rattle.clap.specs.Words.{Row, Text, one_of}
use Rattle.clap.specs.Matches.{TriesOne}
use Rattle.escpos_command.specs.LineWidths.{is_line_width}
use Rattle.escpos_command.specs.declared.line_width.TheConstants.{USUAL_LINE_DOTS}
use Rattle.escpos_jobs.specs.declared.task.NoTask.{NoTask}
use Rattle.escpos_arguments.specs.Arguments.{GivesWidth, HasFlag, IsLinks, IsNumberOr}
use Rattle.escpos_arguments.specs.ClapAnswers.{IsNumber, IsNumberIn}

-- what a typed getter gives for a number
pub reads_number : {E : Type 0} (text : Option Text) (G : List ℕ → Result ℕ E → Type 0) (r : Result (Option ℕ) E)
    → ((t : Text) (x : Result ℕ E) → G t x → ParsesUnsigned 32 10 t x)
    → (text ≡ None → r ≡ Ok None) → ((t : Text) → text ≡ Some t → TriesOne G t r)
    → MatchResult r (IsNumberIn text) (λ _. (number : Option ℕ) → ¬ (IsNumberIn text number))
reads_number None G r only none value =
    subst (λ x. MatchResult x (IsNumberIn None) (λ _. (number : Option ℕ) → ¬ (IsNumberIn None number))) (sym (none refl)) refl
reads_number (Some t) G (Ok (Some n)) only none value =
    let h = only t (Ok n) (value t refl) in
    (h.0.0, h.0.1, h.1)
reads_number (Some t) G (Ok None) only none value = absurd (value t refl)
reads_number (Some t) G (Err e) only none value = no
  where
    no : (number : Option ℕ) → ¬ (IsNumberIn (Some t) number)
    no None h = h
    no (Some n) h = only t (Err e) (value t refl) (h.0, h.1)

pub number_unique : (text : Option Text) (a b : Option ℕ) → IsNumberIn text a → IsNumberIn text b → a ≡ b
number_unique None a b h k = h ∙ sym k
number_unique (Some t) None b h k = absurd h
number_unique (Some t) (Some n) None h k = absurd k
number_unique (Some t) (Some n) (Some m) h k = ap Some (h.2 ∙ sym k.2)

pub number_or : (fallback : ℕ) (text : Option Text) (number : Option ℕ) → IsNumberIn text number
    → IsNumberOr fallback text (unwrap_or number fallback)
number_or fallback None None h = refl
number_or fallback None (Some n) h = cc
number_or fallback (Some t) None h = absurd h
number_or fallback (Some t) (Some n) h = h

pub or_number : (fallback : ℕ) (text : Option Text) (n : ℕ) → IsNumberOr fallback text n
    → (number : Option ℕ) × IsNumberIn text number × (n ≡ unwrap_or number fallback)
or_number fallback None n h = (None, refl, h)
or_number fallback (Some t) n h = (Some n, h, refl)

pub number_in : (text : Option Text) (n : ℕ) → IsSomeAnd text (λ t. IsNumber t n) → IsNumberIn text (Some n)
number_in None n h = absurd h
number_in (Some t) n h = h

-- no number is read exactly where there is no text
pub none_in : (text : Option Text) → IsNumberIn text None → text ≡ None
none_in None h = refl
none_in (Some t) h = absurd h

pub in_none : (text : Option Text) → text ≡ None → IsNumberIn text None
in_none text e = subst (λ o. IsNumberIn o None) (sym e) refl

-- Results of one call are one.
pub one_result : {T E : Type 0} (r : Result T E) (x y : T) → r ≡ Ok x → r ≡ Ok y → x ≡ y
one_result r x y e f = let same : Ok x ≡ Ok y = sym e ∙ f in cc

pub no_error : {T E : Type 0} (r : Result T E) (x : T) (why : E) → r ≡ Ok x → r ≡ Err why → ⊥
no_error r x why e f = let bad : Ok x ≡ Err why = sym e ∙ f in cc

-- ---- widths and links

-- a width that is in range where it counts is in range where it is given
given_range : (width : Option ℕ) (n : ℕ) → n ≡ unwrap_or width USUAL_LINE_DOTS → IsTrue (is_line_width n) → IfSome width (λ n. IsTrue (is_line_width n))
given_range None n e h = tt
given_range (Some m) n e h = subst (λ k. IsTrue (is_line_width k)) e h

-- the width that counts comes from what the values say
pub width_said : (rows : List Row) (n : ℕ) → GivesWidth rows n → IsTrue (is_line_width n)
    → (width : Option ℕ) × IsNumberIn (one_of (codes "width") rows) width × IfSome width (λ n. IsTrue (is_line_width n)) × (n ≡ unwrap_or width USUAL_LINE_DOTS)
width_said rows n is in_range =
    let (width, h, same) = or_number USUAL_LINE_DOTS (one_of (codes "width") rows) n is in
    (width, h, given_range width n same in_range, same)

-- a number of links that isn't taken isn't asked for
pub links_refused : (rows : List Row) (r : Result (Option ℕ) NoTask) (why : NoTask) → r ≡ Err why
    → ((n : Option ℕ) → IsNumberIn (one_of (codes "links") rows) n → r ≡ Ok n) → HasFlag (codes "follow") rows → (links : Option ℕ) → IsLinks rows links → ⊥
links_refused rows r why is taken follows None h = no_error r None why (taken None (in_none _ h.0)) is
links_refused rows r why is taken follows (Some n) h = h.1 follows
