-- What one more command does: whether there is text in the line then, and whether each command may follow those before it.
use Rattle.std.proofs.Common.{◌≡◌, ◌+◌, ◌<◌, ℕ, List, [], ◌∷◌, ◌++◌, ◌⊎◌, inl, inr, refl, sym, ◌∙◌, ap, subst, append_assoc, append-nil, arith, take, drop, get_or, Bool, true, false, cond, Some}
use Rattle.std.specs.Prelude.{◌||◌, ◌&&◌, ◌==◌, not, length}
use Rattle.std.proofs.lemmas.List.{length-take-le}
use Rattle.escpos_command.specs.declared.command.Command.{Command}
use Rattle.escpos_command.specs.declared.command.Command.TheVariants.{Char, GraphicsPrint, LineFeed, QrPrint, Set}
use Rattle.escpos_command.specs.declared.setting.SettingKind.TheVariants as sets
use Rattle.escpos_command.specs.Text.{text, ends_line, ends_text, characters}
use Rattle.escpos_command.proofs.Lines.{text-snoc}
use Rattle.escpos_receipt.specs.SpelledText.{AreOfLines, text_left}
use Rattle.escpos_receipt.specs.Whole.{EachMayFollow, HoldNoRealTime, MayFollow, StandsFirst, has_text, is_nonempty}
use Rattle.escpos_receipt.proofs.Prefixes.{split_at}

-- ## Text

flag_of : (e : Bool) (t more : List ℕ) → is_nonempty (cond e [] t ++ more) ≡ (is_nonempty more || is_nonempty t && not e)
flag_of true [] [] = refl
flag_of true [] (y ∷ more) = refl
flag_of true (x ∷ t) [] = refl
flag_of true (x ∷ t) (y ∷ more) = refl
flag_of false [] [] = refl
flag_of false [] (y ∷ more) = refl
flag_of false (x ∷ t) [] = refl
flag_of false (x ∷ t) (y ∷ more) = refl

-- A command that may follow ends the line if it is one that does so: a QR code and graphics come with an empty line.
ends_as : (cs : List Command) (c : Command) → MayFollow cs c
    → is_nonempty (cond (ends_line cs c) [] (text cs) ++ characters c) ≡ is_nonempty (cond (ends_text c) [] (text cs) ++ characters c)
ends_as cs QrPrint f = flag_of (ends_line cs QrPrint) (text cs) [] ∙ ap (λ t. t && not (ends_line cs QrPrint)) (f.at_line_start refl)
ends_as cs (GraphicsPrint fn) f =
    flag_of (ends_line cs (GraphicsPrint fn)) (text cs) [] ∙ ap (λ t. t && not (ends_line cs (GraphicsPrint fn))) (f.at_line_start refl)
ends_as cs c f = refl

pub has_text-snoc : (cs : List Command) (c : Command) → MayFollow cs c → has_text (cs ++ c ∷ []) ≡ (is_nonempty (characters c) || has_text cs && not (ends_text c))
has_text-snoc cs c f = ap is_nonempty (text-snoc cs c) ∙ ends_as cs c f ∙ flag_of (ends_text c) (text cs) (characters c)

pub after_a_character : (cs : List Command) (c : Command) → MayFollow cs c → is_nonempty (characters c) ≡ true → true ≡ has_text (cs ++ c ∷ [])
after_a_character cs c f h = sym (has_text-snoc cs c f ∙ ap (λ b. b || has_text cs && not (ends_text c)) h)

pub after_text : (cs : List Command) (c : Command) → MayFollow cs c → is_nonempty (characters c) ≡ false → has_text cs ≡ true → not (ends_text c) ≡ has_text (cs ++ c ∷ [])
after_text cs c f h t = sym (has_text-snoc cs c f ∙ ap (λ b. b || has_text cs && not (ends_text c)) h ∙ ap (λ b. b && not (ends_text c)) t)

pub after_none : (cs : List Command) (c : Command) → MayFollow cs c → is_nonempty (characters c) ≡ false → has_text cs ≡ false → false ≡ has_text (cs ++ c ∷ [])
after_none cs c f h t = sym (has_text-snoc cs c f ∙ ap (λ b. b || has_text cs && not (ends_text c)) h ∙ ap (λ b. b && not (ends_text c)) t)

-- ## Places

-- A place in a list with one more element is the last, or one of the list.
pub split_snoc : {X : Type 0} (xs before : List X) (x y : X) (following : List X) → xs ++ x ∷ [] ≡ before ++ y ∷ following
    → ((before ≡ xs) × (y ≡ x)) ⊎ ((more : List X) × (xs ≡ before ++ y ∷ more))
split_snoc [] [] x y following e = inl (refl, cc)
split_snoc (z ∷ xs) [] x y following e =
    let same : z ≡ y = cc in
    inr (xs, ap (λ w. w ∷ xs) same)
split_snoc [] (b ∷ []) x y following e = let bad : [] ≡ y ∷ following = cc in cc
split_snoc [] (b ∷ c ∷ before) x y following e = let bad : [] ≡ c ∷ (before ++ y ∷ following) = cc in cc
split_snoc (z ∷ xs) (b ∷ before) x y following e =
    let head : z ≡ b = cc in
    let tail : xs ++ x ∷ [] ≡ before ++ y ∷ following = cc in
    elim (split_snoc xs before x y following tail) [
      | inl last ↦ inl (cc (ap (λ w. b ∷ w) last.0, head), last.1)
      | inr within ↦ inr (within.0, cc (head, within.1))
    ]

pub some_command : (cs : List Command) → (length cs == 0) ≡ false → cs ≡ [] → ⊥
some_command [] h e = cc
some_command (c ∷ cs) h e = cc

pub none_follows : EachMayFollow []
none_follows [] c following e = let bad : [] ≡ c ∷ following = e in cc
none_follows (b ∷ before) c following e = let bad : [] ≡ b ∷ (before ++ c ∷ following) = e in cc

pub one_more_follows : (cs : List Command) (c : Command) → EachMayFollow cs → MayFollow cs c → EachMayFollow (cs ++ c ∷ [])
one_more_follows cs c each last before d following e = elim (split_snoc cs before c d following e) [
  | inl same ↦ subst (λ b. MayFollow b d) (sym same.0) (subst (λ k. MayFollow cs k) (sym same.1) last)
  | inr within ↦ each before d within.0 within.1
]

-- A text may follow any commands, and is text in the line.
character_follows : (cs : List Command) (b : ℕ) → MayFollow cs (Char b)
character_follows cs b = record { allowed = refl; at_line_start = λ e. cc }

pub line_feed_follows : (cs : List Command) → MayFollow cs LineFeed
line_feed_follows cs = record { allowed = refl; at_line_start = λ e. cc }

table_follows : (cs : List Command) (n : ℕ) → MayFollow cs (Set (sets.Table, Some n))
table_follows cs n = record { allowed = refl; at_line_start = λ e. cc }

pub text_follows : (cs ts : List Command) → AreOfLines ts → EachMayFollow cs → EachMayFollow (cs ++ ts)
text_follows cs [] t each = subst EachMayFollow (sym (append-nil cs)) each
text_follows cs (Char b ∷ ts) (least, most, t) each =
    subst EachMayFollow (append_assoc cs (Char b ∷ []) ts)
    (text_follows (cs ++ Char b ∷ []) ts t (one_more_follows cs (Char b) each (character_follows cs b)))
text_follows cs (Set (sets.Table, Some n) ∷ ts) (first, t) each =
    subst EachMayFollow (append_assoc cs (Set (sets.Table, Some n) ∷ []) ts)
    (text_follows (cs ++ Set (sets.Table, Some n) ∷ []) ts t (one_more_follows cs (Set (sets.Table, Some n)) each (table_follows cs n)))
text_follows cs (LineFeed ∷ ts) t each =
    subst EachMayFollow (append_assoc cs (LineFeed ∷ []) ts)
    (text_follows (cs ++ LineFeed ∷ []) ts t (one_more_follows cs LineFeed each (line_feed_follows cs)))
text_follows cs (c ∷ ts) t each = absurd t

and_false : (a : Bool) → (a && false) ≡ false
and_false true = refl
and_false false = refl

pub line_flag : (cs : List Command) → has_text (cs ++ LineFeed ∷ []) ≡ false
line_flag cs = has_text-snoc cs LineFeed (line_feed_follows cs) ∙ and_false (has_text cs)

and_true : (a : Bool) → (a && true) ≡ a
and_true true = refl
and_true false = refl

table_flag : (cs : List Command) (n : ℕ) → has_text (cs ++ Set (sets.Table, Some n) ∷ []) ≡ has_text cs
table_flag cs n = has_text-snoc cs (Set (sets.Table, Some n)) (table_follows cs n) ∙ and_true (has_text cs)

-- Whether there is text in the line after a text.
pub text_goes : (cs ts : List Command) → AreOfLines ts → has_text (cs ++ ts) ≡ text_left (has_text cs) ts
text_goes cs [] t = ap has_text (append-nil cs)
text_goes cs (Char b ∷ ts) (least, most, t) =
    ap has_text (sym (append_assoc cs (Char b ∷ []) ts)) ∙ text_goes (cs ++ Char b ∷ []) ts t
    ∙ ap (λ v. text_left v ts) (sym (after_a_character cs (Char b) (character_follows cs b) refl))
text_goes cs (Set (sets.Table, Some n) ∷ ts) (first, t) =
    ap has_text (sym (append_assoc cs (Set (sets.Table, Some n) ∷ []) ts)) ∙ text_goes (cs ++ Set (sets.Table, Some n) ∷ []) ts t
    ∙ ap (λ v. text_left v ts) (table_flag cs n)
text_goes cs (LineFeed ∷ ts) t =
    ap has_text (sym (append_assoc cs (LineFeed ∷ []) ts)) ∙ text_goes (cs ++ LineFeed ∷ []) ts t
    ∙ ap (λ v. text_left v ts) (line_flag cs)
text_goes cs (c ∷ ts) t = absurd t

-- A command in a list, where each command before it may follow those before it, and they hold no real-time command.
pub stands_at : (cs : List Command) (i : ℕ) (c : Command) → i < length cs → c ≡ get_or cs i c → EachMayFollow (take i cs) → HoldNoRealTime (take i cs)
    → StandsFirst cs i (take i cs) c
stands_at cs i c inside is each quiet = record {
  following = drop (i + 1) cs;
  split = split_at cs i c inside is;
  place = length-take-le i cs (omega (arith, inside));
  in_place = each;
  no_real_time = quiet;
}
