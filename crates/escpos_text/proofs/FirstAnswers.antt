-- The first table of several that has a character, and the first character of several that a table has.
use Rattle.std.proofs.Common.{◌≡◌, ℕ, ◌+◌, ◌<◌, ◌≤◌, ◌==◌, cond, List, [], ◌∷◌, ◌++◌, drop, get_or, length, refl, sym, ap, ◌∙◌, Option, Some, None, Err, suc, add-one, drop-cons, le-ltb}
use Rattle.std.specs.Prelude.{option_to_list, ok_or}
use Rattle.std.proofs.lemmas.Bool.{cond-true, cond-false, lt-ltb}
use Rattle.escpos_text.specs.declared.encoding.Encoding.{Encoding}
use Rattle.escpos_text.specs.declared.encoding.TextFault.TheVariants.{Control, NoCharacter}
use Rattle.escpos_text.specs.declared.placing.Place.{Place}
use Rattle.escpos_text.specs.Writing.{or_else, first_answer, place_in, place_among, in_reach, place_for, placed}

pub among-nil : (set c : ℕ) → place_among set [] c ≡ None
unfolding place_among
among-nil set c = refl

pub among-cons : (set c table : ℕ) (tables : List ℕ) → place_among set (table ∷ tables) c ≡ or_else (place_in set c table) (place_among set tables c)
unfolding place_among
among-cons set c table tables = refl

among-drop : (set c i : ℕ) (tables : List ℕ) → i < length tables → place_among set (drop i tables) c ≡ or_else (place_in set c (get_or tables i 0)) (place_among set (drop (suc i) tables) c)
among-drop set c i tables lt = ap (λ xs. place_among set xs c) (drop-cons tables i 0 lt) ∙ among-cons set c (get_or tables i 0) (drop (suc i) tables)

pub among-here : (set c i : ℕ) (tables : List ℕ) (place : Place) → i < length tables → place_in set c (get_or tables i 0) ≡ Some place → place_among set (drop i tables) c ≡ Some place
among-here set c i tables place lt has =
    among-drop set c i tables lt ∙ ap (λ o. or_else o (place_among set (drop (suc i) tables) c)) has

pub among-later : (set c i : ℕ) (tables : List ℕ) → i < length tables → place_in set c (get_or tables i 0) ≡ None → place_among set (drop i tables) c ≡ place_among set (drop (i + 1) tables) c
among-later set c i tables lt none =
    among-drop set c i tables lt ∙ ap (λ o. or_else o (place_among set (drop (suc i) tables) c)) none
    ∙ ap (λ n. place_among set (drop n tables) c) (sym (add-one i))

-- The table in force, and then the choice.
pub reach-first : (e : Encoding) (c : ℕ) (place : Place) → place_in e.set c e.table ≡ Some place → place_among e.set (in_reach e) c ≡ Some place
reach-first e c place h = among-cons e.set c e.table e.choice ∙ ap (λ o. or_else o (place_among e.set e.choice c)) h

pub reach-choice : (e : Encoding) (c : ℕ) → place_in e.set c e.table ≡ None → place_among e.set (in_reach e) c ≡ place_among e.set e.choice c
reach-choice e c h = among-cons e.set c e.table e.choice ∙ ap (λ o. or_else o (place_among e.set e.choice c)) h

-- The character, and then what may stand for it.
or_else-assoc : {B : Type 0} (x y z : Option B) → or_else (or_else x y) z ≡ or_else x (or_else y z)
or_else-assoc None y z = refl
or_else-assoc (Some a) y z = refl

pub first_answer-append : {A B : Type 0} (ask : A → Option B) (xs ys : List A) → first_answer ask (xs ++ ys) ≡ or_else (first_answer ask xs) (first_answer ask ys)
first_answer-append ask [] ys = refl
first_answer-append ask (x ∷ xs) ys = ap (or_else (ask x)) (first_answer-append ask xs ys) ∙ sym (or_else-assoc (ask x) (first_answer ask xs) (first_answer ask ys))

abbrev pub space_for : ℕ → List ℕ
space_for c = cond (c == 0xA0) (0x20 ∷ []) []

pub place_for-parts : (e : Encoding) (c : ℕ) → place_for e c
    ≡ or_else (place_among e.set (in_reach e) c) (or_else (first_answer (place_among e.set (in_reach e)) (space_for c)) (first_answer (place_among e.set (in_reach e)) (option_to_list e.replacement)))
unfolding place_for
place_for-parts e c =
    ap (or_else (place_among e.set (in_reach e) c)) (first_answer-append (place_among e.set (in_reach e)) (space_for c) (option_to_list e.replacement))

-- Controls.
pub placed-control : (e : Encoding) (c : ℕ) → c < 0x20 → placed e c ≡ Err (Control c)
unfolding placed
placed-control e c lt = cond-true _ _ _ (lt-ltb c 0x20 lt)

pub placed-other : (e : Encoding) (c : ℕ) → 0x20 ≤ c → placed e c ≡ ok_or (place_for e c) (NoCharacter c)
unfolding placed
placed-other e c le = cond-false _ _ _ (le-ltb c 0x20 le)

abbrev pub ask_all : Encoding → List ℕ → Option Place
ask_all e = first_answer (place_among e.set (in_reach e))

pub place-own : (e : Encoding) (c : ℕ) (place : Place) → place_among e.set (in_reach e) c ≡ Some place → place_for e c ≡ Some place
place-own e c place h =
    place_for-parts e c ∙ ap (λ o. or_else o (or_else (ask_all e (space_for c)) (ask_all e (option_to_list e.replacement)))) h

pub place-other : (e : Encoding) (c : ℕ) → place_among e.set (in_reach e) c ≡ None → place_for e c ≡ or_else (ask_all e (space_for c)) (ask_all e (option_to_list e.replacement))
place-other e c h =
    place_for-parts e c ∙ ap (λ o. or_else o (or_else (ask_all e (space_for c)) (ask_all e (option_to_list e.replacement)))) h
