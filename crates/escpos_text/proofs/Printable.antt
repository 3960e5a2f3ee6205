-- Whatever a byte reads as is printed.
use Rattle.std.proofs.Common.{◌≡◌, ℕ, zero, suc, ◌-◌, Bool, true, false, ◌&&◌, ◌==◌, nat_lt, nat_le, cond, List, [], ◌∷◌, get_or, slice_index, Option, Some, None, position, refl, sym, ap, subst, ◌∙◌}
use Rattle.std.specs.Prelude.{slice_get, ◌||◌}
use Rattle.std.specs.List.{list_all}
use Rattle.std.proofs.lemmas.Bool.{and_parts}
use Rattle.escpos_text.specs.CharacterSets.{exchanged_bytes, character_sets, characters_in}
use Rattle.escpos_text.specs.CodeTables.{code_tables, table_among, characters_of}
use Rattle.escpos_text.specs.Printed.{is_printable}
use Rattle.escpos_text.specs.Reading.{reads, reads_at, reads_high, reads_low, unless_open}

-- A place of a table is open or has such a character.
abbrev open_or_printable : ℕ → Bool
open_or_printable c = c == 0 || is_printable c

all_tables : list_all (λ (t : ℕ × List ℕ). list_all open_or_printable t.1) code_tables ≡ true
unfolding code_tables
all_tables = refl

all_sets : list_all (λ (s : List ℕ). list_all is_printable s) character_sets ≡ true
unfolding character_sets
all_sets = refl

-- ## Tables

one_of : (b : Bool) (cs ds : List ℕ) → list_all open_or_printable cs ≡ true → list_all open_or_printable ds ≡ true → list_all open_or_printable (cond b cs ds) ≡ true
one_of true cs ds h k = h
one_of false cs ds h k = k

among : (tables : List (ℕ × List ℕ)) (n : ℕ) → list_all (λ (t : ℕ × List ℕ). list_all open_or_printable t.1) tables ≡ true → list_all open_or_printable (table_among tables n) ≡ true
among [] n h = refl
among (t ∷ tables) n h = one_of (t.0 == n) t.1 (table_among tables n) (and_parts _ _ h).0 (among tables n (and_parts _ _ h).1)

pub table_printable : (n : ℕ) → list_all open_or_printable (characters_of n) ≡ true
unfolding characters_of
table_printable n = among code_tables n all_tables

place_printable : (cs : List ℕ) (i : ℕ) → list_all open_or_printable cs ≡ true → open_or_printable (get_or cs i 0) ≡ true
place_printable [] i h = refl
place_printable (c ∷ cs) zero h = (and_parts _ _ h).0
place_printable (c ∷ cs) (suc i) h = place_printable cs i (and_parts _ _ h).1

of_place : (x c : ℕ) → open_or_printable x ≡ true → unless_open x ≡ Some c → is_printable c ≡ true
of_place x c ok h = go (x == 0) refl h where
  go : (t : Bool) → (x == 0) ≡ t → cond t None (Some x) ≡ Some c → is_printable c ≡ true
  go true e f = absurd (cc)
  go false e f =
      let same : x ≡ c = cc in
      subst (λ y. is_printable y ≡ true) same (sym (ap (λ t. t || is_printable x) e) ∙ ok)

high : (table b c : ℕ) → reads_high table b ≡ Some c → is_printable c ≡ true
unfolding reads_high
high table b c h = of_place (slice_index (characters_of table) (b - 0x80)) c (place_printable (characters_of table) (b - 0x80) (table_printable table)) h

-- ## Sets

set_place : (cs : List ℕ) (i c : ℕ) → list_all is_printable cs ≡ true → slice_get cs i ≡ Some c → is_printable c ≡ true
set_place [] i c h e = absurd (cc)
set_place (x ∷ cs) zero c h e = let same : x ≡ c = cc in subst (λ y. is_printable y ≡ true) same (and_parts _ _ h).0
set_place (x ∷ cs) (suc i) c h e = set_place cs i c (and_parts _ _ h).1 e

among_sets : (sets : List (List ℕ)) (n : ℕ) → list_all (λ (s : List ℕ). list_all is_printable s) sets ≡ true → list_all is_printable (get_or sets n []) ≡ true
among_sets [] n h = refl
among_sets (s ∷ sets) zero h = (and_parts _ _ h).0
among_sets (s ∷ sets) (suc n) h = among_sets sets n (and_parts _ _ h).1

set_printable : (set : ℕ) → list_all is_printable (characters_in set) ≡ true
unfolding characters_in
set_printable set = among_sets character_sets set all_sets

own : (b c : ℕ) (t : Bool) → (nat_le 0x20 b && nat_le b 0x7E) ≡ t → cond t (Some b) None ≡ Some c → is_printable c ≡ true
own b c true e h =
    let same : b ≡ c = cc in
    subst (λ y. is_printable y ≡ true) same (ap (λ t. t || nat_le 0xA0 b) e)
own b c false e h = absurd (cc)

low_at : (place : Option ℕ) (set b c : ℕ) → reads_at place set b ≡ Some c → is_printable c ≡ true
low_at (Some place) set b c h = set_place (characters_in set) place c (set_printable set) h
low_at None set b c h = own b c (nat_le 0x20 b && nat_le b 0x7E) refl h

low : (set b c : ℕ) → reads_low set b ≡ Some c → is_printable c ≡ true
unfolding reads_low
low set b c h = low_at (position (λ x. x == b) exchanged_bytes) set b c h

-- ## All

either : (set table b c : ℕ) (t : Bool) → cond t (reads_low set b) (reads_high table b) ≡ Some c → is_printable c ≡ true
either set table b c true h = low set b c h
either set table b c false h = high table b c h

pub printable : (set table b c : ℕ) → reads set table b ≡ Some c → is_printable c ≡ true
unfolding reads
printable set table b c h = either set table b c (nat_lt b 0x80) h
