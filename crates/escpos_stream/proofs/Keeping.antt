-- What one more command, and the end, change of what is kept.
use Rattle.std.proofs.Common.{◌≡◌, ◌≢◌, ℕ, ◌+◌, ◌-◌, Bool, true, false, not, IsTrue, List, [], ◌∷◌, ◌++◌, filter, length, map, take, refl, sym, ◌∙◌, ap, append_assoc, append-nil, arith, length-append}
use Rattle.std.proofs.lemmas.List.{map-append}
use Rattle.std.proofs.lemmas.List.Elements.{filter-append}
use Rattle.escpos_command.specs.declared.command.Command.{Command}
use Rattle.escpos_command.specs.CommandTable.{row, spell}
use Rattle.escpos_command.specs.Settings.{is_init}
use Rattle.escpos_stream.specs.Streams.{AreInits, Keeps, Placed, commands_of, is_question, placed_from, places_of, without_questions}
use Rattle.escpos_stream.specs.Steps.{EndsOtherwise, Kept, KeptSoFar}

abbrev pub at_place : ℕ → Command → Placed
at_place place c = record { place = place; command = c }

placed_more : (n : ℕ) (cs : List Command) (c : Command) → placed_from n (cs ++ c ∷ []) ≡ placed_from n cs ++ at_place (n + length (spell cs)) c ∷ []
placed_more n [] c = let e : n ≡ n + length (spell []) = omega arith in ap (λ v. at_place v c ∷ []) e
placed_more n (d ∷ cs) c =
    let e : n + length (row d) + length (spell cs) ≡ n + length (spell (d ∷ cs)) = omega (arith, length-append (row d) (spell cs)) in
    ap (λ xs. at_place n d ∷ xs) (placed_more (n + length (row d)) cs c ∙ ap (λ v. placed_from (n + length (row d)) cs ++ at_place v c ∷ []) e)

kept_one : {X : Type 0} (p : X → Bool) (x : X) → p x ≡ true → filter p (x ∷ []) ≡ x ∷ []
kept_one p x h = rw h refl

left_out_one : {X : Type 0} (p : X → Bool) (x : X) → p x ≡ false → filter p (x ∷ []) ≡ []
left_out_one p x h = rw h refl

without_more : (cs : List Command) (c : Command)
    → without_questions (cs ++ c ∷ []) ≡ without_questions cs ++ filter (λ p. not (is_question p.command)) (at_place (length (spell cs)) c ∷ [])
without_more cs c =
    let e : 0 + length (spell cs) ≡ length (spell cs) = omega arith in
    ap (filter (λ p. not (is_question p.command))) (placed_more 0 cs c ∙ ap (λ v. placed_from 0 cs ++ at_place v c ∷ []) e)
    ∙ filter-append (λ p. not (is_question p.command)) (placed_from 0 cs) (at_place (length (spell cs)) c ∷ [])

without_asked : (cs : List Command) (c : Command) → is_question c ≡ true → without_questions (cs ++ c ∷ []) ≡ without_questions cs
without_asked cs c h =
    without_more cs c ∙ ap (λ v. without_questions cs ++ v) (left_out_one (λ p. not (is_question p.command)) (at_place (length (spell cs)) c) (ap not h))
    ∙ append-nil (without_questions cs)

without_other : (cs : List Command) (c : Command) → is_question c ≡ false → without_questions (cs ++ c ∷ []) ≡ without_questions cs ++ at_place (length (spell cs)) c ∷ []
without_other cs c h =
    without_more cs c ∙ ap (λ v. without_questions cs ++ v) (kept_one (λ p. not (is_question p.command)) (at_place (length (spell cs)) c) (ap not h))

none_of_map : {X Y : Type 0} (f : X → Y) (xs : List X) → map f xs ≡ [] → xs ≡ []
none_of_map f [] h = refl
none_of_map f (x ∷ xs) h = absurd cc

one_more_init : (ps : List Placed) (p : Placed) → AreInits ps → IsTrue (is_init p.command) → AreInits (ps ++ p ∷ [])
one_more_init [] p all h = (h, tt)
one_more_init (q ∷ ps) p all h = (all.0, one_more_init ps p all.1 h)

first_of_more : (kept : List Placed) (last : Placed) → ((p : Placed) (more : List Placed) → kept ≡ p ∷ more → is_init p.command ≡ false)
    → (kept ≡ [] → is_init last.command ≡ false) → (p : Placed) (more : List Placed) → kept ++ last ∷ [] ≡ p ∷ more → is_init p.command ≡ false
first_of_more [] last first alone p more e = let same : last ≡ p = cc in ap (λ q. is_init q.command) (sym same) ∙ alone refl
first_of_more (q ∷ kept) last first alone p more e = let same : q ≡ p = cc in ap (λ q. is_init q.command) (sym same) ∙ first q kept refl

asked : {cs commands : List Command} {places : List ℕ} (c : Command) → is_question c ≡ true → KeptSoFar cs commands places → KeptSoFar (cs ++ c ∷ []) commands places
asked {cs} c h k = record {
  opening = k.opening;
  kept = k.kept;
  split = without_asked cs c h ∙ k.split;
  opens = k.opens;
  first = k.first;
  commands_are = k.commands_are;
  places_are = k.places_are;
}

opened : {cs commands : List Command} {places : List ℕ} (c : Command) → is_question c ≡ false → IsTrue (is_init c) → commands ≡ [] → KeptSoFar cs commands places
    → KeptSoFar (cs ++ c ∷ []) commands places
opened {cs} c other init none k =
    let nothing : k.kept ≡ [] = none_of_map (λ p. p.command) k.kept (sym k.commands_are ∙ none) in
    let before : without_questions cs ≡ k.opening = k.split ∙ ap (λ v. k.opening ++ v) nothing ∙ append-nil k.opening in
    record {
      opening = k.opening ++ at_place (length (spell cs)) c ∷ [];
      kept = [];
      split = without_other cs c other ∙ ap (λ v. v ++ at_place (length (spell cs)) c ∷ []) before ∙ sym (append-nil (k.opening ++ at_place (length (spell cs)) c ∷ []));
      opens = one_more_init k.opening (at_place (length (spell cs)) c) k.opens init;
      first = λ p more e. absurd cc;
      commands_are = none;
      places_are = k.places_are ∙ ap places_of nothing;
    }

taken : {cs commands : List Command} {places : List ℕ} (c : Command) (place : ℕ) → is_question c ≡ false → (commands ≡ [] → is_init c ≡ false) → place ≡ length (spell cs)
    → KeptSoFar cs commands places → KeptSoFar (cs ++ c ∷ []) (commands ++ c ∷ []) (places ++ place ∷ [])
taken {cs} {commands} {places} c place other alone e k = record {
  opening = k.opening;
  kept = k.kept ++ at_place (length (spell cs)) c ∷ [];
  split = without_other cs c other ∙ ap (λ v. v ++ at_place (length (spell cs)) c ∷ []) k.split ∙ append_assoc k.opening k.kept (at_place (length (spell cs)) c ∷ []);
  opens = k.opens;
  first = first_of_more k.kept (at_place (length (spell cs)) c) k.first (λ none. alone (k.commands_are ∙ ap commands_of none));
  commands_are = ap (λ v. v ++ c ∷ []) k.commands_are ∙ sym (map-append (λ p. p.command) k.kept (at_place (length (spell cs)) c ∷ []));
  places_are = ap (λ v. v ++ place ∷ []) k.places_are ∙ ap (λ v. places_of k.kept ++ v ∷ []) e ∙ sym (map-append (λ p. p.place) k.kept (at_place (length (spell cs)) c ∷ []));
}

left_out_by : {cs commands : List Command} {places : List ℕ} (c : Command) (question leaves : Bool) → is_question c ≡ question
    → (question ≡ false → commands ≡ [] → leaves ≡ is_init c) → (question ≡ false → commands ≢ [] → leaves ≡ false) → leaves ≡ true
    → KeptSoFar cs commands places → KeptSoFar (cs ++ c ∷ []) commands places
left_out_by c true leaves is other within out k = asked c is k
left_out_by {commands = []} c false leaves is other within out k = opened c is (sym (other refl refl) ∙ out) refl k
left_out_by {commands = d ∷ commands} c false leaves is other within out k = let bad : true ≡ false = sym out ∙ within refl (λ e. cc) in absurd cc

-- A command that is left out.
pub left_out : {cs commands : List Command} {places : List ℕ} (c : Command) (leaves : Bool)
    → (is_question c ≡ false → commands ≡ [] → leaves ≡ is_init c) → (is_question c ≡ false → commands ≢ [] → leaves ≡ false) → leaves ≡ true
    → KeptSoFar cs commands places → KeptSoFar (cs ++ c ∷ []) commands places
left_out c leaves other within out k = left_out_by c (is_question c) leaves refl other within out k

taken_by : {cs commands : List Command} {places : List ℕ} (c : Command) (place : ℕ) (question leaves : Bool) → is_question c ≡ question
    → (question ≡ true → leaves ≡ true) → (question ≡ false → commands ≡ [] → leaves ≡ is_init c) → leaves ≡ false → place ≡ length (spell cs)
    → KeptSoFar cs commands places → KeptSoFar (cs ++ c ∷ []) (commands ++ c ∷ []) (places ++ place ∷ [])
taken_by c place true leaves is asks other stays e k = let bad : true ≡ false = sym (asks refl) ∙ stays in absurd cc
taken_by c place false leaves is asks other stays e k = taken c place is (λ none. sym (other refl none) ∙ stays) e k

-- A command that is taken.
pub taken_in : {cs commands : List Command} {places : List ℕ} (c : Command) (place : ℕ) (leaves : Bool)
    → (is_question c ≡ true → leaves ≡ true) → (is_question c ≡ false → commands ≡ [] → leaves ≡ is_init c) → leaves ≡ false → place ≡ length (spell cs)
    → KeptSoFar cs commands places → KeptSoFar (cs ++ c ∷ []) (commands ++ c ∷ []) (places ++ place ∷ [])
taken_in c place leaves asks other stays e k = taken_by c place (is_question c) leaves refl asks other stays e k

-- ## The end

pub kept_to_the_end : {cs commands : List Command} {places : List ℕ} → KeptSoFar cs commands places → Kept cs commands places
kept_to_the_end k = record {
  opening = k.opening;
  kept = k.kept;
  closing = [];
  split = k.split ∙ sym (append-nil (k.opening ++ k.kept));
  opens = k.opens;
  closes = tt;
  first = k.first;
  commands_are = k.commands_are;
  places_are = k.places_are;
}

front : {X : Type 0} (xs ys : List X) → take (length xs) (xs ++ ys) ≡ xs
front [] ys = refl
front (x ∷ xs) ys = ap (λ v. x ∷ v) (front xs ys)

but_last : {X : Type 0} (xs : List X) (x : X) → take (length (xs ++ x ∷ []) - 1) (xs ++ x ∷ []) ≡ xs
but_last xs x =
    let e : length (xs ++ x ∷ []) - 1 ≡ length xs = omega (arith, length-append xs (x ∷ [])) in
    ap (λ n. take n (xs ++ x ∷ [])) e ∙ front xs (x ∷ [])

-- A list of which the last value is known has a last element.
record LastOfMap {X Y : Type 0} (f : X → Y) (xs : List X) (ys : List Y) (y : Y) : Type 0 where
  before : List X
  last : X
  split : xs ≡ before ++ last ∷ []
  rest : map f before ≡ ys
  value : f last ≡ y

last_of_map : {X Y : Type 0} (f : X → Y) (xs : List X) (ys : List Y) (y : Y) → map f xs ≡ ys ++ y ∷ [] → LastOfMap f xs ys y
last_of_map f [] [] y e = absurd cc
last_of_map f [] (z ∷ ys) y e = absurd cc
last_of_map f (x ∷ []) [] y e = record { before = []; last = x; split = refl; rest = refl; value = cc }
last_of_map f (x ∷ w ∷ xs) [] y e = absurd cc
last_of_map f (x ∷ xs) (z ∷ ys) y e =
    let first : f x ≡ z = cc in
    let more : map f xs ≡ ys ++ y ∷ [] = cc in
    let l = last_of_map f xs ys y more in
    record { before = x ∷ l.before; last = l.last; split = ap (λ v. x ∷ v) l.split; rest = ap (λ v. f x ∷ v) l.rest ∙ ap (λ v. v ∷ ys) first; value = l.value }

first_of_fewer : (kept before : List Placed) (last : Placed) → kept ≡ before ++ last ∷ [] → ((p : Placed) (more : List Placed) → kept ≡ p ∷ more → is_init p.command ≡ false)
    → (p : Placed) (more : List Placed) → before ≡ p ∷ more → is_init p.command ≡ false
first_of_fewer kept before last split first p more e = first p (more ++ last ∷ []) (split ∙ ap (λ v. v ++ last ∷ []) e)

-- The last of the commands, an Init, is left out.
pub closed : {cs commands : List Command} {places : List ℕ} (before : List Command) (c : Command) → commands ≡ before ++ c ∷ [] → IsTrue (is_init c) → Kept cs commands places
    → Kept cs (take (length commands - 1) commands) (take (length places - 1) places)
closed {cs} {commands} {places} before c ends init k =
    let l = last_of_map (λ p. p.command) k.kept before c (sym k.commands_are ∙ ends) in
    let there : places ≡ places_of l.before ++ l.last.place ∷ [] = k.places_are ∙ ap places_of l.split ∙ map-append (λ p. p.place) l.before (l.last ∷ []) in
    record {
      opening = k.opening;
      kept = l.before;
      closing = l.last ∷ k.closing;
      split = k.split ∙ ap (λ v. (k.opening ++ v) ++ k.closing) l.split ∙ ap (λ v. v ++ k.closing) (sym (append_assoc k.opening l.before (l.last ∷ [])))
          ∙ append_assoc (k.opening ++ l.before) (l.last ∷ []) k.closing;
      opens = k.opens;
      closes = (ap is_init l.value ∙ init, k.closes);
      first = first_of_fewer k.kept l.before l.last l.split k.first;
      commands_are = ap (λ v. take (length v - 1) v) ends ∙ but_last before c ∙ sym l.rest;
      places_are = ap (λ v. take (length v - 1) v) there ∙ but_last (places_of l.before) l.last.place;
    }

pub keeps : {cs commands : List Command} {places : List ℕ} → (k : Kept cs commands places) → EndsOtherwise commands → Keeps cs k.kept
keeps k ends = record {
  opening = k.opening;
  closing = k.closing;
  split = k.split;
  opens = k.opens;
  closes = k.closes;
  first = k.first;
  last = λ before p e. ends (commands_of before) p.command (k.commands_are ∙ ap commands_of e ∙ map-append (λ q. q.command) before (p ∷ []));
}
