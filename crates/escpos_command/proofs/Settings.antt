-- What one more command at the end of a list sets.
use Rattle.std.proofs.Common.{◌≡◌, List, [], ◌∷◌, ◌++◌, refl, sym, ◌∙◌, ap, append_assoc, append-nil, Bool, true, false, cond, Option, Some, None}
use Rattle.std.specs.Prelude.{◌||◌, filter_map, option_to_list}
use Rattle.std.specs.List.{list_any}
use Rattle.std.specs.Option.{unwrap_or}
use Rattle.std.proofs.lemmas.List.Folds.{list_any-append}
use Rattle.std.proofs.lemmas.List.Elements.{filter_map-append}
use Rattle.escpos_command.specs.declared.command.Command.{Command}
use Rattle.escpos_command.specs.Settings.{sets_graphics, stored_graphics, is_init, after_init, last_or, setting, stored, sets_stored}

-- ## Tests

pub or_true : (a : Bool) → (a || true) ≡ true
or_true true = refl
or_true false = refl

pub or_false : (a : Bool) → (a || false) ≡ a
or_false true = refl
or_false false = refl

pub any_hit : {X : Type 0} (test : X → Bool) (xs : List X) (x : X) → test x ≡ true → list_any test (xs ++ x ∷ []) ≡ true
any_hit test xs x h =
    list_any-append test xs (x ∷ []) ∙ ap (λ b. list_any test xs || (b || false)) h ∙ or_true (list_any test xs)

pub any_miss : {X : Type 0} (test : X → Bool) (xs : List X) (x : X) → test x ≡ false → list_any test (xs ++ x ∷ []) ≡ list_any test xs
any_miss test xs x h =
    list_any-append test xs (x ∷ []) ∙ ap (λ b. list_any test xs || (b || false)) h ∙ or_false (list_any test xs)

-- ## Settings

after_init-hit : (cs : List Command) (c : Command) → is_init c ≡ true → after_init (cs ++ c ∷ []) ≡ []
after_init-hit [] c h = ap (λ b. cond (b || false) [] (c ∷ []) ++ []) h
after_init-hit (d ∷ cs) c h =
    ap (λ b. cond b [] (d ∷ []) ++ after_init (cs ++ c ∷ [])) (any_hit is_init (d ∷ cs) c h) ∙ after_init-hit cs c h

after_init-miss : (cs : List Command) (c : Command) → is_init c ≡ false → after_init (cs ++ c ∷ []) ≡ after_init cs ++ c ∷ []
after_init-miss [] c h = ap (λ b. cond (b || false) [] (c ∷ []) ++ []) h
after_init-miss (d ∷ cs) c h =
    ap (λ b. cond b [] (d ∷ []) ++ after_init (cs ++ c ∷ [])) (any_miss is_init (d ∷ cs) c h)
    ∙ ap (λ t. cond (list_any is_init (d ∷ cs)) [] (d ∷ []) ++ t) (after_init-miss cs c h)
    ∙ sym (append_assoc (cond (list_any is_init (d ∷ cs)) [] (d ∷ [])) (after_init cs) (c ∷ []))

last_or-snoc : {X : Type 0} (d : X) (xs : List X) (x : X) → last_or d (xs ++ x ∷ []) ≡ x
last_or-snoc d [] x = refl
last_or-snoc d (y ∷ xs) x = last_or-snoc y xs x

last_or-option : {X : Type 0} (d : X) (xs : List X) (o : Option X) → last_or d (xs ++ option_to_list o) ≡ unwrap_or o (last_or d xs)
last_or-option d xs None = ap (last_or d) (append-nil xs)
last_or-option d xs (Some x) = last_or-snoc d xs x

filter_map-one : {X Y : Type 0} (h : X → Option Y) (x : X) → filter_map h (x ∷ []) ≡ option_to_list (h x)
filter_map-one h x = elim (h x) as (λ o. filter_map (λ y. o) (x ∷ []) ≡ option_to_list o) [ None ↦ refl | Some y ↦ refl ]

setting_by : {X : Type 0} (sets : Command → Option X) (start : X) (cs : List Command) (c : Command) (b : Bool) → is_init c ≡ b
    → setting sets start (cs ++ c ∷ []) ≡ cond b start (unwrap_or (sets c) (setting sets start cs))
setting_by sets start cs c true h = ap (λ ds. last_or start (filter_map sets ds)) (after_init-hit cs c h)
setting_by sets start cs c false h =
    ap (λ ds. last_or start (filter_map sets ds)) (after_init-miss cs c h)
    ∙ ap (last_or start) (filter_map-append sets (after_init cs) (c ∷ []) ∙ ap (λ t. filter_map sets (after_init cs) ++ t) (filter_map-one sets c))
    ∙ last_or-option start (filter_map sets (after_init cs)) (sets c)

pub setting-snoc : {X : Type 0} (sets : Command → Option X) (start : X) (cs : List Command) (c : Command)
    → setting sets start (cs ++ c ∷ []) ≡ cond (is_init c) start (unwrap_or (sets c) (setting sets start cs))
setting-snoc sets start cs c = setting_by sets start cs c (is_init c) refl

pub stored-snoc : (cs : List Command) (c : Command) → stored (cs ++ c ∷ []) ≡ cond (is_init c) None (unwrap_or (sets_stored c) (stored cs))
stored-snoc cs c = setting-snoc sets_stored None cs c

pub graphics-snoc : (cs : List Command) (c : Command) → stored_graphics (cs ++ c ∷ []) ≡ cond (is_init c) None (unwrap_or (sets_graphics c) (stored_graphics cs))
graphics-snoc cs c = setting-snoc sets_graphics None cs c
