-- Facts about any table of settings. None names a kind.
use Rattle.std.proofs.Common.{◌≡◌, ℕ, zero, suc, ◌+◌, ◌<◌, List, [], ◌∷◌, ◌++◌, length, get_or, arith, Bool, true, false, cond, Option, None, Some, refl, sym, ◌∙◌, ap, subst, append-nil}
use Rattle.std.specs.Prelude.{◌==◌, ◌&&◌, nat_lt, option_to_list}
use Rattle.std.specs.List.{list_all, list_any}
use Rattle.std.proofs.lemmas.Bool.Decides.{nat_tests}
use denote.Enum.Bare.{tag_one}
use Rattle.escpos_command.specs.contracts.setting.SettingKind.{the_type}
use Rattle.escpos_command.specs.declared.command.Command.TheVariants as kind
use Rattle.escpos_command.specs.declared.setting.Row.{Row}
use Rattle.escpos_command.specs.declared.setting.SettingKind.{SettingKind}
use Rattle.escpos_command.specs.declared.setting.Values.{Values}
use Rattle.escpos_command.specs.declared.setting.Values.TheVariants as values
use Rattle.escpos_command.specs.CommandTable.{Spells}
use Rattle.escpos_command.specs.SettingTable.{may_follow, is_nothing, fits, row_prefix, number, blank, row_at, row_for}
use Rattle.escpos_command.specs.Prefixes.{apart, part_from, rows_part_from}
use Rattle.escpos_command.specs.Tree.{Tree, leaf, walk, one, forms, setting_tree, settings}
use Rattle.escpos_command.proofs.Walks.{IsLive, Good}
use Rattle.escpos_command.proofs.Combinators.{and_left, and_right, same_number, good_choice, good_one, walk-one}
use Rattle.escpos_command.proofs.Planting.{or_right, planted_there, planted_elsewhere, good_planted}

-- ## What is asked of a table

-- The rows stand in the order of the kinds, from this number on.
abbrev pub numbered : ℕ → List Row → Bool
numbered n [] = true
numbered n (r ∷ rows) = number r.kind == n && numbered (suc n) rows

-- Any two prefixes part.
abbrev pub rows_apart : List Row → Bool
rows_apart [] = true
rows_apart (r ∷ rows) = list_all (λ s. apart (row_prefix r) (row_prefix s)) rows && rows_apart rows

pub record IsTable (rows : List Row) : Type 0 where
  pub in_order : numbered 0 rows ≡ true
  pub covers : (which : SettingKind) → nat_lt (number which) (length rows) ≡ true
  pub one_prefix : rows_apart rows ≡ true
  pub beside_forms : list_all (λ r. part_from (row_prefix r) forms) rows ≡ true
  pub low : list_all (λ r. nat_lt r.first 0x20) rows ≡ true

-- ## Rows by their place

pub all_at : {X : Type 0} (test : X → Bool) (xs : List X) (i : ℕ) (d : X) → list_all test xs ≡ true → i < length xs → test (get_or xs i d) ≡ true
all_at test [] i d h k = absurd (omega arith)
all_at test (x ∷ xs) zero d h k = and_left (test x) (list_all test xs) h
all_at test (x ∷ xs) (suc i) d h k = all_at test xs i d (and_right (test x) (list_all test xs) h) (omega arith)

within : (a b : ℕ) → nat_lt a b ≡ true → a < b
within a b h = grind (arith, nat_tests)

pub covered : (rows : List Row) → IsTable rows → (which : SettingKind) → number which < length rows
covered rows one which = within (number which) (length rows) (one.covers which)

at_number : (rows : List Row) (n i : ℕ) → numbered n rows ≡ true → i < length rows → number (row_at rows i).kind ≡ n + i
at_number [] n i h k = absurd (omega arith)
at_number (r ∷ rows) n zero h k = same_number _ _ (and_left (number r.kind == n) (numbered (suc n) rows) h) ∙ omega arith
at_number (r ∷ rows) n (suc i) h k = at_number rows (suc n) i (and_right (number r.kind == n) (numbered (suc n) rows) h) (omega arith) ∙ omega arith

own_number : (rows : List Row) (i : ℕ) → IsTable rows → i < length rows → number (row_at rows i).kind ≡ i
own_number rows i one h = at_number rows 0 i one.in_order h ∙ omega arith

-- The row of a kind is that of the kind.
pub own_kind : (rows : List Row) (which : SettingKind) → IsTable rows → (row_for rows which).kind ≡ which
own_kind rows which one = tag_one the_type tt (row_for rows which).kind which (own_number rows (number which) one (covered rows one which))

pub own_row : (rows : List Row) (i : ℕ) → IsTable rows → i < length rows → row_for rows (row_at rows i).kind ≡ row_at rows i
own_row rows i one h = ap (row_at rows) (own_number rows i one h)

at_some : (rows : List Row) (test : Row → Bool) → list_any test rows ≡ true → (i : ℕ) × (i < length rows) × (test (row_at rows i) ≡ true)
at_some [] test h = absurd cc
at_some (r ∷ rows) test h = by_test (test r) refl (λ k. at_some rows test k)
  where
    by_test : (v : Bool) → test r ≡ v → (list_any test rows ≡ true → (i : ℕ) × (i < length rows) × (test (row_at rows i) ≡ true))
        → (i : ℕ) × (i < length (r ∷ rows)) × (test (row_at (r ∷ rows) i) ≡ true)
    by_test true e further = (0, omega arith, e)
    by_test false e further =
        let later = further (or_right (test r) (list_any test rows) e h) in
        let inside : later.0 < length rows = later.1 in
        (suc later.0, omega arith, later.2)

-- Where some row passes a test, it is that of a kind.
pub some_kind : (rows : List Row) → IsTable rows → (test : Row → Bool) → list_any test rows ≡ true → (which : SettingKind) × (test (row_for rows which) ≡ true)
some_kind rows one test h =
    let found = at_some rows test h in
    ((row_at rows found.0).kind, ap test (own_row rows found.0 one found.1) ∙ found.2)

-- ## Where a prefix leads

there : (rows : List Row) (others : Tree) (i : ℕ) (w : List ℕ) → rows_apart rows ≡ true → i < length rows
    → walk (settings rows others) (row_prefix (row_at rows i) ++ w) ≡ walk (setting_tree (row_at rows i)) w
unfolding settings
there [] others i w h k = absurd (omega arith)
there (r ∷ rows) others zero w h k = planted_there (row_prefix r) w (setting_tree r) (settings rows others)
there (r ∷ rows) others (suc i) w h k =
    let inside : i < length rows = omega arith in
    planted_elsewhere (row_prefix r) (row_prefix (row_at rows i)) w (setting_tree r) (settings rows others)
    (all_at (λ s. apart (row_prefix r) (row_prefix s)) rows i blank (and_left (list_all (λ s. apart (row_prefix r) (row_prefix s)) rows) (rows_apart rows) h) inside)
    ∙ there rows others i w (and_right (list_all (λ s. apart (row_prefix r) (row_prefix s)) rows) (rows_apart rows) h) inside

pub setting_there : (rows : List Row) (others : Tree) (which : SettingKind) (w : List ℕ) → IsTable rows
    → walk (settings rows others) (row_prefix (row_for rows which) ++ w) ≡ walk (setting_tree (row_for rows which)) w
setting_there rows others which w one = there rows others (number which) w one.one_prefix (covered rows one which)

pub settings_elsewhere : (rows : List Row) (others : Tree) (q w : List ℕ) → rows_part_from q rows ≡ true
    → walk (settings rows others) (q ++ w) ≡ walk others (q ++ w)
unfolding settings
settings_elsewhere [] others q w h = refl
settings_elsewhere (r ∷ rows) others q w h =
    planted_elsewhere (row_prefix r) q w (setting_tree r) (settings rows others) (and_left (apart (row_prefix r) q) (rows_part_from q rows) h)
    ∙ settings_elsewhere rows others q w (and_right (apart (row_prefix r) q) (rows_part_from q rows) h)

-- A parameter that fits leads to the setting.
by_values : (b : Bool) (r : Row) → is_nothing r.values ≡ b → (p : Option ℕ) → fits r.values p ≡ true
    → walk (cond b (leaf (kind.Set (r.kind, None))) (one (may_follow r.values) (λ n. kind.Set (r.kind, Some n)))) (option_to_list p) ≡ leaf (kind.Set (r.kind, p))
by_values true r e None h = refl
by_values true r e (Some n) h = absurd (nothing_follows r.values n e h)
  where
    nothing_follows : (v : Values) (n : ℕ) → is_nothing v ≡ true → may_follow v n ≡ true → ⊥
    nothing_follows values.Nothing n e h = cc
    nothing_follows _ n e h = cc
by_values false r e None h = let clash : true ≡ false = sym h ∙ e in absurd cc
by_values false r e (Some n) h = walk-one (may_follow r.values) (λ m. kind.Set (r.kind, Some m)) n h

pub to_setting : (r : Row) (p : Option ℕ) → fits r.values p ≡ true → walk (setting_tree r) (option_to_list p) ≡ leaf (kind.Set (r.kind, p))
to_setting r p h = by_values (is_nothing r.values) r refl p h

-- ## The tree is good

-- A parameter that may follow.
abbrev pub some_value : Values → ℕ
some_value values.BarHeight = 1
some_value values.BarWidth = 2
some_value _ = 0

pub some_follows : (v : Values) → is_nothing v ≡ false → may_follow v (some_value v) ≡ true
some_follows values.Nothing h = absurd cc
some_follows _ h = refl

live_by : (b : Bool) (t u : Tree) → IsLive t → IsLive u → IsLive (cond b t u)
live_by true t u l m = l
live_by false t u l m = m

pub live_setting : (r : Row) → IsLive (setting_tree r)
live_setting r = live_by (is_nothing r.values) (leaf (kind.Set (r.kind, None))) (one (may_follow r.values) (λ n. kind.Set (r.kind, Some n))) tt tt

-- The row spells its settings.
abbrev pub SpellsSettings : Row → Type 0
SpellsSettings r = (p : Option ℕ) → fits r.values p ≡ true → Spells (kind.Set (r.kind, p)) (row_prefix r ++ option_to_list p)

good_setting : (r : Row) → SpellsSettings r → Good (row_prefix r) (setting_tree r)
good_setting r spells =
    good_choice (row_prefix r) (leaf (kind.Set (r.kind, None))) (one (may_follow r.values) (λ n. kind.Set (r.kind, Some n))) (is_nothing r.values)
    (λ h. subst (λ v. Spells (kind.Set (r.kind, None)) v) (append-nil (row_prefix r)) (spells None h))
    (λ h. good_one (row_prefix r) (may_follow r.values) (λ n. kind.Set (r.kind, Some n)) (some_value r.values) (some_follows r.values h) (λ n k. spells (Some n) k))

pub good_settings : (rows : List Row) (others : Tree) → ((i : ℕ) → i < length rows → SpellsSettings (row_at rows i)) → Good [] others → Good [] (settings rows others)
unfolding settings
good_settings [] others spells g = g
good_settings (r ∷ rows) others spells g =
    good_planted (row_prefix r) [] (setting_tree r) (settings rows others) (live_setting r) (good_setting r (spells 0 (omega arith)))
    (good_settings rows others (λ i h. spells (suc i) (omega arith)) g)
