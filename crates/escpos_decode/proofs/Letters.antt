-- Steps within the prefix of a command, and to the parameter of a setting.
use Rattle.std.proofs.Common.{◌≡◌, ◌≢◌, arith, ℕ, List, [], ◌∷◌, ◌++◌, refl, sym, ◌∙◌, ap, subst, Bool, true, false, cond, IsTrue, None, Some}
use Rattle.std.specs.Prelude.{◌==◌, ◌&&◌, ◌||◌, not, Option, option_to_list}
use Rattle.std.specs.List.{list_all, list_any}
use Rattle.std.specs.Option.{is_some}
use Rattle.std.proofs.lemmas.Bool.Decides.{nat_tests}
use Rattle.escpos_command.specs.declared.bytes.TheConstants.{DLE, GS}
use Rattle.escpos_command.specs.declared.command.Command.{Command}
use Rattle.escpos_command.specs.declared.command.Command.TheVariants as kind
use Rattle.escpos_command.specs.declared.fault.FaultReason.{FaultReason}
use Rattle.escpos_command.specs.declared.fault.FaultReason.TheVariants.{UnknownCommand, BadParameter}
use Rattle.escpos_command.specs.declared.setting.Row.{Row}
use Rattle.escpos_command.specs.declared.setting.SettingKind.{SettingKind}
use Rattle.escpos_command.specs.Parameters.{is_character}
use Rattle.escpos_command.specs.Places.{has_second_letter, reason_after}
use Rattle.escpos_command.specs.Prefixes.{Forms, apart, part_from, rows_part_from}
use Rattle.escpos_command.specs.SettingTable.{table, is_nothing, may_follow, has_first, has_prefix, takes_third, same_third, row_prefix, number, blank, row_for}
use Rattle.escpos_command.specs.Tree.{Tree, dead, leaf, node, walk, one, character, forms, grammar, setting_tree}
use Rattle.escpos_command.proofs.Combinators.{and_left, and_right, both, same_number}
use Rattle.escpos_command.proofs.Planting.{or_else}
use Rattle.escpos_command.proofs.SettingFacts.{is_table}
use Rattle.escpos_command.proofs.SettingRows.{all_at, covered, own_kind, some_kind}
use Rattle.escpos_command.proofs.TableTree.{at_neither, at_setting}
use Rattle.escpos_command.proofs.Walks.{walk-nil}
use Rattle.escpos_decode.specs.State.{prefix_of, tree_of, has_content, holds, step, Moves}
use Rattle.escpos_decode.specs.declared.state.State.{State}
use Rattle.escpos_decode.specs.declared.state.State.TheVariants as state
use Rattle.escpos_decode.proofs.States.{walk-snoc}

-- A state within a prefix.
abbrev pub IsWithin : State → List ℕ → Type 0
IsWithin p read = tree_of p read ≡ walk grammar (prefix_of p)

pub at_start : (read : List ℕ) → IsWithin state.Start read
at_start read = sym (walk-nil grammar)

leads_on : (p : State) (read : List ℕ) (b : ℕ) → IsWithin p read → step (tree_of p read) b ≡ walk grammar (prefix_of p ++ b ∷ [])
leads_on p read b at = ap (λ t. step t b) at ∙ sym (walk-snoc grammar (prefix_of p) b)

pub moves : (p q : State) (read : List ℕ) (b letter : ℕ) → b ≡ letter → IsWithin p read → prefix_of q ≡ prefix_of p ++ letter ∷ [] → walk grammar (prefix_of q) ≡ tree_of q []
    → IsTrue (holds q) → has_content p ≡ false → Moves p read b q
moves p q read b letter e at whole to held from =
    subst (λ x. Moves p read x q) (sym e)
    (record { below = leads_on p read letter at ∙ ap (walk grammar) (sym whole) ∙ to; grown = whole; held = held; from = from })

pub ends : (p : State) (read : List ℕ) (b letter : ℕ) (c : Command) → b ≡ letter → IsWithin p read → walk grammar (prefix_of p ++ letter ∷ []) ≡ leaf c → step (tree_of p read) b ≡ leaf c
ends p read b letter c e at to = ap (step (tree_of p read)) e ∙ leads_on p read letter at ∙ to

pub stops : (p : State) (read : List ℕ) (b : ℕ) → IsWithin p read → part_from (prefix_of p ++ b ∷ []) forms ≡ true → rows_part_from (prefix_of p ++ b ∷ []) table ≡ true
    → walk (node character) (prefix_of p ++ b ∷ []) ≡ dead → step (tree_of p read) b ≡ dead
stops p read b at h k none = leads_on p read b at ∙ at_neither (prefix_of p ++ b ∷ []) h k ∙ none

-- ## Bytes that begin no command

-- No command of two bytes or more is a character.
pub longer_than_characters : (first second : ℕ) (more : List ℕ) → walk (node character) (first ∷ second ∷ more) ≡ dead
longer_than_characters first second more = by_test (is_character first)
  where
    by_test : (v : Bool) → walk (cond v (leaf (kind.Char first)) dead) (second ∷ more) ≡ dead
    by_test true = refl
    by_test false = refl

-- A row whose prefix is neither these two bytes nor goes on after them parts from them.
parted : (a b : Bool) (third : Option ℕ) → (a && b && same_third third None) ≡ false → (a && b && is_some third) ≡ false
    → (not a || (not b || apart (option_to_list third) [])) ≡ true
parted false b third h k = refl
parted true false third h k = refl
parted true true None h k = absurd cc
parted true true (Some n) h k = absurd cc

parted_third : (a b : Bool) (third : Option ℕ) (n : ℕ) → (a && b && same_third third (Some n)) ≡ false → (a && b && same_third third None) ≡ false
    → (not a || (not b || apart (option_to_list third) (n ∷ []))) ≡ true
parted_third false b third n h k = refl
parted_third true false third n h k = refl
parted_third true true None n h k = absurd cc
parted_third true true (Some m) n h k = ap (λ v. not v || false) h

neither : (a b : Bool) → (a || b) ≡ false → (a ≡ false) × (b ≡ false)
neither true b h = absurd cc
neither false b h = (refl, h)

without : (first second : ℕ) (rows : List Row) → list_any (has_prefix first second None) rows ≡ false → list_any (takes_third first second) rows ≡ false
    → rows_part_from (first ∷ second ∷ []) rows ≡ true
without first second [] h k = refl
without first second (r ∷ rows) h k =
    let none = neither (has_prefix first second None r) (list_any (has_prefix first second None) rows) h in
    let ends = neither (takes_third first second r) (list_any (takes_third first second) rows) k in
    both _ _ (parted (r.first == first) (r.second == second) r.third none.0 ends.0) (without first second rows none.1 ends.1)

without_third : (first second third : ℕ) (rows : List Row) → list_any (has_prefix first second (Some third)) rows ≡ false → list_any (has_prefix first second None) rows ≡ false
    → rows_part_from (first ∷ second ∷ third ∷ []) rows ≡ true
without_third first second third [] h k = refl
without_third first second third (r ∷ rows) h k =
    let none = neither (has_prefix first second (Some third) r) (list_any (has_prefix first second (Some third)) rows) h in
    let short = neither (has_prefix first second None r) (list_any (has_prefix first second None) rows) k in
    both _ _ (parted_third (r.first == first) (r.second == second) r.third third none.0 short.0) (without_third first second third rows none.1 short.1)

-- No setting begins with such a byte.
begins_none : (rows : List Row) (b : ℕ) (more : List ℕ) → list_any (has_first b) rows ≡ false → rows_part_from (b ∷ more) rows ≡ true
begins_none [] b more h = refl
begins_none (r ∷ rows) b more h =
    let none = neither (has_first b r) (list_any (has_first b) rows) h in
    both _ _ (ap (λ v. not v || apart (r.second ∷ option_to_list r.third) more) none.0) (begins_none rows b more none.1)

-- What parts from some bytes parts from more.
apart_longer : (p q more : List ℕ) → apart p q ≡ true → apart p (q ++ more) ≡ true
apart_longer [] q more h = absurd cc
apart_longer (b ∷ p) [] more h = absurd cc
apart_longer (b ∷ p) (c ∷ q) more h = by_test (b == c) refl (λ k. apart_longer p q more k)
  where
    by_test : (v : Bool) → (b == c) ≡ v → (apart p q ≡ true → apart p (q ++ more) ≡ true) → (not (b == c) || apart p (q ++ more)) ≡ true
    by_test false e further = ap (λ v. not v || apart p (q ++ more)) e
    by_test true e further = ap (λ v. not v || apart p (q ++ more)) e ∙ further (ap (λ v. not v || apart p q) (sym e) ∙ h)

pub part_longer : (all : Forms) (q more : List ℕ) → part_from q all ≡ true → part_from (q ++ more) all ≡ true
part_longer [] q more h = refl
part_longer (form ∷ all) q more h =
    both _ _ (apart_longer form.0 q more (and_left (apart form.0 q) (part_from q all) h)) (part_longer all q more (and_right (apart form.0 q) (part_from q all) h))

-- Where no command begins with a byte.
pub begins_no_form : (b : ℕ) → b ≢ 9 → b ≢ 10 → b ≢ 13 → b ≢ 16 → b ≢ 27 → b ≢ 29 → part_from (b ∷ []) forms ≡ true
begins_no_form b ht lf cr dle esc gs = grind (arith, nat_tests)

no_character : (b : ℕ) → is_character b ≡ false → walk (node character) (b ∷ []) ≡ dead
no_character b h = ap (λ v. walk (cond v (leaf (kind.Char b)) dead) []) h

pub no_first : (b : ℕ) → part_from (b ∷ []) forms ≡ true → is_character b ≡ false → list_any (has_first b) table ≡ false → (read : List ℕ) → step (tree_of state.Start read) b ≡ dead
no_first b h other none read = stops state.Start read b (at_start read) h (begins_none table b [] none) (no_character b other)

dle_rows : list_any (has_first DLE) table ≡ false
unfolding table
dle_rows = refl

dle_forms : (b : ℕ) → b ≢ 4 → part_from (DLE ∷ b ∷ []) forms ≡ true
dle_forms b h = grind (arith, nat_tests)

pub no_after_dle : (b : ℕ) → b ≢ 4 → (read : List ℕ) → step (tree_of state.Dle read) b ≡ dead
no_after_dle b h read = stops state.Dle read b refl (dle_forms b h) (begins_none table DLE (b ∷ []) dle_rows) (longer_than_characters DLE b [])

bracket_forms : (b : ℕ) → b ≢ 72 → b ≢ 107 → b ≢ 76 → part_from (GS ∷ 0x28 ∷ b ∷ []) forms ≡ true
bracket_forms b h k l = grind (arith, nat_tests)

bracket_rows : (b : ℕ) → rows_part_from (GS ∷ 0x28 ∷ b ∷ []) table ≡ true
unfolding table
bracket_rows b = refl

pub no_after_bracket : (b : ℕ) → b ≢ 72 → b ≢ 107 → b ≢ 76 → (read : List ℕ) → step (tree_of state.Bracket read) b ≡ dead
no_after_bracket b h k l read = stops state.Bracket read b refl (bracket_forms b h k l) (bracket_rows b) (longer_than_characters GS 0x28 (b ∷ []))

-- ## Settings

something : (b : Bool) → not b ≡ true → b ≡ false
something true h = absurd cc
something false h = refl

pub letters : (t : Tree) (first second : ℕ) → t ≡ walk grammar (first ∷ []) → step t second ≡ walk grammar (first ∷ second ∷ [])
letters t first second at = ap (λ u. step u second) at ∙ sym (walk-snoc grammar (first ∷ []) second)

pub no_letters : (first second : ℕ) → part_from (first ∷ second ∷ []) forms ≡ true → list_any (has_prefix first second None) table ≡ false → list_any (takes_third first second) table ≡ false
    → walk grammar (first ∷ second ∷ []) ≡ dead
no_letters first second h none ends = at_neither (first ∷ second ∷ []) h (without first second table none ends) ∙ longer_than_characters first second []

pub no_third : (first second third : ℕ) → IsTrue (holds (state.Letters first second)) → list_any (has_prefix first second (Some third)) table ≡ false → (read : List ℕ)
    → step (tree_of (state.Letters first second) read) third ≡ dead
no_third first second third held none read =
    let any = list_any (takes_third first second) table in
    let short = list_any (has_prefix first second None) table in
    let letters_held = and_left (any && not short) (part_from (first ∷ second ∷ []) forms) held in
    stops (state.Letters first second) read third refl
    (part_longer forms (first ∷ second ∷ []) (third ∷ []) (and_right (any && not short) (part_from (first ∷ second ∷ []) forms) held))
    (without_third first second third table none (something short (and_right any (not short) letters_held))) (longer_than_characters first second (third ∷ []))

-- The last byte of a setting's prefix leads to what follows the prefix.
pub to_setting : (p : State) (read : List ℕ) (b : ℕ) (which : SettingKind) → row_prefix (row_for table which) ≡ prefix_of p ++ b ∷ [] → IsWithin p read
    → step (tree_of p read) b ≡ setting_tree (row_for table which)
to_setting p read b which e at = leads_on p read b at ∙ ap (walk grammar) (sym e) ∙ at_setting which

pub alone : (which : SettingKind) → is_nothing (row_for table which).values ≡ true → setting_tree (row_for table which) ≡ leaf (kind.Set (which, None))
alone which h =
    let r = row_for table which in
    ap (λ v. cond v (leaf (kind.Set (r.kind, None))) (one (may_follow r.values) (λ n. kind.Set (r.kind, Some n)))) h
    ∙ ap (λ k. leaf (kind.Set (k, None))) (own_kind table which is_table)

pub not_nothing : (b : Bool) → (b ≡ true → ⊥) → not b ≡ true
not_nothing true h = absurd (h refl)
not_nothing false h = refl

-- A parameter that may follow ends the setting.
pub followed : (which : SettingKind) (b : ℕ) → not (is_nothing (row_for table which).values) ≡ true → may_follow (row_for table which).values b ≡ true
    → step (setting_tree (row_for table which)) b ≡ leaf (kind.Set (which, Some b))
followed which b some h =
    let r = row_for table which in
    ap (λ v. step (cond v (leaf (kind.Set (r.kind, None))) (one (may_follow r.values) (λ n. kind.Set (r.kind, Some n)))) b) (something (is_nothing r.values) some)
    ∙ ap (λ v. cond v (leaf (kind.Set (r.kind, Some b))) dead) h
    ∙ ap (λ k. leaf (kind.Set (k, Some b))) (own_kind table which is_table)

-- A parameter follows the prefix.
abbrev is_bad_parameter : FaultReason → Bool
is_bad_parameter BadParameter = true
is_bad_parameter _ = false

bad_parameter : (why : FaultReason) → is_bad_parameter why ≡ true → why ≡ BadParameter
bad_parameter BadParameter h = refl
bad_parameter _ h = absurd cc

parameters_follow : list_all (λ r. is_bad_parameter (reason_after (row_prefix r))) table ≡ true
unfolding table
parameters_follow = refl

pub reason_at_setting : (which : SettingKind) → reason_after (row_prefix (row_for table which)) ≡ BadParameter
reason_at_setting which =
    bad_parameter _ (all_at (λ r. is_bad_parameter (reason_after (row_prefix r))) table (number which) blank parameters_follow (covered table is_table which))

-- Two letters that a third follows.
thirds_follow : list_all (λ r. not (is_some r.third) || has_second_letter r.first r.second) table ≡ true
unfolding table
thirds_follow = refl

pub second_letter : (first second : ℕ) → list_any (takes_third first second) table ≡ true → has_second_letter first second ≡ true
second_letter first second h =
    let found = some_kind table is_table (takes_third first second) h in
    let which = found.0 in
    let r = row_for table which in
    let letters = and_left (r.first == first && r.second == second) (is_some r.third) found.1 in
    let third = and_right (r.first == first && r.second == second) (is_some r.third) found.1 in
    let follows = all_at (λ s. not (is_some s.third) || has_second_letter s.first s.second) table (number which) blank thirds_follow (covered table is_table which) in
    ap (λ v. has_second_letter v second) (sym (same_number r.first first (and_left (r.first == first) (r.second == second) letters)))
    ∙ ap (has_second_letter r.first) (sym (same_number r.second second (and_right (r.first == first) (r.second == second) letters)))
    ∙ or_else (is_some r.third) (has_second_letter r.first r.second) third follows

pub reason_at_letters : (first second : ℕ) → IsTrue (holds (state.Letters first second)) → reason_after (first ∷ second ∷ []) ≡ UnknownCommand
reason_at_letters first second held =
    let any = list_any (takes_third first second) table in
    let short = list_any (has_prefix first second None) table in
    ap (λ v. cond v UnknownCommand BadParameter) (second_letter first second (and_left any (not short) (and_left (any && not short) (part_from (first ∷ second ∷ []) forms) held)))
