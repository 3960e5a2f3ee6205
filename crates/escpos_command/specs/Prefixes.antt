-- Prefixes of commands: which two part, and which tree follows one. Only proofs and private clauses use it.
use Rattle.std.specs.Prelude.{ℕ, ◌==◌, ◌&&◌, ◌||◌, not, Bool, true, false, List, [], ◌∷◌, if◌then◌else◌}
use Rattle.std.specs.List.{list_all, list_any}
use Rattle.escpos_command.specs.SettingTable.{row_prefix}
use Rattle.escpos_command.specs.Tree.{Tree, dead}
use Rattle.escpos_command.specs.declared.setting.Row.{Row}

-- Two prefixes part at some place: neither begins the other.
abbrev pub apart : List ℕ → List ℕ → Bool
apart [] q = false
apart (b ∷ p) [] = false
apart (b ∷ p) (c ∷ q) = not (b == c) || apart p q

abbrev pub same : List ℕ → List ℕ → Bool
same [] [] = true
same [] (c ∷ q) = false
same (b ∷ p) [] = false
same (b ∷ p) (c ∷ q) = b == c && same p q

abbrev pub Forms : Type 0
Forms = List (List ℕ × Tree)

-- Each prefix of the forms parts from this one.
abbrev pub part_from : List ℕ → Forms → Bool
part_from q forms = list_all (λ form. apart form.0 q) forms

-- Any two of their prefixes part.
abbrev pub all_apart : Forms → Bool
all_apart [] = true
all_apart (form ∷ forms) = list_all (λ other. apart form.0 other.0) forms && all_apart forms

-- The forms have this prefix, and this tree after it.
abbrev pub has_form : List ℕ → Forms → Bool
has_form q forms = list_any (λ form. same form.0 q) forms

abbrev pub tree_after : List ℕ → Forms → Tree
tree_after q [] = dead
tree_after q (form ∷ forms) = if same form.0 q then form.1 else tree_after q forms

-- Each prefix of a table of settings parts from this one.
abbrev pub rows_part_from : List ℕ → List Row → Bool
rows_part_from q rows = list_all (λ r. apart (row_prefix r) q) rows
