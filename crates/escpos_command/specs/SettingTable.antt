-- The table of the commands that only set something. What is said of a table is said of any list of rows; `table` is the one
-- of the module `setting`.
use Rattle.std.specs.Prelude.{ℕ, ◌==◌, ◌&&◌, Bool, true, false, List, ◌∷◌, Option, None, Some, option_to_list, get_or}
use Rattle.std.specs.Option.{is_some, unwrap_or}
use denote.Enum.Declared.{tag_of}
use Rattle.escpos_command.specs.Parameters.{is_byte, is_one_of_two, is_one_of_three, is_one_of_four, is_character_set, is_size, is_bar_height, is_bar_width}
use Rattle.escpos_command.specs.contracts.setting.SettingKind.{the_type}
use Rattle.escpos_command.specs.declared.setting.Row.{Row}
use Rattle.escpos_command.specs.declared.setting.SettingKind.{SettingKind}
use Rattle.escpos_command.specs.declared.setting.SettingKind.TheVariants as sets
use Rattle.escpos_command.specs.declared.setting.TheConstants.{TABLE}
use Rattle.escpos_command.specs.declared.setting.Values.{Values}
use Rattle.escpos_command.specs.declared.setting.Values.TheVariants as values

-- A parameter that may follow the prefix.
abbrev pub may_follow : Values → ℕ → Bool
may_follow values.Nothing n = false
may_follow values.Byte n = is_byte n
may_follow values.OneOfTwo n = is_one_of_two n
may_follow values.OneOfThree n = is_one_of_three n
may_follow values.OneOfFour n = is_one_of_four n
may_follow values.CharacterSet n = is_character_set n
may_follow values.Size n = is_size n
may_follow values.BarHeight n = is_bar_height n
may_follow values.BarWidth n = is_bar_width n

-- Nothing may follow it.
abbrev pub is_nothing : Values → Bool
is_nothing values.Nothing = true
is_nothing _ = false

abbrev pub fits : Values → Option ℕ → Bool
fits v None = is_nothing v
fits v (Some n) = may_follow v n

abbrev pub row_prefix : Row → List ℕ
row_prefix r = r.first ∷ r.second ∷ option_to_list r.third

abbrev pub has_first : ℕ → Row → Bool
has_first first r = r.first == first

abbrev pub same_third : Option ℕ → Option ℕ → Bool
same_third None None = true
same_third None (Some n) = false
same_third (Some m) None = false
same_third (Some m) (Some n) = m == n

abbrev pub has_prefix : ℕ → ℕ → Option ℕ → Row → Bool
has_prefix first second third r = r.first == first && r.second == second && same_third r.third third

-- Its prefix has a third byte after these two.
abbrev pub takes_third : ℕ → ℕ → Row → Bool
takes_third first second r = r.first == first && r.second == second && is_some r.third

-- The place of a kind among all.
abbrev pub number : SettingKind → ℕ
number which = tag_of the_type which

abbrev pub blank : Row
blank = record { kind = sets.Mode; first = 0; second = 0; third = None; values = values.Nothing; since = 0 }

abbrev pub row_at : List Row → ℕ → Row
row_at rows i = get_or rows i blank

abbrev pub row_for : List Row → SettingKind → Row
row_for rows which = row_at rows (number which)

-- The row of this kind allows this parameter.
abbrev pub is_setting : List Row → SettingKind × Option ℕ → Bool
is_setting rows s = fits (row_for rows s.0).values s.1

-- The table of the program. A proof that computes with its rows unfolds it.
unfoldable pub table : List Row
table = TABLE

-- The parameter as a number: 0 where there is none.
abbrev pub value : Option ℕ → ℕ
value parameter = unwrap_or parameter 0
