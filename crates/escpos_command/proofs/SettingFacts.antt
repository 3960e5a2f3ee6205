-- What the program's table of settings meets, by computing. No kind is named, but one to split the cases.
use Rattle.std.proofs.Common.{◌≡◌, ℕ, length, true, refl, Option, None, Some}
use Rattle.std.specs.Prelude.{◌==◌, ◌&&◌, not, nat_le, nat_lt}
use Rattle.std.specs.List.{list_all}
use Rattle.escpos_command.specs.declared.setting.SettingKind.{SettingKind}
use Rattle.escpos_command.specs.declared.setting.SettingKind.TheVariants as sets
use Rattle.escpos_command.specs.SettingTable.{number, table, row_for, row_prefix, is_setting}
use Rattle.escpos_command.specs.Reference.{reference}
use Rattle.escpos_command.proofs.SettingRows.{IsTable}

covers : (which : SettingKind) → nat_lt (number which) (length table) ≡ true
unfolding table
covers sets.Mode = refl
covers _ = refl

pub is_table : IsTable table
unfolding table
is_table = record { in_order = refl; covers = covers; one_prefix = refl; beside_forms = refl; low = refl }

-- Each prefix begins with a byte from 9 on but DC4, which no real-time command has after its first byte.
pub firsts : list_all (λ r. nat_le 9 r.first && not (r.first == 20)) table ≡ true
unfolding table
firsts = refl

-- ## It is that of the Reference

pub own_letters : (which : SettingKind) → row_prefix (row_for table which) ≡ (reference which).letters
unfolding table
own_letters sets.Mode = refl
own_letters _ = refl

takes_none : (which : SettingKind) → is_setting table (which, None) ≡ (reference which).allows None
unfolding table
takes_none sets.Mode = refl
takes_none _ = refl

takes_some : (which : SettingKind) (n : ℕ) → is_setting table (which, Some n) ≡ (reference which).allows (Some n)
unfolding table
takes_some sets.Mode n = refl
takes_some _ n = refl

pub own_parameters : (which : SettingKind) (parameter : Option ℕ) → is_setting table (which, parameter) ≡ (reference which).allows parameter
own_parameters which None = takes_none which
own_parameters which (Some n) = takes_some which n
