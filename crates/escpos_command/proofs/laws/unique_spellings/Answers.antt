use Rattle.std.proofs.Common.{◌≡◌, ◌≤◌, ◌*◌, ℕ, true, List, [], length, length-append, ap, arith, rules}
use Rattle.std.specs.Prelude.{Option, None, Some, option_to_list}
use Rattle.std.proofs.Math.Nat.{mul-le-mul_left, mul-le-mul_right}
use Rattle.std.proofs.lemmas.Bool.Decides.{nat_tests}
use Rattle.escpos_command.specs.declared.command.Command.{Command}
use Rattle.escpos_command.specs.declared.command.Command.TheVariants as kind
use Rattle.escpos_command.specs.declared.setting.SettingKind.{SettingKind}
use Rattle.escpos_command.specs.CommandTable.{IsCommand, row}
use Rattle.escpos_command.specs.Rasters.{picture, is_width, is_height, is_raster}
use Rattle.escpos_command.specs.SettingTable.{table, row_for, row_prefix}
use Rattle.escpos_command.specs.Laws.{longest_spelling}
use Rattle.escpos_command.proofs.Combinators.{at_row}
use Rattle.escpos_command.proofs.RasterTree.{in_range}
use Rattle.escpos_command.proofs.Readings.{one_command, no_prefix}
use Rattle.escpos_command.proofs.TableTree.{spelled_setting}
use Rattle.escpos_command.proofs.laws.unique_spellings.Goals as goal

one_at_most : (o : Option ℕ) → length (option_to_list o) ≤ 1
one_at_most None = omega arith
one_at_most (Some n) = omega arith

short_setting : (which : SettingKind) (p : Option ℕ) → length (row (kind.Set (which, p))) ≤ 4
short_setting which p =
    omega (arith, ap length (spelled_setting which p), length-append (row_prefix (row_for table which)) (option_to_list p), one_at_most (row_for table which).third, one_at_most p)

-- A raster has at most 128 bytes a row, and 4,095 rows.
few_dots : (width height : ℕ) → is_width width ≡ true → is_height height ≡ true → width * height ≤ 524160
few_dots width height w h =
    let wide : width ≤ 128 = grind (arith, nat_tests, w) in
    let high : height ≤ 4095 = grind (arith, nat_tests, h) in
    let less = mul-le-mul_right height wide in
    let most = mul-le-mul_left 128 high in
    omega (arith, less, most)

short_raster : (scale width height : ℕ) (dots : List ℕ) → is_raster (picture scale width height dots) ≡ true → length (row (kind.Raster (picture scale width height dots))) ≤ longest_spelling
short_raster scale width height dots h =
    let r = in_range scale width height dots h in
    let few = few_dots width height r.width_in r.height_in in
    omega (arith, few, r.long, length-append dots [])

short : (c : Command) → IsCommand c → length (row c) ≤ longest_spelling
short (kind.Set s) h = let few = short_setting s.0 s.1 in omega (arith, few)
short (kind.Raster r) h = short_raster r.scale r.width r.height r.dots h
short _ h = search (arith, nat_tests, rules, length-append)

pub returns-clause-spelled : goal.returns-clause-spelled
returns-clause-spelled c = λ d h. (at_row d h, short d h)

pub returns-clause-one_command : goal.returns-clause-one_command
returns-clause-one_command c = one_command

pub returns-clause-no_prefix : goal.returns-clause-no_prefix
returns-clause-no_prefix c = no_prefix
