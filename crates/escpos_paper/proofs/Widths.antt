-- How wide and how high characters are.
use Rattle.std.proofs.Common.{ℕ, ◌≤◌, List, [], ◌∷◌, arith, Bool, true, false}
use Rattle.std.specs.Prelude.{filter_map}
use Rattle.escpos_command.specs.declared.command.Command.{Command}
use Rattle.escpos_command.specs.declared.command.Command.TheVariants.{Set}
use Rattle.escpos_command.specs.declared.setting.SettingKind.TheVariants as sets
use Rattle.escpos_command.specs.Meanings.{magnified, has_bit, size_height, size_width}
use Rattle.escpos_paper.specs.Styles.{power_on, sets_height, sets_width, style}
use Rattle.escpos_command.specs.SettingTable.{value}
use Rattle.escpos_command.specs.Settings.{after_init, last_or}

-- A factor is 1 to 8.
pub record IsWidth (n : ℕ) : Type 0 where
  pub least : 1 ≤ n
  pub most : n ≤ 8

magnified_width : (b : Bool) → IsWidth (magnified b)
magnified_width true = record { least = omega arith; most = omega arith }
magnified_width false = record { least = omega arith; most = omega arith }

size_in_range : (n : ℕ) → IsWidth (size_width n)
size_in_range n = record { least = omega arith; most = omega arith }

last_in_range : (start : ℕ) (cs : List Command) → IsWidth start → IsWidth (last_or start (filter_map sets_width cs))
last_in_range start [] h = h
last_in_range start (Set (sets.Mode, p) ∷ cs) h = last_in_range (magnified (has_bit (value p) 5)) cs (magnified_width (has_bit (value p) 5))
last_in_range start (Set (sets.Size, p) ∷ cs) h = last_in_range (size_width (value p)) cs (size_in_range (value p))
last_in_range start (c ∷ cs) h = last_in_range start cs h

height_in_size : (n : ℕ) → IsWidth (size_height n)
height_in_size n = record { least = omega arith; most = omega arith }

last_height : (start : ℕ) (cs : List Command) → IsWidth start → IsWidth (last_or start (filter_map sets_height cs))
last_height start [] h = h
last_height start (Set (sets.Mode, p) ∷ cs) h = last_height (magnified (has_bit (value p) 4)) cs (magnified_width (has_bit (value p) 4))
last_height start (Set (sets.Size, p) ∷ cs) h = last_height (size_height (value p)) cs (height_in_size (value p))
last_height start (c ∷ cs) h = last_height start cs h

pub height_in_range : (cs : List Command) → IsWidth ((style cs).height)
height_in_range cs = last_height power_on.height (after_init cs) (record { least = omega arith; most = omega arith })

pub width_in_range : (cs : List Command) → IsWidth ((style cs).width)
width_in_range cs = last_in_range power_on.width (after_init cs) (record { least = omega arith; most = omega arith })
