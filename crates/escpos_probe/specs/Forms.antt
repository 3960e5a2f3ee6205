-- When an answer is whole.
use Rattle.std.specs.Prelude.{◌-◌, ◌==◌, ◌&&◌, ℕ, Bool, false, nat_le, List, length, slice_index}
use Rattle.escpos_probe.specs.declared.question.Form.{Form}
use Rattle.escpos_probe.specs.declared.question.Form.TheVariants.{Byte, FourBytes, Block, Process, Anything}

abbrev pub is_whole : Form → List ℕ → Bool
is_whole Byte bytes = nat_le 1 (length bytes)
is_whole FourBytes bytes = nat_le 4 (length bytes)
is_whole Block bytes = nat_le 1 (length bytes) && slice_index bytes (length bytes - 1) == 0
is_whole Process bytes = nat_le 7 (length bytes)
is_whole Anything bytes = false
