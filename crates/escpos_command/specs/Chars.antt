-- Why `chars_of` refuses a text.
use Rattle.std.specs.Prelude.{ℕ, ◌<◌, List, length, take, slice_index}
use Rattle.std.specs.List.{AllPass}
use Rattle.escpos_command.specs.declared.chars.CharsFault.{CharsFault}
use Rattle.escpos_command.specs.declared.chars.CharsFault.TheVariants.{ControlByte, Memory}
use Rattle.escpos_command.specs.Parameters.{is_character}

-- The place is that of the first byte below 20 hexadecimal. A failed allocation hides no such byte.
abbrev pub IsFirstControl : CharsFault → List ℕ → Type 0
IsFirstControl (ControlByte at) text = (at < length text) × (slice_index text at < 0x20) × AllPass is_character (take at text)
IsFirstControl Memory text = AllPass is_character text
