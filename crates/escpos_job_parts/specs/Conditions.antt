-- What a printer's sensors say, as a text.
use Rattle.std.specs.Prelude.{ℕ, Bool, true, false, List, [], ◌∷◌}
use Rattle.escpos_printer.specs.declared.condition.Condition.{Condition}

-- The digit of a sensor: 1 where it is set, otherwise 0.
abbrev pub sensor_digit : Bool → ℕ
sensor_digit false = 48
sensor_digit true = 49

-- The text: cover open, paper near its end, paper ended.
abbrev pub condition_text : Condition → List ℕ
condition_text condition = sensor_digit condition.cover_open ∷ sensor_digit condition.near_end ∷ sensor_digit condition.paper_end ∷ []

-- The printer is online and has paper.
abbrev pub online : Condition
online = record { cover_open = false; near_end = false; paper_end = false }
