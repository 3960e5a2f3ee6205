-- A host counts its marks on without end, and the ids come round: the mark that has number n has the id of n % 1,679,616.
use Rattle.std.specs.Prelude.{ℕ, ◌%◌, List}
use Rattle.escpos_command.specs.Digits.{mark_count, mark_of}

-- The id of the mark that has number n, in a count that goes on.
abbrev pub id_of : ℕ → List ℕ
id_of n = mark_of (n % mark_count)
