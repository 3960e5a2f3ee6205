-- The table of half-width Katakana.
-- It has the characters of the bytes 80 to FF, and 0 where a place is open.
use Rattle.std.specs.Prelude.{ℕ, List, ◌++◌, replicate}
use Rattle.std.specs.List.{range_with_len}

-- Table 1, Katakana (half-width Katakana).
abbrev pub katakana : List ℕ
katakana =
    replicate 33 0 ++ range_with_len 0xFF61 63 ++ replicate 32 0
