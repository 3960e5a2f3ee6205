-- The four bytes of a block of automatic status, and what they say. (Reference: GS a.)
use Rattle.std.specs.Prelude.{ℕ, ◌==◌, ◌&&◌, ◌||◌, not, Bool, List, length, slice_index, take, drop}
use Rattle.std.specs.List.{list_all}
use Rattle.escpos_command.specs.Meanings.{has_bit}
use Rattle.escpos_command.specs.Parameters.{is_byte}

-- A block begins with a byte that has bit 4 set, and bits 0, 1 and 7 clear.
abbrev pub begins_block : ℕ → Bool
begins_block b = is_byte b && has_bit b 4 && not (has_bit b 0) && not (has_bit b 1) && not (has_bit b 7)

-- In each further byte bits 4 and 7 are clear.
abbrev pub continues_block : ℕ → Bool
continues_block b = is_byte b && not (has_bit b 4) && not (has_bit b 7)

-- A block: one byte that begins it, and three further bytes.
abbrev pub is_block : List ℕ → Bool
is_block bs = length bs == 4 && list_all begins_block (take 1 bs) && list_all continues_block (drop 1 bs)

-- The printer is offline: bit 3 of the first byte.
abbrev pub says_offline : List ℕ → Bool
says_offline bs = has_bit (slice_index bs 0) 3

-- Its cover is open: bit 5 of the first byte.
abbrev pub says_cover_open : List ℕ → Bool
says_cover_open bs = has_bit (slice_index bs 0) 5

-- Its paper is near its end: bit 0 or 1 of the third byte.
abbrev pub says_near_end : List ℕ → Bool
says_near_end bs = has_bit (slice_index bs 2) 0 || has_bit (slice_index bs 2) 1

-- Its paper has ended: bit 2 or 3 of the third byte.
abbrev pub says_paper_end : List ℕ → Bool
says_paper_end bs = has_bit (slice_index bs 2) 2 || has_bit (slice_index bs 2) 3
