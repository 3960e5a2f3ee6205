-- The data of QR codes, and the length that GS ( k sends before it. (Reference: GS ( k.)
use Rattle.std.specs.Prelude.{ℕ, ◌+◌, ◌*◌, ◌&&◌, nat_le, Bool, List, length}
use Rattle.std.specs.List.{list_all}
use Rattle.escpos_command.specs.Parameters.{is_byte}

-- The most bytes that a QR code holds: as many digits as model 2 has at its largest and at level L.
abbrev pub most_qr_data : ℕ
most_qr_data = 7089

abbrev pub is_qr_data : List ℕ → Bool
is_qr_data stored = nat_le 1 (length stored) && nat_le (length stored) most_qr_data && list_all is_byte stored

-- The length of a function of GS ( k, with its low byte first, counts the bytes after it: at least cn, fn and one more, at most
-- cn, fn, m and the longest data.
abbrev pub is_qr_length : ℕ → ℕ → Bool
is_qr_length low high = nat_le 3 (low + 256 * high) && nat_le (low + 256 * high) (most_qr_data + 3)
