-- Dots that are blackened, so that the bytes of a raster hold no real-time command, which a printer would carry out.
use Rattle.std.specs.Prelude.{ℕ, ◌+◌, ◌/◌, ◌%◌, List, [], ◌∷◌, if◌then◌else◌}
use Rattle.escpos_real_time.specs.RealTime.{is_real_time}

-- A byte that comes after these two: where it would end a real-time command it is at most 8, and has the dot of value 16 too.
abbrev pub blackened : ℕ → ℕ → ℕ → ℕ
blackened first second byte = if is_real_time first second byte then byte + 16 else byte

-- Bytes that come after these two, each after those that are written before it.
abbrev pub blackened_after : ℕ → ℕ → List ℕ → List ℕ
blackened_after first second [] = []
blackened_after first second (byte ∷ bytes) = blackened first second byte ∷ blackened_after second (blackened first second byte) bytes

-- The dots of a raster of so many rows: the two bytes of that number come before them, the low one first.
abbrev pub safe_dots : ℕ → List ℕ → List ℕ
safe_dots rows dots = blackened_after (rows % 256) (rows / 256) dots
