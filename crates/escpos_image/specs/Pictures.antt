-- The picture that bytes are, or the first fault of them.
use Rattle.std.specs.Prelude.{◌≡◌, ℕ, zero, suc, ◌+◌, ◌*◌, ◌==◌, List, [], ◌∷◌, ◌++◌, Result, Ok, Err, if◌then◌else◌}
use Rattle.escpos_image.specs.declared.fault.ImageFault.{ImageFault}
use Rattle.escpos_image.specs.declared.fault.ImageError.{ImageError}
use Rattle.escpos_image.specs.declared.fault.ImageError.TheVariants.{Refused, Memory}
use Rattle.escpos_image.specs.declared.header.Header.{Header}
use Rattle.escpos_image.specs.Grays.{Grays, grays_of}
use Rattle.escpos_image.specs.Headers.{◌>>=◌, header_of}
use Rattle.escpos_image.specs.Samples.{dot_at}

-- The column after this one: the first after the last.
abbrev pub column_after : ℕ → ℕ → ℕ
column_after width column = if column + 1 == width then 0 else column + 1

-- Values after others, where they are read at all.
abbrev pub after : List ℕ → Result (List ℕ) ImageFault → Result (List ℕ) ImageFault
after grays (Ok more) = Ok (grays ++ more)
after grays (Err fault) = Err fault

-- The gray values of so many dots, the first at this place and in this column.
abbrev pub dots_at : Header → List ℕ → ℕ → ℕ → ℕ → Result (List ℕ) ImageFault
dots_at header bytes zero at column = Ok []
dots_at header bytes (suc count) at column =
    dot_at header bytes at column
    >>= λ dot. after (dot.value ∷ []) (dots_at header bytes count dot.next (column_after header.width column))

-- All of a picture with this header.
abbrev pub dots_of : Header → List ℕ → Result (List ℕ) ImageFault
dots_of header bytes = dots_at header bytes (header.width * header.height) header.start 0

-- The picture that these bytes are. What comes after its last sample is no part of it.
unfoldable pub picture_of : List ℕ → Result Grays ImageFault
picture_of bytes =
    header_of bytes >>= λ header. dots_of header bytes >>= λ grays. Ok (grays_of header.width header.height grays)

-- The error of an outcome: its fault, or out of memory, which may come in place of any.
abbrev pub IsErrorOf : {A : Type 0} → Result A ImageFault → ImageError → Type 0
IsErrorOf outcome (Refused fault) = outcome ≡ Err fault
IsErrorOf outcome Memory = Unit {0}
