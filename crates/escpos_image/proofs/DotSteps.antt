-- One more dot of a picture: it stands after those before it.
use Rattle.std.proofs.Common.{◌≡◌, ℕ, suc, ◌-◌, ◌<◌, List, [], ◌∷◌, ◌++◌, Result, Ok, Err, refl, sym, ap, ◌∙◌, append_assoc, arith}
use Rattle.escpos_image.specs.declared.fault.ImageFault.{ImageFault}
use Rattle.escpos_image.specs.declared.header.Header.{Header}
use Rattle.escpos_image.specs.declared.samples.Sample.{Sample}
use Rattle.escpos_image.specs.Headers.{◌>>=◌}
use Rattle.escpos_image.specs.Samples.{dot_at}
use Rattle.escpos_image.specs.Pictures.{after, column_after, dots_at}

after_one : (done : List ℕ) (gray : ℕ) (more : Result (List ℕ) ImageFault) → after done (after (gray ∷ []) more) ≡ after (done ++ gray ∷ []) more
after_one done gray (Ok more) = ap Ok (sym (append_assoc done (gray ∷ []) more))
after_one done gray (Err fault) = refl

abbrev pub rest_after : Header → List ℕ → ℕ → ℕ → Sample → Result (List ℕ) ImageFault
rest_after header bytes fewer column dot = after (dot.value ∷ []) (dots_at header bytes fewer dot.next (column_after header.width column))

pub first_dot : (header : Header) (bytes : List ℕ) (fewer at column : ℕ) (dot : Sample) → dot_at header bytes at column ≡ Ok dot → dots_at header bytes (suc fewer) at column ≡ rest_after header bytes fewer column dot
first_dot header bytes fewer at column dot is = ap (λ outcome. outcome >>= rest_after header bytes fewer column) is

pub next_dot : (header : Header) (bytes done : List ℕ) (left at column : ℕ) (dot : Sample) → 0 < left → dot_at header bytes at column ≡ Ok dot → after done (dots_at header bytes left at column) ≡ after (done ++ dot.value ∷ []) (dots_at header bytes (left - 1) dot.next (column_after header.width column))
next_dot header bytes done left at column dot some is =
    let e : left ≡ suc (left - 1) = omega arith in
    ap (λ n. after done (dots_at header bytes n at column)) e ∙ ap (after done) (first_dot header bytes (left - 1) at column dot is)
    ∙ after_one done dot.value (dots_at header bytes (left - 1) dot.next (column_after header.width column))

-- Where a dot can't be read, nor can those from there on.
pub no_dot : (header : Header) (bytes done : List ℕ) (left at column : ℕ) (fault : ImageFault) → 0 < left → dot_at header bytes at column ≡ Err fault → after done (dots_at header bytes left at column) ≡ Err fault
no_dot header bytes done left at column fault some is =
    let e : left ≡ suc (left - 1) = omega arith in
    ap (λ n. after done (dots_at header bytes n at column)) e
    ∙ ap (λ outcome. after done (outcome >>= rest_after header bytes (left - 1) column)) is
