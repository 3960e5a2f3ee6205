-- From the bytes of a picture to the entries of a receipt.
use Rattle.std.specs.Prelude.{ℕ, List, Option, Result, Ok}
use Rattle.escpos_image.specs.declared.fault.ImageFault.{ImageFault}
use Rattle.escpos_image.specs.Headers.{◌>>=◌}
use Rattle.escpos_image.specs.Pictures.{picture_of}
use Rattle.escpos_image.specs.Scaling.{scaled}
use Rattle.escpos_image.specs.Shading.{shaded}
use Rattle.escpos_image.specs.Entries.{entries_text}

-- The picture is read, scaled down to the width, and made black and white.
abbrev pub image_text : ℕ → Option ℕ → List ℕ → Result (List ℕ) ImageFault
image_text width threshold bytes =
    picture_of bytes >>= λ picture. Ok (entries_text (shaded threshold (scaled picture width)))
