-- Text in which one number alone tells how far down the paper something is drawn. Only laws use this definition.
use Rattle.std.specs.Prelude.{ℕ, ◌+◌, ◌*◌, ◌≡◌, List, ◌++◌}
use Rattle.escpos_picture.specs.Numbers.{quarters}
use Rattle.escpos_picture.specs.declared.pen.TheConstants.{MARGIN}

-- The text is the same for each place down the paper, but for one number: the margin, the place, and this many quarters of a dot.
pub record MovesDown (more : ℕ) (text : ℕ → List ℕ) : Type 0 where
  pub before : List ℕ
  pub after : List ℕ
  pub is : (down : ℕ) → text down ≡ before ++ quarters (4 * MARGIN + down + more) ++ after
