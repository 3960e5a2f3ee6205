use Rattle.std.proofs.Common.{◌≡◌, ◌++◌, ◌+◌, ◌*◌, ℕ, List, append_assoc}
use Rattle.std.specs.Prelude.{codes, decimal}
use Rattle.escpos_picture.specs.Numbers.{quarters}
use Rattle.escpos_picture.specs.Places.{face_height, style_height}
use Rattle.escpos_picture.proofs.row.append_turned_place.Goals as goal

-- Nine texts, put one after another.
in_turn : (k a b c d e f g h i : List ℕ) → ((((((((k ++ a) ++ b) ++ c) ++ d) ++ e) ++ f) ++ g) ++ h) ++ i ≡ k ++ (a ++ b ++ c ++ d ++ e ++ f ++ g ++ h ++ i)
in_turn k a b c d e f g h i = simp append_assoc

pub returns-clause-kept : goal.returns-clause-kept
returns-clause-kept c =
    let s = c.args.style.now in
    rw (c.extend-5.ensures.kept, c.append_quarters-2.ensures.kept, c.extend-4.ensures.kept, c.append_quarters.ensures.kept, c.extend-3.ensures.kept, c.append_small_number-2.ensures.kept, c.extend-2.ensures.kept, c.append_small_number.ensures.kept, c.extend.ensures.kept, c.style_height.ensures.value, c.face_height.ensures.value, c.from.ensures)
    (in_turn c.args.gather.now.kept (codes " transform=\"matrix(0 ") (decimal s.width) (codes " -") (decimal s.height) (codes " 0 ")
    (quarters (4 * c.args.x + face_height s.font * s.height)) (codes " -") (quarters (3 * style_height s)) (codes ")\""))
