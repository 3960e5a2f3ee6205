-- Each entry stands after those before it.
use Rattle.std.proofs.Common.{◌≡◌, ◌++◌, ap, ◌∙◌}
use Rattle.escpos_image.specs.Entries.{entry_line}
use Rattle.escpos_image.proofs.Ranges.{flat_map_front}
use Rattle.escpos_image.proofs.dots.DotPicture.entries.Goals as goal

pub loop-b-preserved : goal.loop-b-preserved
loop-b-preserved c =
    let l = c.loop-b in
    let line = entry_line c.args.self.now in
    let pushed : c.put_entry.new.text.items ≡ l.text.items ++ line l.b = c.in_ok-put_entry.ensures in
    pushed ∙ ap (λ xs. xs ++ line l.b) l.invariant ∙ flat_map_front line l.b
