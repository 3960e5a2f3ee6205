-- The tag, the line and the end of the document are given one after another.
use Rattle.std.proofs.Common.{◌≡◌, ◌++◌, [], ◌∙◌, ap, subst, append-nil, append_assoc}
use Rattle.std.specs.Prelude.{codes}
use Rattle.escpos_io.specs.Gather.{Carries}
use Rattle.escpos_io.proofs.Carrying.{carries_appended}
use Rattle.escpos_picture.specs.Document.{last_tag}
use Rattle.escpos_stream_jobs.specs.Draw.{under_text}
use Rattle.escpos_stream_jobs.proofs.Drawings.{on_given}
use Rattle.escpos_stream_jobs.proofs.draw.put_last_line.Goals as goal

pub returns-clause-given : goal.returns-clause-given
returns-clause-given g c = on_given c.put.result c.put.ensures.given.ok (λ ok first text carries.
    let tag = last_tag c.args.down in
    let line = under_text c.args.under in
    let end = codes "</text>\n</svg>\n" in
    let ready = c.in_ok-room.ensures.given.ok first text carries in
    let tagged = carries_appended first (g.W.ByteOut.written c.room.new.writer) c.room.new.self c.append_last_tag.new.gather (text ++ []) tag ready c.append_last_tag.ensures.kept c.append_last_tag.ensures.same_count in
    let lined = c.in_ok-put_under.ensures.given first ((text ++ []) ++ tag) tagged in
    let all = ok first (((text ++ []) ++ tag) ++ line) lined in
    let same : ((text ++ []) ++ tag) ++ line ++ end ≡ text ++ (tag ++ line ++ end) =
    ap (λ t. t ++ tag ++ line ++ end) (append-nil text) ∙ ap (λ t. t ++ end) (append_assoc text tag line) ∙ append_assoc text (tag ++ line) end in
    subst (Carries first (g.W.ByteOut.written c.put.new.writer) c.put.new.self) same all)
