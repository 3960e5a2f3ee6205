-- Nothing is printed, and the head is all that is drawn.
use Rattle.std.proofs.Common.{[], ap, sym, subst, append-nil}
use Rattle.escpos_io.proofs.Carrying.{carries_appended}
use Rattle.escpos_io.specs.Gather.{Carries}
use Rattle.escpos_paper.specs.Page.{Sheet}
use Rattle.escpos_paper.specs.Torn.{below}
use Rattle.escpos_picture.specs.Groups.{drawings}
use Rattle.escpos_picture.specs.Document.{head}
use Rattle.escpos_stream_jobs.proofs.draw.Drawing.new.Goals as goal

pub returns-clause-drawn : goal.returns-clause-drawn
unfolding drawings
returns-clause-drawn c = λ sink.
    let text = head c.args.width c.args.measured.down c.args.measured.has_last in
    record {
      measured = record { torn = ap (λ (s : Sheet). s.items) c.new.ensures; sheet_is = ap (below []) c.new.ensures; place_is = c.new-2.ensures };
      carried = subst (Carries sink sink c.append_head.new.gather) (sym (append-nil text))
          (carries_appended sink sink c.new-gather.result c.append_head.new.gather [] text (c.new-gather.ensures.carries sink) c.append_head.ensures.kept c.append_head.ensures.same_count);
    }
