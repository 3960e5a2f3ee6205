-- The second reading: the picture whole, or cut short where an allocation failed.
use Rattle.std.proofs.Common.{◌≡◌, ◌++◌, [], ap, refl, sym, ◌∙◌, subst, length, inl, inr}
use Rattle.escpos_passed.specs.Tokens.{passed_count, commands_of}
use Rattle.escpos_passed.proofs.With.{front_without}
use Rattle.escpos_io.specs.Gather.{Carries}
use Rattle.escpos_paper.specs.Printed.{printed}
use Rattle.escpos_picture.specs.Places.{top}
use Rattle.escpos_picture.specs.Groups.{drawings}
use Rattle.escpos_picture.specs.Document.{foot, head}
use Rattle.escpos_stream_jobs.specs.Obstacle.{memory_is_no_device as obstacles_differ}
use Rattle.escpos_job_parts.specs.declared.status.Status.TheVariants.{Refused}
use Rattle.escpos_job_parts.specs.Lines.{fault_line}
use Rattle.escpos_job_parts.specs.LastText.{last_text}
use Rattle.escpos_job_parts.specs.Ending.{PrintsText, StatusFits, job_end, memory_line}
use Rattle.escpos_stream_jobs.specs.Render.{half_line}
use Rattle.escpos_stream_jobs.specs.Draw.{IsPicture, IsShortPicture, passed_words}
use Rattle.escpos_stream_jobs.proofs.Reports.{read_as, refused_as, short_as, device_failed, never_usage, memory_is_no_device, memory_is_no_usage}
use Rattle.escpos_stream_jobs.proofs.Drawings.{picture_is, short_is, content_is_no_device, content_is_no_usage, refused_is_no_device, refused_is_no_usage}
use Rattle.escpos_stream_jobs.proofs.draw.draw_measured.Goals as goal

pub returns-in-Ok-clause-draws : goal.returns-in-Ok-clause-draws
returns-in-Ok-clause-draws g c =
    let (ts, rest, read, taken, counted, halves) = c.in-Ok.ensures.read in
    let cs = commands_of ts in
    let m = c.args.measured in
    let start = head c.args.width m.down m.has_last in
    let drawn = taken.0 c.args.width start (g.W.ByteOut.written c.args.output.now) [] (c.new-drawing.ensures.drawn (g.W.ByteOut.written c.args.output.now)) in
    let text = start ++ drawings (top c.args.width) (printed c.args.width cs) in
    let says = c.finish.ensures.says (g.W.ByteOut.written c.args.output.now) text drawn.carried in
    let (all, last, first, depth, has) = c.requires.outcome in
    let bytes = c.args.bytes.now in
    let down = c.read_tokens.new.consumer.down in
    let line = passed_words (passed_count ts) ++ half_line (length bytes) (length rest) in
    let words = c.in-Ok.field-0.passed in
    let line_is : passed_words words ++ last_text c.half_last.result ≡ line =
    ap (λ l. passed_words words ++ l) (c.half_last.ensures ∙ ap (λ n. half_line (length bytes) n) halves) ∙ ap (λ n. passed_words n ++ half_line (length bytes) (length rest)) counted in
    let picture = picture_is c.args.width c.args.pass bytes m.down down m.has_last all ts last line first depth has (inl (rest, read, refl)) (taken.1 ∙ c.new-drawing.ensures.down) in
    read_as c.args.pass (IsPicture c.args.width c.args.pass) (IsShortPicture c.args.width c.args.pass) _ bytes rest (text ++ foot down line) ts c.status_of.result read picture (subst (λ n. StatusFits c.status_of.result n) halves c.status_of.ensures)
    (subst (λ l. PrintsText (job_end (g.W.ByteOut.written c.args.output.now) (g.W.ByteOut.written c.finish.new.output) (g.W.ByteOut.failed c.finish.new.output) c.finish.result) (text ++ foot down l) c.status_of.result) line_is says)

pub returns-in-Ok-clause-device : goal.returns-in-Ok-clause-device
returns-in-Ok-clause-device g c =
    let (ts, rest, read, taken, counted, halves) = c.in-Ok.ensures.read in
    let cs = commands_of ts in
    let m = c.args.measured in
    let start = head c.args.width m.down m.has_last in
    let drawn = taken.0 c.args.width start (g.W.ByteOut.written c.args.output.now) [] (c.new-drawing.ensures.drawn (g.W.ByteOut.written c.args.output.now)) in
    let text = start ++ drawings (top c.args.width) (printed c.args.width cs) in
    let says = c.finish.ensures.says (g.W.ByteOut.written c.args.output.now) text drawn.carried in
    device_failed _ _ _ says (content_is_no_device _ _ c.status_of.ensures)

pub returns-in-Ok-clause-never_usage : goal.returns-in-Ok-clause-never_usage
returns-in-Ok-clause-never_usage g c =
    let (ts, rest, read, taken, counted, halves) = c.in-Ok.ensures.read in
    let cs = commands_of ts in
    let m = c.args.measured in
    let start = head c.args.width m.down m.has_last in
    let drawn = taken.0 c.args.width start (g.W.ByteOut.written c.args.output.now) [] (c.new-drawing.ensures.drawn (g.W.ByteOut.written c.args.output.now)) in
    let text = start ++ drawings (top c.args.width) (printed c.args.width cs) in
    let says = c.finish.ensures.says (g.W.ByteOut.written c.args.output.now) text drawn.carried in
    never_usage _ _ _ says (content_is_no_usage _ _ c.status_of.ensures)

pub returns-in-Err-Fault-clause-draws : goal.returns-in-Err-Fault-clause-draws
returns-in-Err-Fault-clause-draws g c =
    let (ts, fault, taken, counted) = rw c.in-Err-Fault.field-0-is at c.in-Err-Fault.ensures.stopped in
    let cs = commands_of ts in
    let m = c.args.measured in
    let start = head c.args.width m.down m.has_last in
    let drawn = taken.0 c.args.width start (g.W.ByteOut.written c.args.output.now) [] (c.new-drawing.ensures.drawn (g.W.ByteOut.written c.args.output.now)) in
    let text = start ++ drawings (top c.args.width) (printed c.args.width cs) in
    let says = c.finish-in-Err-Fault.ensures.says (g.W.ByteOut.written c.args.output.now) text drawn.carried in
    let (all, last, first, depth, has) = c.requires.outcome in
    let bytes = c.args.bytes.now in
    let down = c.read_tokens.new.consumer.down in
    let line = passed_words (passed_count ts) ++ fault_line c.in-Err-Fault.at c.in-Err-Fault.why in
    let line_is = ap (λ n. passed_words n ++ fault_line c.in-Err-Fault.at c.in-Err-Fault.why) counted in
    let picture = picture_is c.args.width c.args.pass bytes m.down down m.has_last all ts last line first depth has (inr (c.in-Err-Fault.at, c.in-Err-Fault.why, fault, refl)) (taken.1 ∙ c.new-drawing.ensures.down) in
    refused_as c.args.pass (IsPicture c.args.width c.args.pass) (IsShortPicture c.args.width c.args.pass) _ bytes (text ++ foot down line) ts c.in-Err-Fault.at c.in-Err-Fault.why fault picture
    (subst (λ l. PrintsText (job_end (g.W.ByteOut.written c.args.output.now) (g.W.ByteOut.written c.finish-in-Err-Fault.new.output) (g.W.ByteOut.failed c.finish-in-Err-Fault.new.output) c.finish-in-Err-Fault.result) (text ++ foot down l) Refused) line_is says)

pub returns-in-Err-Fault-clause-device : goal.returns-in-Err-Fault-clause-device
returns-in-Err-Fault-clause-device g c =
    let (ts, fault, taken, counted) = rw c.in-Err-Fault.field-0-is at c.in-Err-Fault.ensures.stopped in
    let cs = commands_of ts in
    let m = c.args.measured in
    let start = head c.args.width m.down m.has_last in
    let drawn = taken.0 c.args.width start (g.W.ByteOut.written c.args.output.now) [] (c.new-drawing.ensures.drawn (g.W.ByteOut.written c.args.output.now)) in
    let text = start ++ drawings (top c.args.width) (printed c.args.width cs) in
    let says = c.finish-in-Err-Fault.ensures.says (g.W.ByteOut.written c.args.output.now) text drawn.carried in
    device_failed _ _ _ says refused_is_no_device

pub returns-in-Err-Fault-clause-never_usage : goal.returns-in-Err-Fault-clause-never_usage
returns-in-Err-Fault-clause-never_usage g c =
    let (ts, fault, taken, counted) = rw c.in-Err-Fault.field-0-is at c.in-Err-Fault.ensures.stopped in
    let cs = commands_of ts in
    let m = c.args.measured in
    let start = head c.args.width m.down m.has_last in
    let drawn = taken.0 c.args.width start (g.W.ByteOut.written c.args.output.now) [] (c.new-drawing.ensures.drawn (g.W.ByteOut.written c.args.output.now)) in
    let text = start ++ drawings (top c.args.width) (printed c.args.width cs) in
    let says = c.finish-in-Err-Fault.ensures.says (g.W.ByteOut.written c.args.output.now) text drawn.carried in
    never_usage _ _ _ says refused_is_no_usage

pub returns-in-Err-Memory-clause-draws : goal.returns-in-Err-Memory-clause-draws
returns-in-Err-Memory-clause-draws g c =
    let (k, ts, rest, inside, read, taken) = rw c.in-Err-Memory.field-0-is at c.in-Err-Memory.ensures.stopped in
    let cs = commands_of ts in
    let m = c.args.measured in
    let start = head c.args.width m.down m.has_last in
    let drawn = taken.0 c.args.width start (g.W.ByteOut.written c.args.output.now) [] (c.new-drawing.ensures.drawn (g.W.ByteOut.written c.args.output.now)) in
    let text = start ++ drawings (top c.args.width) (printed c.args.width cs) in
    let says = c.end_short.ensures.says (g.W.ByteOut.written c.args.output.now) text drawn.carried in
    let (all, last, first, depth, has) = c.requires.outcome in
    short_as c.args.pass (IsPicture c.args.width c.args.pass) (IsShortPicture c.args.width c.args.pass) _ c.args.bytes.now (text ++ memory_line) (short_is c.args.width c.args.pass c.args.bytes.now m.down m.has_last all ts last _ k first depth has read) says

pub returns-in-Err-Memory-clause-device : goal.returns-in-Err-Memory-clause-device
returns-in-Err-Memory-clause-device g c =
    let (k, ts, rest, inside, read, taken) = rw c.in-Err-Memory.field-0-is at c.in-Err-Memory.ensures.stopped in
    let cs = commands_of ts in
    let m = c.args.measured in
    let start = head c.args.width m.down m.has_last in
    let drawn = taken.0 c.args.width start (g.W.ByteOut.written c.args.output.now) [] (c.new-drawing.ensures.drawn (g.W.ByteOut.written c.args.output.now)) in
    let text = start ++ drawings (top c.args.width) (printed c.args.width cs) in
    let says = c.end_short.ensures.says (g.W.ByteOut.written c.args.output.now) text drawn.carried in
    device_failed _ _ _ says memory_is_no_device

pub returns-in-Err-Memory-clause-never_usage : goal.returns-in-Err-Memory-clause-never_usage
returns-in-Err-Memory-clause-never_usage g c =
    let (k, ts, rest, inside, read, taken) = rw c.in-Err-Memory.field-0-is at c.in-Err-Memory.ensures.stopped in
    let cs = commands_of ts in
    let m = c.args.measured in
    let start = head c.args.width m.down m.has_last in
    let drawn = taken.0 c.args.width start (g.W.ByteOut.written c.args.output.now) [] (c.new-drawing.ensures.drawn (g.W.ByteOut.written c.args.output.now)) in
    let text = start ++ drawings (top c.args.width) (printed c.args.width cs) in
    let says = c.end_short.ensures.says (g.W.ByteOut.written c.args.output.now) text drawn.carried in
    never_usage _ _ _ says memory_is_no_usage

-- A command wasn't taken: what was taken before it stands.
pub returns-in-Err-Refused-Memory-clause-draws : goal.returns-in-Err-Refused-Memory-clause-draws
returns-in-Err-Refused-Memory-clause-draws g c =
    let (before, k, token, (ts, read, taken), left) = rw (c.in-Err-Refused-Memory.field-0-is, c.in-Err-Refused-Memory.field-0-0-is) at c.in-Err-Refused-Memory.ensures.refused in
    let cs = commands_of ts in
    let m = c.args.measured in
    let start = head c.args.width m.down m.has_last in
    let drawn = taken.0 c.args.width start (g.W.ByteOut.written c.args.output.now) [] (c.new-drawing.ensures.drawn (g.W.ByteOut.written c.args.output.now)) in
    let text = start ++ drawings (top c.args.width) (printed c.args.width cs) in
    let now = c.read_tokens.new in
    let kept : Carries (g.W.ByteOut.written c.args.output.now) (g.W.ByteOut.written now.output) now.consumer.gather text = elim left [
      | inl same ↦ subst (λ o. Carries (g.W.ByteOut.written c.args.output.now) (g.W.ByteOut.written o) now.consumer.gather text) (sym same.1) (subst (λ h. Carries (g.W.ByteOut.written c.args.output.now) (g.W.ByteOut.written before.1) h text) (sym same.2) drawn.carried)
      | inr failed ↦ absurd (obstacles_differ failed.0)
    ] in
    let says = c.end_short-in-Err-Refused-Memory.ensures.says (g.W.ByteOut.written c.args.output.now) text kept in
    let (all, last, first, depth, has) = c.requires.outcome in
    let front = front_without c.args.pass c.args.bytes.now k ts token read in
    short_as c.args.pass (IsPicture c.args.width c.args.pass) (IsShortPicture c.args.width c.args.pass) _ c.args.bytes.now (text ++ memory_line) (short_is c.args.width c.args.pass c.args.bytes.now m.down m.has_last all ts last _ front.0 first depth has front.1) says

pub returns-in-Err-Refused-Memory-clause-device : goal.returns-in-Err-Refused-Memory-clause-device
returns-in-Err-Refused-Memory-clause-device g c =
    let (before, k, token, (ts, read, taken), left) = rw (c.in-Err-Refused-Memory.field-0-is, c.in-Err-Refused-Memory.field-0-0-is) at c.in-Err-Refused-Memory.ensures.refused in
    let cs = commands_of ts in
    let m = c.args.measured in
    let start = head c.args.width m.down m.has_last in
    let drawn = taken.0 c.args.width start (g.W.ByteOut.written c.args.output.now) [] (c.new-drawing.ensures.drawn (g.W.ByteOut.written c.args.output.now)) in
    let text = start ++ drawings (top c.args.width) (printed c.args.width cs) in
    let now = c.read_tokens.new in
    let kept : Carries (g.W.ByteOut.written c.args.output.now) (g.W.ByteOut.written now.output) now.consumer.gather text = elim left [
      | inl same ↦ subst (λ o. Carries (g.W.ByteOut.written c.args.output.now) (g.W.ByteOut.written o) now.consumer.gather text) (sym same.1) (subst (λ h. Carries (g.W.ByteOut.written c.args.output.now) (g.W.ByteOut.written before.1) h text) (sym same.2) drawn.carried)
      | inr failed ↦ absurd (obstacles_differ failed.0)
    ] in
    let says = c.end_short-in-Err-Refused-Memory.ensures.says (g.W.ByteOut.written c.args.output.now) text kept in
    device_failed _ _ _ says memory_is_no_device

pub returns-in-Err-Refused-Memory-clause-never_usage : goal.returns-in-Err-Refused-Memory-clause-never_usage
returns-in-Err-Refused-Memory-clause-never_usage g c =
    let (before, k, token, (ts, read, taken), left) = rw (c.in-Err-Refused-Memory.field-0-is, c.in-Err-Refused-Memory.field-0-0-is) at c.in-Err-Refused-Memory.ensures.refused in
    let cs = commands_of ts in
    let m = c.args.measured in
    let start = head c.args.width m.down m.has_last in
    let drawn = taken.0 c.args.width start (g.W.ByteOut.written c.args.output.now) [] (c.new-drawing.ensures.drawn (g.W.ByteOut.written c.args.output.now)) in
    let text = start ++ drawings (top c.args.width) (printed c.args.width cs) in
    let now = c.read_tokens.new in
    let kept : Carries (g.W.ByteOut.written c.args.output.now) (g.W.ByteOut.written now.output) now.consumer.gather text = elim left [
      | inl same ↦ subst (λ o. Carries (g.W.ByteOut.written c.args.output.now) (g.W.ByteOut.written o) now.consumer.gather text) (sym same.1) (subst (λ h. Carries (g.W.ByteOut.written c.args.output.now) (g.W.ByteOut.written before.1) h text) (sym same.2) drawn.carried)
      | inr failed ↦ absurd (obstacles_differ failed.0)
    ] in
    let says = c.end_short-in-Err-Refused-Memory.ensures.says (g.W.ByteOut.written c.args.output.now) text kept in
    never_usage _ _ _ says memory_is_no_usage
