use Rattle.std.proofs.Common.{ℕ, List, ◌≡◌, ◌++◌, ◌∙◌, refl, ap, subst, length}
use Rattle.escpos_job_parts.specs.Ending.{StatusFits}
use Rattle.escpos_job_parts.specs.Lines.{fault_line}
use Rattle.escpos_passed.specs.Tokens.{passed_count}
use Rattle.escpos_passed.proofs.With.{front_without}
use Rattle.escpos_stream_jobs.specs.Report.{Shape, passed_text}
use Rattle.escpos_stream_jobs.proofs.Reports.{reports_read, reports_refused, reports_cut_short, device_failed, never_usage, memory_is_no_device, memory_is_no_usage, fitting_is_no_device, fitting_is_no_usage, refused_is_no_device, refused_is_no_usage}
use Rattle.escpos_stream_jobs.proofs.job.report.Goals as goal

-- What is told of the commands that were passed over, and the last line.
closed : (shape : Shape) (told passed count : ℕ) (line last : List ℕ) → passed_text told ≡ shape.closing passed → passed ≡ count → line ≡ last
    → passed_text told ++ line ≡ shape.closing count ++ last
closed shape told passed count line last t p l = ap (λ v. v ++ line) (t ∙ ap shape.closing p) ∙ ap (λ v. shape.closing count ++ v) l

pub returns-in-Ok-clause-reports : goal.returns-in-Ok-clause-reports
returns-in-Ok-clause-reports g c =
    let (ts, rest, read, taken, counted, halves) = c.in-Ok.ensures.read in
    let shape = g.J.Job.shape c.args.width in
    let says = c.finish.ensures.says c.args.width _ ts c.new-job.ensures taken in
    reports_read shape c.args.pass _ c.args.bytes.now rest _ ts _ read
    (closed shape c.told.result c.in-Ok.field-0.passed (passed_count ts) _ (shape.last (length c.args.bytes.now) (length rest)) (c.told.ensures c.args.width) counted
    (c.last.ensures c.args.width ∙ ap (λ n. shape.last (length c.args.bytes.now) n) halves))
    (subst (λ n. StatusFits c.status_of.result n) halves c.status_of.ensures) says

pub returns-in-Err-Fault-clause-reports : goal.returns-in-Err-Fault-clause-reports
returns-in-Err-Fault-clause-reports g c =
    let (ts, fault, taken, counted) = rw c.in-Err-Fault.field-0-is at c.in-Err-Fault.ensures.stopped in
    let shape = g.J.Job.shape c.args.width in
    let says = c.finish-in-Err-Fault.ensures.says c.args.width _ ts c.new-job.ensures taken in
    reports_refused shape c.args.pass _ c.args.bytes.now _ ts _ _ fault
    (closed shape c.told-in-Err-Fault.result c.in-Err-Fault.passed (passed_count ts) _ (fault_line c.in-Err-Fault.at c.in-Err-Fault.why) (c.told-in-Err-Fault.ensures c.args.width) counted refl) says

pub returns-in-Err-Memory-clause-reports : goal.returns-in-Err-Memory-clause-reports
returns-in-Err-Memory-clause-reports g c =
    let (k, ts, rest, inside, read, taken) = rw c.in-Err-Memory.field-0-is at c.in-Err-Memory.ensures.stopped in
    reports_cut_short (g.J.Job.shape c.args.width) c.args.pass _ c.args.bytes.now rest k ts read (c.finish-in-Err-Memory.ensures.says c.args.width _ ts c.new-job.ensures taken)

-- A token wasn't taken: what was taken before it stands.
pub returns-in-Err-Refused-Memory-clause-reports : goal.returns-in-Err-Refused-Memory-clause-reports
returns-in-Err-Refused-Memory-clause-reports g c =
    let (last, k, token, (ts, read, taken), left) = rw (c.in-Err-Refused-Memory.field-0-is, c.in-Err-Refused-Memory.field-0-0-is) at c.in-Err-Refused-Memory.ensures.refused in
    let front = front_without c.args.pass c.args.bytes.now k ts token read in
    reports_cut_short (g.J.Job.shape c.args.width) c.args.pass _ c.args.bytes.now _ front.0 ts front.1
    (c.finish-in-Err-Refused-Memory.ensures.says c.args.width _ ts c.new-job.ensures (g.met.J.Job.no_memory _ last _ ts taken left))

pub returns-in-Err-Refused-Memory-clause-device : goal.returns-in-Err-Refused-Memory-clause-device
returns-in-Err-Refused-Memory-clause-device g c =
    let (last, k, token, (ts, read, taken), left) = rw (c.in-Err-Refused-Memory.field-0-is, c.in-Err-Refused-Memory.field-0-0-is) at c.in-Err-Refused-Memory.ensures.refused in
    device_failed _ _ _ (c.finish-in-Err-Refused-Memory.ensures.says c.args.width _ ts c.new-job.ensures (g.met.J.Job.no_memory _ last _ ts taken left)) memory_is_no_device

pub returns-in-Err-Refused-Memory-clause-not_hidden : goal.returns-in-Err-Refused-Memory-clause-not_hidden
returns-in-Err-Refused-Memory-clause-not_hidden g c = λ status well.
    let (last, k, token, (ts, read, taken), left) = rw (c.in-Err-Refused-Memory.field-0-is, c.in-Err-Refused-Memory.field-0-0-is) at c.in-Err-Refused-Memory.ensures.refused in
    c.finish-in-Err-Refused-Memory.ensures.not_hidden status (g.met.J.Job.well _ _ ts (g.met.J.Job.no_memory _ last _ ts taken left) well)

pub returns-in-Err-Refused-Memory-clause-never_usage : goal.returns-in-Err-Refused-Memory-clause-never_usage
returns-in-Err-Refused-Memory-clause-never_usage g c =
    let (last, k, token, (ts, read, taken), left) = rw (c.in-Err-Refused-Memory.field-0-is, c.in-Err-Refused-Memory.field-0-0-is) at c.in-Err-Refused-Memory.ensures.refused in
    never_usage _ _ _ (c.finish-in-Err-Refused-Memory.ensures.says c.args.width _ ts c.new-job.ensures (g.met.J.Job.no_memory _ last _ ts taken left)) memory_is_no_usage

pub returns-in-Ok-clause-device : goal.returns-in-Ok-clause-device
returns-in-Ok-clause-device g c =
    let (ts, rest, read, taken, counted, halves) = c.in-Ok.ensures.read in
    device_failed _ _ _ (c.finish.ensures.says c.args.width _ ts c.new-job.ensures taken) (fitting_is_no_device _ _ c.status_of.ensures)

pub returns-in-Ok-clause-never_usage : goal.returns-in-Ok-clause-never_usage
returns-in-Ok-clause-never_usage g c =
    let (ts, rest, read, taken, counted, halves) = c.in-Ok.ensures.read in
    never_usage _ _ _ (c.finish.ensures.says c.args.width _ ts c.new-job.ensures taken) (fitting_is_no_usage _ _ c.status_of.ensures)

pub returns-in-Err-Fault-clause-device : goal.returns-in-Err-Fault-clause-device
returns-in-Err-Fault-clause-device g c =
    let (ts, fault, taken, counted) = rw c.in-Err-Fault.field-0-is at c.in-Err-Fault.ensures.stopped in
    device_failed _ _ _ (c.finish-in-Err-Fault.ensures.says c.args.width _ ts c.new-job.ensures taken) refused_is_no_device

pub returns-in-Err-Fault-clause-never_usage : goal.returns-in-Err-Fault-clause-never_usage
returns-in-Err-Fault-clause-never_usage g c =
    let (ts, fault, taken, counted) = rw c.in-Err-Fault.field-0-is at c.in-Err-Fault.ensures.stopped in
    never_usage _ _ _ (c.finish-in-Err-Fault.ensures.says c.args.width _ ts c.new-job.ensures taken) refused_is_no_usage

pub returns-in-Err-Memory-clause-device : goal.returns-in-Err-Memory-clause-device
returns-in-Err-Memory-clause-device g c =
    let (k, ts, rest, inside, read, taken) = rw c.in-Err-Memory.field-0-is at c.in-Err-Memory.ensures.stopped in
    device_failed _ _ _ (c.finish-in-Err-Memory.ensures.says c.args.width _ ts c.new-job.ensures taken) memory_is_no_device

pub returns-in-Err-Memory-clause-never_usage : goal.returns-in-Err-Memory-clause-never_usage
returns-in-Err-Memory-clause-never_usage g c =
    let (k, ts, rest, inside, read, taken) = rw c.in-Err-Memory.field-0-is at c.in-Err-Memory.ensures.stopped in
    never_usage _ _ _ (c.finish-in-Err-Memory.ensures.says c.args.width _ ts c.new-job.ensures taken) memory_is_no_usage
