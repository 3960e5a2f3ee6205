-- What the first reading finds, where all bytes are read and where one is refused.
use Rattle.std.proofs.Common.{◌++◌, ◌∙◌, ap, refl, length, not, inl, inr}
use Rattle.escpos_picture.specs.Places.{Place}
use Rattle.escpos_paper.specs.Styles.{is_empty}
use Rattle.escpos_job_parts.specs.Lines.{fault_line}
use Rattle.escpos_passed.specs.Tokens.{passed_count}
use Rattle.escpos_stream_jobs.specs.Draw.{passed_words}
use Rattle.escpos_stream_jobs.specs.Render.{half_line}
use Rattle.escpos_stream_jobs.proofs.Drawings.{measured_at_first}
use Rattle.escpos_stream_jobs.proofs.draw.measure.Goals as goal

pub returns-in-Ok-clause-outcome : goal.returns-in-Ok-clause-outcome
returns-in-Ok-clause-outcome c =
    let (ts, rest, read, taken, counted, halves) = c.in-Ok.ensures.read in
    let m = taken c.args.width _ (measured_at_first c.args.width _ _ c.new.ensures c.new-2.ensures) in (
      ts,
      passed_words (passed_count ts) ++ half_line (length c.args.bytes.now) (length rest),
      inl (rest, read, refl),
      c.measured.ensures.down ∙ ap (λ (p : Place). p.down) m.place_is,
      c.measured.ensures.last
          ∙ ap (λ l. not (is_empty (passed_words c.in-Ok.field-0.passed ++ l))) (c.half_last.ensures ∙ ap (λ n. half_line (length c.args.bytes.now) n) halves)
          ∙ ap (λ n. not (is_empty (passed_words n ++ half_line (length c.args.bytes.now) (length rest)))) counted,
    )

pub returns-in-Err-Fault-clause-outcome : goal.returns-in-Err-Fault-clause-outcome
returns-in-Err-Fault-clause-outcome c =
    let (ts, fault, taken, counted) = rw c.in-Err-Fault.field-0-is at c.in-Err-Fault.ensures.stopped in
    let m = taken c.args.width _ (measured_at_first c.args.width _ _ c.new.ensures c.new-2.ensures) in (
      ts,
      passed_words (passed_count ts) ++ fault_line c.in-Err-Fault.at c.in-Err-Fault.why,
      inr (c.in-Err-Fault.at, c.in-Err-Fault.why, fault, refl),
      c.measured-in-Err-Fault.ensures.down ∙ ap (λ (p : Place). p.down) m.place_is,
      c.measured-in-Err-Fault.ensures.last ∙ ap (λ n. not (is_empty (passed_words n ++ fault_line c.in-Err-Fault.at c.in-Err-Fault.why))) counted,
    )
