-- A receipt that is cancelled meanwhile isn't tried, nor one for which too few marks are left.
use Rattle.std.proofs.Common.{◌≡◌, ◌+◌, ◌<◌, ◌≤◌, true, false, Some, inl, inr, refl, sym, ◌∙◌, ap, arith}
use Rattle.std.proofs.lemmas.Bool.{cases_lt}
use Rattle.escpos_till.specs.declared.entry.Entry.TheVariants as entry
use Rattle.escpos_till.specs.declared.stage.Stage.TheVariants as stage
use Rattle.escpos_till.specs.declared.stage.Then.TheVariants as then
use Rattle.escpos_till.specs.Delivers.{marks_taken}
use Rattle.escpos_till.specs.Learning.{WaitsIn}
use Rattle.escpos_till.specs.Machine.{mark_limit}
use Rattle.escpos_till.proofs.learning.tried_now.Goals as goal

pub returns-in-Some-Cancelled : goal.returns-in-Some-Cancelled
returns-in-Some-Cancelled c = inr (inr (
  c.in-Some-Cancelled.tried,
  λ es book. sym (c.in-Some-Cancelled.ensures.stands es book) ∙ c.in-Some-Cancelled.field-0-is,
  c.cancelled_now.ensures.host,
  c.cancelled_now.ensures.stage,
))

pub returns-then-not-has_marks : goal.returns-then-not-has_marks
returns-then-not-has_marks c =
    let waits : WaitsIn c.args.book.now c.args.due.number =
    λ es book. (c.in-Some-Waiting.ensures.waits es c.in-Some-Waiting.field-0-0 book (ap Some c.in-Some-Waiting.field-0-is)).0 in
    let few : mark_limit c.args.book.now < c.args.book.now.next + marks_taken c.args.due.openings =
    elim (cases_lt (mark_limit c.args.book.now) (c.args.book.now.next + marks_taken c.args.due.openings)) [
      | inl less ↦ less
      | inr more ↦ absurd (let bad : true ≡ false = sym (c.has_marks.ensures.1 more) ∙ c.if-not-has_marks.true in cc)
    ] in
    inr (inl (waits, few, (c.link_down.ensures.down, c.link_down.ensures.up), refl))

pub returns : goal.returns
returns c =
    let waits : WaitsIn c.args.book.now c.args.due.number =
    λ es book. (c.in-Some-Waiting.ensures.waits es c.in-Some-Waiting.field-0-0 book (ap Some c.in-Some-Waiting.field-0-is)).0 in
    let within : c.args.book.now.next + marks_taken c.args.due.openings ≤ mark_limit c.args.book.now = c.has_marks.ensures.0 c.if-not-has_marks.false in
    inl (waits, within, refl, ap (λ n. stage.Keeping (entry.Tried c.args.due.number n) (then.Send c.args.due)) (omega (arith, c.marks_taken.ensures, within)))
