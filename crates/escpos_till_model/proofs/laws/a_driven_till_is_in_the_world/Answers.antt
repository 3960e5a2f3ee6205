-- A driver's run, one deed after another; and what holds of every run of the world.
use Rattle.std.proofs.Common.{◌≤◌, List, ◌++◌, sym, subst, ap}
use Rattle.escpos_till.specs.Entries.{last_number, recorded}
use Rattle.escpos_till.specs.Machine.{MachineView}
use Rattle.escpos_till.specs.declared.note.TillNote.TheVariants as note
use Rattle.escpos_till_model.specs.Around.{Around, Reaches}
use Rattle.escpos_till_model.specs.Receipts.{Among, EachIsKept, Extends, RecordedStand}
use Rattle.escpos_till_model.specs.declared.event.Happening.{Happening}
use Rattle.escpos_till_model.specs.World.{IsSo, Runs, World}
use Rattle.escpos_till_model.proofs.Driven.{crashed, driven}
use Rattle.escpos_till_model.proofs.Shown.{runs_more}
use Rattle.escpos_till_model.proofs.laws.a_driven_till_is_in_the_world.Goals as goal

pub returns-clause-reaches : goal.returns-clause-reaches
returns-clause-reaches c = λ m after a new w around ran. driven m after a new w around ran

pub returns-clause-crashes : goal.returns-clause-crashes
returns-clause-crashes c = λ m after a new w around ran. crashed m after a new w around ran

-- The happenings before the run, and those of the run.
abbrev all_of : (w : World) (happenings : List Happening) (after : MachineView) (new : Around) → Reaches w after new → List Happening
all_of w happenings after new reaches = happenings ++ reaches.happenings

all_run : (first w : World) (happenings : List Happening) (after : MachineView) (new : Around) → Runs first happenings w → (reaches : Reaches w after new)
    → Runs first (all_of w happenings after new reaches) reaches.now
all_run first w happenings after new runs reaches = runs_more happenings reaches.happenings first w reaches.now runs reaches.runs

pub returns-clause-stands : goal.returns-clause-stands
returns-clause-stands c = λ first w happenings m after a new begins runs around ran.
    let reaches = driven m after a new w around ran in
    let stands = c.what_is_recorded_stands.ensures.stands first reaches.now (all_of w happenings after new reaches) begins (all_run first w happenings after new runs reaches) in
    subst (λ p. RecordedStand p.sheet.line_dots new.kept p.sheet.items) reaches.printer
    (subst (λ kept. RecordedStand reaches.now.wire.printer.sheet.line_dots kept reaches.now.wire.printer.sheet.items) reaches.kept stands)

pub returns-clause-kept : goal.returns-clause-kept
returns-clause-kept c = λ first w happenings m after a new begins runs around ran.
    let reaches = driven m after a new w around ran in
    subst EachIsKept reaches.kept
    (c.what_is_recorded_stands.ensures.kept first reaches.now (all_of w happenings after new reaches) begins (all_run first w happenings after new runs reaches))

pub returns-clause-extends : goal.returns-clause-extends
returns-clause-extends c = λ m after a new w around ran.
    let reaches = driven m after a new w around ran in
    let extends = c.what_is_recorded_stands.ensures.extends w reaches.now reaches.happenings reaches.runs in
    subst (λ kept. Extends kept new.kept) (ap (λ k. k.kept) (sym around.surrounds)) (subst (λ kept. Extends w.kept kept) reaches.kept extends)

pub returns-clause-queued : goal.returns-clause-queued
returns-clause-queued c = λ first w happenings m after a new number begins runs around ran among.
    let reaches = driven m after a new w around ran in
    let so = c.what_is_recorded_stands.ensures.queued first reaches.now (all_of w happenings after new reaches) number begins (all_run first w happenings after new runs reaches)
    (subst (Among (note.Queued number)) (sym reaches.told) among) in
    (so.0, subst (λ kept. number ≤ last_number kept) reaches.kept so.1)

pub returns-clause-recorded : goal.returns-clause-recorded
returns-clause-recorded c = λ first w happenings m after a new number begins runs around ran among.
    let reaches = driven m after a new w around ran in
    subst (λ kept. Among number (recorded kept)) reaches.kept
    (c.what_is_recorded_stands.ensures.recorded first reaches.now (all_of w happenings after new reaches) number begins (all_run first w happenings after new runs reaches)
    (subst (Among (note.Recorded number)) (sym reaches.told) among))

pub returns-clause-cancelled : goal.returns-clause-cancelled
returns-clause-cancelled c = λ first w happenings m after a new number tried begins runs around ran among.
    let reaches = driven m after a new w around ran in
    subst (λ kept. IsSo kept (note.Cancelled number tried)) reaches.kept
    (c.what_is_recorded_stands.ensures.cancelled first reaches.now (all_of w happenings after new reaches) number tried begins (all_run first w happenings after new runs reaches)
    (subst (Among (note.Cancelled number tried)) (sym reaches.told) among))
