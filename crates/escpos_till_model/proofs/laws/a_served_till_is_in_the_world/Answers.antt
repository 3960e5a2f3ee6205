-- A call that was served, in the world; and what holds of the world that it leads to.
use Rattle.std.proofs.Common.{◌≡◌, ◌≤◌, [], ◌∷◌, ◌++◌, ◌∙◌, Some, refl, sym, subst}
use Rattle.escpos_till.specs.Surroundings.{Did}
use Rattle.escpos_till.specs.declared.stage.Stage.TheVariants as stage
use Rattle.escpos_till.specs.declared.note.TillNote.TheVariants as note
use Rattle.escpos_till.specs.Book.{IsBookOf}
use Rattle.escpos_till.specs.Entries.{IsLedger, last_number, recorded}
use Rattle.escpos_till.specs.Driver.{Queue, Ran, Tells}
use Rattle.escpos_till_model.specs.Around.{DoesInTime, around}
use Rattle.escpos_till_model.specs.Bridge.{notes_of}
use Rattle.escpos_till_model.specs.World.{IsSo, Runs, off}
use Rattle.escpos_till_model.specs.declared.event.Happening.TheVariants as event
use Rattle.escpos_till_model.specs.Known.{BookMayLag}
use Rattle.escpos_till_model.specs.Receipts.{Among, EachIsKept, Extends, RecordedStand}
use Rattle.escpos_till_model.proofs.DriverDoes.{does_all, does_to, holds_to, stage_at_end}
use Rattle.escpos_till_model.proofs.Driven.{crash_down}
use Rattle.escpos_till_model.proofs.OffLine.{off_line}
use Rattle.escpos_till_model.proofs.Keying.{keyed_so}
use Rattle.escpos_till_model.proofs.Served.{served_in, started_in, switched_off}
use Rattle.escpos_till_model.proofs.WorldCalls.{parts}
use Rattle.escpos_till_model.proofs.TillWorlds.{comes_on}
use Rattle.escpos_till_model.proofs.Worlds.{entries_last}
use Rattle.escpos_till_model.proofs.laws.a_served_till_is_in_the_world.Goals as goal

pub returns-clause-served : goal.returns-clause-served
returns-clause-served g c = λ world m after old new call n most wire it rest.
    let at_rest : after.stage ≡ stage.AtRest = stage_at_end (Did g.S.Store.faithful g.S.Store.holds g.S.Store.leaves g.S.Store.says g.L.PrinterLine.did) it.serves.runs.before n it.serves.asked after old new it.serves.runs.did_all ∙ rest in
    let (entries, held, ran) = holds_to g.S.Store.faithful g.S.Store.holds g.S.Store.leaves g.S.Store.says g.L.PrinterLine.did it.serves.asked after old new n most it.serves.runs world.kept world.wire wire world.told it.store
    (λ lags. subst BookMayLag at_rest lags) it.line in
    let known = c.every_world.ensures it.come.first world it.come.happenings it.come.begins it.come.runs in
    (entries, held, at_rest, served_in c.fitting.ensures world m it.serves.asked after _ _ call n most it.come known it.is it.serves.calls it.may ran)

pub returns-clause-may_leave : goal.returns-clause-may_leave
returns-clause-may_leave g c = λ world m after old new call n most wire left it may.
    let ran = does_to g.S.Store.faithful g.S.Store.holds g.S.Store.leaves g.S.Store.says g.L.PrinterLine.did g.met.S.Store.outlives it.serves.asked after old new n most it.serves.runs world.kept left world.wire wire world.told it.store may
    it.line in
    served_in c.fitting.ensures world m it.serves.asked after _ _ call n most it.come (c.every_world.ensures it.come.first world it.come.happenings it.come.begins it.come.runs) it.is it.serves.calls it.may ran

pub returns-clause-given_up : goal.returns-clause-given_up
returns-clause-given_up g c = λ world m after old new call most wire left it may.
    let run = it.gives.runs.run in
    let ran : Ran DoesInTime it.gives.asked (around world.kept world.wire world.told) after (around left wire (world.told ++ notes_of run.deeds)) = record {
      deeds = run.deeds;
      did_all = does_all g.S.Store.faithful g.S.Store.holds g.S.Store.leaves g.S.Store.says g.L.PrinterLine.did g.met.S.Store.outlives run.deeds it.gives.asked after old new world.kept left world.wire wire world.told run.did_all it.store may it.line;
    } in
    let known = c.every_world.ensures it.come.first world it.come.happenings it.come.begins it.come.runs in
    let crashes = switched_off c.fitting.ensures world m it.gives.asked after _ _ call known it.is it.gives.calls it.may ran in
    let come = comes_on world crashes.now crashes.happenings it.come crashes.runs in
    record { crashes = crashes; begins = c.what_is_recorded_stands.ensures.begins_again come.first crashes.now come.happenings come.begins come.runs crashes.off }

pub returns-clause-off_line : goal.returns-clause-off_line
returns-clause-off_line g c = λ m after old new call n most it w off.
    off_line (Did g.S.Store.faithful g.S.Store.holds g.S.Store.leaves g.S.Store.says g.L.PrinterLine.did) call (it.runs.before ++ Tells n ∷ []) m it.asked after old new w off it.calls it.runs.did_all

pub returns-clause-starts : goal.returns-clause-starts
returns-clause-starts g c = started_in

pub returns-clause-stops : goal.returns-clause-stops
returns-clause-stops g c = λ world m come is.
    let now = off world world.wire in
    let crash : Runs world (event.Crash ∷ []) now = (now, crash_down world m world.wire is.machine refl is.down, refl) in
    let on = comes_on world now (event.Crash ∷ []) come crash in
    c.what_is_recorded_stands.ensures.begins_again on.first now on.happenings on.begins on.runs refl

-- What holds of a world that has come holds of what is left.
pub returns-clause-stands : goal.returns-clause-stands
returns-clause-stands g c = λ world m after old new call n most wire left it may.
    let goes = returns-clause-may_leave g c world m after old new call n most wire left it may in
    subst (λ a. RecordedStand a.wire.printer.sheet.line_dots a.kept a.wire.printer.sheet.items) (sym goes.is.surrounds)
    (c.what_is_recorded_stands.ensures.stands goes.come.first goes.now goes.come.happenings goes.come.begins goes.come.runs)

pub returns-clause-kept : goal.returns-clause-kept
returns-clause-kept g c = λ world m after old new call n most wire left it may.
    let goes = returns-clause-may_leave g c world m after old new call n most wire left it may in (
      subst (λ a. EachIsKept a.kept) (sym goes.is.surrounds) (c.what_is_recorded_stands.ensures.kept goes.come.first goes.now goes.come.happenings goes.come.begins goes.come.runs),
      subst (λ a. Extends world.kept a.kept) (sym goes.is.surrounds) (entries_last world goes.now goes.happenings goes.runs),
    )

pub returns-clause-queued : goal.returns-clause-queued
returns-clause-queued g c = λ world m after old new call number most wire left it may.
    let goes = returns-clause-may_leave g c world m after old new call (note.Queued number) most wire left it may in
    let among : Among (note.Queued number) goes.now.told = subst (λ a. Among (note.Queued number) a.told) goes.is.surrounds (world.told, [], refl) in
    let so = c.what_is_recorded_stands.ensures.queued goes.come.first goes.now goes.come.happenings number goes.come.begins goes.come.runs among in
    (so.0, subst (λ a. number ≤ last_number a.kept) (sym goes.is.surrounds) so.1)

pub returns-clause-recorded : goal.returns-clause-recorded
returns-clause-recorded g c = λ world m after old new call number most wire left it may.
    let goes = returns-clause-may_leave g c world m after old new call (note.Recorded number) most wire left it may in
    let among : Among (note.Recorded number) goes.now.told = subst (λ a. Among (note.Recorded number) a.told) goes.is.surrounds (world.told, [], refl) in
    subst (λ a. Among number (recorded a.kept)) (sym goes.is.surrounds)
    (c.what_is_recorded_stands.ensures.recorded goes.come.first goes.now goes.come.happenings number goes.come.begins goes.come.runs among)

pub returns-clause-cancelled : goal.returns-clause-cancelled
returns-clause-cancelled g c = λ world m after old new call number tried most wire left it may.
    let goes = returns-clause-may_leave g c world m after old new call (note.Cancelled number tried) most wire left it may in
    let among : Among (note.Cancelled number tried) goes.now.told = subst (λ a. Among (note.Cancelled number tried) a.told) goes.is.surrounds (world.told, [], refl) in
    subst (λ a. IsSo a.kept (note.Cancelled number tried)) (sym goes.is.surrounds)
    (c.what_is_recorded_stands.ensures.cancelled goes.come.first goes.now goes.come.happenings number tried goes.come.begins goes.come.runs among)

pub returns-clause-keyed : goal.returns-clause-keyed
returns-clause-keyed g c = λ world m after old new content key number most wire left it may.
    let known = c.every_world.ensures it.come.first world it.come.happenings it.come.begins it.come.runs in
    let p = parts world m it.is.machine known in
    let book : IsBookOf m.book world.kept = p.book (λ lags. subst BookMayLag it.serves.calls.rest lags) in
    let ran = does_to g.S.Store.faithful g.S.Store.holds g.S.Store.leaves g.S.Store.says g.L.PrinterLine.did g.met.S.Store.outlives it.serves.asked after old new (note.Queued number) most it.serves.runs world.kept left world.wire wire world.told it.store may
    it.line in
    let has = keyed_so key content number most m it.serves.asked after (around world.kept world.wire world.told) _ book p.account.keeps.ledger it.serves.calls ran in
    let goes = returns-clause-may_leave g c world m after old new (Queue content (Some key)) (note.Queued number) most wire left it may in
    let come = c.every_world.ensures goes.come.first goes.now goes.come.happenings goes.come.begins goes.come.runs in
    let ledger : IsLedger left = subst (λ a. IsLedger a.kept) (sym goes.is.surrounds) come.account.keeps.ledger in
    (has, λ other also. c.one_key_is_one_receipt.ensures.one_receipt left key other number ledger also has)
