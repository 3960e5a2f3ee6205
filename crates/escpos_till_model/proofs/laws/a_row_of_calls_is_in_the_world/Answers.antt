-- Calls that were served one after another, in the world; and what holds of the world that they lead to.
use Rattle.std.proofs.Common.{◌≤◌, ◌++◌, sym, subst}
use Rattle.escpos_till.specs.declared.note.TillNote.TheVariants as note
use Rattle.escpos_till.specs.Entries.{last_number, recorded}
use Rattle.escpos_till_model.specs.Around.{around}
use Rattle.escpos_till_model.specs.Bridge.{GoesTo, told_of}
use Rattle.escpos_till_model.specs.Receipts.{Among, EachIsKept, Extends, RecordedStand}
use Rattle.escpos_till_model.proofs.Rows.{among_later, row_leads}
use Rattle.escpos_till_model.specs.World.{IsSo}
use Rattle.escpos_till_model.proofs.Worlds.{entries_last}
use Rattle.escpos_till_model.proofs.laws.a_row_of_calls_is_in_the_world.Goals as goal

pub returns-clause-served : goal.returns-clause-served
returns-clause-served g c = λ world m after old new answered most it.
    let leads = row_leads g.S.Store.faithful g.S.Store.holds g.S.Store.leaves g.S.Store.says g.L.PrinterLine.did g.W.LikeWire.fits c.fitting.ensures c.every_world.ensures it.stays world most m old answered after new it.serves it.come
    it.is it.made it.store.done it.store.held it.like in
    (leads.entries, leads.wire, leads.held, leads.like, leads.goes)

-- What a crash may leave is what the store holds.
pub returns-clause-may_leave : goal.returns-clause-may_leave
returns-clause-may_leave g c = λ world m after old new answered most left it may.
    let (entries, wire, held, like, goes) = returns-clause-served g c world m after old new answered most it in
    (wire, like, subst (λ k. GoesTo world after (around k wire (world.told ++ told_of answered))) (sym (g.met.S.Store.outlives new.store entries left it.store.done held may)) goes)

-- What holds of a world that has come holds of what is left.
pub returns-clause-stands : goal.returns-clause-stands
returns-clause-stands g c = λ world m after old new answered most left it may.
    let (wire, like, goes) = returns-clause-may_leave g c world m after old new answered most left it may in (
      wire,
      like,
      subst (λ a. RecordedStand a.wire.printer.sheet.line_dots a.kept a.wire.printer.sheet.items) (sym goes.is.surrounds)
          (c.what_is_recorded_stands.ensures.stands goes.come.first goes.now goes.come.happenings goes.come.begins goes.come.runs),
    )

pub returns-clause-kept : goal.returns-clause-kept
returns-clause-kept g c = λ world m after old new answered most left it may.
    let (wire, like, goes) = returns-clause-may_leave g c world m after old new answered most left it may in (
      subst (λ a. EachIsKept a.kept) (sym goes.is.surrounds) (c.what_is_recorded_stands.ensures.kept goes.come.first goes.now goes.come.happenings goes.come.begins goes.come.runs),
      subst (λ a. Extends world.kept a.kept) (sym goes.is.surrounds) (entries_last world goes.now goes.happenings goes.runs),
    )

pub returns-clause-queued : goal.returns-clause-queued
returns-clause-queued g c = λ world m after old new answered number most left it may among.
    let (wire, like, goes) = returns-clause-may_leave g c world m after old new answered most left it may in
    let told : Among (note.Queued number) goes.now.told = subst (λ a. Among (note.Queued number) a.told) goes.is.surrounds (among_later (note.Queued number) world.told (told_of answered) among) in
    let so = c.what_is_recorded_stands.ensures.queued goes.come.first goes.now goes.come.happenings number goes.come.begins goes.come.runs told in
    (so.0, subst (λ a. number ≤ last_number a.kept) (sym goes.is.surrounds) so.1)

pub returns-clause-recorded : goal.returns-clause-recorded
returns-clause-recorded g c = λ world m after old new answered number most left it may among.
    let (wire, like, goes) = returns-clause-may_leave g c world m after old new answered most left it may in
    let told : Among (note.Recorded number) goes.now.told = subst (λ a. Among (note.Recorded number) a.told) goes.is.surrounds (among_later (note.Recorded number) world.told (told_of answered) among) in
    subst (λ a. Among number (recorded a.kept)) (sym goes.is.surrounds)
    (c.what_is_recorded_stands.ensures.recorded goes.come.first goes.now goes.come.happenings number goes.come.begins goes.come.runs told)

pub returns-clause-cancelled : goal.returns-clause-cancelled
returns-clause-cancelled g c = λ world m after old new answered number tried most left it may among.
    let (wire, like, goes) = returns-clause-may_leave g c world m after old new answered most left it may in
    let told : Among (note.Cancelled number tried) goes.now.told = subst (λ a. Among (note.Cancelled number tried) a.told) goes.is.surrounds (among_later (note.Cancelled number tried) world.told (told_of answered) among) in
    subst (λ a. IsSo a.kept (note.Cancelled number tried)) (sym goes.is.surrounds)
    (c.what_is_recorded_stands.ensures.cancelled goes.come.first goes.now goes.come.happenings number tried goes.come.begins goes.come.runs told)
