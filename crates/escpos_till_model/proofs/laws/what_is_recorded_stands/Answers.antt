use Rattle.escpos_till.specs.declared.note.TillNote.TheVariants as note
use Rattle.escpos_till_model.specs.Known.{IsWorld}
use Rattle.escpos_till_model.specs.declared.event.Happening.{Happening}
use Rattle.escpos_till_model.specs.World.{Begins, Runs, World}
use Rattle.std.specs.Prelude.{List}
use Rattle.escpos_till_model.proofs.Accounts.{each_is_kept}
use Rattle.escpos_till_model.proofs.LinesKept.{LineLaws}
use Rattle.escpos_till_model.proofs.Widths.{same_width}
use Rattle.escpos_till_model.proofs.Worlds.{begins_again, begun, entries_last, first_world, over_time, recorded_stand}
use Rattle.escpos_till_model.proofs.laws.what_is_recorded_stands.Goals as goal

known : LineLaws → (w after : World) (happenings : List Happening) → Begins w → Runs w happenings after → IsWorld after
known laws w after happenings begins runs = over_time laws w after happenings (begun laws w begins) runs

pub returns-clause-stands : goal.returns-clause-stands
returns-clause-stands c = λ w after happenings begins runs.
    let laws : LineLaws = record { trust = c.trust.ensures; promise = c.promise.ensures; apart = c.counted_marks.ensures.apart; every = c.every_line.ensures.kept; turn = c.in_turn.ensures; fitting = c.fitting.ensures } in
    recorded_stand laws after (known laws w after happenings begins runs)

pub returns-clause-kept : goal.returns-clause-kept
returns-clause-kept c = λ w after happenings begins runs.
    let laws : LineLaws = record { trust = c.trust.ensures; promise = c.promise.ensures; apart = c.counted_marks.ensures.apart; every = c.every_line.ensures.kept; turn = c.in_turn.ensures; fitting = c.fitting.ensures } in
    each_is_kept after.kept (known laws w after happenings begins runs).account.keeps.ledger

pub returns-clause-queued : goal.returns-clause-queued
returns-clause-queued c = λ w after happenings number begins runs among.
    let laws : LineLaws = record { trust = c.trust.ensures; promise = c.promise.ensures; apart = c.counted_marks.ensures.apart; every = c.every_line.ensures.kept; turn = c.in_turn.ensures; fitting = c.fitting.ensures } in
    (known laws w after happenings begins runs).told (note.Queued number) among

pub returns-clause-recorded : goal.returns-clause-recorded
returns-clause-recorded c = λ w after happenings number begins runs among.
    let laws : LineLaws = record { trust = c.trust.ensures; promise = c.promise.ensures; apart = c.counted_marks.ensures.apart; every = c.every_line.ensures.kept; turn = c.in_turn.ensures; fitting = c.fitting.ensures } in
    (known laws w after happenings begins runs).told (note.Recorded number) among

pub returns-clause-cancelled : goal.returns-clause-cancelled
returns-clause-cancelled c = λ w after happenings number tried begins runs among.
    let laws : LineLaws = record { trust = c.trust.ensures; promise = c.promise.ensures; apart = c.counted_marks.ensures.apart; every = c.every_line.ensures.kept; turn = c.in_turn.ensures; fitting = c.fitting.ensures } in
    (known laws w after happenings begins runs).told (note.Cancelled number tried) among

pub returns-clause-extends : goal.returns-clause-extends
returns-clause-extends c = entries_last

pub returns-clause-begins_again : goal.returns-clause-begins_again
returns-clause-begins_again c = λ w after happenings begins runs off.
    let laws : LineLaws = record { trust = c.trust.ensures; promise = c.promise.ensures; apart = c.counted_marks.ensures.apart; every = c.every_line.ensures.kept; turn = c.in_turn.ensures; fitting = c.fitting.ensures } in
    begins_again laws after off (known laws w after happenings begins runs)

pub returns-clause-begins : goal.returns-clause-begins
returns-clause-begins c = first_world (record { trust = c.trust.ensures; promise = c.promise.ensures; apart = c.counted_marks.ensures.apart; every = c.every_line.ensures.kept; turn = c.in_turn.ensures; fitting = c.fitting.ensures })

pub returns-clause-width : goal.returns-clause-width
returns-clause-width c = λ w after happenings begins runs.
    let laws : LineLaws = record { trust = c.trust.ensures; promise = c.promise.ensures; apart = c.counted_marks.ensures.apart; every = c.every_line.ensures.kept; turn = c.in_turn.ensures; fitting = c.fitting.ensures } in
    same_width laws happenings w after (begun laws w begins) runs
