use Rattle.std.proofs.Common.{[], ◌∷◌, refl, sym, ◌∙◌, subst}
use Rattle.escpos_command.proofs.Readings.{one_command}
use Rattle.escpos_printer.specs.declared.printer.FeedStop.TheVariants.{Memory}
use Rattle.escpos_printer.specs.Feeds.{PrinterView, Took, HasCause, IsPlace, IsLeft}
use Rattle.escpos_printer.proofs.Taking.{blocked, where_err, unready_left, more_taken, done_by, Passes, passes, room_after, others_after, where_ok, completes}
use Rattle.escpos_printer.proofs.printer.Printer.feed_byte.Goals as goal

pub returns-in-Some-clause-stopped : goal.returns-in-Some-clause-stopped
returns-in-Some-clause-stopped c =
    subst
    (λ (v : PrinterView). HasCause c.in-Some.stop v c.args.byte × IsPlace c.in-Some.stop c.args.at
    × IsLeft c.in-Some.stop v (record { sheet = c.self.inside.page.sheet; half = c.look-ahead.new.self; waiting = c.self.inside.waiting.items; condition = c.self.inside.condition; automatic = c.self.inside.reporting }))
    c.self.view_is
    (rw c.look-ahead.ensures.same (blocked _ c.args.byte c.args.at _ _ _ c.in-Some.stop (sym c.is_offline.ensures)
    (sym c.is_full.ensures)
    c.look-ahead.ensures.ahead (sym c.obstacle.ensures ∙ c.in-Some.is)))

pub returns-then-is_err-clause-stopped : goal.returns-then-is_err-clause-stopped
returns-then-is_err-clause-stopped c =
    subst
    (λ (v : PrinterView). HasCause Memory v c.args.byte × IsPlace Memory c.args.at
    × IsLeft Memory v (record { sheet = c.make_room.new.page.sheet; half = c.look-ahead.new.self; waiting = c.self.inside.waiting.items; condition = c.self.inside.condition; automatic = c.self.inside.reporting }))
    c.self.view_is
    (rw c.look-ahead.ensures.same (unready_left one_command _ c.args.byte c.args.at _ _ _ c.make_room.new.page.sheet (sym c.is_offline.ensures)
    (sym c.is_full.ensures)
    c.self.invariant.2.room (where_err c.make_room.result _ (sym c.is_err.ensures.value ∙ c.if-is_err.true) c.make_room.ensures.command)
    c.look-ahead.ensures.ahead (sym c.obstacle.ensures ∙ c.in_default.is) c.make_room.ensures.same))

pub returns-in-Ok-More-clause-taken : goal.returns-in-Ok-More-clause-taken
returns-in-Ok-More-clause-taken c =
    let pushed = rw c.in-Ok-More.field-0-is at c.in-Ok-More.ensures.step in
    let step = rw c.look-ahead.ensures.same at pushed in (
      [],
      subst
          (λ (v : PrinterView). Took v (c.args.byte ∷ []) []
          (record { sheet = c.make_room.new.page.sheet; half = c.push.new.self; waiting = c.self.inside.waiting.items; condition = c.self.inside.condition; automatic = c.self.inside.reporting }))
          c.self.view_is
          (more_taken _ c.args.byte c.make_room.new.page.sheet c.push.new.self step.0 c.make_room.ensures.same step.1 c.self.invariant.2),
    )

passes_at : (c : goal.After-unwrap)
    → Passes
    (record { sheet = c.self.inside.page.sheet; half = c.self.inside.decoder; waiting = c.self.inside.waiting.items; condition = c.self.inside.condition; automatic = c.self.inside.reporting })
    c.in-Ok-Done.command
passes_at c =
    let pushed = rw c.in-Ok-Done.field-0-is at c.in-Ok-Done.ensures.step in
    let step = rw c.look-ahead.ensures.same at pushed in
    passes one_command _ c.args.byte _ _ _ c.in-Ok-Done.command (sym c.is_offline.ensures)
    (sym c.is_full.ensures)
    c.self.invariant.2.room step.0 c.look-ahead.ensures.ahead (sym c.obstacle.ensures ∙ c.in_default.is)

pub put_reply-requires-clause-room : goal.put_reply-requires-clause-room
put_reply-requires-clause-room c =
    let pushed = rw c.in-Ok-Done.field-0-is at c.in-Ok-Done.ensures.step in
    let step = rw c.look-ahead.ensures.same at pushed in
    let pass =
    passes one_command
    (record { sheet = c.self.inside.page.sheet; half = c.self.inside.decoder; waiting = c.self.inside.waiting.items; condition = c.self.inside.condition; automatic = c.self.inside.reporting })
    c.args.byte _ _ _ c.in-Ok-Done.command (sym c.is_offline.ensures) (sym c.is_full.ensures)
    c.self.invariant.2.room step.0 c.look-ahead.ensures.ahead (sym c.obstacle.ensures ∙ c.in_default.is) in
    others_after c.self.inside.waiting.items _ pass.fits

pub unwrap-requires : goal.unwrap-requires
unwrap-requires c =
    let pushed = rw c.in-Ok-Done.field-0-is at c.in-Ok-Done.ensures.step in
    let step = rw c.look-ahead.ensures.same at pushed in
    c.apply.ensures.no_memory
    (where_ok c.make_room.result _ (sym c.is_err.ensures.value ∙ c.if-is_err.false) c.make_room.ensures.room (completes
    (record { sheet = c.self.inside.page.sheet; half = c.self.inside.decoder; waiting = c.self.inside.waiting.items; condition = c.self.inside.condition; automatic = c.self.inside.reporting })
    c.args.byte _ c.in-Ok-Done.command c.look-ahead.ensures.ahead step.0))

pub returns-in-Ok-Done-clause-taken : goal.returns-in-Ok-Done-clause-taken
returns-in-Ok-Done-clause-taken c =
    let pushed = rw c.in-Ok-Done.field-0-is at c.in-Ok-Done.ensures.step in
    let step = rw c.look-ahead.ensures.same at pushed in
    let taken = rw c.unwrap.ensures at c.apply.ensures.taken in (
      c.in-Ok-Done.command ∷ [],
      subst
          (λ (v : PrinterView). Took v (c.args.byte ∷ []) (c.in-Ok-Done.command ∷ [])
          (record { sheet = c.apply.new.self.sheet; half = c.push.new.self; waiting = c.put_reply.new.waiting.items; condition = c.self.inside.condition; automatic = c.reporting_after-self-inside.result }))
          c.self.view_is
          (done_by _ _ c.args.byte c.in-Ok-Done.command (passes_at c) step.0
          (λ width kept cs is. taken width kept cs (c.make_room.ensures.same ∙ is)) step.1 c.put_reply.ensures.items refl c.reporting_after-self-inside.ensures),
    )

pub invariant_of-self-in-Ok-Done : goal.invariant_of-self-in-Ok-Done
invariant_of-self-in-Ok-Done c = (
  c.push.ensures.rest,
  c.put_reply.ensures.capacity ∙ c.self.invariant.1,
  room_after c.self.inside.waiting.items _ c.put_reply.new.waiting.items c.put_reply.ensures.items (passes_at c).fits,
)
