use Rattle.std.proofs.Common.{length, sym, ◌∙◌, subst}
use Rattle.escpos_host.specs.Machine.{IsSound}
use Rattle.escpos_link.specs.Line.{IsLine, LineView}
use Rattle.escpos_link.specs.Straight.{WentStraight}
use Rattle.escpos_link.proofs.Receipts.{begun, short_sent, went}
use Rattle.escpos_link.proofs.Running.{err_is, on_ok, stopped_opening, stopped_sending, stopped_submitting}
use Rattle.escpos_link.proofs.sim.Sim.straight.Goals as goal

pub returns-then-is_err-clause-stopped : goal.returns-then-is_err-clause-stopped
returns-then-is_err-clause-stopped c =
    stopped_opening c.args.self.now c.open.new.self c.args.receipt (err_is c.open.result (sym c.is_err.ensures.value ∙ c.if-is_err.true) c.open.ensures.stopped)

pub returns-in-Err-clause-stopped : goal.returns-in-Err-clause-stopped
returns-in-Err-clause-stopped c =
    let opened = on_ok c.open.result (sym c.is_err.ensures.value ∙ c.if-is_err.false) c.open.ensures.happened in
    let page = c.paper.ensures.reached in
    let sound = subst (λ (v : LineView). IsSound v.host) c.self.view_is c.is_sound.ensures in
    let b = begun c.of_straight.ensures c.args.self.now c.open.new.self page.0 page.1 c.requires (subst IsLine c.self.view_is c.self.invariant.0) sound page.2 opened in
    stopped_submitting c.args.self.now c.open.new.self c.step.new.self c.args.receipt c.in-Err.refused opened b.ready.phase b.has c.in-Err.ensures.refused

pub returns-in-Ok-clause-recorded : goal.returns-in-Ok-clause-recorded
returns-in-Ok-clause-recorded c =
    let opened = on_ok c.open.result (sym c.is_err.ensures.value ∙ c.if-is_err.false) c.open.ensures.happened in
    let page = c.paper.ensures.reached in
    let sound = subst (λ (v : LineView). IsSound v.host) c.self.view_is c.is_sound.ensures in
    let b = begun c.of_straight.ensures c.args.self.now c.open.new.self page.0 page.1 c.requires (subst IsLine c.self.view_is c.self.invariant.0) sound page.2 opened in
    let submitted = c.in_default.ensures.happened in
    let short = short_sent c.open.new.self c.step.new.self c.args.receipt c.in_default.field-0 b.ready submitted.0 c.in-Ok.ensures.short in
    subst (λ rs. WentStraight c.args.self.now c.args.receipt (length rs) c.exchange.new.self) (sym c.records-number.ensures)
    (went c.of_straight.ensures c.args.self.now c.open.new.self c.exchange.new.self c.args.receipt b c.commands.ensures.whole c.commands.ensures.in_range short opened
    (c.in_default.field-0, c.step.new.self, submitted, c.in-Ok.ensures.happened))

pub returns-in-Err-exchange-clause-stopped : goal.returns-in-Err-exchange-clause-stopped
returns-in-Err-exchange-clause-stopped c =
    let opened = on_ok c.open.result (sym c.is_err.ensures.value ∙ c.if-is_err.false) c.open.ensures.happened in
    stopped_sending c.args.self.now c.open.new.self c.step.new.self c.exchange.new.self c.args.receipt c.in_default.field-0 opened c.in_default.ensures.happened c.in-Err-exchange.ensures.stopped
