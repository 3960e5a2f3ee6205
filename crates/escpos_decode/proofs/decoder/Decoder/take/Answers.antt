use Rattle.std.proofs.Common.{◌∙◌, ◌≤◌, ◌++◌, ◌∷◌, [], Err, sym, ap, subst, refl, arith}
use Rattle.std.specs.Prelude.{IfSome, length, vec_len, vec_capacity}
use Rattle.std.proofs.lemmas.Result.{err_from_is_err_and}
use Rattle.escpos_command.specs.CommandTable.{IsCommand, Spells}
use Rattle.escpos_command.specs.Places.{reason_after}
use Rattle.escpos_decode.specs.Push.{PushIs}
use Rattle.escpos_decode.specs.State.{IsAt, NextIs, prefix_of, command_of}
use Rattle.escpos_decode.specs.declared.state.State.TheVariants.{Start}
use Rattle.escpos_decode.proofs.States.{tree_law, moved, grown, spelled, fault, at_start}
use Rattle.escpos_decode.proofs.decoder.Decoder.take.Goals as goal

pub invariant_of-self : goal.invariant_of-self
invariant_of-self c = (c.self.invariant.0, c.self.invariant.1, rw c.led_to.ensures.none tt)

pub invariant_of-self-in-To : goal.invariant_of-self-in-To
invariant_of-self-in-To c =
    ((moved tree_law _ _ _ _ _ _ c.as_slice.ensures.value c.self.view_is c.self.invariant.0 c.in-To.ensures.next.0).at, omega (arith, c.self.invariant.1, c.in-To.ensures.next.1), rw c.led_to.ensures.none tt)

pub invariant_of-self-in-Room : goal.invariant_of-self-in-Room
invariant_of-self-in-Room c =
    (subst (λ v. IsAt c.in-Room.state v) (sym c.in_ok-reserve-in-Room.ensures.items) (moved tree_law _ _ _ _ _ _ c.as_slice.ensures.value c.self.view_is c.self.invariant.0 c.in-Room.ensures.next.0).at, omega (arith, c.in-Room.ensures.next.1, c.in_ok-reserve-in-Room.ensures.ok), rw c.led_to.ensures.none tt)

pub invariant_of-self-in-Ok : goal.invariant_of-self-in-Ok
invariant_of-self-in-Ok c =
    ((grown tree_law _ _ _ _ _ _ _ c.as_slice.ensures.value c.self.view_is c.self.invariant.0 c.in-Grow.ensures.next.0 c.in-Ok.ensures.items).at, (let fits : vec_len c.push.new.self ≤ vec_capacity c.push.new.self = c.push.new.self.ok.1 in omega (arith, c.in-Grow.ensures.next.1, fits)), rw c.led_to.ensures.none tt)

pub invariant_of-self-in-Keep : goal.invariant_of-self-in-Keep
invariant_of-self-in-Keep c = (
  (grown tree_law _ _ _ _ _ _ _ c.as_slice.ensures.value c.self.view_is c.self.invariant.0 c.in-Keep.ensures.next.0 c.push_reserved.ensures.items).at,
  omega (arith, c.in-Keep.ensures.next.1, c.self.invariant.1, c.push_reserved.ensures.len, c.push_reserved.ensures.capacity),
  rw c.led_to.ensures.none tt,
)

pub invariant_of-self-in-Done : goal.invariant_of-self-in-Done
invariant_of-self-in-Done c =
    (subst (λ v. IsAt Start v) (sym (c.self.invariant.0.empty c.in-Done.ensures.next.1)) at_start, omega (arith, c.self.invariant.1), rw c.led_to.ensures.none tt)

pub led_to-requires-clause-looked : goal.led_to-requires-clause-looked
led_to-requires-clause-looked c =
    subst (λ v. IfSome c.self.inside.looked (λ look. NextIs look.next c.self.inside.state v look.byte)) (sym c.as_slice.ensures.value) c.self.invariant.2

pub end-requires : goal.end-requires
end-requires c =
    subst (λ v. IsCommand (command_of c.in-Last.ending v)) (ap (λ v. v ++ c.args.byte ∷ []) c.as_slice.ensures.value ∙ sym c.push_reserved-in-Last.ensures.items) (spelled tree_law _ _ _ _ _ _ c.as_slice.ensures.value c.self.view_is c.self.invariant.0 c.in-Last.ensures.next.0).in_range

pub end-requires-in-Closes : goal.end-requires-in-Closes
end-requires-in-Closes c =
    subst (λ v. IsCommand (command_of c.in-Closes.ending v)) c.as_slice.ensures.value (spelled tree_law _ _ _ _ _ _ c.as_slice.ensures.value c.self.view_is c.self.invariant.0 c.in-Closes.ensures.next).in_range

pub returns-in-Refused-clause-step : goal.returns-in-Refused-clause-step
returns-in-Refused-clause-step c =
    subst (λ f. PushIs (Err f) c.args.self.now c.args.byte c.refuse.new.self) (sym c.refuse.ensures.fault) (
      fault tree_law _ _ _ _ _ _ _ c.as_slice.ensures.value c.self.view_is c.self.invariant.0 c.in-Refused.ensures.next (ap length c.self.view_is) (ap reason_after c.self.view_is),
      ap length c.self.view_is,
      c.refuse.ensures.empty,
    )

pub returns-in-To-clause-step : goal.returns-in-To-clause-step
returns-in-To-clause-step c =
    let m = moved tree_law _ _ _ _ _ _ c.as_slice.ensures.value c.self.view_is c.self.invariant.0 c.in-To.ensures.next.0 in (m.begun, m.whole)

pub returns-in_ok-reserve-in-Room-clause-step : goal.returns-in_ok-reserve-in-Room-clause-step
returns-in_ok-reserve-in-Room-clause-step c =
    let m = moved tree_law _ _ _ _ _ _ c.as_slice.ensures.value c.self.view_is c.self.invariant.0 c.in-Room.ensures.next.0 in (m.begun, ap (λ v. prefix_of c.in-Room.state ++ v) c.in_ok-reserve-in-Room.ensures.items ∙ m.whole)

pub returns-in_err-reserve-in-Room-clause-step : goal.returns-in_err-reserve-in-Room-clause-step
returns-in_err-reserve-in-Room-clause-step c =
    let m = moved tree_law _ _ _ _ _ _ c.as_slice.ensures.value c.self.view_is c.self.invariant.0 c.in-Room.ensures.next.0 in
    let p = err_from_is_err_and c.from_residual.result c.from_residual.ensures.1 in
    subst (λ r. PushIs r c.args.self.now c.args.byte (prefix_of c.self.inside.state ++ c.reserve.new.self.items)) (sym (p.1 ∙ ap Err p.2))
    (m.begun, ap (λ v. prefix_of c.self.inside.state ++ v) c.in_err-reserve-in-Room.ensures.items ∙ c.self.view_is)

pub returns-in-Ok-clause-step : goal.returns-in-Ok-clause-step
returns-in-Ok-clause-step c =
    let m = grown tree_law _ _ _ _ _ _ _ c.as_slice.ensures.value c.self.view_is c.self.invariant.0 c.in-Grow.ensures.next.0 c.in-Ok.ensures.items in (m.begun, m.whole)

pub returns-in-Err-clause-step : goal.returns-in-Err-clause-step
returns-in-Err-clause-step c =
    let m = grown tree_law _ _ _ _ _ _ _ c.as_slice.ensures.value c.self.view_is c.self.invariant.0 c.in-Grow.ensures.next.0 refl in
    (m.begun, ap (λ v. prefix_of c.self.inside.state ++ v) c.in-Err.ensures.items ∙ c.self.view_is)

pub returns-in-Keep-clause-step : goal.returns-in-Keep-clause-step
returns-in-Keep-clause-step c =
    let m = grown tree_law _ _ _ _ _ _ _ c.as_slice.ensures.value c.self.view_is c.self.invariant.0 c.in-Keep.ensures.next.0 c.push_reserved.ensures.items in (m.begun, m.whole)

pub returns-in-Done-clause-step : goal.returns-in-Done-clause-step
returns-in-Done-clause-step c =
    (spelled tree_law _ _ _ _ _ _ c.as_slice.ensures.value c.self.view_is c.self.invariant.0 c.in-Done.ensures.next.0, c.self.invariant.0.empty c.in-Done.ensures.next.1)

pub returns-in-Last-clause-step : goal.returns-in-Last-clause-step
returns-in-Last-clause-step c = (
  subst (λ v. Spells v (c.args.self.now ++ c.args.byte ∷ []))
      (sym (c.end.ensures.command ∙ ap (command_of c.in-Last.ending) (c.push_reserved-in-Last.ensures.items ∙ ap (λ v. v ++ c.args.byte ∷ []) (sym c.as_slice.ensures.value))))
      (spelled tree_law _ _ _ _ _ _ c.as_slice.ensures.value c.self.view_is c.self.invariant.0 c.in-Last.ensures.next.0),
  c.end.ensures.left,
)

pub returns-in-Closes-clause-step : goal.returns-in-Closes-clause-step
returns-in-Closes-clause-step c = (
  subst (λ v. Spells v (c.args.self.now ++ c.args.byte ∷ []))
      (sym (c.end-in-Closes.ensures.command ∙ ap (command_of c.in-Closes.ending) (sym c.as_slice.ensures.value)))
      (spelled tree_law _ _ _ _ _ _ c.as_slice.ensures.value c.self.view_is c.self.invariant.0 c.in-Closes.ensures.next),
  c.end-in-Closes.ensures.left,
)

pub invariant_of-self-in-Last : goal.invariant_of-self-in-Last
invariant_of-self-in-Last c = (
  subst (λ v. IsAt Start v) (sym c.end.ensures.left) at_start,
  (let fits : vec_len c.end.new.content ≤ vec_capacity c.end.new.content = c.end.new.content.ok.1 in omega (arith, fits)),
  rw c.led_to.ensures.none tt,
)

pub invariant_of-self-in-Closes : goal.invariant_of-self-in-Closes
invariant_of-self-in-Closes c = (
  subst (λ v. IsAt Start v) (sym c.end-in-Closes.ensures.left) at_start,
  (let fits : vec_len c.end-in-Closes.new.content ≤ vec_capacity c.end-in-Closes.new.content = c.end-in-Closes.new.content.ok.1 in omega (arith, fits)),
  rw c.led_to.ensures.none tt,
)
