-- The line of each receipt is given after those before it; if one failed, they are a prefix of all.
use Rattle.std.proofs.Common.{◌≡◌, ◌+◌, ◌<◌, ◌≤◌, ◌++◌, ◌∙◌, Ok, Err, length, take, drop, get_or, ap, arith}
use Rattle.escpos_till.specs.declared.state.ReceiptState.TheVariants.{Waiting}
use Rattle.escpos_till_jobs.specs.Lines.{state_line, state_lines}
use Rattle.escpos_till_jobs.proofs.StateLines.{lines_and_rest, one_more_line}
use Rattle.escpos_io.proofs.Giving.{given_in_the_front, given_in_turn}
use Rattle.escpos_till_jobs.proofs.listing.put_states.Goals as goal

pub returns-in_err-put_state : goal.returns-in_err-put_state
returns-in_err-put_state g c =
    let ss = c.args.states.now in
    let i = c.loop-state.state-index in
    let s = get_or ss i (Waiting 0) in
    let inside : i < length ss = omega arith in
    let past : i + 1 ≤ length ss = omega arith in
    let device = c.in_err-put_state.field-0.0 in
    let number : 1 + c.args.earlier + i ≡ c.loop-state.place + 1 = omega (arith, c.loop-state.invariant.place) in
    let line : state_lines (1 + c.args.earlier) (take (i + 1) ss) ≡ state_lines (1 + c.args.earlier) (take i ss) ++ state_line (c.loop-state.place + 1) s =
    one_more_line (1 + c.args.earlier) ss i (Waiting 0) inside ∙ ap (λ n. state_lines (1 + c.args.earlier) (take i ss) ++ state_line n s) number in
    let stopped = given_in_turn (Err device) _ _ _ _ _ _ _ _ _ (state_lines (1 + c.args.earlier) (take i ss)) (state_line (c.loop-state.place + 1) s) (state_lines (1 + c.args.earlier) (take (i + 1) ss))
    c.loop-state.invariant.given c.in_err-put_state.ensures line in
    given_in_the_front c.from_residual.result device _ _ _ (state_lines (1 + c.args.earlier) (take (i + 1) ss)) (state_lines (1 + c.args.earlier + (i + 1)) (drop (i + 1) ss)) _
    c.from_residual.ensures.1 stopped (lines_and_rest (1 + c.args.earlier) ss (i + 1) past)

pub loop-state-preserved : goal.loop-state-preserved
loop-state-preserved g c =
    let ss = c.args.states.now in
    let i = c.loop-state.state-index in
    let s = get_or ss i (Waiting 0) in
    let inside : i < length ss = omega arith in
    let past : i + 1 ≤ length ss = omega arith in
    let number : 1 + c.args.earlier + i ≡ c.loop-state.place + 1 = omega (arith, c.loop-state.invariant.place) in
    let line : state_lines (1 + c.args.earlier) (take (i + 1) ss) ≡ state_lines (1 + c.args.earlier) (take i ss) ++ state_line (c.loop-state.place + 1) s =
    one_more_line (1 + c.args.earlier) ss i (Waiting 0) inside ∙ ap (λ n. state_lines (1 + c.args.earlier) (take i ss) ++ state_line n s) number in
    record {
      place = omega (arith, c.loop-state.invariant.place);
      given = given_in_turn (Ok tt) _ _ _ _ _ _ _ _ _ (state_lines (1 + c.args.earlier) (take i ss)) (state_line (c.loop-state.place + 1) s) _ c.loop-state.invariant.given c.in_ok-put_state.ensures line;
    }
