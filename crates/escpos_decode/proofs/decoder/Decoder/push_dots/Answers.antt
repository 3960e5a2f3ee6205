use Rattle.std.proofs.Common.{◌≡◌, ◌+◌, ◌∙◌, ◌++◌, take, length, length-take, ap, sym, subst, append_assoc, arith}
use Rattle.std.specs.Prelude.{vec_len, if◌then◌else◌, is_ok}
use Rattle.escpos_decode.specs.State.{IsAt, prefix_of}
use Rattle.escpos_decode.proofs.States.{tree_law, rest_at}
use Rattle.escpos_decode.proofs.DotRuns.{bytes_pass, run_read}
use Rattle.escpos_decode.proofs.decoder.Decoder.push_dots.Goals as goal

pub invariant_of-self : goal.invariant_of-self
invariant_of-self c =
    let content = c.self.inside.content in
    let past = c.past_dots-state in
    let run = take past.result.1 c.args.bytes.now in
    let items = c.extend_from_slice.ensures.items ∙ ap (λ r. if is_ok r then content.items ++ run else content.items) c.unwrap.ensures in
    let len = c.extend_from_slice.ensures.len ∙ ap (λ r. if is_ok r then vec_len content + length run else vec_len content) c.unwrap.ensures in
    let long : length run ≡ past.result.1 = omega (arith, length-take past.result.1 c.args.bytes.now, past.ensures.count) in (
      subst (IsAt past.result.0) (sym items) (past.ensures.there content.items run c.self.invariant.0 long (bytes_pass c.args.bytes.now past.result.1 c.type_inv.bytes)),
      omega (arith, len, long, past.ensures.wanted, c.self.invariant.1, c.extend_from_slice.ensures.capacity),
      tt,
    )

pub returns-clause-stream : goal.returns-clause-stream
returns-clause-stream c = λ a cs r.
    let content = c.self.inside.content in
    let past = c.past_dots-state in
    let run = take past.result.1 c.args.bytes.now in
    let items = c.extend_from_slice.ensures.items ∙ ap (λ r. if is_ok r then content.items ++ run else content.items) c.unwrap.ensures in
    let long : length run ≡ past.result.1 = omega (arith, length-take past.result.1 c.args.bytes.now, past.ensures.count) in
    let there = past.ensures.there content.items run c.self.invariant.0 long (bytes_pass c.args.bytes.now past.result.1 c.type_inv.bytes) in
    let same = ap (λ p. p ++ (content.items ++ run)) past.ensures.prefix ∙ sym (append_assoc (prefix_of c.self.inside.state) content.items run) ∙ ap (λ v. v ++ run) c.self.view_is in
    run_read a c.args.self.now run _ cs r
    (ap (λ v. prefix_of past.result.0 ++ v) items ∙ same)
    (rest_at tree_law past.result.0 c.extend_from_slice.new.self.items (subst (IsAt past.result.0) (sym items) there))
