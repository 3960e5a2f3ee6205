-- What is taken out goes out, piece after piece.
use Rattle.std.proofs.Common.{◌≡◌, ◌≤◌, ◌++◌, length, length-take, [], ◌<◌, take, arith, refl, sym, ◌∙◌, ap, subst, append-nil}
use Rattle.std.specs.Io.KnownBytes.{Appends}
use Rattle.escpos_host.specs.Awaits.{with_out}
use Rattle.escpos_host.specs.Machine.{HostView, taken_out}
use Rattle.escpos_host.proofs.Dialling.{copied_front, is_none, is_some, put_cut, put_more}
use Rattle.escpos_host.proofs.send.put_out.Given as given
use Rattle.escpos_host.proofs.send.put_out.Goals as goal

pub loop-piece-preserved : goal.loop-piece-preserved
loop-piece-preserved g c =
    let count = c.take_out-count.ensures.count in
    let few : c.take_out-count.result ≤ length c.loop-piece.host.out = omega (arith, count) in
    let front = copied_front c.loop-piece.host.out c.loop-piece.piece c.take_out-count.new.out c.take_out-count.result few c.take_out-count.ensures.copied in
    let same = c.take_out-count.ensures.taken in
    let left = ap (λ (v : HostView). v.out) same in
    let before = c.loop-piece.invariant.so_far in
    let room = c.loop-piece.invariant.room in
    let whole = length-take c.take_out-count.result c.take_out-count.new.out in
    let kept = c.take_out-count.auto.out in
    let left_some = is_some c.loop-piece.host.out (c.loop-piece-test.ensures.0 refl) in
    let some : 0 < length (take c.take_out-count.result c.take_out-count.new.out) = omega (arith, count, room, whole, kept, left_some) in
    let more =
    put_more (g.W.ByteOut.written c.args.writer.now) (g.W.ByteOut.written c.loop-piece.writer) (g.W.ByteOut.written c.put_all.new.writer) c.args.host.now.out before.0 c.loop-piece.host.out
    c.take_out-count.result before.1 before.2 (subst (Appends (g.W.ByteOut.written c.loop-piece.writer) (g.W.ByteOut.written c.put_all.new.writer)) front c.in_default.ensures.all) in
    record {
      room = c.take_out-count.auto.out ∙ c.loop-piece.invariant.room;
      so_far = (more.0, more.1, more.2 ∙ ap (λ v. more.0 ++ v) (sym left));
      same = same ∙ ap (λ v. taken_out v c.take_out-count.result) c.loop-piece.invariant.same ∙ ap (with_out c.args.host.now) (sym left);
      not_failed = λ well. c.in_default.ensures.not_failed some;
    }

pub returns-in-Err-clause-some : goal.returns-in-Err-clause-some
returns-in-Err-clause-some g c =
    let count = c.take_out-count.ensures.count in
    let few : c.take_out-count.result ≤ length c.loop-piece.host.out = omega (arith, count) in
    let front = copied_front c.loop-piece.host.out c.loop-piece.piece c.take_out-count.new.out c.take_out-count.result few c.take_out-count.ensures.copied in
    let before = c.loop-piece.invariant.so_far in
    let cut =
    put_cut (g.W.ByteOut.written c.args.writer.now) (g.W.ByteOut.written c.loop-piece.writer) (g.W.ByteOut.written c.put_all.new.writer) c.args.host.now.out before.0 c.loop-piece.host.out
    c.take_out-count.result c.in-Err.field-0.written before.1 before.2 (rw front at c.in-Err.ensures.fewer) (rw front at c.in-Err.ensures.some) in
    cut

pub returns-in-Err-clause-some_taken : goal.returns-in-Err-clause-some_taken
returns-in-Err-clause-some_taken g c =
    let same = c.take_out-count.ensures.taken in
    let left = ap (λ (v : HostView). v.out) same in
    same ∙ ap (λ v. taken_out v c.take_out-count.result) c.loop-piece.invariant.same ∙ ap (with_out c.args.host.now) (sym left)

-- nothing is left
nothing : (g : given.Over) (c : goal.After-loop-piece g) → c.loop-piece.host.out ≡ []
nothing g c = is_none c.loop-piece.host.out c.loop-piece-test.ensures.1

pub returns-clause-all : goal.returns-clause-all
returns-clause-all g c =
    let so_far = c.loop-piece.invariant.so_far in
    let whole = so_far.2 ∙ ap (λ v. so_far.0 ++ v) (nothing g c) ∙ append-nil so_far.0 in
    subst (Appends (g.W.ByteOut.written c.args.writer.now) (g.W.ByteOut.written c.loop-piece.writer)) (sym whole) so_far.1

pub returns-clause-taken : goal.returns-clause-taken
returns-clause-taken g c = c.loop-piece.invariant.same ∙ ap (with_out c.args.host.now) (nothing g c)
