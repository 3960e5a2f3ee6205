use Rattle.std.proofs.Common.{◌+◌, ◌<◌, ◌≤◌, ◌^◌, ◌++◌, [], length, take, drop, arith, ◌∙◌, ap, subst, append-nil}
use Rattle.std.proofs.lemmas.Result.{err_from_is_err_and, IfErr-weaker}
use Rattle.std.specs.List.{flat_map}
use Rattle.escpos_io.specs.Gather.{StopsIn}
use Rattle.escpos_io.proofs.PieceLists.{one_more, all_pieces, front_and_rest}
use Rattle.escpos_io.proofs.pieces.put_pieces.Goals as goal

pub returns-in_err-put-clause-err : goal.returns-in_err-put-clause-err
returns-in_err-put-clause-err g c =
    let pieces = c.args.pieces.now in
    let i = c.loop-piece.piece-index in
    let piece = c.piece-item.result in
    let inside : i < length pieces = omega arith in
    let rest = flat_map g.P.Piece.bytes (drop (i + 1) pieces) in
    let few = c.loop-piece.invariant.few in
    let p = err_from_is_err_and c.from_residual.result c.from_residual.ensures.1 in
    let stops = c.in_err-put.ensures.err _ _ rest c.loop-piece.invariant.carried (omega (arith, few)) in
    rw (p.1, p.2) (subst (λ v. StopsIn (g.W.ByteOut.written c.args.writer.now) (g.W.ByteOut.written c.put.new.writer) v c.in_err-put.field-0.0.written)
    (ap (λ v. v ++ rest) (one_more g.P.Piece.bytes pieces i piece inside c.piece-item.is) ∙ front_and_rest g.P.Piece.bytes pieces (i + 1)) stops)

pub returns-clause-err : goal.returns-clause-err
returns-clause-err g c =
    let all : length c.args.pieces.now ≤ c.loop-piece.piece-index = omega arith in
    let few = c.loop-piece.invariant.few in
    let short : length (flat_map g.P.Piece.bytes (take c.loop-piece.piece-index c.args.pieces.now)) < 2 ^ 128 = omega arith in
    IfErr-weaker c.flush.result _ _ (λ device stops. subst (λ v. StopsIn (g.W.ByteOut.written c.args.writer.now) (g.W.ByteOut.written c.flush.new.writer) v device.written)
    (append-nil _ ∙ append-nil _ ∙ all_pieces g.P.Piece.bytes c.args.pieces.now c.loop-piece.piece-index all)
    (stops _ _ [] c.loop-piece.invariant.carried (simp append-nil short))) c.flush.ensures.given.err
