-- Each dot stands after those before it.
use Rattle.std.proofs.Common.{◌≡◌, ◌+◌, ◌∷◌, [], ◌++◌, length, map, sym, ap, ◌∙◌, append_assoc, arith}
use Rattle.std.specs.List.{range_with_len}
use Rattle.std.proofs.lemmas.List.{length_push}
use Rattle.std.proofs.lemmas.List.FromFn.{map-range_with_len_more}
use Rattle.escpos_image.specs.Scaling.{scaled_dot}
use Rattle.escpos_image.proofs.scaling.put_scaled_row.Goals as goal

pub loop-i-preserved : goal.loop-i-preserved
loop-i-preserved c =
    let l = c.loop-i in
    let dot = scaled_dot c.args.picture.now c.args.width c.args.height c.args.j in
    let pushed : c.push.new.self.items ≡ l.grays.items ++ c.mean.result ∷ [] = c.in_ok-push.ensures.items in
    let longer : length c.push.new.self.items ≡ length l.grays.items + 1 = ap length pushed ∙ length_push l.grays.items c.mean.result in
    let is : c.mean.result ≡ dot l.i = c.mean.ensures ∙ rw (c.edge-left.ensures.value, c.edge-right.ensures.value, c.edge-top.ensures.value, c.edge-bottom.ensures.value, c.width.ensures.value, c.width-in-loop-i.ensures.value, c.height.ensures.value, c.height-2.ensures.value) in
    let more = map-range_with_len_more dot 0 l.i l.i (omega arith) in
    record {
      so_far = pushed ∙ ap (λ x. l.grays.items ++ x ∷ []) is ∙ ap (λ xs. xs ++ dot l.i ∷ []) l.invariant.so_far
          ∙ append_assoc c.args.grays.now.items (map dot (range_with_len 0 l.i)) (dot l.i ∷ []) ∙ ap (λ xs. c.args.grays.now.items ++ xs) (sym more);
      counted = omega arith;
    }
