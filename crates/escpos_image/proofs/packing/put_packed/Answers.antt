-- Each byte stands after those before it.
use Rattle.std.proofs.Common.{◌≡◌, ◌∷◌, [], ◌++◌, sym, ap, ◌∙◌, append_assoc, arith}
use Rattle.std.proofs.lemmas.List.FromFn.{map-range_with_len_more}
use Rattle.escpos_image.specs.Packing.{packed_byte, row_packed}
use Rattle.escpos_image.proofs.packing.put_packed.Goals as goal

pub loop-k-preserved : goal.loop-k-preserved
loop-k-preserved c =
    let l = c.loop-k in
    let row = c.args.row.now in
    let before = c.args.bytes.now.items in
    let byte = packed_byte row in
    let pushed : c.push.new.self.items ≡ l.bytes.items ++ c.packed_byte.result ∷ [] = c.in_ok-push.ensures.items in
    pushed ∙ ap (λ x. l.bytes.items ++ x ∷ []) c.packed_byte.ensures ∙ ap (λ xs. xs ++ byte l.k ∷ []) l.invariant
    ∙ append_assoc before (row_packed row l.k) (byte l.k ∷ []) ∙ ap (λ xs. before ++ xs) (sym (map-range_with_len_more byte 0 l.k l.k (omega arith)))
