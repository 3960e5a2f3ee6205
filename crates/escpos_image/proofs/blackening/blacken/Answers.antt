-- One more byte stands after those before it.
use Rattle.std.proofs.Common.{◌≡◌, ◌<◌, ◌+◌, [], ◌∷◌, ◌++◌, length, take, drop, get_or, sym, ap, ◌∙◌, append_assoc, arith}
use Rattle.std.proofs.Math.ListN.{set}
use Rattle.std.proofs.lemmas.List.{drop-set-lt, drop_more, get_or_read, take_more_set}
use Rattle.escpos_image.specs.Blackening.{blackened, blackened_after}
use Rattle.escpos_image.proofs.blackening.blacken.Goals as goal

pub loop-k-preserved : goal.loop-k-preserved
loop-k-preserved c =
    let l = c.loop-k in
    let dots = l.dots.items in
    let byte = c.blackened-byte.result in
    let inside : l.k < length dots = omega arith in
    let here : c.index.result.now ≡ get_or dots l.k 0 = get_or_read dots l.k c.index.result.now inside c.index.ensures 0 in
    let is : byte ≡ blackened l.first l.second (get_or dots l.k 0) = c.blackened-byte.ensures ∙ ap (blackened l.first l.second) here in
    let rest : drop (l.k + 1) (set dots l.k byte) ≡ drop (l.k + 1) dots = drop-set-lt (l.k + 1) dots l.k byte (omega arith) in
    let so_far : take (l.k + 1) (set dots l.k byte) ≡ take l.k dots ++ byte ∷ [] = take_more_set dots l.k byte inside in
    let left = drop (l.k + 1) dots in
    let step : byte ∷ blackened_after l.second byte left ≡ blackened_after l.first l.second (drop l.k dots) =
    ap (λ m. m ∷ blackened_after l.second m left) is ∙ sym (ap (blackened_after l.first l.second) (drop_more dots l.k 0 inside)) in
    record {
      bytes =
          ap (λ r. take (l.k + 1) (set dots l.k byte) ++ blackened_after l.second byte r) rest
          ∙ ap (λ front. front ++ blackened_after l.second byte left) so_far
          ∙ append_assoc (take l.k dots) (byte ∷ []) (blackened_after l.second byte left)
          ∙ ap (λ v. take l.k dots ++ v) step
          ∙ l.invariant.bytes;
      same_count = l.invariant.same_count;
    }
