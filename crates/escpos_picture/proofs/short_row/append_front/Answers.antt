use Rattle.std.proofs.Common.{◌≡◌, ◌+◌, ◌≤◌, ◌++◌, length, take, sym, ◌∙◌, ap, arith}
use Rattle.std.proofs.Math.Seq.{take-append-add}
use Rattle.std.proofs.lemmas.List.{take-take, length-take-le}
use Rattle.escpos_picture.proofs.short_row.append_front.Goals as goal

pub returns-clause-text : goal.returns-clause-text
returns-clause-text c =
    let len = c.args.len in
    let more = c.args.count in
    let places = c.args.places.now in
    let old = c.args.bytes.now in
    let waiting = take len old in
    let inside : len ≤ length old = omega (arith, c.requires.room) in
    let count : len + more ≡ length waiting + more = omega (arith, length-take-le len old inside) in
    let within : len + more ≤ len + length places = omega (arith, c.requires.few) in
    sym (take-take (len + more) (len + length places) c.copy_in.new.bytes within)
    ∙ ap (λ t. take (len + more) t) c.copy_in.ensures.front
    ∙ ap (λ n. take n (waiting ++ places)) count
    ∙ take-append-add waiting places more
