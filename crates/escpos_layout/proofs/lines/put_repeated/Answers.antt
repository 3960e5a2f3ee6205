use Rattle.std.proofs.Common.{◌≡◌, ℕ, ◌+◌, ◌-◌, [], ◌∷◌, ◌++◌, replicate, ap, subst, ◌∙◌, arith, Ok, Err}
use Rattle.std.proofs.lemmas.List.{replicate-append-replicate}
use Rattle.escpos_text.specs.Writing.{written}
use Rattle.escpos_layout.specs.Writing.{WritesAs, Stops}
use Rattle.escpos_layout.proofs.Parts.{no_text, texts_end, text_stops}
use Rattle.escpos_layout.proofs.lines.put_repeated.Goals as goal

one_more : (n c : ℕ) → replicate n c ++ c ∷ [] ≡ replicate (n + 1) c
one_more n c = replicate-append-replicate n 1 c

pub loop-init : goal.loop-init
loop-init c = no_text c.args.encoding.now c.args.out.now.items

pub loop-preserved : goal.loop-preserved
loop-preserved c =
    let e = c.args.encoding.now in
    subst (λ text. WritesAs (written e text) e c.args.out.now.items c.put_text.new.out.items c.put_text.new.encoding)
    (one_more c.loop.counter c.args.character)
    (texts_end {A = Unit {0}} c.joined.ensures e c.loop.encoding c.put_text.new.encoding (replicate c.loop.counter c.args.character) (c.args.character ∷ [])
    c.args.out.now.items c.loop.out.items c.put_text.new.out.items (Ok tt) c.loop.invariant c.in-Ok.ensures)

pub returns-in-Err : goal.returns-in-Err
returns-in-Err c =
    let e = c.args.encoding.now in
    let left = c.args.count - (c.loop.counter + 1) in
    let all : replicate (c.loop.counter + 1) c.args.character ++ replicate left c.args.character ≡ replicate c.args.count c.args.character =
    replicate-append-replicate (c.loop.counter + 1) left c.args.character ∙ ap (λ n. replicate n c.args.character) (omega arith) in
    subst (λ text. Stops (written e text) e c.args.out.now.items c.put_text.new.out.items c.put_text.new.encoding c.in-Err.fault)
    (ap (λ text. text ++ replicate left c.args.character) (one_more c.loop.counter c.args.character) ∙ all)
    (text_stops c.joined.ensures e c.put_text.new.encoding (replicate c.loop.counter c.args.character ++ c.args.character ∷ []) (replicate left c.args.character)
    c.args.out.now.items c.put_text.new.out.items c.in-Err.fault
    (texts_end {A = Unit {0}} c.joined.ensures e c.loop.encoding c.put_text.new.encoding (replicate c.loop.counter c.args.character) (c.args.character ∷ [])
    c.args.out.now.items c.loop.out.items c.put_text.new.out.items (Err c.in-Err.fault) c.loop.invariant c.in-Err.ensures))
