use Rattle.std.proofs.Common.{◌≡◌, ℕ, ◌-◌, ◌++◌, length, subst, Ok, Err}
use Rattle.escpos_text.specs.Writing.{written}
use Rattle.escpos_layout.specs.Layouts.{blanks}
use Rattle.escpos_layout.specs.Writing.{WritesAs, Stops, Ends}
use Rattle.escpos_layout.proofs.Parts.{texts_end, text_stops}
use Rattle.escpos_layout.proofs.Betweens.{between-none, between-some, left_stops, none_there, some_there}
use Rattle.escpos_layout.proofs.lines.put_between.Goals as goal

pub returns-in-Err : goal.returns-in-Err
returns-in-Err c = left_stops c.joined.ensures c.args.encoding.now c.put_text.new.encoding c.args.columns c.args.left.now c.args.right.now c.args.out.now.items c.put_text.new.out.items c.in-Err.fault c.in-Err.ensures

pub returns-then-is_empty : goal.returns-then-is_empty
returns-then-is_empty c =
    subst (λ text. WritesAs (written c.args.encoding.now text) c.args.encoding.now c.args.out.now.items c.put_text.new.out.items c.put_text.new.encoding)
    (between-none c.args.columns c.args.left.now c.args.right.now (none_there c.args.right.now c.is_empty.result c.is_empty.ensures c.if-is_empty.true)) c.in-Ok.ensures

-- How many blanks there are.
room : (columns count left right some blanks : ℕ) → count ≡ columns → some ≡ count - left → blanks ≡ some - right → blanks ≡ columns - left - right
room columns count left right some blanks e f g = cc

pub returns-in-Err-put_repeated : goal.returns-in-Err-put_repeated
returns-in-Err-put_repeated c =
    let e = c.args.encoding.now in
    let left = c.args.left.now in
    let right = c.args.right.now in
    let many = room c.args.columns c.count.result (length left) (length right) c.saturating_sub.result c.saturating_sub-blanks.result
    c.count.ensures.kept c.saturating_sub.ensures c.saturating_sub-blanks.ensures in
    let part = subst (λ n. Stops (written c.put_text.new.encoding (blanks n)) c.put_text.new.encoding c.put_text.new.out.items c.put_repeated.new.out.items c.put_repeated.new.encoding c.in-Err-put_repeated.fault)
    many c.in-Err-put_repeated.ensures in
    subst (λ text. Stops (written e text) e c.args.out.now.items c.put_repeated.new.out.items c.put_repeated.new.encoding c.in-Err-put_repeated.fault)
    (between-some c.args.columns left right (some_there right c.is_empty.result c.is_empty.ensures c.if-is_empty.false))
    (text_stops c.joined.ensures e c.put_repeated.new.encoding (left ++ blanks (c.args.columns - length left - length right)) right
    c.args.out.now.items c.put_repeated.new.out.items c.in-Err-put_repeated.fault
    (texts_end {A = Unit {0}} c.joined.ensures e c.put_text.new.encoding c.put_repeated.new.encoding left (blanks (c.args.columns - length left - length right))
    c.args.out.now.items c.put_text.new.out.items c.put_repeated.new.out.items (Err c.in-Err-put_repeated.fault) c.in-Ok.ensures part))

pub returns : goal.returns
returns c =
    let e = c.args.encoding.now in
    let left = c.args.left.now in
    let right = c.args.right.now in
    let many = room c.args.columns c.count.result (length left) (length right) c.saturating_sub.result c.saturating_sub-blanks.result
    c.count.ensures.kept c.saturating_sub.ensures c.saturating_sub-blanks.ensures in
    let part = subst (λ n. WritesAs (written c.put_text.new.encoding (blanks n)) c.put_text.new.encoding c.put_text.new.out.items c.put_repeated.new.out.items c.put_repeated.new.encoding)
    many c.in-Ok-put_repeated.ensures in
    subst (λ text. Ends (written e text) e c.args.out.now.items c.put_text-2.new.out.items c.put_text-2.new.encoding c.put_text-2.result)
    (between-some c.args.columns left right (some_there right c.is_empty.result c.is_empty.ensures c.if-is_empty.false))
    (texts_end c.joined.ensures e c.put_repeated.new.encoding c.put_text-2.new.encoding (left ++ blanks (c.args.columns - length left - length right)) right
    c.args.out.now.items c.put_repeated.new.out.items c.put_text-2.new.out.items c.put_text-2.result
    (texts_end {A = Unit {0}} c.joined.ensures e c.put_text.new.encoding c.put_repeated.new.encoding left (blanks (c.args.columns - length left - length right))
    c.args.out.now.items c.put_text.new.out.items c.put_repeated.new.out.items (Ok tt) c.in-Ok.ensures part) c.put_text-2.ensures)
