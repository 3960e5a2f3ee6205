-- What a text begins with: a code table or a character.
use Rattle.std.proofs.Common.{◌∷◌, sym, ◌∙◌, ap, arith, length}
use Rattle.escpos_command.specs.declared.command.Command.TheVariants.{Char}
use Rattle.escpos_receipt.specs.SpelledText.{lines_commands}
use Rattle.escpos_receipt.proofs.SpelledTexts.{character_first, character_there, line_feed_first, long_enough, table_first}
use Rattle.escpos_receipt.proofs.json.first_of_text.Goals as goal

pub returns-in_err-rest-clause-none : goal.returns-in_err-rest-clause-none
returns-in_err-rest-clause-none c = λ _.
    let long = long_enough c.args.text.now c.in_ok-byte.byte c.in_ok-byte.rest.now c.in_ok-byte.ensures c.if-byte-eq-ESC.true c.requires in
    let none = ap length c.in_err-rest.ensures in
    absurd (omega (arith, long, none))

pub returns-in_err-number-clause-none : goal.returns-in_err-number-clause-none
returns-in_err-number-clause-none c = λ _.
    let long = long_enough c.args.text.now c.in_ok-byte.byte c.in_ok-byte.rest.now c.in_ok-byte.ensures c.if-byte-eq-ESC.true c.requires in
    let one = ap length c.in_ok-rest.ensures in
    let none = ap length c.in_err-number.ensures in
    absurd (omega (arith, long, one, none))

pub returns-then-byte-eq-ESC-clause-first : goal.returns-then-byte-eq-ESC-clause-first
returns-then-byte-eq-ESC-clause-first c =
    let rest = c.in_ok-number.rest.now in
    let whole = c.in_ok-byte.ensures ∙ ap (λ l. c.in_ok-byte.byte ∷ l) (c.in_ok-rest.ensures ∙ ap (λ l. c.in_ok-rest.field-0-0 ∷ l) c.in_ok-number.ensures) in
    let first = table_first c.args.text.now c.in_ok-byte.byte c.in_ok-rest.field-0-0 c.in_ok-number.number rest whole c.if-byte-eq-ESC.true c.requires in
    (first.0 ∙ ap (λ command. command ∷ lines_commands rest) (sym c.in_ok-set.ensures.1), first.1, first.2)

pub returns-in_err-new-clause-none : goal.returns-in_err-new-clause-none
returns-in_err-new-clause-none c = λ _.
    absurd (c.in_err-new.ensures (character_there c.args.text.now c.in_ok-byte.byte c.in_ok-byte.rest.now c.in_ok-byte.ensures c.if-byte-eq-ESC.false c.if-byte-eq-LF.false c.requires))

pub returns-clause-first : goal.returns-clause-first
returns-clause-first c =
    let rest = c.in_ok-byte.rest.now in
    let first = character_first c.args.text.now c.in_ok-byte.byte rest c.in_ok-byte.ensures c.in_ok-new.ensures.0 c.requires in
    (first.0 ∙ ap (λ n. Char n ∷ lines_commands rest) (sym c.in_ok-new.ensures.1), first.1, first.2)

pub returns-then-byte-eq-LF-clause-first : goal.returns-then-byte-eq-LF-clause-first
returns-then-byte-eq-LF-clause-first c = line_feed_first c.args.text.now c.in_ok-byte.byte c.in_ok-byte.rest.now c.in_ok-byte.ensures c.if-byte-eq-LF.true c.requires
