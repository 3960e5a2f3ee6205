use Rattle.std.proofs.Common.{◌≡◌, ℕ, true, false, cond, not, List, position, sym, ap, ◌∙◌, Option, Some, None, Ok, map}
use Rattle.std.specs.Prelude.{IfNone, chars}
use Rattle.unicode_normalization.specs.Forms.{nfc}
use Rattle.escpos_command.specs.declared.command.Command.TheVariants as kind
use Rattle.escpos_text.specs.declared.encoding.Encoding.{Encoding}
use Rattle.escpos_text.specs.PlainTexts.{is_printed, is_unexchanged, is_ascii, is_plain}
use Rattle.escpos_text.specs.Writing.{written}
use Rattle.escpos_text.proofs.PlainWriting.{plain-text}
use Rattle.escpos_text.proofs.plain.first_not_plain.Goals as goal

if_none : (set : ℕ) (text : List ℕ) (found : Option ℕ) → found ≡ position (λ b. not (is_plain set b)) text → IfNone found ((e : Encoding) → e.set ≡ set → written e (nfc (chars text)) ≡ Ok (map (λ b. kind.Char b) text))
if_none set text None h = λ e same. plain-text e set text (sym h) same
if_none set text (Some i) h = tt

in_ascii : (set : ℕ) (text : List ℕ) → is_ascii set ≡ true → position (λ b. not (is_printed b)) text ≡ position (λ b. not (is_plain set b)) text
unfolding is_plain
in_ascii set text h = sym (ap (λ t. position (λ b. not (cond t (is_printed b) (is_unexchanged b))) text) h)

in_other : (set : ℕ) (text : List ℕ) → is_ascii set ≡ false → position (λ b. not (is_unexchanged b)) text ≡ position (λ b. not (is_plain set b)) text
unfolding is_plain
in_other set text h = sym (ap (λ t. position (λ b. not (cond t (is_printed b) (is_unexchanged b))) text) h)

pub returns-then-is_ascii-clause-place : goal.returns-then-is_ascii-clause-place
returns-then-is_ascii-clause-place c =
    c.first_not_printed.ensures ∙ in_ascii c.args.set c.args.text.now (sym c.is_ascii.ensures ∙ c.if-is_ascii.true)

pub returns-then-is_ascii-clause-plain : goal.returns-then-is_ascii-clause-plain
returns-then-is_ascii-clause-plain c =
    if_none c.args.set c.args.text.now c.first_not_printed.result
    (c.first_not_printed.ensures ∙ in_ascii c.args.set c.args.text.now (sym c.is_ascii.ensures ∙ c.if-is_ascii.true))

pub returns-else-is_ascii-clause-place : goal.returns-else-is_ascii-clause-place
returns-else-is_ascii-clause-place c =
    c.first_exchanged.ensures ∙ in_other c.args.set c.args.text.now (sym c.is_ascii.ensures ∙ c.if-is_ascii.false)

pub returns-else-is_ascii-clause-plain : goal.returns-else-is_ascii-clause-plain
returns-else-is_ascii-clause-plain c =
    if_none c.args.set c.args.text.now c.first_exchanged.result
    (c.first_exchanged.ensures ∙ in_other c.args.set c.args.text.now (sym c.is_ascii.ensures ∙ c.if-is_ascii.false))
