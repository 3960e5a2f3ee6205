-- Characters leave the encoding as it is.
use Rattle.std.proofs.Common.{sym, ◌∙◌, ap, subst, refl, map}
use Rattle.escpos_command.specs.declared.command.Command.TheVariants.{Char}
use Rattle.escpos_text.specs.SpelledTexts.{AreOfText}
use Rattle.escpos_text.proofs.TextLaws.{written-of_text}
use Rattle.escpos_receipt.specs.EntryCommands.{with_commands}
use Rattle.escpos_receipt.proofs.SpelledTexts.{next_of_characters}
use Rattle.escpos_receipt.proofs.entry.text_in.Goals as goal

pub returns-in-None-clause-next : goal.returns-in-None-clause-next
returns-in-None-clause-next c =
    sym (ap (with_commands c.args.encoding.now) c.given.ensures.text ∙ next_of_characters c.args.encoding.now c.as_bytes-in-None.result.now)

pub given-requires : goal.given-requires
given-requires c = record {
  characters = subst (λ bs. AreOfText (map Char bs)) (c.as_bytes.ensures.value ∙ sym c.as_bytes-in-None.ensures.value)
      (written-of_text c.args.encoding.now _ _ (c.in-None.ensures.plain c.args.encoding.now refl));
}
