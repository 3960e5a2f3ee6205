-- Characters spell themselves.
use Rattle.escpos_receipt.proofs.SpelledTexts.{given_bytes}
use Rattle.escpos_receipt.proofs.spelled_text.SpelledText.given.Goals as goal

pub invariant_of-result : goal.invariant_of-result
invariant_of-result c = (given_bytes c.args.bytes.now c.requires.characters).0

pub returns : goal.returns
returns c = record { text = (given_bytes c.args.bytes.now c.requires.characters).1 }
