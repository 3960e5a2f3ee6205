-- What a receipt's text doesn't say: how it is read where nobody says otherwise.
use Rattle.std.specs.Prelude.{None}
use Rattle.escpos_command.specs.declared.line_width.TheConstants.{USUAL_LINE_DOTS}
use Rattle.escpos_receipt.specs.declared.options.ReceiptOptions.{ReceiptOptions}

-- A line has 512 dots, and nothing is printed in place of a character that no code table has.
abbrev pub usual_options : ReceiptOptions
usual_options = record { width = USUAL_LINE_DOTS; replacement = None }
