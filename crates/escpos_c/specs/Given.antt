-- What the numbers stand for in which C says the width of a line and the options of a receipt; none where they are out of range.
use Rattle.std.specs.Prelude.{ℕ, ◌==◌, Option, Some, None, if◌then◌else◌}
use Rattle.escpos_command.specs.declared.line_width.TheConstants.{USUAL_LINE_DOTS}
use Rattle.escpos_command.specs.LineWidths.{is_line_width}
use Rattle.escpos_text.specs.Replacements.{is_replacement}
use Rattle.escpos_receipt.specs.declared.options.ReceiptOptions.{ReceiptOptions}
use Rattle.escpos_c.specs.declared.options.Options.{Options}

-- The dots of a line: 0 stands for those that a line usually has.
abbrev pub line_dots : ℕ → Option ℕ
line_dots dots = if dots == 0 then Some USUAL_LINE_DOTS else if is_line_width dots then Some dots else None

-- What is printed in place of a character that no code table has: 0 stands for nothing.
abbrev pub replacement_of : ℕ → Option (Option ℕ)
replacement_of byte = if byte == 0 then Some None else if is_replacement byte then Some (Some byte) else None

-- Both are in range.
abbrev pub both_options : Option ℕ → Option (Option ℕ) → Option ReceiptOptions
both_options (Some width) (Some replacement) = Some (record { width = width; replacement = replacement })
both_options _ _ = None

abbrev pub receipt_options : Options → Option ReceiptOptions
receipt_options options = both_options (line_dots options.width) (replacement_of options.replacement)

-- The threshold of a picture: 0 stands for none.
abbrev pub threshold_of : ℕ → Option ℕ
threshold_of threshold = if threshold == 0 then None else Some threshold
