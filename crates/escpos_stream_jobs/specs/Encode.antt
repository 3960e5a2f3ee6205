-- What `encode` prints for a receipt's text in JSON, and its exit status.
use Rattle.std.specs.Prelude.{ℕ, ◌≡◌, ◌<◌, ◌≤◌, List, [], ◌∷◌, ◌++◌, length, codes}
use Rattle.hex.specs.Hex.{encode_lower}
use Rattle.escpos_command.specs.declared.bytes.TheConstants.{LF}
use Rattle.escpos_command.specs.declared.command.Command.{Command}
use Rattle.escpos_command.specs.CommandTable.{spell}
use Rattle.escpos_receipt.specs.declared.json.JsonFault.{JsonFault}
use Rattle.escpos_receipt.specs.Describes.{DescribesWith, IsFaultWith}
use Rattle.escpos_receipt.specs.declared.options.ReceiptOptions.{ReceiptOptions}
use Rattle.escpos_receipt.specs.Whole.{Whole}
use Rattle.escpos_job_parts.specs.declared.form.Form.{Form}
use Rattle.escpos_job_parts.specs.declared.form.Form.TheVariants.{Hexadecimal, Raw}
use Rattle.escpos_job_parts.specs.declared.input.TheConstants.{INPUT_LIMIT}
use Rattle.escpos_job_parts.specs.declared.status.Status.TheVariants.{Good, Refused, Memory}
use Rattle.escpos_job_parts.specs.Ending.{JobEnd, Puts, RefusesInput, memory_line}
use Rattle.escpos_job_parts.specs.Refusal.{refusal_line}

-- The bytes of the commands: as hexadecimal text, in one line, or as they are.
abbrev pub written_in : Form → List Command → List ℕ
written_in Hexadecimal cs = encode_lower (spell cs) ++ LF ∷ []
written_in Raw cs = spell cs

-- What is done with a text: a receipt that it describes is written, as `written` says, or the line of a reason for which it
-- describes none is printed; or, if an allocation fails, the one that says so.
pub record EncodesTextAs (options : ReceiptOptions) (written : List Command → List ℕ) (o : JobEnd) (text : List ℕ) : Type 0 where
  pub good : o.status ≡ Good → (cs : List Command) × DescribesWith options text cs × Whole cs × Puts o (written cs)
  pub refused : o.status ≡ Refused → (why : JsonFault) × IsFaultWith options why text × Puts o (refusal_line why)
  pub memory : o.status ≡ Memory → Puts o memory_line

-- What is done with input: too long, or a text.
pub record EncodesAs (options : ReceiptOptions) (written : List Command → List ℕ) (o : JobEnd) (input : List ℕ) : Type 0 where
  pub too_long : INPUT_LIMIT < length input → RefusesInput o (codes "refused input\n")
  pub short : length input ≤ INPUT_LIMIT → EncodesTextAs options written o input

-- What `encode` does with its input, where receipts are read with these options: a receipt's bytes are written in this form.
abbrev pub Encodes : Form → ReceiptOptions → JobEnd → List ℕ → Type 0
Encodes form options o input = EncodesAs options (written_in form) o input
