-- What a call that encodes a receipt answers.
use Rattle.std.specs.Prelude.{ℕ, ℤ, pos, ◌≡◌, ◌≢◌, ◌⊎◌, ◌<◌, ◌≤◌, List, Option, Some, None, length}
use Rattle.escpos_command.specs.declared.command.Command.{Command}
use Rattle.escpos_command.specs.CommandTable.{spell}
use Rattle.escpos_receipt.specs.declared.json.JsonFault.{JsonFault}
use Rattle.escpos_receipt.specs.declared.options.ReceiptOptions.{ReceiptOptions}
use Rattle.escpos_receipt.specs.Describes.{DescribesWith, IsFaultWith}
use Rattle.escpos_receipt.specs.Refusals.{json_number, json_place}
use Rattle.escpos_receipt.specs.Whole.{Whole}
use Rattle.escpos_job_parts.specs.declared.input.TheConstants.{INPUT_LIMIT}
use Rattle.escpos_c.specs.declared.refusal.TheConstants.{BAD_OPTIONS, NO_REASON, NO_PLACE, TOO_LONG}
use Rattle.escpos_c.specs.Buffer.{Fills, GivesNone, TooShort}

-- The place as C sees it.
abbrev pub place_number : Option ℕ → ℕ
place_number None = NO_PLACE
place_number (Some at) = at

-- The text, which isn't too long, describes this receipt with these options.
abbrev pub GivesReceipt : ReceiptOptions → List ℕ → List Command → Type 0
GivesReceipt options json cs = (length json ≤ INPUT_LIMIT) × DescribesWith options json cs × Whole cs

-- The bytes are those of the receipt that the text describes.
abbrev pub IsEncoding : ReceiptOptions → List ℕ → List ℕ → Type 0
IsEncoding options json bytes = (cs : List Command) × GivesReceipt options json cs × (bytes ≡ spell cs)

-- Why the text gives no receipt, as C sees it: it is too long, or the number and the place of its fault.
abbrev pub IsRefusal : ReceiptOptions → List ℕ → ℕ → ℕ → Type 0
IsRefusal options json reason at =
    ((INPUT_LIMIT < length json) × (reason ≡ TOO_LONG) × (at ≡ NO_PLACE))
    ⊎ ((length json ≤ INPUT_LIMIT) × (why : JsonFault) × IsFaultWith options why json × (reason ≡ json_number why) × (at ≡ place_number (json_place why)))

-- What the caller is answered for this text with these options, where the buffer held `before` and holds `after`.
pub record AnswersEncode (options : ReceiptOptions) (json : List ℕ) (status : ℤ) (before after : List ℕ) (written reason at : ℕ) : Type 0 where
  -- the status is one of four: 0, 1, 4 (out of memory), 5 (the buffer is too short)
  pub statuses : (status ≡ pos 0) ⊎ ((status ≡ pos 1) ⊎ ((status ≡ pos 4) ⊎ (status ≡ pos 5)))
  pub good : status ≡ pos 0 → (bytes : List ℕ) × IsEncoding options json bytes × Fills before after written bytes
  pub refused : status ≡ pos 1 → IsRefusal options json reason at × (written ≡ 0) × (after ≡ before)
  pub memory : status ≡ pos 4 → (written ≡ 0) × (after ≡ before)
  pub short : status ≡ pos 5 → (bytes : List ℕ) × IsEncoding options json bytes × TooShort before after written bytes
  pub no_reason : status ≢ pos 1 → (reason ≡ NO_REASON) × (at ≡ NO_PLACE)

-- The same, where the options may be out of range: then it is refused, whatever the text is.
abbrev pub AnswersEncodeWith : Option ReceiptOptions → List ℕ → ℤ → List ℕ → List ℕ → ℕ → ℕ → ℕ → Type 0
AnswersEncodeWith None json status before after written reason at =
    GivesNone status before after written × (reason ≡ BAD_OPTIONS) × (at ≡ NO_PLACE)
AnswersEncodeWith (Some options) json status before after written reason at = AnswersEncode options json status before after written reason at
