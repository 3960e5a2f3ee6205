-- What a till was given of a receipt: a text, and how it is read.
use Rattle.std.specs.Prelude.{ℕ, ◌≡◌, ◌⊎◌, Bool, true, false, IsTrue, None, List}
use Rattle.escpos_command.specs.declared.command.Command.{Command}
use Rattle.escpos_receipt.specs.declared.json.JsonFault.{JsonFault}
use Rattle.escpos_receipt.specs.declared.json.JsonFault.TheVariants as json
use Rattle.escpos_receipt.specs.declared.options.ReceiptOptions.{ReceiptOptions}
use Rattle.escpos_receipt.specs.Describes.{DescribesWith, IsFaultWith}
use Rattle.escpos_receipt.specs.Options.{usual_options}
use Rattle.escpos_receipt.specs.Printable.{IsPrintable}
use Rattle.escpos_receipt.specs.Whole.{Whole}
use Rattle.escpos_stream.specs.declared.fault.StreamFault.{StreamFault}
use Rattle.escpos_stream.specs.Streams.{IsStreamFault, StreamGives, begins_with_init, with_init}
use Rattle.escpos_till.specs.declared.entry.Content.{Content}

-- The text, read with these options.
abbrev pub content_with : ReceiptOptions → List ℕ → Content
content_with options text = record { text = text; options = options }

-- The text, read with the usual options.
abbrev pub plain : List ℕ → Content
plain = content_with usual_options

-- A stream of bytes for lines of so many dots. It is kept with ESC @ at its beginning, as no text in JSON begins.
abbrev pub content_of_stream : ℕ → List ℕ → Content
content_of_stream width stream = content_with (record { width = width; replacement = None }) (with_init (begins_with_init stream) stream)

-- The text describes these commands: in JSON, read with its options; or as a stream of bytes, if it begins with ESC @.
abbrev pub ContentDescribes : Content → List Command → Type 0
ContentDescribes content commands =
    DescribesWith content.options content.text commands ⊎ (IsTrue (begins_with_init content.text) × StreamGives content.text commands)

-- In JSON, read with these options, the text gives a receipt.
abbrev pub TextGives : ReceiptOptions → List ℕ → Type 0
TextGives options text = (commands : List Command) × DescribesWith options text commands × Whole commands

-- The stream is a receipt on lines of so many dots.
abbrev pub StreamIsReceipt : ℕ → List ℕ → Type 0
StreamIsReceipt width stream = (commands : List Command) × StreamGives stream commands × Whole commands × IsPrintable width commands

-- The text gives a receipt.
abbrev pub GivesReceipt : Content → Type 0
GivesReceipt content = (commands : List Command) × ContentDescribes content commands × Whole commands

-- Why a text that is, or isn't, a stream gives no receipt. Of a stream it is told only that it isn't JSON.
abbrev pub IsFaultOf : Bool → JsonFault → Content → Type 0
IsFaultOf false fault content = IsFaultWith content.options fault content.text
IsFaultOf true fault content = (fault ≡ json.NotJson) × (why : StreamFault) × IsStreamFault content.options.width why content.text

-- Why the text gives no receipt.
abbrev pub IsContentFault : JsonFault → Content → Type 0
IsContentFault fault content = IsFaultOf (begins_with_init content.text) fault content
