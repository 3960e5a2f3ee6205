-- What a receipt's text in JSON describes, and why it is refused.
use Rattle.std.specs.Prelude.{ℕ, ◌≡◌, ◌⊎◌, List, [], ◌∷◌, ◌++◌, length, IsUtf8, Some, None, Ok, Err}
use Rattle.serde_json.specs.Data.{Data, array}
use Rattle.serde_json.specs.Find.{as_array}
use Rattle.serde_json.specs.Read.{read}
use Rattle.serde_json.specs.View.{items_of}
use Rattle.escpos_command.specs.declared.command.Command.{Command}
use Rattle.escpos_receipt.specs.declared.entry.EntryFault.{EntryFault}
use Rattle.escpos_receipt.specs.declared.entry.EntryFault.TheVariants as bad
use Rattle.escpos_receipt.specs.declared.json.JsonFault.{JsonFault}
use Rattle.escpos_receipt.specs.declared.json.JsonFault.TheVariants as fault
use Rattle.escpos_receipt.specs.declared.options.ReceiptOptions.{ReceiptOptions}
use Rattle.escpos_receipt.specs.Options.{usual_options}
use Rattle.escpos_receipt.specs.Entries.{in_force, meaning}
use Rattle.escpos_receipt.specs.Printable.{IsFirstLeftOut}
use Rattle.escpos_receipt.specs.Whole.{IsReceiptFault, Whole}

-- Entries that come after these, which give the commands `before`, give the commands `cs`: one entry's commands after another's.
abbrev pub Follow : ReceiptOptions → List Data → List Command → List Data → List Command → Type 0
Follow options earlier before [] cs = cs ≡ []
Follow options earlier before (d ∷ ds) cs =
    (part : List Command) × (more : List Command) × (meaning (in_force options earlier before) d ≡ Ok part) × (cs ≡ part ++ more)
    × Follow options (earlier ++ d ∷ []) (before ++ part) ds more

-- The entries give these commands.
abbrev pub Give : ReceiptOptions → List Data → List Command → Type 0
Give options entries cs = Follow options [] [] entries cs

-- The bytes are a text in UTF-8 that is this value in JSON.
pub record IsJson (bytes : List ℕ) (json : Data) : Type 0 where
  pub utf8 : IsUtf8 bytes
  pub value : read bytes ≡ Some json

-- With these options the bytes describe these commands.
pub record DescribesWith (options : ReceiptOptions) (bytes : List ℕ) (cs : List Command) : Type 0 where
  pub entries : List Data
  pub json : IsJson bytes (array (items_of entries))
  pub give : Give options entries cs

-- The same, with the options that hold where none are given.
abbrev pub Describes : List ℕ → List Command → Type 0
Describes = DescribesWith usual_options

-- The entry at this place, counted from 0, is refused, and each before it gives commands.
pub record RefusesEntry (options : ReceiptOptions) (entries : List Data) (at : ℕ) (why : EntryFault) : Type 0 where
  pub before : List Data
  pub refused : Data
  pub following : List Data
  pub split : entries ≡ before ++ refused ∷ following
  pub place : length before ≡ at
  pub commands : List Command
  pub earlier : Give options before commands
  pub cause : meaning (in_force options before commands) refused ≡ Err why

-- Why entries give no commands.
abbrev pub IsRefusedEntry : ReceiptOptions → JsonFault → List Data → Type 0
IsRefusedEntry options (fault.BadShape at) entries = RefusesEntry options entries at bad.BadShape
IsRefusedEntry options (fault.ControlByte at) entries = RefusesEntry options entries at bad.ControlByte
IsRefusedEntry options (fault.NoCharacter at c) entries = RefusesEntry options entries at (bad.NoCharacter c)
IsRefusedEntry options _ entries = ⊥

-- Why entries give no receipt.
abbrev pub IsRefusedArray : ReceiptOptions → JsonFault → List Data → Type 0
IsRefusedArray options (fault.NotWhole why) entries = (cs : List Command) × Give options entries cs × IsReceiptFault why cs
IsRefusedArray options (fault.NotPrintable at) entries = (cs : List Command) × Give options entries cs × Whole cs × IsFirstLeftOut options.width cs at
IsRefusedArray options because entries = IsRefusedEntry options because entries

-- The bytes are JSON, but not an array.
abbrev pub IsNoArray : List ℕ → Type 0
IsNoArray bytes = (value : Data) × IsJson bytes value × (as_array value ≡ None)

-- The bytes are an array with such a refused entry.
abbrev pub HasRefusedEntry : ReceiptOptions → JsonFault → List ℕ → Type 0
HasRefusedEntry options why bytes = (entries : List Data) × IsJson bytes (array (items_of entries)) × IsRefusedEntry options why entries

-- Why the bytes give no receipt with these options.
abbrev pub IsFaultWith : ReceiptOptions → JsonFault → List ℕ → Type 0
IsFaultWith options fault.NotJson bytes = IsUtf8 bytes → read bytes ≡ None
IsFaultWith options (fault.BadShape at) bytes = HasRefusedEntry options (fault.BadShape at) bytes ⊎ ((at ≡ 0) × IsNoArray bytes)
IsFaultWith options (fault.ControlByte at) bytes = HasRefusedEntry options (fault.ControlByte at) bytes
IsFaultWith options (fault.NoCharacter at c) bytes = HasRefusedEntry options (fault.NoCharacter at c) bytes
IsFaultWith options (fault.NotWhole why) bytes = (cs : List Command) × DescribesWith options bytes cs × IsReceiptFault why cs
IsFaultWith options (fault.NotPrintable at) bytes = (cs : List Command) × DescribesWith options bytes cs × Whole cs × IsFirstLeftOut options.width cs at

-- The same, with the options that hold where none are given.
abbrev pub IsJsonFault : JsonFault → List ℕ → Type 0
IsJsonFault = IsFaultWith usual_options
