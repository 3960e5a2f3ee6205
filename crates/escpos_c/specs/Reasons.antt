-- Why a text gives no receipt. Only private clauses and proofs use this definition.
use Rattle.std.specs.Prelude.{ℕ, List, ⊤}
use Rattle.escpos_receipt.specs.declared.options.ReceiptOptions.{ReceiptOptions}
use Rattle.escpos_c.specs.declared.no_receipt.NoReceipt.{NoReceipt}
use Rattle.escpos_c.specs.declared.no_receipt.NoReceipt.TheVariants.{Refused, Memory}
use Rattle.escpos_c.specs.EncodeCalls.{IsRefusal}

-- It is a refusal of this text with these options, or out of memory.
abbrev pub IsReason : ReceiptOptions → NoReceipt → List ℕ → Type 0
IsReason options (Refused refusal) json = IsRefusal options json refusal.reason refusal.at
IsReason options Memory json = ⊤
