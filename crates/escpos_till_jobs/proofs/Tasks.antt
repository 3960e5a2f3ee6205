-- Why an input gives no receipt, as it is told.
use Rattle.std.proofs.Common.{ℕ, Bool, ◌≡◌, ◌⊎◌, inl, inr, Option, List, refl}
use Rattle.std.specs.Prelude.{IfSome, IsTrue, codes, length, ◌≤◌, ◌<◌}
use Rattle.escpos_job_parts.specs.declared.input.InputFault.TheVariants as input
use Rattle.escpos_job_parts.specs.declared.input.TheConstants.{INPUT_LIMIT}
use Rattle.escpos_job_parts.specs.declared.receipt_input.NoReceipt.{NoReceipt}
use Rattle.escpos_job_parts.specs.declared.receipt_input.NoReceipt.TheVariants as none
use Rattle.escpos_job_parts.specs.declared.status.Status.{Status}
use Rattle.escpos_job_parts.specs.declared.status.Status.TheVariants.{Device, Memory, Refused}
use Rattle.escpos_job_parts.specs.Ending.{PrintsText, memory_line}
use Rattle.escpos_job_parts.specs.Refusal.{refusal_line}
use Rattle.escpos_receipt.specs.declared.json.JsonError.TheVariants as json
use Rattle.escpos_receipt.specs.declared.json.JsonFault.{JsonFault}
use Rattle.escpos_receipt.specs.declared.options.ReceiptOptions.{ReceiptOptions}
use Rattle.escpos_receipt.specs.Describes.{IsFaultWith}
use Rattle.escpos_till_jobs.specs.Outputs.{Output, ended}
use Rattle.escpos_till_jobs.specs.Performing.{RefusesFor}

pub refuses_for : (fault : NoReceipt) (options : ReceiptOptions) (came : Option (List ℕ)) (failed : Bool) (before end : Output) (status : Status)
    → ((why : JsonFault) → fault ≡ none.Text (json.Refused why) → IfSome came (λ text. (length text ≤ INPUT_LIMIT) × IsFaultWith options why text))
    → (fault ≡ none.Input input.TooLong → IfSome came (λ text. INPUT_LIMIT < length text)) → (fault ≡ none.Input input.Device → IsTrue failed) → (fault ≡ none.Input input.NotHexadecimal → ⊥)
    → (fault ≡ none.Input input.TooLong → PrintsText (ended before end status) (codes "refused input\n") Refused) → ((why : JsonFault) → fault ≡ none.Text (json.Refused why) → PrintsText (ended before end status) (refusal_line why) Refused)
    → ((fault ≡ none.Input input.Memory) ⊎ (fault ≡ none.Text json.Memory) → PrintsText (ended before end status) memory_line Memory) → (fault ≡ none.Input input.Device → (status ≡ Device) × (end ≡ before))
    → RefusesFor fault options came failed before end status
refuses_for (none.Input input.TooLong) options came failed before end status text long device bytes says_long says_why says_memory says_device = (long refl, says_long refl)
refuses_for (none.Input input.Device) options came failed before end status text long device bytes says_long says_why says_memory says_device =
    let (told, same) = says_device refl in
    (device refl, told, same)
refuses_for (none.Input input.Memory) options came failed before end status text long device bytes says_long says_why says_memory says_device = says_memory (inl refl)
refuses_for (none.Input input.NotHexadecimal) options came failed before end status text long device bytes says_long says_why says_memory says_device = absurd (bytes refl)
refuses_for (none.Text (json.Refused why)) options came failed before end status text long device bytes says_long says_why says_memory says_device = (text why refl, says_why why refl)
refuses_for (none.Text json.Memory) options came failed before end status text long device bytes says_long says_why says_memory says_device = says_memory (inr refl)
