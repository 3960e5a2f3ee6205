-- Why an input is no receipt as a stream, as it is told.
use Rattle.std.proofs.Common.{ℕ, Bool, ◌≡◌, ◌⊎◌, inl, inr, Option, None, Some, List, refl, ◌∙◌, ap, subst}
use Rattle.std.specs.Prelude.{IfSome, IsTrue, codes, length, ◌≤◌, ◌<◌}
use Rattle.escpos_job_parts.specs.declared.input.InputFault.TheVariants as input
use Rattle.escpos_job_parts.specs.declared.input.TheConstants.{INPUT_LIMIT}
use Rattle.escpos_job_parts.specs.declared.status.Status.{Status}
use Rattle.escpos_job_parts.specs.declared.status.Status.TheVariants.{Device, Memory, Refused}
use Rattle.escpos_job_parts.specs.Ending.{PrintsText, memory_line}
use Rattle.escpos_stream.specs.declared.fault.StreamError.TheVariants as error
use Rattle.escpos_stream.specs.declared.fault.StreamFault.{StreamFault}
use Rattle.escpos_stream.specs.Streams.{IsStreamFault}
use Rattle.escpos_till.specs.declared.entry.Content.{Content}
use Rattle.escpos_till.specs.Contents.{StreamIsReceipt, content_of_stream}
use Rattle.escpos_till_jobs.specs.declared.raw.NoStream.{NoStream}
use Rattle.escpos_till_jobs.specs.declared.raw.NoStream.TheVariants as none
use Rattle.escpos_till_jobs.specs.Outputs.{Output, ended}
use Rattle.escpos_till_jobs.specs.Raw.{RefusesRaw, stream_line}

-- The stream that was read is all that came.
pub came_as : (came : Option (List ℕ)) (stream : List ℕ) (content : Content) (width : ℕ) → IfSome came (λ all. (length all ≤ INPUT_LIMIT) × (stream ≡ all))
    → content ≡ content_of_stream width stream → StreamIsReceipt width stream
    → IfSome came (λ bytes. (length bytes ≤ INPUT_LIMIT) × (content ≡ content_of_stream width bytes) × StreamIsReceipt width bytes)
came_as None stream content width came is receipt = tt
came_as (Some all) stream content width (short, same) is receipt = (short, is ∙ ap (content_of_stream width) same, subst (StreamIsReceipt width) same receipt)

pub refuses_raw : (fault : NoStream) (width : ℕ) (came : Option (List ℕ)) (failed : Bool) (before end : Output) (status : Status)
    → ((why : StreamFault) → fault ≡ none.Stream (error.Refused why) → IfSome came (λ bytes. (length bytes ≤ INPUT_LIMIT) × IsStreamFault width why bytes))
    → (fault ≡ none.Input input.TooLong → IfSome came (λ bytes. INPUT_LIMIT < length bytes)) → (fault ≡ none.Input input.Device → IsTrue failed) → (fault ≡ none.Input input.NotHexadecimal → ⊥)
    → (fault ≡ none.Input input.TooLong → PrintsText (ended before end status) (codes "refused input\n") Refused) → ((why : StreamFault) → fault ≡ none.Stream (error.Refused why) → PrintsText (ended before end status) (stream_line why) Refused)
    → ((fault ≡ none.Input input.Memory) ⊎ (fault ≡ none.Stream error.Memory) → PrintsText (ended before end status) memory_line Memory) → (fault ≡ none.Input input.Device → (status ≡ Device) × (end ≡ before))
    → RefusesRaw fault width came failed before end status
refuses_raw (none.Input input.TooLong) width came failed before end status text long device bytes says_long says_why says_memory says_device = (long refl, says_long refl)
refuses_raw (none.Input input.Device) width came failed before end status text long device bytes says_long says_why says_memory says_device =
    let (told, same) = says_device refl in
    (device refl, told, same)
refuses_raw (none.Input input.Memory) width came failed before end status text long device bytes says_long says_why says_memory says_device = says_memory (inl refl)
refuses_raw (none.Input input.NotHexadecimal) width came failed before end status text long device bytes says_long says_why says_memory says_device = absurd (bytes refl)
refuses_raw (none.Stream (error.Refused why)) width came failed before end status text long device bytes says_long says_why says_memory says_device = (text why refl, says_why why refl)
refuses_raw (none.Stream error.Memory) width came failed before end status text long device bytes says_long says_why says_memory says_device = says_memory (inr refl)
