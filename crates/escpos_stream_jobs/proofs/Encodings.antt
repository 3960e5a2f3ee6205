-- A text is encoded if what it describes is printed, or why it describes nothing.
use Rattle.std.proofs.Common.{◌≡◌, ◌≤◌, ℕ, List, Option, Some, None, length, refl, sym, ◌∙◌, ap, subst, inl, inr, arith}
use Rattle.std.specs.Prelude.{IfSome}
use Rattle.escpos_job_parts.specs.declared.input.TheConstants.{INPUT_LIMIT}
use Rattle.escpos_command.specs.declared.command.Command.{Command}
use Rattle.escpos_receipt.specs.declared.json.JsonError.{JsonError}
use Rattle.escpos_receipt.specs.declared.json.JsonError.TheVariants as error
use Rattle.escpos_receipt.specs.declared.json.JsonFault.{JsonFault}
use Rattle.escpos_receipt.specs.Describes.{DescribesWith, IsFaultWith}
use Rattle.escpos_receipt.specs.declared.options.ReceiptOptions.{ReceiptOptions}
use Rattle.escpos_receipt.specs.Whole.{Whole}
use Rattle.escpos_job_parts.specs.declared.status.Status.{Status}
use Rattle.escpos_job_parts.specs.declared.status.Status.TheVariants.{Good, Refused, Device, Memory}
use Rattle.escpos_job_parts.specs.Ending.{JobEnd, PrintsText, Puts, memory_line}
use Rattle.escpos_job_parts.specs.Refusal.{refusal_line}
use Rattle.escpos_stream_jobs.specs.Encode.{EncodesAs, EncodesTextAs}

-- If the status is the one that is wanted and not that of a failed device, the text was printed.
put_by : (o : JobEnd) (text : List ℕ) (wanted : Status) → PrintsText o text wanted → o.status ≡ wanted → (wanted ≡ Device → ⊥) → Puts o text
put_by o text wanted said at other = said.out (λ e. other (sym at ∙ e))

-- The status is the one that was wanted, or that of a failed device.
not_said : (o : JobEnd) (text : List ℕ) (wanted status : Status) → PrintsText o text wanted → o.status ≡ status → (wanted ≡ status → ⊥) → (Device ≡ status → ⊥) → ⊥
not_said o text wanted status said at other well = elim said.ends [ inl e ↦ other (sym e ∙ at) | inr failed ↦ well (sym failed.0 ∙ at) ]

good_is_well : Good ≡ Device → ⊥
good_is_well e = cc

refused_is_well : Refused ≡ Device → ⊥
refused_is_well e = cc

-- The commands that the text describes are written.
pub encodes_good : (options : ReceiptOptions) (written : List Command → List ℕ) (o : JobEnd) (text : List ℕ) (cs : List Command) → DescribesWith options text cs → Whole cs → PrintsText o (written cs) Good → EncodesTextAs options written o text
encodes_good options written o text cs describes whole says = record {
  good = λ e. (cs, describes, whole, put_by o (written cs) Good says e good_is_well);
  refused = λ e. absurd (not_said o (written cs) Good Refused says e (λ c. cc c) (λ c. cc c));
  memory = λ e. absurd (not_said o (written cs) Good Memory says e (λ c. cc c) (λ c. cc c));
}

-- The line that says why there are none.
pub encodes_fault : (options : ReceiptOptions) (written : List Command → List ℕ) (o : JobEnd) (text : List ℕ) (fault : JsonError) → ((why : JsonFault) → fault ≡ error.Refused why → IsFaultWith options why text)
    → ((why : JsonFault) → fault ≡ error.Refused why → PrintsText o (refusal_line why) Refused) → (fault ≡ error.Memory → PrintsText o memory_line Memory) → EncodesTextAs options written o text
encodes_fault options written o text (error.Refused why) due refuses wants = record {
  good = λ e. absurd (not_said o (refusal_line why) Refused Good (refuses why refl) e (λ c. cc c) (λ c. cc c));
  refused = λ e. (why, due why refl, put_by o (refusal_line why) Refused (refuses why refl) e refused_is_well);
  memory = λ e. absurd (not_said o (refusal_line why) Refused Memory (refuses why refl) e (λ c. cc c) (λ c. cc c));
}
encodes_fault options written o text error.Memory due refuses wants = record {
  good = λ e. absurd (not_said o memory_line Memory Good (wants refl) e (λ c. cc c) (λ c. cc c));
  refused = λ e. absurd (not_said o memory_line Memory Refused (wants refl) e (λ c. cc c) (λ c. cc c));
  memory = λ e. put_by o memory_line Memory (wants refl) e (λ c. cc c);
}

-- A text that isn't too long is all of the input.
pub encodes_input : (options : ReceiptOptions) (written : List Command → List ℕ) (o : JobEnd) (known : Option (List ℕ)) (text : List ℕ) → IfSome known (λ bytes. text ≡ bytes) → length text ≤ INPUT_LIMIT
    → EncodesTextAs options written o text → IfSome known (λ bytes. EncodesAs options written o bytes)
encodes_input options written o None text same short encodes = tt
encodes_input options written o (Some bytes) text same short encodes = record {
  too_long = λ long. let count : length text ≡ length bytes = ap length same in absurd (omega arith);
  short = λ _. subst (EncodesTextAs options written o) same encodes;
}
