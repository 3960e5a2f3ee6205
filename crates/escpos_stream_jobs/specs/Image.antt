-- What `image` prints for a picture, and its exit status.
use Rattle.std.specs.Prelude.{ℕ, ◌≡◌, ◌<◌, ◌≤◌, List, [], ◌∷◌, ◌++◌, Option, Ok, Err, length, codes, decimal}
use Rattle.escpos_command.specs.declared.bytes.TheConstants.{LF}
use Rattle.escpos_image.specs.declared.fault.ImageFault.{ImageFault}
use Rattle.escpos_image.specs.Faults.{fault_name, fault_number, fault_place}
use Rattle.escpos_image.specs.Whole.{image_text}
use Rattle.escpos_job_parts.specs.declared.input.TheConstants.{INPUT_LIMIT}
use Rattle.escpos_job_parts.specs.declared.lines.TheConstants.{SPACE}
use Rattle.escpos_job_parts.specs.declared.status.Status.TheVariants.{Good, Refused, Memory}
use Rattle.escpos_job_parts.specs.Ending.{JobEnd, Puts, RefusesInput, memory_line}
use Rattle.escpos_job_parts.specs.Refusal.{place_text}

-- The refusal's number, its name, and the place of the byte, if there is one.
abbrev pub image_refusal : ImageFault → List ℕ
image_refusal fault = codes "refused " ++ decimal (fault_number fault) ++ SPACE ∷ [] ++ fault_name fault ++ place_text (fault_place fault) ++ LF ∷ []

-- What is done with bytes: the entries of the picture that they are are written, or the line of the reason for which they are none is
-- printed; or, if an allocation fails, the one that says so.
pub record MakesEntriesOf (width : ℕ) (threshold : Option ℕ) (o : JobEnd) (bytes : List ℕ) : Type 0 where
  pub good : o.status ≡ Good → (text : List ℕ) × (image_text width threshold bytes ≡ Ok text) × Puts o text
  pub refused : o.status ≡ Refused → (why : ImageFault) × (image_text width threshold bytes ≡ Err why) × Puts o (image_refusal why)
  pub memory : o.status ≡ Memory → Puts o memory_line

-- What is done with input: too long, or bytes.
pub record MakesEntries (width : ℕ) (threshold : Option ℕ) (o : JobEnd) (input : List ℕ) : Type 0 where
  pub too_long : INPUT_LIMIT < length input → RefusesInput o (codes "refused input\n")
  pub short : length input ≤ INPUT_LIMIT → MakesEntriesOf width threshold o input
