-- What a call that makes entries of a picture answers.
use Rattle.std.specs.Prelude.{ℕ, ℤ, pos, ◌≡◌, ◌⊎◌, ◌<◌, ◌≤◌, List, Option, Ok, Err, length, codes}
use Rattle.escpos_image.specs.declared.fault.ImageFault.{ImageFault}
use Rattle.escpos_image.specs.Whole.{image_text}
use Rattle.escpos_job_parts.specs.declared.input.TheConstants.{INPUT_LIMIT}
use Rattle.escpos_stream_jobs.specs.Image.{image_refusal}
use Rattle.escpos_c.specs.Buffer.{Fills, TooShort}

-- The text is the entries of the picture that these bytes are, which aren't too many.
abbrev pub IsEntries : ℕ → Option ℕ → List ℕ → List ℕ → Type 0
IsEntries width threshold bytes text = (length bytes ≤ INPUT_LIMIT) × (image_text width threshold bytes ≡ Ok text)

-- The text is the line that says why these bytes are no picture, or that they are too many.
abbrev pub IsNoPicture : ℕ → Option ℕ → List ℕ → List ℕ → Type 0
IsNoPicture width threshold bytes text =
    ((INPUT_LIMIT < length bytes) × (text ≡ codes "refused input\n"))
    ⊎ ((length bytes ≤ INPUT_LIMIT) × (why : ImageFault) × (image_text width threshold bytes ≡ Err why) × (text ≡ image_refusal why))

-- What the caller is answered for these bytes, where the buffer held `before` and holds `after`.
pub record AnswersImage (width : ℕ) (threshold : Option ℕ) (bytes : List ℕ) (status : ℤ) (before after : List ℕ) (written : ℕ) : Type 0 where
  -- the status is one of four: 0, 1, 4 (out of memory), 5 (the buffer is too short)
  pub statuses : (status ≡ pos 0) ⊎ ((status ≡ pos 1) ⊎ ((status ≡ pos 4) ⊎ (status ≡ pos 5)))
  pub good : status ≡ pos 0 → (text : List ℕ) × IsEntries width threshold bytes text × Fills before after written text
  pub refused : status ≡ pos 1 → (text : List ℕ) × IsNoPicture width threshold bytes text × Fills before after written text
  pub memory : status ≡ pos 4 → (written ≡ 0) × (after ≡ before)
  pub short : status ≡ pos 5
      → (text : List ℕ) × (IsEntries width threshold bytes text ⊎ IsNoPicture width threshold bytes text) × TooShort before after written text
