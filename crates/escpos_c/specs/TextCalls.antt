-- What a call that makes a text of a stream answers: the listing, the paper, the picture.
use Rattle.std.specs.Prelude.{ℕ, ℤ, pos, ◌≡◌, ◌⊎◌, ◌<◌, ◌≤◌, false, List, length, codes}
use Rattle.escpos_job_parts.specs.declared.input.TheConstants.{INPUT_LIMIT}
use Rattle.escpos_stream_jobs.specs.Report.{IsAllRead}
use Rattle.escpos_c.specs.declared.limited_text.TheConstants.{TEXT_LIMIT}
use Rattle.escpos_c.specs.Buffer.{Fills, TooShort}

-- The text for these bytes: the one that `is_text` tells, or one line where there are too many bytes.
abbrev pub IsTextFor : (List ℕ → List ℕ → Type 0) → List ℕ → List ℕ → Type 0
IsTextFor is_text bytes text =
    ((length bytes ≤ INPUT_LIMIT) × is_text bytes text) ⊎ ((INPUT_LIMIT < length bytes) × (text ≡ codes "refused input\n"))

-- What the caller is answered for these bytes, where the buffer held `before` and holds `after`.
pub record AnswersText (is_text : List ℕ → List ℕ → Type 0) (bytes : List ℕ) (status : ℤ) (before after : List ℕ) (written : ℕ) : Type 0 where
  -- the status is one of five: 0, 1, 4 (out of memory), 5 (the buffer is too short), 6 (the text would be too long)
  pub statuses : (status ≡ pos 0) ⊎ ((status ≡ pos 1) ⊎ ((status ≡ pos 4) ⊎ ((status ≡ pos 5) ⊎ (status ≡ pos 6))))
  -- at 0 and 1 the text is in the buffer, at 0 exactly if all bytes are read
  pub text : (status ≡ pos 0) ⊎ (status ≡ pos 1) → (text : List ℕ) × IsTextFor is_text bytes text × Fills before after written text
  pub good : status ≡ pos 0 → (length bytes ≤ INPUT_LIMIT) × IsAllRead false bytes
  pub refused : status ≡ pos 1 → length bytes ≤ INPUT_LIMIT → IsAllRead false bytes → ⊥
  pub memory : status ≡ pos 4 → (written ≡ 0) × (after ≡ before)
  pub short : status ≡ pos 5 → (text : List ℕ) × IsTextFor is_text bytes text × TooShort before after written text
  pub too_long : status ≡ pos 6 → (written ≡ 0) × (after ≡ before)
  -- no text that is given, or for which the buffer is too short, has more bytes than the limit
  pub within : written ≤ TEXT_LIMIT
