-- What the caller is answered for a picture, from what the job says of its text.
use Rattle.std.proofs.Common.{◌≡◌, ◌⊎◌, ℕ, ℤ, Bool, List, Option, [], length, Some, Ok, refl, sym, subst, inl, inr, w32, to_z, of_z}
use Rattle.std.specs.Prelude.{IfSome}
use Rattle.std.proofs.lemmas.Bool.{cases_lt}
use Rattle.escpos_image.specs.Whole.{image_text}
use Rattle.escpos_job_parts.specs.declared.input.TheConstants.{INPUT_LIMIT}
use Rattle.escpos_job_parts.specs.declared.status.Status.{Status}
use Rattle.escpos_job_parts.specs.declared.status.Status.TheVariants as job
use Rattle.escpos_job_parts.specs.Ending.{job_end}
use Rattle.escpos_stream_jobs.specs.Image.{MakesEntries}
use Rattle.escpos_c.specs.declared.call_status.CallStatus.{CallStatus}
use Rattle.escpos_c.specs.declared.call_status.CallStatus.TheVariants as call
use Rattle.escpos_c.specs.Status.{number_of_status}
use Rattle.escpos_c.specs.Answered.{AnsweredWith}
use Rattle.escpos_c.specs.Buffer.{Fills, TooShort}
use Rattle.escpos_c.specs.ImageCalls.{AnswersImage, IsEntries, IsNoPicture}
use Rattle.escpos_c.proofs.Answering.{number_kept, same_number}

module _ (width : ℕ) (threshold : Option ℕ) (bytes text : List ℕ) (failed : Bool) where
  abbrev Ran : Status → Type 0
  Ran status = MakesEntries width threshold (job_end (Some []) (Some text) failed status) bytes

  entries_for : Ran job.Good → IsEntries width threshold bytes text
  entries_for ran = elim (cases_lt INPUT_LIMIT (length bytes)) [
    | inl long ↦ absurd ((ran.too_long long).never_good refl)
    | inr short ↦ let found = (ran.short short).good refl in (short, subst (λ t. image_text width threshold bytes ≡ Ok t) (sym found.2) found.1)
  ]

  no_picture_for : Ran job.Refused → IsNoPicture width threshold bytes text
  no_picture_for ran = elim (cases_lt INPUT_LIMIT (length bytes)) [
    | inl long ↦ inl (long, (ran.too_long long).refusal refl)
    | inr short ↦ let found = (ran.short short).refused refl in inr (short, found.0, found.1, found.2)
  ]

  module _ (before after : List ℕ) (written : ℕ) where
    abbrev Answers : CallStatus → Type 0
    Answers status = AnswersImage width threshold bytes (number_of_status status) before after written

    good_answer : IsEntries width threshold bytes text → Fills before after written text → Answers call.Good
    good_answer is fills = record {
      statuses = inl refl;
      good = λ _. (text, is, fills);
      refused = λ e. let n = same_number e in cc;
      memory = λ e. let n = same_number e in cc;
      short = λ e. let n = same_number e in cc;
    }

    refused_answer : IsNoPicture width threshold bytes text → Fills before after written text → Answers call.Refused
    refused_answer is fills = record {
      statuses = inr (inl refl);
      good = λ e. let n = same_number e in cc;
      refused = λ _. (text, is, fills);
      memory = λ e. let n = same_number e in cc;
      short = λ e. let n = same_number e in cc;
    }

    short_answer : IsEntries width threshold bytes text ⊎ IsNoPicture width threshold bytes text → TooShort before after written text → Answers call.Short
    short_answer is too_short = record {
      statuses = inr (inr (inr refl));
      good = λ e. let n = same_number e in cc;
      refused = λ e. let n = same_number e in cc;
      memory = λ e. let n = same_number e in cc;
      short = λ _. (text, is, too_short);
    }

    memory_answer : (written ≡ 0) × (after ≡ before) → Answers call.Memory
    memory_answer same = record {
      statuses = inr (inr (inl refl));
      good = λ e. let n = same_number e in cc;
      refused = λ e. let n = same_number e in cc;
      memory = λ _. same;
      short = λ e. let n = same_number e in cc;
    }

    answers_image : (status : Status) (answer : CallStatus) → Ran status → AnsweredWith status text answer before after written → Answers answer
    answers_image job.Good answer ran given = elim given [
      | inl whole ↦ subst Answers (sym whole.0) (good_answer (entries_for ran) whole.1)
      | inr short ↦ subst Answers (sym short.0) (short_answer (inl (entries_for ran)) short.1)
    ]
    answers_image job.Refused answer ran given = elim given [
      | inl whole ↦ subst Answers (sym whole.0) (refused_answer (no_picture_for ran) whole.1)
      | inr short ↦ subst Answers (sym short.0) (short_answer (inr (no_picture_for ran)) short.1)
    ]
    answers_image job.Usage answer ran given = subst Answers (sym given.0) (memory_answer (given.1, given.2))
    answers_image job.Device answer ran given = subst Answers (sym given.0) (memory_answer (given.1, given.2))
    answers_image job.Memory answer ran given = subst Answers (sym given.0) (memory_answer (given.1, given.2))

    -- The same, where the job read a source of these bytes and printed into an empty sink, from which the text was taken.
    pub told_image : (source empty : Option (List ℕ)) (shown : List ℕ) → source ≡ Some bytes → empty ≡ Some [] → shown ≡ text → (status : Status) (answer : CallStatus) (z : ℤ)
        → IfSome source (λ read. MakesEntries width threshold (job_end empty (Some text) failed status) read)
        → AnsweredWith status shown answer before after written → z ≡ number_of_status answer
        → AnswersImage width threshold bytes (to_z w32 (of_z w32 z)) before after written
    told_image source empty shown is_source is_empty is_shown status answer z ran given is_number =
        let over : IfSome (Some bytes) (λ read. MakesEntries width threshold (job_end empty (Some text) failed status) read)
        = subst (λ o. IfSome o (λ read. MakesEntries width threshold (job_end empty (Some text) failed status) read)) is_source ran in
        let into : Ran status = subst (λ o. MakesEntries width threshold (job_end o (Some text) failed status) bytes) is_empty over in
        subst (λ n. AnswersImage width threshold bytes n before after written) (sym (number_kept answer z is_number))
        (answers_image status answer into (subst (λ t. AnsweredWith status t answer before after written) is_shown given))
