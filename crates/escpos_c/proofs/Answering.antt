-- What the caller is answered, from what the job says of its text.
use Rattle.std.proofs.Common.{◌≡◌, ℕ, ◌≤◌, ℤ, pos, nat_abs, Bool, true, false, List, [], length, Some, refl, sym, ◌∙◌, ap, subst, inl, inr, w32, to_z, of_z, FitsSigned}
use Rattle.std.specs.Prelude.{Option, IfSome}
use Rattle.std.proofs.lemmas.Bool.{cases_lt}
use Rattle.std.proofs.lemmas.Int.{to_z-of_z}
use Rattle.escpos_job_parts.specs.declared.form.Form.TheVariants.{Raw}
use Rattle.escpos_job_parts.specs.declared.input.TheConstants.{INPUT_LIMIT}
use Rattle.escpos_job_parts.specs.declared.status.Status.{Status}
use Rattle.escpos_job_parts.specs.declared.status.Status.TheVariants as job
use Rattle.escpos_job_parts.specs.Ending.{job_end}
use Rattle.escpos_stream_jobs.specs.Report.{IsAllRead, IsOfContent, ReportsAs, RunsAs}
use Rattle.escpos_c.specs.declared.limited_text.TheConstants.{TEXT_LIMIT}
use Rattle.escpos_c.specs.declared.call_status.CallStatus.{CallStatus}
use Rattle.escpos_c.specs.declared.call_status.CallStatus.TheVariants as call
use Rattle.escpos_c.specs.Status.{number_of_status}
use Rattle.escpos_c.specs.Answered.{AnsweredWithin, cut_short}
use Rattle.escpos_c.specs.Buffer.{Fills, TooShort}
use Rattle.escpos_c.specs.TextCalls.{AnswersText, IsTextFor}

-- The number comes to the caller as it is.
pub number_kept : (status : CallStatus) (z : ℤ) → z ≡ number_of_status status → to_z w32 (of_z w32 z) ≡ number_of_status status
number_kept status z e = ap (λ x. to_z w32 (of_z w32 x)) e ∙ kept status
  where
    kept : (s : CallStatus) → to_z w32 (of_z w32 (number_of_status s)) ≡ number_of_status s
    kept call.Good = refl
    kept call.Refused = refl
    kept call.Empty = refl
    kept call.Memory = refl
    kept call.Short = refl
    kept call.TooLong = refl

pub same_number : {m n : ℕ} → pos m ≡ pos n → m ≡ n
same_number e = ap nat_abs e

module _ (is_text is_short : List ℕ → List ℕ → Type 0) (bytes text : List ℕ) (failed : Bool) where
  abbrev Ran : Status → Type 0
  Ran status = RunsAs (ReportsAs false is_text is_short) Raw (job_end (Some []) (Some text) failed status) bytes

  -- The job's text is the one for these bytes.
  text_for : (status : Status) → Ran status → IsOfContent status → IsTextFor is_text bytes text
  text_for status ran content = elim (cases_lt INPUT_LIMIT (length bytes)) [
    | inl long ↦ inr (
      long,
      elim content [
        | inl good ↦ absurd ((ran.too_long long).never_good good)
        | inr refused ↦ (ran.too_long long).refusal refused
      ],
    )
    | inr short ↦ let found = (ran.short bytes short refl).text content in inl (short, subst (is_text bytes) (sym found.2) found.1)
  ]

  all_read : Ran job.Good → (length bytes ≤ INPUT_LIMIT) × IsAllRead false bytes
  all_read ran = elim (cases_lt INPUT_LIMIT (length bytes)) [
    | inl long ↦ absurd ((ran.too_long long).never_good refl)
    | inr short ↦ (short, (ran.short bytes short refl).good refl)
  ]

  module _ (before after : List ℕ) (written : ℕ) (within : written ≤ TEXT_LIMIT) where
    abbrev Answers : CallStatus → Type 0
    Answers status = AnswersText is_text bytes (number_of_status status) before after written

    good_answer : IsTextFor is_text bytes text → (length bytes ≤ INPUT_LIMIT) × IsAllRead false bytes → Fills before after written text → Answers call.Good
    good_answer is read fills = record {
      statuses = inl refl;
      text = λ _. (text, is, fills);
      good = λ _. read;
      refused = λ e. let n = same_number e in cc;
      memory = λ e. let n = same_number e in cc;
      short = λ e. let n = same_number e in cc;
      too_long = λ e. let n = same_number e in cc;
      within = within;
    }

    refused_answer : IsTextFor is_text bytes text → (length bytes ≤ INPUT_LIMIT → IsAllRead false bytes → ⊥) → Fills before after written text → Answers call.Refused
    refused_answer is unread fills = record {
      statuses = inr (inl refl);
      text = λ _. (text, is, fills);
      good = λ e. let n = same_number e in cc;
      refused = λ _. unread;
      memory = λ e. let n = same_number e in cc;
      short = λ e. let n = same_number e in cc;
      too_long = λ e. let n = same_number e in cc;
      within = within;
    }

    short_answer : IsTextFor is_text bytes text → TooShort before after written text → Answers call.Short
    short_answer is too_short = record {
      statuses = inr (inr (inr (inl refl)));
      text = λ e. elim e [ inl z ↦ (let n = same_number z in cc) | inr z ↦ (let n = same_number z in cc) ];
      good = λ e. let n = same_number e in cc;
      refused = λ e. let n = same_number e in cc;
      memory = λ e. let n = same_number e in cc;
      short = λ _. (text, is, too_short);
      too_long = λ e. let n = same_number e in cc;
      within = within;
    }

    memory_answer : (written ≡ 0) × (after ≡ before) → Answers call.Memory
    memory_answer same = record {
      statuses = inr (inr (inl refl));
      text = λ e. elim e [ inl z ↦ (let n = same_number z in cc) | inr z ↦ (let n = same_number z in cc) ];
      good = λ e. let n = same_number e in cc;
      refused = λ e. let n = same_number e in cc;
      memory = λ _. same;
      short = λ e. let n = same_number e in cc;
      too_long = λ e. let n = same_number e in cc;
      within = within;
    }

    too_long_answer : (written ≡ 0) × (after ≡ before) → Answers call.TooLong
    too_long_answer same = record {
      statuses = inr (inr (inr (inr refl)));
      text = λ e. elim e [ inl z ↦ (let n = same_number z in cc) | inr z ↦ (let n = same_number z in cc) ];
      good = λ e. let n = same_number e in cc;
      refused = λ e. let n = same_number e in cc;
      memory = λ e. let n = same_number e in cc;
      short = λ e. let n = same_number e in cc;
      too_long = λ _. same;
      within = within;
    }

    cut_short_answer : (too_long : Bool) → (written ≡ 0) × (after ≡ before) → Answers (cut_short too_long)
    cut_short_answer true = too_long_answer
    cut_short_answer false = memory_answer

    pub answers_text : (status : Status) (too_long : Bool) (answer : CallStatus) → Ran status
        → AnsweredWithin status too_long text answer before after written → Answers answer
    answers_text job.Good too_long answer ran given = elim given [
      | inl whole ↦ subst Answers (sym whole.0) (good_answer (text_for job.Good ran (inl refl)) (all_read ran) whole.1)
      | inr short ↦ subst Answers (sym short.0) (short_answer (text_for job.Good ran (inl refl)) short.1)
    ]
    answers_text job.Refused too_long answer ran given = elim given [
      | inl whole ↦ subst Answers (sym whole.0) (refused_answer (text_for job.Refused ran (inr refl)) (λ short read. (ran.short bytes short refl).refused refl read) whole.1)
      | inr short ↦ subst Answers (sym short.0) (short_answer (text_for job.Refused ran (inr refl)) short.1)
    ]
    answers_text job.Usage too_long answer ran given = subst Answers (sym given.0) (cut_short_answer too_long (given.1, given.2))
    answers_text job.Device too_long answer ran given = subst Answers (sym given.0) (cut_short_answer too_long (given.1, given.2))
    answers_text job.Memory too_long answer ran given = subst Answers (sym given.0) (cut_short_answer too_long (given.1, given.2))

    -- The same, where the job read a source of these bytes and printed into an empty text.
    pub told_text : (source empty : Option (List ℕ)) → source ≡ Some bytes → empty ≡ Some [] → (status : Status) (too_long : Bool) (answer : CallStatus) (z : ℤ)
        → IfSome source (λ read. RunsAs (ReportsAs false is_text is_short) Raw (job_end empty (Some text) failed status) read)
        → AnsweredWithin status too_long text answer before after written → z ≡ number_of_status answer
        → AnswersText is_text bytes (to_z w32 (of_z w32 z)) before after written
    told_text source empty is_source is_empty status too_long answer z ran given is_number =
        let over : IfSome (Some bytes) (λ read. RunsAs (ReportsAs false is_text is_short) Raw (job_end empty (Some text) failed status) read)
        = subst (λ o. IfSome o (λ read. RunsAs (ReportsAs false is_text is_short) Raw (job_end empty (Some text) failed status) read)) is_source ran in
        let into : Ran status = subst (λ o. RunsAs (ReportsAs false is_text is_short) Raw (job_end o (Some text) failed status) bytes) is_empty over in
        subst (λ n. AnswersText is_text bytes n before after written) (sym (number_kept answer z is_number)) (answers_text status too_long answer into given)

-- An answer for a width is the answer for what the width is, and its status comes to the caller as it is.
pub at_width : (is_text : ℕ → List ℕ → List ℕ → Type 0) (width usual : ℕ) → width ≡ usual
    → (bytes : List ℕ) (status : ℤ) (before after : List ℕ) (written : ℕ) → FitsSigned w32 status
    → AnswersText (is_text width) bytes status before after written → AnswersText (is_text usual) bytes (to_z w32 (of_z w32 status)) before after written
at_width is_text width usual is bytes status before after written fits answers =
    subst (λ w. AnswersText (is_text w) bytes (to_z w32 (of_z w32 status)) before after written) is
    (subst (λ z. AnswersText (is_text width) bytes z before after written) (sym (to_z-of_z w32 status fits)) answers)
