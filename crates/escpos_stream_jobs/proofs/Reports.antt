-- What a job prints for a byte stream, from how far the stream was read.
use Rattle.std.proofs.Common.{◌≡◌, ◌≢◌, ℕ, Bool, refl, inl, inr, List, [], ◌++◌, length, take, sym, ◌∙◌, ap, subst, arith, Ok}
use Rattle.std.specs.Prelude.{IsTrue, IsErr, IfSome, Option, Some, None, codes, ◌<◌, ◌≤◌}
use Rattle.std.proofs.lemmas.List.{nil_from_length}
use Rattle.escpos_command.specs.declared.fault.FaultReason.{FaultReason}
use Rattle.escpos_passed.specs.Tokens.{Token, passed_count, ReadsWith, FaultWith}
use Rattle.escpos_passed.proofs.With.{one_reading_with, not_both_with, reads_none}
use Rattle.escpos_job_parts.specs.declared.form.Form.{Form}
use Rattle.escpos_job_parts.specs.declared.input.TheConstants.{INPUT_LIMIT}
use Rattle.escpos_job_parts.specs.declared.input.InputFault.{InputFault}
use Rattle.escpos_job_parts.specs.declared.input.InputFault.TheVariants as fault_kind
use Rattle.escpos_job_parts.specs.Input.{stream_of}
use Rattle.escpos_job_parts.specs.declared.status.Status.{Status}
use Rattle.escpos_job_parts.specs.declared.status.Status.TheVariants.{Good, Refused, Usage, Device, Memory}
use Rattle.escpos_job_parts.specs.Lines.{fault_line}
use Rattle.escpos_job_parts.specs.Ending.{JobEnd, PrintsText, RefusesInput, StatusFits, memory_line}
use Rattle.escpos_stream_jobs.specs.Report.{Shape, ReportsAs, Reports, RunsAs, Runs, IsOfContent, IsText, IsCutShort}

-- ## Statuses

no_device : (o : JobEnd) → IsOfContent o.status → o.status ≢ Device
no_device o (inl e) d = let h = sym e ∙ d in cc
no_device o (inr e) d = let h = sym e ∙ d in cc

memory_no_device : (o : JobEnd) → o.status ≡ Memory → o.status ≢ Device
memory_no_device o e d = let h = sym e ∙ d in cc

content_no_memory : (o : JobEnd) → IsOfContent o.status → o.status ≢ Memory
content_no_memory o (inl e) m = let h = sym e ∙ m in cc
content_no_memory o (inr e) m = let h = sym e ∙ m in cc

-- Where the sink has not failed the status is the one that was wanted.
as_wanted : (o : JobEnd) (text : List ℕ) (wanted : Status) → PrintsText o text wanted → o.status ≢ Device → o.status ≡ wanted
as_wanted o text wanted s d = elim s.ends [ inl e ↦ e | inr e ↦ absurd (d e.0) ]

-- A failed sink alone gives a status that wasn't wanted.
pub device_failed : (o : JobEnd) (text : List ℕ) (wanted : Status) → PrintsText o text wanted → wanted ≢ Device → o.status ≡ Device → IsTrue o.failed
device_failed o text wanted s other e = elim s.ends [ inl h ↦ absurd (other (sym h ∙ e)) | inr h ↦ h.1 ]

pub never_usage : (o : JobEnd) (text : List ℕ) (wanted : Status) → PrintsText o text wanted → wanted ≢ Usage → o.status ≢ Usage
never_usage o text wanted s other u = elim s.ends [ inl h ↦ other (sym h ∙ u) | inr h ↦ let k = sym h.0 ∙ u in cc ]

pub memory_is_no_device : Memory ≢ Device
memory_is_no_device e = cc

pub memory_is_no_usage : Memory ≢ Usage
memory_is_no_usage e = cc

pub fitting_is_no_device : (status : Status) (half : ℕ) → StatusFits status half → status ≢ Device
fitting_is_no_device status half (inl e) h = let k = sym h ∙ e.0 in cc
fitting_is_no_device status half (inr e) h = let k = sym h ∙ e.0 in cc

pub fitting_is_no_usage : (status : Status) (half : ℕ) → StatusFits status half → status ≢ Usage
fitting_is_no_usage status half (inl e) h = let k = sym h ∙ e.0 in cc
fitting_is_no_usage status half (inr e) h = let k = sym h ∙ e.0 in cc

pub refused_is_no_device : Refused ≢ Device
refused_is_no_device e = cc

pub refused_is_no_usage : Refused ≢ Usage
refused_is_no_usage e = cc

memory_never_fits : (status : Status) (half : ℕ) → StatusFits status half → status ≢ Memory
memory_never_fits status half (inl e) h = let k = sym h ∙ e.0 in cc
memory_never_fits status half (inr e) h = let k = sym h ∙ e.0 in cc

good_fits : (status : Status) (half : ℕ) → StatusFits status half → status ≡ Good → half ≡ 0
good_fits status half (inl e) h = e.1
good_fits status half (inr e) h = let k = sym h ∙ e.0 in cc

refused_fits : (status : Status) (half : ℕ) → StatusFits status half → status ≡ Refused → half ≢ 0
refused_fits status half (inl e) h = let k = sym h ∙ e.0 in cc
refused_fits status half (inr e) h = e.1

-- ## Reports

-- All bytes were read.
pub read_as : (pass : Bool) (is_text is_short : List ℕ → List ℕ → Type 0) (o : JobEnd) (bytes half text : List ℕ) (ts : List Token) (status : Status) → ReadsWith pass bytes ts half
    → is_text bytes text → StatusFits status (length half) → PrintsText o text status → ReportsAs pass is_text is_short o bytes
read_as pass is_text is_short o bytes half text ts status r is fits s = record {
  text = λ content. (text, is, s.out (no_device o content));
  good = λ e.
      let none = good_fits status (length half) fits (sym (as_wanted o _ status s (no_device o (inl e))) ∙ e) in
      (ts, subst (λ v. ReadsWith pass bytes ts v) (nil_from_length half none) r);
  refused = λ e all.
      let some = refused_fits status (length half) fits (sym (as_wanted o _ status s (no_device o (inr e))) ∙ e) in
      let same = one_reading_with pass bytes ts all.0 half [] r all.1 in
      some (ap length same.1);
  memory = λ e. absurd (memory_never_fits status (length half) fits (sym (as_wanted o _ status s (memory_no_device o e)) ∙ e));
}

pub reports_read : (shape : Shape) (pass : Bool) (o : JobEnd) (bytes half line : List ℕ) (ts : List Token) (status : Status) → ReadsWith pass bytes ts half
    → line ≡ shape.closing (passed_count ts) ++ shape.last (length bytes) (length half) → StatusFits status (length half) → PrintsText o (shape.gives ts ++ line) status → Reports shape pass o bytes
reports_read shape pass o bytes half line ts status r l fits s =
    read_as pass (IsText shape pass) (IsCutShort shape pass) o bytes half (shape.gives ts ++ line) ts status r (inl (ts, half, r, ap (λ v. shape.gives ts ++ v) l)) fits s

-- A byte was refused.
pub refused_as : (pass : Bool) (is_text is_short : List ℕ → List ℕ → Type 0) (o : JobEnd) (bytes text : List ℕ) (ts : List Token) (place : ℕ) (why : FaultReason) → FaultWith pass bytes ts place why
    → is_text bytes text → PrintsText o text Refused → ReportsAs pass is_text is_short o bytes
refused_as pass is_text is_short o bytes text ts place why f is s = record {
  text = λ content. (text, is, s.out (no_device o content));
  good = λ e. let k = sym e ∙ as_wanted o _ Refused s (no_device o (inl e)) in absurd cc;
  refused = λ e all. not_both_with pass bytes all.0 ts [] place why all.1 f;
  memory = λ e. let k = sym e ∙ as_wanted o _ Refused s (memory_no_device o e) in absurd cc;
}

pub reports_refused : (shape : Shape) (pass : Bool) (o : JobEnd) (bytes line : List ℕ) (ts : List Token) (place : ℕ) (why : FaultReason) → FaultWith pass bytes ts place why
    → line ≡ shape.closing (passed_count ts) ++ fault_line place why → PrintsText o (shape.gives ts ++ line) Refused → Reports shape pass o bytes
reports_refused shape pass o bytes line ts place why f l s =
    refused_as pass (IsText shape pass) (IsCutShort shape pass) o bytes (shape.gives ts ++ line) ts place why f
    (inr (ts, place, why, f, ap (λ v. shape.gives ts ++ v) l)) s

-- Memory ran out after a prefix of the bytes.
pub short_as : (pass : Bool) (is_text is_short : List ℕ → List ℕ → Type 0) (o : JobEnd) (bytes text : List ℕ) → is_short bytes text
    → PrintsText o text Memory → ReportsAs pass is_text is_short o bytes
short_as pass is_text is_short o bytes text is s = record {
  text = λ content. absurd (content_no_memory o content (as_wanted o _ Memory s (no_device o content)));
  good = λ e. let h = sym e ∙ as_wanted o _ Memory s (no_device o (inl e)) in absurd cc;
  refused = λ e all. let h = sym e ∙ as_wanted o _ Memory s (no_device o (inr e)) in cc;
  memory = λ e. (text, is, s.out (memory_no_device o e));
}

pub reports_cut_short : (shape : Shape) (pass : Bool) (o : JobEnd) (bytes half : List ℕ) (k : ℕ) (ts : List Token) → ReadsWith pass (take k bytes) ts half
    → PrintsText o (shape.gives ts ++ memory_line) Memory → Reports shape pass o bytes
reports_cut_short shape pass o bytes half k ts r s =
    short_as pass (IsText shape pass) (IsCutShort shape pass) o bytes (shape.gives ts ++ memory_line) (k, ts, half, r, refl) s

-- The bytes couldn't even be read, because an allocation failed.
short_at_once : (shape : Shape) (pass : Bool) (bytes : List ℕ) → IsCutShort shape pass bytes memory_line
short_at_once shape pass bytes = (0, [], [], reads_none pass, ap (λ v. v ++ memory_line) (sym shape.starts_empty))

-- ## Input that gives no bytes

-- What an input fault says of the input.
pub record Shows (form : Form) (fault : InputFault) (input : List ℕ) : Type 0 where
  pub too_long : fault ≡ fault_kind.TooLong → INPUT_LIMIT < length input
  pub not_hexadecimal : fault ≡ fault_kind.NotHexadecimal → (length input ≤ INPUT_LIMIT) × IsErr (stream_of form input)

-- What is printed for an input fault.
pub record Answers (fault : InputFault) (o : JobEnd) : Type 0 where
  pub too_long : fault ≡ fault_kind.TooLong → PrintsText o (codes "refused input\n") Refused
  pub not_hexadecimal : fault ≡ fault_kind.NotHexadecimal → PrintsText o (codes "refused hex\n") Refused
  pub memory : fault ≡ fault_kind.Memory → PrintsText o memory_line Memory
  pub device : fault ≡ fault_kind.Device → o.status ≡ Device

refuses : (o : JobEnd) (line : List ℕ) → PrintsText o line Refused → RefusesInput o line
refuses o line s = record {
  never_good = λ e. let h = sym e ∙ as_wanted o line Refused s (no_device o (inl e)) in cc;
  refusal = λ e. s.out (no_device o (inr e));
  memory = λ e. let h = sym e ∙ as_wanted o line Refused s (memory_no_device o e) in absurd cc;
}

refuses_at_device : (o : JobEnd) (line : List ℕ) → o.status ≡ Device → RefusesInput o line
refuses_at_device o line d = record {
  never_good = λ e. let h = sym e ∙ d in cc;
  refusal = λ e. let h = sym e ∙ d in absurd cc;
  memory = λ e. let h = sym e ∙ d in absurd cc;
}

refuses_at_memory : (o : JobEnd) (line : List ℕ) → PrintsText o memory_line Memory → RefusesInput o line
refuses_at_memory o line s = record {
  never_good = λ e. let h = sym e ∙ as_wanted o memory_line Memory s (no_device o (inl e)) in cc;
  refusal = λ e. let h = sym e ∙ as_wanted o memory_line Memory s (no_device o (inr e)) in absurd cc;
  memory = λ e. s.out (memory_no_device o e);
}

pub reports_at_device : (pass : Bool) (is_text is_short : List ℕ → List ℕ → Type 0) (o : JobEnd) (bytes : List ℕ) → o.status ≡ Device → ReportsAs pass is_text is_short o bytes
reports_at_device pass is_text is_short o bytes d = record {
  text = λ content. absurd (no_device o content d);
  good = λ e. absurd (no_device o (inl e) d);
  refused = λ e all. no_device o (inr e) d;
  memory = λ e. absurd (memory_no_device o e d);
}

both_lengths : (input : List ℕ) → INPUT_LIMIT < length input → length input ≤ INPUT_LIMIT → ⊥
both_lengths input h k = omega arith

decoded_or_not : (form : Form) (input bytes : List ℕ) → IsErr (stream_of form input) → stream_of form input ≡ Ok bytes → ⊥
decoded_or_not form input bytes h e = let clash = subst (λ r. IsErr r) e h in absurd cc

-- `AtDevice` and `AtMemory` are what is to be shown of any bytes where the status is that of a failed device, and where only the
-- line is printed that says that an allocation failed.
abbrev AtDevice : (JobEnd → List ℕ → Type 0) → Type 0
AtDevice reports = (o : JobEnd) (bytes : List ℕ) → o.status ≡ Device → reports o bytes

abbrev AtMemory : (JobEnd → List ℕ → Type 0) → Type 0
AtMemory reports = (o : JobEnd) (bytes : List ℕ) → PrintsText o memory_line Memory → reports o bytes

runs_by : (reports : JobEnd → List ℕ → Type 0) → AtDevice reports → AtMemory reports
    → (form : Form) (o : JobEnd) (fault : InputFault) (input : List ℕ) → Shows form fault input → Answers fault o → RunsAs reports form o input
runs_by reports at_device at_memory form o fault_kind.TooLong input h s = record {
  too_long = λ long. refuses o _ (s.too_long refl);
  not_hexadecimal = λ short e. absurd (both_lengths input (h.too_long refl) short);
  short = λ bytes short e. absurd (both_lengths input (h.too_long refl) short);
}
runs_by reports at_device at_memory form o fault_kind.NotHexadecimal input h s = record {
  too_long = λ long. absurd (both_lengths input long (h.not_hexadecimal refl).0);
  not_hexadecimal = λ short e. refuses o _ (s.not_hexadecimal refl);
  short = λ bytes short e. absurd (decoded_or_not form input bytes (h.not_hexadecimal refl).1 e);
}
runs_by reports at_device at_memory form o fault_kind.Device input h s = record {
  too_long = λ long. refuses_at_device o _ (s.device refl);
  not_hexadecimal = λ short e. refuses_at_device o _ (s.device refl);
  short = λ bytes short e. at_device o bytes (s.device refl);
}
runs_by reports at_device at_memory form o fault_kind.Memory input h s = record {
  too_long = λ long. refuses_at_memory o _ (s.memory refl);
  not_hexadecimal = λ short e. refuses_at_memory o _ (s.memory refl);
  short = λ bytes short e. at_memory o bytes (s.memory refl);
}

-- Where the source can name its bytes.
pub runs_as : (reports : JobEnd → List ℕ → Type 0) → AtDevice reports → AtMemory reports
    → (form : Form) (o : JobEnd) (fault : InputFault) (known : Option (List ℕ)) → (fault ≡ fault_kind.TooLong → IfSome known (λ text. INPUT_LIMIT < length text))
    → (fault ≡ fault_kind.NotHexadecimal → IfSome known (λ text. (length text ≤ INPUT_LIMIT) × IsErr (stream_of form text))) → Answers fault o
    → IfSome known (λ text. RunsAs reports form o text)
runs_as reports at_device at_memory form o fault None long bad s = tt
runs_as reports at_device at_memory form o fault (Some text) long bad s = runs_by reports at_device at_memory form o fault text (record { too_long = long; not_hexadecimal = bad }) s

at_memory : (shape : Shape) (pass : Bool) → AtMemory (Reports shape pass)
at_memory shape pass o bytes s = short_as pass (IsText shape pass) (IsCutShort shape pass) o bytes memory_line (short_at_once shape pass bytes) s

pub runs_refused : (shape : Shape) (pass : Bool) (form : Form) (o : JobEnd) (fault : InputFault) (known : Option (List ℕ)) → (fault ≡ fault_kind.TooLong → IfSome known (λ text. INPUT_LIMIT < length text))
    → (fault ≡ fault_kind.NotHexadecimal → IfSome known (λ text. (length text ≤ INPUT_LIMIT) × IsErr (stream_of form text))) → Answers fault o
    → IfSome known (λ text. Runs shape form pass o text)
runs_refused shape pass form o fault known long bad s =
    runs_as (Reports shape pass) (reports_at_device pass (IsText shape pass) (IsCutShort shape pass)) (at_memory shape pass) form o fault known long bad s
