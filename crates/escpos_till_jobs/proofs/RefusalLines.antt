-- The line of a refusal that has a number.
use Rattle.std.proofs.Common.{ℕ, ◌≡◌, List, sym, subst, subst₂}
use Rattle.escpos_job_parts.specs.declared.status.Status.TheVariants.{Refused}
use Rattle.escpos_job_parts.specs.Ending.{JobEnd, Tells}
use Rattle.escpos_till.specs.declared.note.TillRefusal.{TillRefusal}
use Rattle.escpos_till_jobs.specs.Lines.{refusal_status, refusal_text}

pub tells_number : (o : JobEnd) (line : ℕ → List ℕ) (refusal : ℕ → TillRefusal) (why : TillRefusal) (n m : ℕ) → why ≡ refusal n → m ≡ n → refusal_text (refusal n) ≡ line n → refusal_status (refusal n) ≡ Refused
    → Tells o (line m) Refused → Tells o (refusal_text why) (refusal_status why)
tells_number o line refusal why n m is same text status tells =
    subst (λ w. Tells o (refusal_text w) (refusal_status w)) (sym is) (subst₂ (Tells o) (sym text) (sym status) (subst (λ k. Tells o (line k) Refused) same tells))
