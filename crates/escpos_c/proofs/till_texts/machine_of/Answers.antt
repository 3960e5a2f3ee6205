-- The text is at fault where its entries are: the first that may not come after those before it.
use Rattle.std.proofs.Common.{ℕ, ◌≡◌, ◌+◌, ◌<◌, List, length, take, inr, subst}
use Rattle.escpos_till.specs.declared.entry.Entry.{Entry}
use Rattle.escpos_till.specs.Entries.{IsLedger}
use Rattle.escpos_c.specs.declared.till_texts.NoTill.TheVariants.{Damaged}
use Rattle.escpos_c.specs.TillTexts.{IsDamagedAt}
use Rattle.escpos_c.proofs.till_texts.machine_of.Goals as goal

pub returns-in-Ok-fault_place-clause-damaged : goal.returns-in-Ok-fault_place-clause-damaged
returns-in-Ok-fault_place-clause-damaged c = λ at is.
    let k : ℕ = c.in-Ok-fault_place.at in
    let same : k ≡ at = (let both : Damaged k ≡ Damaged at = is in cc) in
    subst (IsDamagedAt c.args.text.now) same (record {
      entries = c.in-Ok.entries.items;
      rest = c.in-Ok.rest.now;
      says = c.in-Ok.ensures.says;
      fault = inr (subst (λ (es : List Entry). (k < length es) × IsLedger (take k es) × (¬ IsLedger (take (k + 1) es))) c.deref-in-Err-Damaged.ensures.value c.in-Ok-fault_place.ensures);
    })
