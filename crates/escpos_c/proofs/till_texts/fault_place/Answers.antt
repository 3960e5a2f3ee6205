-- No entries are a ledger, and all of them aren't.
use Rattle.std.proofs.Common.{sym, subst, arith}
use Rattle.std.proofs.Math.Seq.{take-length}
use Rattle.escpos_till.specs.Entries.{IsLedger}
use Rattle.escpos_c.proofs.TillTextLemmas.{empty_ledger, has_entry}
use Rattle.escpos_c.proofs.till_texts.fault_place.Goals as goal

pub loop-bad-init : goal.loop-bad-init
loop-bad-init c =
    let entries = c.args.entries.now in (
      has_entry entries c.requires,
      omega arith,
      empty_ledger,
      subst (λ l. IsLedger l → ⊥) (sym (take-length entries)) c.requires,
    )
