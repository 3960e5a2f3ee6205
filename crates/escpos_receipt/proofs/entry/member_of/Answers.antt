-- The member by the name that the entry's only member has.
use Rattle.std.proofs.Common.{◌∙◌, sym, ap, Some}
use Rattle.serde_json.specs.View.{view}
use Rattle.escpos_receipt.specs.Entries.{members, named, ◌>>=◌}
use Rattle.escpos_receipt.proofs.entry.member_of.Goals as goal

pub returns : goal.returns
returns c =
    let v = view c.in_ok-name.value.now in
    sym (ap (λ o. o >>= λ p. named members p.0 >>= λ k. Some (k, p.1)) (sym c.in_ok-name.ensures) ∙ ap (λ o. o >>= λ k. Some (k, v)) (sym c.in_ok-member.ensures))
