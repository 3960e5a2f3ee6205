-- A map with one entry is an object with one member.
use Rattle.std.proofs.Common.{◌∙◌, sym, ap, Some}
use Rattle.serde_json.specs.View.{view}
use Rattle.escpos_receipt.proofs.ValueViews.{no_only, only}
use Rattle.escpos_receipt.proofs.entry.only_member.Goals as goal

pub returns-then-len-ne1 : goal.returns-then-len-ne1
returns-then-len-ne1 c =
    no_only _ c.in_ok-members.members.now.entries c.in_ok-members.ensures (λ one. c.if-len-ne1.true (c.len.ensures.len ∙ one))

pub returns : goal.returns
returns c =
    ap (λ name. Some (name, view c.in_ok-name.value.now)) c.as_str.ensures.value
    ∙ only _ c.in_ok-members.members.now.entries c.in_ok-name.name.now c.in_ok-name.value.now c.in_ok-members.ensures (sym c.len.ensures.len ∙ c.if-len-ne1.false) c.in_ok-name.ensures.first
