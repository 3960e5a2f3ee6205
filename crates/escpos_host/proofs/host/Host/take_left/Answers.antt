-- The first receipt of those that are left is gone, and the number of its closing mark.
use Rattle.std.proofs.Common.{◌∙◌, ◌+◌, sym, ap, arith}
use Rattle.std.specs.List.{remove}
use Rattle.escpos_host.specs.Machine.{handed_out}
use Rattle.escpos_host.proofs.Views.{fits_without_first, some_of, without_first}
use Rattle.escpos_host.proofs.host.Host.take_left.Goals as goal

pub invariant_of-self : goal.invariant_of-self
invariant_of-self c =
    let h = c.self.inside in
    fits_without_first h.stage h.receipts.items c.remove-2.new.self.items h.recorded h.closing.items h.left.items c.remove.new.self.items h.out h.reader c.self.invariant
    (some_of h.left.items (sym c.is_empty.ensures ∙ c.if-is_empty.false)) (c.remove-2.ensures.items ∙ ap (λ n. remove h.receipts.items (h.recorded + n)) c.len.ensures.value)
    c.remove.ensures.items

pub returns-clause-rest : goal.returns-clause-rest
returns-clause-rest c =
    let h = c.self.inside in
    let some = some_of h.left.items (sym c.is_empty.ensures ∙ c.if-is_empty.false) in
    let count = c.self.invariant.count in
    without_first h.stage h.receipts.items c.remove-2.new.self.items h.recorded h.closing.items h.left.items c.remove.new.self.items h.out h.reader h.next h.oldest (omega (arith, count, some))
    (c.remove-2.ensures.items ∙ ap (λ n. remove h.receipts.items (h.recorded + n)) c.len.ensures.value) c.remove.ensures.items ∙ ap handed_out c.self.view_is
