-- What is kept fits together.
use Rattle.std.proofs.Common.{◌≤◌, subst}
use Rattle.escpos_host.specs.Machine.{IsSound}
use Rattle.escpos_host.proofs.Views.{sound}
use Rattle.escpos_host.proofs.host.Host.is_sound.Goals as goal

pub returns : goal.returns
returns c =
    let h = c.self.inside in
    let few = subst (λ n. n ≤ 4) c.len.ensures.value c.len.ensures.fits in
    let few_left = subst (λ n. n ≤ 4) c.len-2.ensures.value c.len-2.ensures.fits in
    subst IsSound c.self.view_is
    (sound h.stage h.receipts.items h.recorded h.closing.items h.left.items h.out h.reader h.next h.oldest c.self.invariant few few_left c.is_sound.ensures)
