-- Those that are left are the last ones.
use Rattle.std.proofs.Common.{◌≡◌, ◌∙◌, ◌+◌, [], take, ap}
use Rattle.escpos_host.specs.Kept.{put_of, view_of}
use Rattle.escpos_host.specs.Machine.{with_left}
use Rattle.escpos_host.proofs.Views.{without_left}
use Rattle.escpos_host.proofs.host.Host.drop_left.Goals as goal

pub returns : goal.returns
returns c =
    let h = c.self.inside in
    let kept : c.truncate.new.self.items ≡ put_of h.receipts.items h.recorded h.closing.items =
    c.truncate.ensures.items ∙ ap (λ n. take (h.recorded + n) h.receipts.items) c.len.ensures.value in
    ap (λ rs. view_of h.stage rs h.recorded h.closing.items c.clear.new.self.items h.out h.reader h.next h.oldest) kept
    ∙ without_left h.stage h.receipts.items h.recorded h.closing.items h.left.items c.clear.new.self.items h.out h.reader h.next h.oldest c.clear.ensures
    ∙ ap (λ v. with_left v []) c.self.view_is
