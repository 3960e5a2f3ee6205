use Rattle.std.proofs.Common.{◌≡◌, arith, ◌+◌, ◌-◌, ◌^◌, min, length, ap, ◌∙◌, append-nil}
use Rattle.std.proofs.lemmas.Grind.{common_steps}
use Rattle.escpos_io.proofs.Carrying.{carries_flushed, stops_in_kept}
use Rattle.escpos_io.proofs.gather.Gather.flush.Goals as goal

pub returns-in-Err-clause-given : goal.returns-in-Err-clause-given
returns-in-Err-clause-given g c =
    let count = c.in-Err.device.written in
    let kept : c.as_slice.result.now ≡ c.args.self.now.kept = c.as_slice.ensures.value ∙ ap (λ v. v.kept) c.self.view_is in
    let counted = c.saturating_add.ensures ∙ ap (λ v. min (v.written + count) (2 ^ 128 - 1)) c.self.view_is in
    record {
      ok = tt;
      err = λ first total more w short. rw append-nil (stops_in_kept first _ _ c.args.self.now total more count _ (rw (← kept) c.in-Err.ensures.fewer)
          (rw (← kept) c.in-Err.ensures.some) counted w (rw append-nil at short));
      failed = c.in-Err.ensures.failed;
      not_failed = tt;
    }

pub returns-in-Ok-clause-given : goal.returns-in-Ok-clause-given
returns-in-Ok-clause-given g c =
    let kept : c.as_slice.result.now ≡ c.args.self.now.kept = c.as_slice.ensures.value ∙ ap (λ v. v.kept) c.self.view_is in
    let counted = c.saturating_add-self-inside.ensures ∙ ap (λ n. min (c.self.inside.written + n) (2 ^ 128 - 1)) c.len.ensures.value
    ∙ ap (λ v. min (v.written + length v.kept) (2 ^ 128 - 1)) c.self.view_is in
    record {
      ok = λ first total w. rw append-nil (carries_flushed first _ _ c.args.self.now _ total (rw (← kept) c.in-Ok.ensures.all) c.clear.ensures counted w);
      err = tt;
      failed = tt;
      not_failed = grind (arith, common_steps);
    }
