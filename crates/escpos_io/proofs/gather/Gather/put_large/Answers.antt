use Rattle.std.proofs.Common.{arith, ◌+◌, ◌-◌, ◌^◌, min, length, ap, ◌∙◌}
use Rattle.std.proofs.lemmas.Grind.{common_steps}
use Rattle.escpos_io.proofs.Carrying.{carries_past, stops_past}
use Rattle.escpos_io.proofs.gather.Gather.put_large.Goals as goal

pub returns-in-Ok-clause-given : goal.returns-in-Ok-clause-given
returns-in-Ok-clause-given g c =
    let bytes = c.args.bytes.now in
    let kept = ap (λ v. v.kept) c.self.view_is ∙ c.requires in
    let counted = c.saturating_add-self-inside.ensures ∙ ap (λ v. min (v.written + length bytes) (2 ^ 128 - 1)) c.self.view_is in
    record {
      ok = λ first total w. carries_past first _ _ c.args.self.now _ total bytes c.requires kept counted c.in-Ok.ensures.all w;
      err = tt;
      failed = tt;
      not_failed = grind (arith, common_steps);
    }

pub returns-in-Err-clause-given : goal.returns-in-Err-clause-given
returns-in-Err-clause-given g c =
    let count = c.in-Err.device.written in
    let counted = c.saturating_add.ensures ∙ ap (λ v. min (v.written + count) (2 ^ 128 - 1)) c.self.view_is in
    record {
      ok = tt;
      err = λ first total more w short. stops_past first _ _ c.args.self.now total c.args.bytes.now more count _ c.requires c.in-Err.ensures.fewer
          c.in-Err.ensures.some counted w short;
      failed = c.in-Err.ensures.failed;
      not_failed = tt;
    }
