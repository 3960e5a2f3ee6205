-- The Init at the end is left out, with its place.
use Rattle.std.proofs.Common.{◌≡◌, ◌-◌, ◌++◌, ◌∷◌, [], length, take, sym, ◌∙◌, ap, subst}
use Rattle.escpos_stream.specs.Steps.{Kept}
use Rattle.escpos_stream.proofs.Keeping.{closed}
use Rattle.escpos_stream.proofs.kept.Kept.end.Goals as goal

pub loop-self-preserved : goal.loop-self-preserved
loop-self-preserved c =
    let commands = c.loop-self.self.commands in
    let places = c.loop-self.self.places in
    let fewer : c.pop.new.self.items ≡ take (length commands.items - 1) commands.items = c.pop.ensures.rest ∙ ap (λ n. take (n - 1) commands.items) commands.ok.0 in
    let fewer_places : c.pop-in-loop-self.new.self.items ≡ take (length places.items - 1) places.items =
    c.pop-in-loop-self.ensures.rest ∙ ap (λ n. take (n - 1) places.items) places.ok.0 in
    let (before, command, ends, init) = c.ends_in_init.ensures.init c.loop-self-test.true in
    let here : commands.items ≡ before ++ command ∷ [] = sym c.as_slice.ensures.value ∙ ends in
    record {
      kept = λ cs so_far.
          subst (λ v. Kept cs v c.pop-in-loop-self.new.self.items) (sym fewer)
          (subst (λ v. Kept cs (take (length commands.items - 1) commands.items) v) (sym fewer_places) (closed before command here init (c.loop-self.invariant.kept cs so_far)));
    }
