use Rattle.std.proofs.Common.{◌-◌, ◌++◌, length, refl, subst, arith}
use Rattle.escpos_command.specs.declared.command.Command.TheVariants as kind
use Rattle.escpos_command.specs.Graphics.{stored_picture}
use Rattle.escpos_command.specs.Rasters.{picture}
use Rattle.escpos_decode.specs.State.{IsAt}
use Rattle.escpos_decode.specs.declared.state.State.TheVariants.{Dots, GraphicsDots}
use Rattle.escpos_decode.proofs.DotRuns.{run_at, some_left}
use Rattle.escpos_decode.proofs.state.State.past_dots.Goals as goal

pub returns-in-Dots-clause-there : goal.returns-in-Dots-clause-there
returns-in-Dots-clause-there c = λ read run at long all.
    let d = c.in-Dots in
    subst (λ n. IsAt (Dots d.scale d.width d.height (d.wanted - n)) (read ++ run)) long
    (run_at (Dots d.scale d.width d.height d.wanted) (Dots d.scale d.width d.height (d.wanted - length run)) (λ dots. kind.Raster (picture d.scale d.width d.height dots)) d.wanted read run
    (subst (λ p. IsAt p read) d.is at) refl refl refl (some_left d.wanted (length run) (omega (arith, long, c.before_last-count.ensures.few))) refl
    (omega (arith, long, c.before_last-count.ensures.few)) all)

pub returns-in-GraphicsDots-clause-there : goal.returns-in-GraphicsDots-clause-there
returns-in-GraphicsDots-clause-there c = λ read run at long all.
    let d = c.in-GraphicsDots in
    let few = c.before_last-count-in-GraphicsDots.ensures.few in
    subst (λ n. IsAt (GraphicsDots d.head d.sent (d.wanted - n)) (read ++ run)) long
    (run_at (GraphicsDots d.head d.sent d.wanted) (GraphicsDots d.head d.sent (d.wanted - length run)) (λ dots. kind.GraphicsStore (stored_picture d.head dots)) d.wanted read run
    (subst (λ p. IsAt p read) d.is at) refl refl refl (some_left d.wanted (length run) (omega (arith, long, few))) refl
    (omega (arith, long, few)) all)
