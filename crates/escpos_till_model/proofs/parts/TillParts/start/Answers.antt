use Rattle.std.proofs.Common.{◌≡◌, None, subst, rules}
use Rattle.escpos_till.specs.Book.{IsBookOf}
use Rattle.escpos_till_model.proofs.TillWorlds.{starts_in}
use Rattle.escpos_till_model.proofs.parts.TillParts.start.Goals as goal

pub returns-in-Ok-clause-happened : goal.returns-in-Ok-clause-happened
returns-in-Ok-clause-happened c =
    let none : c.self.inside.machine ≡ None = search rules in
    starts_in c.args.self.now _ c.in-Ok.machine c.self.view_is none c.in-Ok.ensures.started (subst (λ es. IsBookOf c.in-Ok.machine.book es) c.deref.ensures.value c.in-Ok.ensures.book)
    c.is_sound.ensures.host
