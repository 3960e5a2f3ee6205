use Rattle.escpos_host.specs.Heard.{last_of}
use Rattle.escpos_link.specs.declared.event.Event.TheVariants as event
use Rattle.escpos_link.specs.Wire.{given_up, line_of}
use Rattle.escpos_link.proofs.AtTheEnd.{told_bad}
use Rattle.escpos_link.proofs.laws.in_turn.Goals as goal

pub returns : goal.returns
returns c = λ h after w most consumed events line trusted hears ends.
    let bad = told_bad (last_of events) consumed ends in
    c.trust.ensures.in_turn (event.Answer most) (line_of h w) (line_of after (given_up w)) _ line trusted
    (c.host_events.ensures.cut_off h after w most consumed events hears ends) consumed bad.0 bad.1
