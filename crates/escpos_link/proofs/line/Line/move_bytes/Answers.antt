use Rattle.std.proofs.Common.{refl}
use Rattle.escpos_link.proofs.Moving.{refused_seen}
use Rattle.escpos_link.proofs.line.Line.move_bytes.Goals as goal

pub returns-in-Err-clause-refused : goal.returns-in-Err-clause-refused
returns-in-Err-clause-refused c =
    let r = c.in-Err.ensures.refused in
    refused_seen c.self.inside.host c.put_from.new.host c.self.inside.wire c.put_from.new.self _ _ c.args.most r.0 c.refused_by.result c.self.view_is c.refused_by.ensures refl r.1 r.2 r.3 r.4 r.5
