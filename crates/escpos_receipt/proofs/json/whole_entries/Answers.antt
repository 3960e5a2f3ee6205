-- The entries give one list of commands, so what isn't whole once isn't whole when it is read again.
use Rattle.std.proofs.Common.{Err, ap, map, subst}
use Rattle.serde_json.specs.View.{view}
use Rattle.escpos_receipt.specs.Printable.{IsPrintable}
use Rattle.escpos_receipt.specs.Whole.{Whole}
use Rattle.escpos_receipt.proofs.MoreEntries.{gives_once, refused_array}
use Rattle.escpos_receipt.proofs.json.whole_entries.Goals as goal

pub returns-in-Err-clause-refused : goal.returns-in-Err-clause-refused
returns-in-Err-clause-refused c = λ because e. refused_array c.args.options.now because (map view c.args.values.now) (c.in-Err.ensures.refused because (ap Err cc))

pub unreachable-requires : goal.unreachable-requires
unreachable-requires c =
    let (commands, give, broken) = c.in-Ok-None.ensures.none c.in-Ok-None.field-0-is in
    let (read, whole) = c.in-Ok.ensures.commands in
    let same = gives_once c.args.options.now (map view c.args.values.now) c.in-Ok.field-0 commands read give in
    broken (subst Whole same whole) (subst (IsPrintable c.args.options.now.width) same c.in-Ok.ensures.printable)
