-- Why an entry gives no commands is why the array gives no receipt.
use Rattle.std.proofs.Common.{Err, ap, map}
use Rattle.serde_json.specs.View.{view}
use Rattle.escpos_receipt.proofs.MoreEntries.{refused_array}
use Rattle.escpos_receipt.proofs.json.receipt_of.Goals as goal

pub returns-in-Err-clause-refused : goal.returns-in-Err-clause-refused
returns-in-Err-clause-refused c = λ because e. refused_array c.args.options.now because (map view c.args.values.now) (c.in-Err.ensures.refused because (ap Err cc))
