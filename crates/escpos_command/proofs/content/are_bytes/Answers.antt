use Rattle.escpos_command.proofs.Bytewise.{all_bytes}
use Rattle.escpos_command.proofs.content.are_bytes.Goals as goal

pub returns : goal.returns
returns c = all_bytes c.args.bytes.now c.type_inv.bytes
