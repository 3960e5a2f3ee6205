use Rattle.std.proofs.Common.{sym, ◌∙◌}
use Rattle.escpos_text.proofs.PlainWriting.{put-plain}
use Rattle.escpos_text.proofs.writing.write_char.Goals as goal

pub returns-in-Ok-clause-written : goal.returns-in-Ok-clause-written
returns-in-Ok-clause-written c =
    put-plain c.args.encoding.now c.args.character c.args.out.now.items c.put_byte.new.out.items
    (sym c.is_surely_plain.ensures ∙ c.if-is_surely_plain.true) c.in-Ok.ensures.ok
