-- All bytes are out, so every answer is dropped.
use Rattle.std.proofs.Common.{length, ap, ◌∙◌, subst}
use Rattle.std.specs.Io.KnownBytes.{Appends}
use Rattle.escpos_printer.specs.Serves.{after_byte}
use Rattle.escpos_printer.proofs.AnswerBytes.{all_dropped}
use Rattle.escpos_printer.proofs.serve.put_answers.Goals as goal

pub returns-in-Ok-clause-all : goal.returns-in-Ok-clause-all
returns-in-Ok-clause-all g c =
    let answers = c.args.printer.now.waiting in
    let bytes = c.as_slice.ensures.value ∙ c.answer_bytes-bytes.ensures in
    record {
      out = subst (λ bs. Appends (g.W.ByteOut.written c.args.writer.now) (g.W.ByteOut.written c.put_all.new.writer) bs) bytes c.in-Ok.ensures.all;
      count = c.len-in-Ok.ensures.value ∙ ap length c.answer_bytes-bytes.ensures;
      none = c.drop_through.ensures.later ∙ ap (after_byte answers) (c.len.ensures.value ∙ ap length c.answer_bytes-bytes.ensures) ∙ all_dropped answers;
    }
