-- The bytes of one more answer, at most seven, or four of a block.
use Rattle.std.proofs.Common.{◌≡◌, ◌+◌, ◌++◌, length, take, ap, sym, ◌∙◌, arith, length-append}
use Rattle.escpos_command.specs.Answers.{spell_answers}
use Rattle.escpos_printer.proofs.AnswerBytes.{one_more_answer}
use Rattle.escpos_printer.proofs.OneBlock.{bytes_more, few_bytes}
use Rattle.escpos_printer.proofs.printer.Printer.answer_bytes.Goals as goal

pub loop-at-preserved : goal.loop-at-preserved
loop-at-preserved c =
    let answers = c.args.self.now.waiting in
    let i = c.loop-at.at in
    let grown : c.try_extend_from_slice.new.self.items ≡ c.loop-at.bytes.items ++ c.as_slice.result.now = rw c.unwrap.ensures at c.try_extend_from_slice.ensures.ok in
    let more = one_more_answer answers i c.waiting_at.result c.waiting_at.ensures in
    let here = c.as_slice.ensures.value ∙ c.bytes-answer.ensures.bytes in
    record {
      spelled = grown ∙ ap (λ bs. bs ++ c.as_slice.result.now) c.loop-at.invariant.spelled ∙ ap (λ bs. spell_answers (take i answers) ++ bs) here ∙ sym more;
      few =
          let long = ap length grown ∙ length-append c.loop-at.bytes.items c.as_slice.result.now in
          let one = ap length c.as_slice.ensures.value ∙ c.bytes-answer.ensures.length in
          let few = bytes_more answers i (length c.loop-at.bytes.items) c.waiting_at.result c.waiting_at.ensures c.loop-at.invariant.few in
          omega (arith, long, one, few);
    }

pub unwrap-requires : goal.unwrap-requires
unwrap-requires c =
    let answers = c.args.self.now.waiting in
    let i = c.loop-at.at in
    let one = ap length c.as_slice.ensures.value ∙ c.bytes-answer.ensures.length in
    let few = bytes_more answers i (length c.loop-at.bytes.items) c.waiting_at.result c.waiting_at.ensures c.loop-at.invariant.few in
    let most = few_bytes answers (i + 1) _ c.is_sound.ensures.room few in
    c.try_extend_from_slice.ensures.variant.1 (omega (arith, one, most))
