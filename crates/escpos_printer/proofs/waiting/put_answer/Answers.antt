use Rattle.std.proofs.Common.{ap}
use Rattle.circular_buffer.specs.Buffer.{Buffer}
use Rattle.escpos_command.specs.declared.answer.Answer.{Answer}
use Rattle.escpos_printer.proofs.OneBlock.{pushed, replaced}
use Rattle.escpos_printer.proofs.waiting.put_answer.Goals as goal

pub returns-in-Some-clause-items : goal.returns-in-Some-clause-items
returns-in-Some-clause-items c =
    replaced c.args.waiting.now.items c.in-Some.place c.args.answer c.in-Some.ensures.1 c.requires.may.one_block c.in-Some.ensures.0

pub returns-in-None-clause-items : goal.returns-in-None-clause-items
returns-in-None-clause-items c =
    pushed c.args.waiting.now.items c.push_back.new.self.items c.args.answer c.args.waiting.now.capacity c.requires.capacity
    (ap (λ (b : Buffer Answer). b.items) c.push_back.ensures.items) c.requires.room c.in-None.ensures
