-- The effects of the lines, and what was printed after them.
use Rattle.std.proofs.Common.{Ok, Err, ◌∙◌, ap}
use Rattle.escpos_script.specs.declared.play.ScriptEnd.TheVariants as end
use Rattle.escpos_script.proofs.Plays.{cut_off, played, told_of, unreadable, usual_stands}
use Rattle.escpos_script.proofs.play.play_on.Goals as goal

pub returns-in-Ok-clause-plays : goal.returns-in-Ok-clause-plays
returns-in-Ok-clause-plays g c = λ new.
    let told = told_of c.play_lines.result (Ok tt) c.args.script.now c.args.sim.now c.play_lines.new.sim _ _ c.in-Ok.is (λ e. cc) c.play_lines.ensures.told in
    played _ c.args.script.now (g.W.ByteOut.written c.play_lines.new.output) c.args.sim.now c.play_lines.new.sim told.0 new told.1 told.2
    (usual_stands c.args.sim.now c.play_lines.new.sim new c.play_lines.ensures.width c.close.ensures.stand) c.close.ensures.says

pub returns-in-Err-Unreadable-clause-plays : goal.returns-in-Err-Unreadable-clause-plays
returns-in-Err-Unreadable-clause-plays g c = λ new.
    let told = told_of c.play_lines.result (Err end.Unreadable) c.args.script.now c.args.sim.now c.play_lines.new.sim _ _ (c.in-Err-Unreadable.is ∙ ap (λ w. Err w) c.in-Err-Unreadable.field-0-is)
    (λ e. cc) c.play_lines.ensures.told in
    unreadable _ c.args.script.now (g.W.ByteOut.written c.play_lines.new.output) c.args.sim.now c.play_lines.new.sim told.0 new told.1 told.2
    (usual_stands c.args.sim.now c.play_lines.new.sim new c.play_lines.ensures.width c.close-in-Err-Unreadable.ensures.stand)
    c.close-in-Err-Unreadable.ensures.says

pub returns-in-Err-Memory-clause-plays : goal.returns-in-Err-Memory-clause-plays
returns-in-Err-Memory-clause-plays g c = λ new.
    let told = told_of c.play_lines.result (Err end.Memory) c.args.script.now c.args.sim.now c.play_lines.new.sim _ _ (c.in-Err-Memory.is ∙ ap (λ w. Err w) c.in-Err-Memory.field-0-is)
    (λ e. cc) c.play_lines.ensures.told in
    cut_off _ c.args.script.now (g.W.ByteOut.written c.play_lines.new.output) c.args.sim.now c.play_lines.new.sim told.0 new told.1 told.2 c.say.ensures.says
