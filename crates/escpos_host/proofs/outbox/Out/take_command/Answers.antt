-- Bytes of the next command are taken, and the cursor goes past them.
use Rattle.std.proofs.Common.{◌∙◌, sym}
use Rattle.std.proofs.lemmas.Bool.{false≢true}
use Rattle.escpos_host.proofs.Pending.{copying, in_command, to_next_command, to_next_part}
use Rattle.escpos_host.proofs.outbox.Out.take_command.Goals as goal

pub returns-else-step-clause-taken : goal.returns-else-step-clause-taken
returns-else-step-clause-taken c =
    let step = c.copy_command-step in
    let from_here = copying c.args.receipts.now (record { parts = c.self.inside.parts.items; item = c.self.inside.item; from = c.self.inside.from }) c.args.self.now c.in-Some.part.now c.args.out.now
    step.new.out step.result.count c.self.view_is c.requires.within c.requires.some_left c.in-Some.ensures.lookup step.ensures.copied in
    rw (← c.self.view_is) (
    in_command _ _ _ _ _ _ from_here
    (λ end. false≢true (sym c.if-step.false ∙ step.ensures.is_end.1 end)))

pub returns-else-self-command_count-clause-taken : goal.returns-else-self-command_count-clause-taken
returns-else-self-command_count-clause-taken c =
    let step = c.copy_command-step in
    let from_here = copying c.args.receipts.now (record { parts = c.self.inside.parts.items; item = c.self.inside.item; from = c.self.inside.from }) c.args.self.now c.in-Some.part.now c.args.out.now
    step.new.out step.result.count c.self.view_is c.requires.within c.requires.some_left c.in-Some.ensures.lookup step.ensures.copied in
    rw (← c.self.view_is) (
    to_next_command _ _ _ _ _ _ from_here
    (step.ensures.is_end.0 c.if-step.true) (λ last. c.if-self-command_count.false (last ∙ sym c.command_count-command_count.ensures)))

pub returns-then-self-command_count-clause-taken : goal.returns-then-self-command_count-clause-taken
returns-then-self-command_count-clause-taken c =
    let step = c.copy_command-step in
    let from_here = copying c.args.receipts.now (record { parts = c.self.inside.parts.items; item = c.self.inside.item; from = c.self.inside.from }) c.args.self.now c.in-Some.part.now c.args.out.now
    step.new.out step.result.count c.self.view_is c.requires.within c.requires.some_left c.in-Some.ensures.lookup step.ensures.copied in
    rw (← c.self.view_is, c.pop_front.ensures.rest) (
    to_next_part _ _ _ _ _ _ from_here
    (step.ensures.is_end.0 c.if-step.true) (c.if-self-command_count.true ∙ c.command_count-command_count.ensures))
