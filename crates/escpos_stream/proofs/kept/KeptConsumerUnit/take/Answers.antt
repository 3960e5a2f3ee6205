-- A command is left out, or taken with its place.
use Rattle.std.proofs.Common.{◌∷◌, ◌++◌, [], sym, ◌∙◌, ap, subst}
use Rattle.escpos_stream.specs.Steps.{KeptSoFar}
use Rattle.escpos_stream.proofs.Keeping.{left_out, taken_in}
use Rattle.escpos_stream.proofs.kept.KeptConsumerUnit.take.Goals as goal

pub returns-then-leaves_out-clause-accepted : goal.returns-then-leaves_out-clause-accepted
returns-then-leaves_out-clause-accepted c =
    λ start cs place was no_commands no_places.
    left_out c.args.command c.leaves_out.result c.leaves_out.ensures.other c.leaves_out.ensures.within c.if-leaves_out.true (was no_commands no_places)

pub returns-clause-accepted : goal.returns-clause-accepted
returns-clause-accepted c =
    λ start cs place was no_commands no_places.
    (let more = cs ++ c.args.command ∷ [] in
    let commands = c.push_reserved.ensures.items ∙ ap (λ v. v ++ c.args.command ∷ []) c.in_ok-reserve.ensures.items in
    let places = c.push_reserved-2.ensures.items ∙ ap (λ v. v ++ c.args.place ∷ []) c.in_ok-reserve-2.ensures.items in
    let k = taken_in c.args.command c.args.place c.leaves_out.result c.leaves_out.ensures.question c.leaves_out.ensures.other c.if-leaves_out.false place (was no_commands no_places) in
    subst (λ v. KeptSoFar more v c.push_reserved-2.new.self.items) (sym commands) (subst (λ v. KeptSoFar more (c.args.self.now.commands.items ++ c.args.command ∷ []) v) (sym places) k))
