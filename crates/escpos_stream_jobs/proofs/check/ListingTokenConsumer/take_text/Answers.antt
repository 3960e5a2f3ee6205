use Rattle.std.proofs.Common.{◌∙◌, ◌++◌, ap, append-nil, subst}
use Rattle.std.specs.Prelude.{slice_index}
use Rattle.escpos_command.specs.declared.command.Command.TheVariants.{Char}
use Rattle.escpos_io.specs.Gather.{Carries}
use Rattle.escpos_passed.specs.Tokens.{taken}
use Rattle.escpos_stream_jobs.specs.Check.{token_lines}
use Rattle.escpos_stream_jobs.proofs.Listings.{first_character, lines_after}
use Rattle.escpos_io.proofs.Giving.{given_appended}
use Rattle.escpos_stream_jobs.proofs.check.ListingTokenConsumer.take_text.Goals as goal

pub returns-clause-accepted : goal.returns-clause-accepted
returns-clause-accepted g c = λ start ts placed all. (
  λ first total carried.
      let kept = rw append-nil at (c.in_default.ensures.given.ok first _ (all.0 first total carried)) in
      let character = Char (slice_index c.args.text.now 0) in
      subst (λ v. Carries first (g.W.ByteOut.written c.room.new.writer) c.append_character.new.gather v)
      (lines_after total ts (taken character) c.args.place placed ∙ ap (λ us. total ++ token_lines 0 us) (ap (λ us. ts ++ us) (first_character c.args.text.now c.requires.some)))
      ((given_appended _ (g.W.ByteOut.failed c.room.new.writer) _ _ _ c.append_character.ensures.kept c.append_character.ensures.same_count).ok first _ kept),
  λ well. c.in_default.ensures.given.not_failed (all.1 well),
)
