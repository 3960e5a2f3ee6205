use Rattle.std.proofs.Common.{[], Ok, ◌++◌, ◌∙◌, ap, refl, sym}
use Rattle.escpos_io.proofs.Giving.{given_appended, given_in_the_front, given_in_turn}
use Rattle.escpos_stream_jobs.specs.Draw.{passed_words}
use Rattle.escpos_stream_jobs.proofs.Drawings.{words_there}
use Rattle.escpos_stream_jobs.proofs.draw.put_words.Goals as goal

pub returns-in_err-room : goal.returns-in_err-room
returns-in_err-room g c =
    given_in_the_front c.from_residual.result c.in_err-room.field-0.0 _ _ _ [] _ _ c.from_residual.ensures.1 c.in_err-room.ensures.given refl

pub returns : goal.returns
returns g c =
    let words = passed_words c.args.passed in
    let kept = c.append_words.ensures.kept ∙ ap (λ v. c.room.new.self.kept ++ v) (sym (words_there c.args.passed c.if-passed-eq0.false)) in
    given_in_turn (Ok tt) _ _ _ _ _ _ _ _ _ [] words words c.in_ok-room.ensures.given (given_appended _ _ _ _ words kept c.append_words.ensures.same_count) refl
