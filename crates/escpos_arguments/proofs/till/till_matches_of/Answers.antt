use Rattle.std.proofs.Common.{◌≡◌, map}
use Rattle.std.proofs.lemmas.Result.{IfOk-weaker, MatchResult-weaker}
use Rattle.clap.specs.Words.{app_of}
use Rattle.escpos_arguments.specs.TillArguments.{till_words}
use Rattle.escpos_arguments.proofs.TillWords.{till_fails_by, till_found_by}
use Rattle.escpos_arguments.proofs.till.till_matches_of.Goals as goal

pub returns : goal.returns
returns g c =
    let app_is : app_of c.in_ok-command.command ≡ till_words = c.in_ok-command.ensures.shape in
    let texts = map g.S.AsStr.text c.args.words.now in
    let parse = c.try_get_matches_from in
    let fails = till_fails_by (app_of c.in_ok-command.command) texts parse.result app_is parse.ensures.kinds in
    record {
      parsed = MatchResult-weaker parse.result fails (λ m h. h) (λ e h. tt);
      found = IfOk-weaker parse.result _ _ (λ m h. till_found_by (app_of c.in_ok-command.command) texts m app_is h) parse.ensures.matches;
      refused = MatchResult-weaker parse.result fails (λ m h. tt) (λ e h. h);
    }
