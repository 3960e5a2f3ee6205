use Rattle.std.proofs.Common.{◌≡◌, map}
use Rattle.std.proofs.lemmas.Result.{IfOk-weaker, MatchResult-weaker}
use Rattle.clap.specs.Words.{app_of}
use Rattle.escpos_arguments.specs.ProbeArguments.{probe_words}
use Rattle.escpos_arguments.proofs.ProbeWords.{probe_fails_by, probe_found_by}
use Rattle.escpos_arguments.proofs.probe.probe_matches_of.Goals as goal

pub returns : goal.returns
returns g c =
    let app_is : app_of c.in_ok-command.command ≡ probe_words = c.in_ok-command.ensures.shape in
    let texts = map g.S.AsStr.text c.args.words.now in
    let parse = c.try_get_matches_from in
    let fails = probe_fails_by (app_of c.in_ok-command.command) texts parse.result app_is parse.ensures.kinds in
    record {
      parsed = MatchResult-weaker parse.result fails (λ m h. h) (λ e h. tt);
      found = IfOk-weaker parse.result _ _ (λ m h. probe_found_by (app_of c.in_ok-command.command) texts m app_is h) parse.ensures.matches;
      refused = MatchResult-weaker parse.result fails (λ m h. tt) (λ e h. h);
    }
