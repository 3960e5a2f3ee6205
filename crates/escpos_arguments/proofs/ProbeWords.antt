-- What `clap` reads in the arguments of `probe`.
use Rattle.std.proofs.Common.{◌≡◌, ◌∙◌, refl, true, List, Some, None, Result, option_map, sym, ap, subst}
use Rattle.clap.specs.Words.{App, Row, Text, fault_of, is_simple_and_free, is_simple, subcommand_of, subcommand_rows_of, subcommand_name_of, FailsBy, HasMatchesOf}
use Rattle.clap.proofs.OnLiterals.{clap_on_literals}
use Rattle.clap.specs.declared.error.Error.{Error}
use Rattle.clap.specs.declared.parser.matches.ArgMatches.{ArgMatches}
use Rattle.escpos_arguments.specs.ProbeArguments.{probe_words}
use Rattle.escpos_arguments.proofs.TaskWords.{both_parts, name_of_rows, no_rows}

probe_is_exact : is_simple_and_free probe_words ≡ true
unfolding clap_on_literals
probe_is_exact = refl

probe_is_known : is_simple probe_words ≡ true
unfolding clap_on_literals
probe_is_known = refl

pub probe_fails_by : {T : Type 0} (a : App) (texts : List Text) (r : Result T Error) → a ≡ probe_words
    → (is_simple_and_free a ≡ true → FailsBy (fault_of a texts) r) → FailsBy (fault_of probe_words texts) r
probe_fails_by a texts r e h = subst (λ (b : App). FailsBy (fault_of b texts) r) e (h (ap is_simple_and_free e ∙ probe_is_exact))

pub probe_found_by : (a : App) (texts : List Text) (m : ArgMatches) → a ≡ probe_words
    → HasMatchesOf a texts m → subcommand_rows_of m ≡ subcommand_of probe_words texts
probe_found_by a texts m e h = (h (ap is_simple e ∙ probe_is_known)).1 ∙ ap (λ (b : App). subcommand_of b texts) e

-- the name and the values that a parse found are those of the arguments
pub probe_is_found : (m : ArgMatches) (texts : List Text) (name : Text) (rows : List Row)
    → subcommand_rows_of m ≡ subcommand_of probe_words texts → Some name ≡ subcommand_name_of m
    → Some rows ≡ option_map (λ p. p.1) (subcommand_rows_of m) → Some (name, rows) ≡ subcommand_of probe_words texts
probe_is_found m texts name rows found e f = both_parts (subcommand_rows_of m) name rows (e ∙ sym (name_of_rows m)) f ∙ found

-- where a parse met no subcommand, the arguments name none
pub probe_none_found : (m : ArgMatches) (texts : List Text)
    → subcommand_rows_of m ≡ subcommand_of probe_words texts → None ≡ subcommand_name_of m → subcommand_of probe_words texts ≡ None
probe_none_found m texts found e = sym found ∙ no_rows (subcommand_rows_of m) (e ∙ sym (name_of_rows m))
