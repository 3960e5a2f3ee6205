use Rattle.std.proofs.Common.{◌≡◌, ◌∙◌, List, Some, ap, sym, subst, inl, inr, map, length, Err, codes}
use Rattle.std.specs.Prelude.{option_map}
use Rattle.std.proofs.lemmas.Result.{IfOk-weaker}
use Rattle.std.proofs.lemmas.List.{length-map}
use Rattle.clap.specs.Words.{Text, fault_of, found_of, rows_of, subcommand_of}
use Rattle.escpos_arguments.specs.Arguments.{Asks, StandsAlone, command_words}
use Rattle.escpos_arguments.proofs.TaskWords.{asked_alone, help_is_among, help_met, help_passes, is_found, is_help, is_word, met_by, none_found, one_word, refused_for_help, refused_for_memory, same_name, stands_alone}
use Rattle.escpos_jobs.specs.declared.task.NoTask.TheVariants.{Help}
use Rattle.escpos_arguments.proofs.arguments.task_of.Goals as goal

pub returns-in-Err-clause-named : goal.returns-in-Err-clause-named
returns-in-Err-clause-named g c = λ bare task is e.
    let asked = asked_alone bare task is in
    inr (ap Err (refused_for_memory _ c.in-Err.refusal _ (ap (fault_of command_words) e ∙ asked.passes) c.in-Err.ensures.refused c.no_task.ensures))

pub returns-in-Err-clause-taken : goal.returns-in-Err-clause-taken
returns-in-Err-clause-taken g c = λ task passes asks alone ranges.
    inr (ap Err (refused_for_memory _ c.in-Err.refusal _ passes c.in-Err.ensures.refused c.no_task.ensures))

pub returns-in-Err-clause-help : goal.returns-in-Err-clause-help
returns-in-Err-clause-help g c = λ asks.
    elim (is_help (map g.S.AsStr.text c.args.words.now) asks) [
      | inl one ↦ elim (refused_for_help _ c.in-Err.refusal _ one c.in-Err.ensures.refused c.no_task.ensures) [
        | inl h ↦ inl (ap Err h)
        | inr m ↦ inr (ap Err m)
      ]
      | inr e ↦ inr (ap Err (refused_for_memory _ c.in-Err.refusal _ (ap (fault_of command_words) e ∙ help_passes) c.in-Err.ensures.refused c.no_task.ensures))
    ]

pub returns-in-Err-clause-help_only : goal.returns-in-Err-clause-help_only
returns-in-Err-clause-help_only g c = λ e.
    let is_help : c.no_task.result ≡ Help = cc in
    inr (help_is_among _ c.in-Err.refusal _ c.in-Err.ensures.refused c.no_task.ensures is_help)

pub returns-in-Some-clause-asks : goal.returns-in-Some-clause-asks
returns-in-Some-clause-asks g c =
    let texts = map g.S.AsStr.text c.args.words.now in
    let name = c.in-Some.name.now in
    let rows = rows_of (found_of c.in-Some.given.now) in
    let found = is_found c.in-Ok.matches texts name rows c.in-Ok.ensures.found c.in-Some.ensures.name c.in-Some.ensures.rows in
    IfOk-weaker c.task_asked.result _ _ (λ task h. subst (λ o. Asks o task) found h) c.task_asked.ensures.asks

pub returns-in-Some-clause-words : goal.returns-in-Some-clause-words
returns-in-Some-clause-words g c =
    let texts = map g.S.AsStr.text c.args.words.now in
    let name = c.in-Some.name.now in
    let rows = rows_of (found_of c.in-Some.given.now) in
    let found = is_found c.in-Ok.matches texts name rows c.in-Ok.ensures.found c.in-Some.ensures.name c.in-Some.ensures.rows in
    stands_alone c.task_asked.result texts name rows found
    (IfOk-weaker c.task_asked.result _ _ (λ task h nothing. length-map _ _ ∙ h nothing) c.task_asked.ensures.alone)

pub returns-in-Some-clause-named : goal.returns-in-Some-clause-named
returns-in-Some-clause-named g c = λ bare task is e.
    let texts = map g.S.AsStr.text c.args.words.now in
    let name = c.in-Some.name.now in
    let rows = rows_of (found_of c.in-Some.given.now) in
    let found = is_found c.in-Ok.matches texts name rows c.in-Ok.ensures.found c.in-Some.ensures.name c.in-Some.ensures.rows in
    let asked = asked_alone bare task is in
    let asks = subst (λ (ts : List Text). Asks (subcommand_of command_words ts) task) (sym e) asked.asks in
    let alone = subst (λ (ts : List Text). StandsAlone ts task) (sym e) asked.alone in
    inl (c.task_asked.ensures.taken task (subst (λ o. Asks o task) (sym found) asks)
    (λ nothing. sym (length-map _ _) ∙ one_word texts task name rows found alone nothing) asked.in_range)

pub returns-in-Some-clause-taken : goal.returns-in-Some-clause-taken
returns-in-Some-clause-taken g c = λ task passes asks alone ranges.
    let texts = map g.S.AsStr.text c.args.words.now in
    let name = c.in-Some.name.now in
    let rows = rows_of (found_of c.in-Some.given.now) in
    let found = is_found c.in-Ok.matches texts name rows c.in-Ok.ensures.found c.in-Some.ensures.name c.in-Some.ensures.rows in
    inl (c.task_asked.ensures.taken task (subst (λ o. Asks o task) (sym found) asks)
    (λ nothing. sym (length-map _ _) ∙ one_word texts task name rows found alone nothing) ranges)

pub returns-in-Some-clause-help : goal.returns-in-Some-clause-help
returns-in-Some-clause-help g c = λ asks.
    let texts = map g.S.AsStr.text c.args.words.now in
    let name = c.in-Some.name.now in
    let rows = rows_of (found_of c.in-Some.given.now) in
    let found = is_found c.in-Ok.matches texts name rows c.in-Ok.ensures.found c.in-Some.ensures.name c.in-Some.ensures.rows in
    elim (is_help texts asks) [
      | inl refused ↦ let bad = sym c.in-Ok.ensures.parsed ∙ refused in cc
      | inr e ↦ inl (c.task_asked.ensures.help (same_name texts name (codes "help") rows found (ap met_by e ∙ help_met)) (sym (length-map _ _) ∙ ap length e))
    ]

pub returns-in-Some-clause-help_only : goal.returns-in-Some-clause-help_only
returns-in-Some-clause-help_only g c = λ e.
    let texts = map g.S.AsStr.text c.args.words.now in
    let name = c.in-Some.name.now in
    let rows = rows_of (found_of c.in-Some.given.now) in
    let found = is_found c.in-Ok.matches texts name rows c.in-Ok.ensures.found c.in-Some.ensures.name c.in-Some.ensures.rows in
    let h = c.task_asked.ensures.help_only e in
    inl (is_word texts (codes "help") (sym (ap (option_map (λ p. p.0)) found) ∙ ap Some h.0) (length-map _ _ ∙ h.1))

pub returns-clause-named : goal.returns-clause-named
returns-clause-named g c = λ bare task is e.
    let texts = map g.S.AsStr.text c.args.words.now in
    let none = none_found c.in-Ok.matches texts c.in-Ok.ensures.found c.in-None.ensures.name in
    let asked = asked_alone bare task is in
    absurd (subst (λ o. Asks o task) none (subst (λ (ts : List Text). Asks (subcommand_of command_words ts) task) (sym e) asked.asks))

pub returns-clause-taken : goal.returns-clause-taken
returns-clause-taken g c = λ task passes asks alone ranges.
    let texts = map g.S.AsStr.text c.args.words.now in
    let none = none_found c.in-Ok.matches texts c.in-Ok.ensures.found c.in-None.ensures.name in
    absurd (subst (λ o. Asks o task) none asks)

pub returns-clause-help : goal.returns-clause-help
returns-clause-help g c = λ asks.
    let texts = map g.S.AsStr.text c.args.words.now in
    let none = none_found c.in-Ok.matches texts c.in-Ok.ensures.found c.in-None.ensures.name in
    elim (is_help texts asks) [
      | inl refused ↦ let bad = sym c.in-Ok.ensures.parsed ∙ refused in cc
      | inr e ↦ let bad = sym (ap (option_map (λ p. p.0)) none) ∙ ap met_by e ∙ help_met in cc
    ]
