-- What `clap` reads in the program's arguments.
use Rattle.std.proofs.Common.{◌≡◌, ◌⊎◌, ◌∙◌, ◌||◌, ◌&&◌, not, zero, suc, Bool, true, false, List, [], ◌∷◌, length, Option, Some, None, Result, Ok, Err, option_map, codes, refl, sym, ap, ap₂, subst, inl, inr, arith, Contains}
use Rattle.std.specs.Prelude.{if◌then◌else◌, IfOk, IsSomeAnd}
use Rattle.std.specs.Box.{box_value}
use Rattle.std.specs.Str.{bytes_eq}
use Rattle.clap.specs.Words.{App, Row, Rule, Shape, Text, app_of, built, fault_of, is_simple_and_free, is_simple, subcommand_of, subcommand_rows, subcommand_rows_of, subcommand_name_of, FailsBy, HasKind, Kinds, HasMatchesOf, kind_of, IsAmong}
use Rattle.clap.specs.Walk.{Held, Names, Outcome, Step, Walk, after_flag, after_step, answers_to, idle, nothing_held, done, waits, plain, refused, short_or_plain, long_or_other, stop_after, subcommand_met, subcommand_or_other, trailing, walk_from, walked}
use Rattle.clap.specs.Simple.{names_of, entered}
use Rattle.clap.specs.Lexer.{long_of, short_of}
use Rattle.clap.proofs.OnLiterals.{clap_on_literals}
use Rattle.clap.specs.declared.error.Error.{Error}
use Rattle.clap.specs.declared.error.kind.ErrorKind.{ErrorKind}
use Rattle.clap.specs.declared.error.kind.ErrorKind.TheVariants.{DisplayHelp, OutOfMemory}
use Rattle.clap.specs.declared.builder.command.Command.{Command}
use Rattle.clap.specs.declared.builder.command.Command.TheViews.{out-Command}
use Rattle.clap.specs.declared.parser.matches.ArgMatches.{ArgMatches}
use Rattle.clap.specs.declared.parser.matches.ArgMatches.TheViews.{out-ArgMatches, out-SubCommand}
use Rattle.escpos_command.specs.declared.line_width.TheConstants.{USUAL_LINE_DOTS}
use Rattle.escpos_arguments.specs.Arguments.{Asks, InRange, SetsNothing, StandsAlone, bare_tasks, command_words, help_words}
use Rattle.escpos_arguments.specs.ClapAnswers.{no_task_of}
use Rattle.escpos_job_parts.specs.declared.form.Form.TheVariants.{Hexadecimal}
use Rattle.escpos_jobs.specs.declared.task.NoTask.{NoTask}
use Rattle.escpos_jobs.specs.declared.task.NoTask.TheVariants.{Help, Memory}
use Rattle.escpos_jobs.specs.declared.task.Task.{Task}
use Rattle.escpos_jobs.specs.declared.task.Task.TheVariants.{Check, Render, Draw, Encode, Play, Loop}
use Rattle.std.proofs.lemmas.Slice.Eq.{bytes_eq-Decides}

pub is_exact : is_simple_and_free command_words ≡ true
unfolding clap_on_literals
is_exact = refl

pub is_known : is_simple command_words ≡ true
unfolding clap_on_literals
is_known = refl

-- the name of the subcommand that the arguments name
abbrev pub met_by : List Text → Option Text
met_by texts = option_map (λ p. p.0) (subcommand_of command_words texts)

pub help_met : met_by (codes "help" ∷ []) ≡ Some (codes "help")
unfolding clap_on_literals
help_met = refl

pub help_passes : fault_of command_words (codes "help" ∷ []) ≡ []
unfolding clap_on_literals
help_passes = refl

-- ---- the arguments that ask for help

-- `clap` answers with help, or the arguments are the subcommand `help` alone
abbrev pub IsHelp : List Text → Type 0
IsHelp texts = (fault_of command_words texts ≡ DisplayHelp ∷ []) ⊎ (texts ≡ codes "help" ∷ [])

is_help-1 : IsHelp (codes "--help" ∷ [])
unfolding clap_on_literals
is_help-1 = inl refl

is_help-2 : IsHelp (codes "-h" ∷ [])
unfolding clap_on_literals
is_help-2 = inl refl

is_help-3 : IsHelp (codes "check" ∷ codes "--help" ∷ [])
unfolding clap_on_literals
is_help-3 = inl refl

is_help-4 : IsHelp (codes "check" ∷ codes "-h" ∷ [])
unfolding clap_on_literals
is_help-4 = inl refl

is_help-5 : IsHelp (codes "render" ∷ codes "--help" ∷ [])
unfolding clap_on_literals
is_help-5 = inl refl

is_help-6 : IsHelp (codes "render" ∷ codes "-h" ∷ [])
unfolding clap_on_literals
is_help-6 = inl refl

is_help-7 : IsHelp (codes "draw" ∷ codes "--help" ∷ [])
unfolding clap_on_literals
is_help-7 = inl refl

is_help-8 : IsHelp (codes "draw" ∷ codes "-h" ∷ [])
unfolding clap_on_literals
is_help-8 = inl refl

is_help-9 : IsHelp (codes "encode" ∷ codes "--help" ∷ [])
unfolding clap_on_literals
is_help-9 = inl refl

is_help-10 : IsHelp (codes "encode" ∷ codes "-h" ∷ [])
unfolding clap_on_literals
is_help-10 = inl refl

is_help-11 : IsHelp (codes "play" ∷ codes "--help" ∷ [])
unfolding clap_on_literals
is_help-11 = inl refl

is_help-12 : IsHelp (codes "play" ∷ codes "-h" ∷ [])
unfolding clap_on_literals
is_help-12 = inl refl

is_help-13 : IsHelp (codes "emulate" ∷ codes "--help" ∷ [])
unfolding clap_on_literals
is_help-13 = inl refl

is_help-14 : IsHelp (codes "emulate" ∷ codes "-h" ∷ [])
unfolding clap_on_literals
is_help-14 = inl refl

is_help-15 : IsHelp (codes "send" ∷ codes "--help" ∷ [])
unfolding clap_on_literals
is_help-15 = inl refl

is_help-16 : IsHelp (codes "send" ∷ codes "-h" ∷ [])
unfolding clap_on_literals
is_help-16 = inl refl

is_help-17 : IsHelp (codes "loop" ∷ codes "--help" ∷ [])
unfolding clap_on_literals
is_help-17 = inl refl

is_help-18 : IsHelp (codes "loop" ∷ codes "-h" ∷ [])
unfolding clap_on_literals
is_help-18 = inl refl

pub is_help : (texts : List Text) → Contains help_words texts → IsHelp texts
is_help texts (zero, below, at) = inr (sym at)
is_help texts (suc zero, below, at) = subst IsHelp at is_help-1
is_help texts (suc (suc zero), below, at) = subst IsHelp at is_help-2
is_help texts (suc (suc (suc zero)), below, at) = subst IsHelp at is_help-3
is_help texts (suc (suc (suc (suc zero))), below, at) = subst IsHelp at is_help-4
is_help texts (suc (suc (suc (suc (suc zero)))), below, at) = subst IsHelp at is_help-5
is_help texts (suc (suc (suc (suc (suc (suc zero))))), below, at) = subst IsHelp at is_help-6
is_help texts (suc (suc (suc (suc (suc (suc (suc zero)))))), below, at) = subst IsHelp at is_help-7
is_help texts (suc (suc (suc (suc (suc (suc (suc (suc zero))))))), below, at) = subst IsHelp at is_help-8
is_help texts (suc (suc (suc (suc (suc (suc (suc (suc (suc zero)))))))), below, at) = subst IsHelp at is_help-9
is_help texts (suc (suc (suc (suc (suc (suc (suc (suc (suc (suc zero))))))))), below, at) = subst IsHelp at is_help-10
is_help texts (suc (suc (suc (suc (suc (suc (suc (suc (suc (suc (suc zero)))))))))), below, at) = subst IsHelp at is_help-11
is_help texts (suc (suc (suc (suc (suc (suc (suc (suc (suc (suc (suc (suc zero))))))))))), below, at) = subst IsHelp at is_help-12
is_help texts (suc (suc (suc (suc (suc (suc (suc (suc (suc (suc (suc (suc (suc zero)))))))))))), below, at) = subst IsHelp at is_help-13
is_help texts (suc (suc (suc (suc (suc (suc (suc (suc (suc (suc (suc (suc (suc (suc zero))))))))))))), below, at) = subst IsHelp at is_help-14
is_help texts (suc (suc (suc (suc (suc (suc (suc (suc (suc (suc (suc (suc (suc (suc (suc zero)))))))))))))), below, at) = subst IsHelp at is_help-15
is_help texts (suc (suc (suc (suc (suc (suc (suc (suc (suc (suc (suc (suc (suc (suc (suc (suc zero))))))))))))))), below, at) = subst IsHelp at is_help-16
is_help texts (suc (suc (suc (suc (suc (suc (suc (suc (suc (suc (suc (suc (suc (suc (suc (suc (suc zero)))))))))))))))), below, at) = subst IsHelp at is_help-17
is_help texts (suc (suc (suc (suc (suc (suc (suc (suc (suc (suc (suc (suc (suc (suc (suc (suc (suc (suc zero))))))))))))))))), below, at) = subst IsHelp at is_help-18
is_help texts (suc (suc (suc (suc (suc (suc (suc (suc (suc (suc (suc (suc (suc (suc (suc (suc (suc (suc (suc k)))))))))))))))))), below, at) = absurd (omega arith)

-- ---- what an error says

pub memory_only : (kinds : Kinds) (e : Error) → kinds ≡ [] → HasKind kinds e → kind_of e ≡ OutOfMemory
memory_only kinds e none h =
    let at : HasKind [] e = subst (λ (ks : Kinds). HasKind ks e) none h in
    elim at [ inl m ↦ m | inr f ↦ absurd f ]

pub help_or_memory : (kinds : Kinds) (e : Error) → kinds ≡ DisplayHelp ∷ [] → HasKind kinds e
    → (kind_of e ≡ OutOfMemory) ⊎ (kind_of e ≡ DisplayHelp)
help_or_memory kinds e one h =
    let at : HasKind (DisplayHelp ∷ []) e = subst (λ (ks : Kinds). HasKind ks e) one h in
    elim at [ inl m ↦ inl m | inr k ↦ elim k [ inl d ↦ inr d | inr f ↦ absurd f ] ]

-- where the arguments have no kind of error, a refusal is out of memory
pub refused_for_memory : (kinds : Kinds) (e : Error) (r : NoTask) → kinds ≡ [] → HasKind kinds e
    → r ≡ no_task_of (kind_of e) → r ≡ Memory
refused_for_memory kinds e r none h is_r = is_r ∙ ap no_task_of (memory_only kinds e none h)

pub refused_for_help : (kinds : Kinds) (e : Error) (r : NoTask) → kinds ≡ DisplayHelp ∷ [] → HasKind kinds e
    → r ≡ no_task_of (kind_of e) → (r ≡ Help) ⊎ (r ≡ Memory)
refused_for_help kinds e r one h is_r = elim (help_or_memory kinds e one h) [
  | inl m ↦ inr (is_r ∙ ap no_task_of m)
  | inr d ↦ inl (is_r ∙ ap no_task_of d)
]

help_kind : (k : ErrorKind) → no_task_of k ≡ Help → k ≡ DisplayHelp
help_kind DisplayHelp e = refl
help_kind OutOfMemory e = cc
help_kind _ e = cc

-- a refusal is help only if help is among the arguments' kinds
pub help_is_among : (kinds : Kinds) (e : Error) (r : NoTask) → HasKind kinds e
    → r ≡ no_task_of (kind_of e) → r ≡ Help → IsAmong DisplayHelp kinds
help_is_among kinds e r h is_r is_help =
    let at : kind_of e ≡ DisplayHelp = help_kind (kind_of e) (sym is_r ∙ is_help) in
    elim h [
      | inl m ↦ let bad : OutOfMemory ≡ DisplayHelp = sym m ∙ at in cc
      | inr a ↦ subst (λ (x : ErrorKind). IsAmong x kinds) at a
    ]

-- ---- one argument that names a subcommand

abbrev rules : List Rule
rules = (built command_words).top.rules

abbrev names : Names
names = names_of (built command_words)

abbrev start : Walk
start = walk_from nothing_held

-- where an argument leaves the walk, by what it was
abbrev stop_at : Text → Held × Step → Option (Text × List Text)
stop_at word met = (after_step rules word start met.0 met.1).stopped

stop_at-flag : (word : Text) (h : Held) (o : Outcome) → stop_at word (after_flag rules idle word h o) ≡ None
stop_at-flag word h done = refl
stop_at-flag word h (waits id) = refl
stop_at-flag word h plain = refl
stop_at-flag word h refused = refl

stop_at-short : (word : Text) (flags : Option Text) (h : Held) → stop_at word (short_or_plain rules idle word flags h) ≡ None
stop_at-short word (Some flags) h = stop_at-flag word _ _
stop_at-short word None h = refl

stop_at-long : (word : Text) (p : Option (Text × Option Text)) (h : Held) → stop_at word (long_or_other rules idle word p h) ≡ None
stop_at-long word (Some p) h = stop_at-flag word _ _
stop_at-long word None h = stop_at-short word (short_of word) h

stop_at-dashes : (word : Text) (h : Held) (b : Bool)
    → stop_at word (if b then (h, trailing 1) else long_or_other rules idle word (long_of word) h) ≡ None
stop_at-dashes word h true = refl
stop_at-dashes word h false = stop_at-long word (long_of word) h

-- an argument leaves the walk where it names a subcommand
stop_at-word : (word : Text) (m : Option Text)
    → stop_at word (subcommand_or_other rules m idle 1 word nothing_held) ≡ option_map (λ name. (name, [])) m
stop_at-word word (Some name) = refl
stop_at-word word None = stop_at-dashes word nothing_held (bytes_eq word (45 ∷ 45 ∷ []))

stopped : (word : Text) → stop_after rules names (word ∷ []) ≡ option_map (λ name. (name, [])) (subcommand_met names idle word)
unfolding walked
stopped word = stop_at-word word (subcommand_met names idle word)

-- the name that is entered after a walk that met this name
abbrev entered_name : Option Text → Option Text
entered_name m = option_map (λ p. p.0) (entered (built command_words) (option_map (λ name. (name, [])) m))

abbrev answers : Text → Text → Bool
answers name word = answers_to word (name, [])

-- the first of these names that the argument is
abbrev first_met : Text → List Text → Option Text
first_met word [] = None
first_met word (name ∷ others) = if answers name word then Some name else first_met word others

-- the names of all subcommands
abbrev own_names : List Text
own_names = codes "check" ∷ codes "render" ∷ codes "draw" ∷ codes "encode" ∷ codes "image" ∷ codes "play" ∷ codes "emulate" ∷ codes "send" ∷ codes "status" ∷ codes "loop" ∷ codes "help" ∷ []

-- the same for the eleven names, by which of them the argument is
abbrev pub met_if : Bool → Bool → Bool → Bool → Bool → Bool → Bool → Bool → Bool → Bool → Bool → Option Text
met_if c r d e i p m s t l h =
    if c then Some (codes "check") else (if r then Some (codes "render") else (if d then Some (codes "draw") else (if e then Some (codes "encode") else (if i then Some (codes "image") else (if p then Some (codes "play") else (if m then Some (codes "emulate") else (if s then Some (codes "send") else (if t then Some (codes "status") else (if l then Some (codes "loop") else (if h then Some (codes "help") else None))))))))))

met_conds : (c r d e i p m s t l h : Bool) → option_map (λ (s : Text × List Text). s.0)
    (if c then Some (codes "check", []) else (if r then Some (codes "render", []) else (if d then Some (codes "draw", []) else (if e then Some (codes "encode", []) else (if i then Some (codes "image", []) else (if p then Some (codes "play", []) else (if m then Some (codes "emulate", []) else (if s then Some (codes "send", []) else (if t then Some (codes "status", []) else (if l then Some (codes "loop", []) else (if h then Some (codes "help", []) else None)))))))))))
    ≡ met_if c r d e i p m s t l h
met_conds true r d e i p m s t l h = refl
met_conds false true d e i p m s t l h = refl
met_conds false false true e i p m s t l h = refl
met_conds false false false true i p m s t l h = refl
met_conds false false false false true p m s t l h = refl
met_conds false false false false false true m s t l h = refl
met_conds false false false false false false true s t l h = refl
met_conds false false false false false false false true t l h = refl
met_conds false false false false false false false false true l h = refl
met_conds false false false false false false false false false true h = refl
met_conds false false false false false false false false false false true = refl
met_conds false false false false false false false false false false false = refl

met_word : (word : Text) → subcommand_met names idle word ≡ first_met word own_names
met_word word = met_conds (answers (codes "check") word) (answers (codes "render") word) (answers (codes "draw") word) (answers (codes "encode") word) (answers (codes "image") word) (answers (codes "play") word) (answers (codes "emulate") word) (answers (codes "send") word) (answers (codes "status") word) (answers (codes "loop") word) (answers (codes "help") word)

-- a name that is met is entered
entered_if : (c r d e i p m s t l h : Bool) → entered_name (met_if c r d e i p m s t l h) ≡ met_if c r d e i p m s t l h
unfolding clap_on_literals
entered_if true r d e i p m s t l h = refl
entered_if false true d e i p m s t l h = refl
entered_if false false true e i p m s t l h = refl
entered_if false false false true i p m s t l h = refl
entered_if false false false false true p m s t l h = refl
entered_if false false false false false true m s t l h = refl
entered_if false false false false false false true s t l h = refl
entered_if false false false false false false false true t l h = refl
entered_if false false false false false false false false true l h = refl
entered_if false false false false false false false false false true h = refl
entered_if false false false false false false false false false false true = refl
entered_if false false false false false false false false false false false = refl

entered_met : (word : Text) → entered_name (first_met word own_names) ≡ first_met word own_names
entered_met word = entered_if (answers (codes "check") word) (answers (codes "render") word) (answers (codes "draw") word) (answers (codes "encode") word) (answers (codes "image") word) (answers (codes "play") word) (answers (codes "emulate") word) (answers (codes "send") word) (answers (codes "status") word) (answers (codes "loop") word) (answers (codes "help") word)

or_false : (b : Bool) → (b || false) ≡ true → b ≡ true
or_false true e = refl
or_false false e = e

-- the argument is the name that it meets
answers_same : (name word : Text) → answers name word ≡ true → word ≡ name
answers_same name word h = sym ((bytes_eq-Decides name word).0 (or_false (bytes_eq name word) h))

some_same : (x y : Text) → Some x ≡ Some y → x ≡ y
some_same x y e = cc

met_here : (word name found : Text) (others : List Text) (b : Bool) → (b ≡ true → word ≡ name) → (first_met word others ≡ Some found → word ≡ found)
    → (if b then Some name else first_met word others) ≡ Some found → word ≡ found
met_here word name found others true here there e = here refl ∙ some_same name found e
met_here word name found others false here there e = there e

is_met : (word found : Text) (others : List Text) → first_met word others ≡ Some found → word ≡ found
is_met word found [] e = cc
is_met word found (name ∷ others) e = met_here word name found others (answers name word) (answers_same name word) (is_met word found others) e

-- the name that is met at one argument
met_at : (word name : Text) → met_by (word ∷ []) ≡ Some name → first_met word own_names ≡ Some name
met_at word name e =
    let left = stopped word ∙ ap (option_map (λ (met : Text). (met, []))) (met_word word) in
    sym (entered_met word) ∙ sym (ap (λ (s : Option (Text × List Text)). option_map (λ p. p.0) (entered (built command_words) s)) left) ∙ e

-- one argument that meets a name is that name
pub is_word : (texts : List Text) (name : Text) → met_by texts ≡ Some name → length texts ≡ 1 → texts ≡ name ∷ []
is_word [] name e one = absurd (omega arith)
is_word (word ∷ []) name e one = ap (λ (w : Text). w ∷ []) (is_met word name own_names (met_at word name e))
is_word (word ∷ other ∷ rest) name e one = absurd (omega arith)

-- ---- names that ask for a task alone

-- this name alone asks for the task
pub record AskedAlone (name : Text) (task : Task) : Type 0 where
  pub passes : fault_of command_words (name ∷ []) ≡ []
  pub asks : Asks (subcommand_of command_words (name ∷ [])) task
  pub alone : StandsAlone (name ∷ []) task
  pub in_range : InRange task

-- a flag that is off
is_off : Some (codes "false") ≡ Some (codes "true") → ⊥
is_off e = let bad : codes "false" ≡ codes "true" = cc in lengths (ap length bad)
  where
    lengths : length (codes "false") ≡ length (codes "true") → ⊥
    lengths e = omega (arith, e)

check_alone : AskedAlone (codes "check") (Check Hexadecimal false)
unfolding clap_on_literals
check_alone = record { passes = refl; asks = (refl, is_off, is_off); alone = λ nothing. refl; in_range = tt }

render_alone : AskedAlone (codes "render") (Render Hexadecimal false USUAL_LINE_DOTS)
unfolding clap_on_literals
render_alone = record { passes = refl; asks = (refl, is_off, is_off, refl, is_off); alone = λ nothing. refl; in_range = refl }

draw_alone : AskedAlone (codes "draw") (Draw Hexadecimal false USUAL_LINE_DOTS)
unfolding clap_on_literals
draw_alone = record { passes = refl; asks = (refl, is_off, is_off, refl); alone = λ nothing. refl; in_range = refl }

encode_alone : AskedAlone (codes "encode") (Encode Hexadecimal (record { width = USUAL_LINE_DOTS; replacement = None }))
unfolding clap_on_literals
encode_alone = record { passes = refl; asks = (refl, is_off, (refl, refl)); alone = λ nothing. refl; in_range = (refl, tt) }

play_alone : AskedAlone (codes "play") Play
unfolding clap_on_literals
play_alone = record { passes = refl; asks = refl; alone = λ nothing. refl; in_range = tt }

loop_alone : AskedAlone (codes "loop") (Loop USUAL_LINE_DOTS)
unfolding clap_on_literals
loop_alone = record { passes = refl; asks = (refl, refl); alone = λ nothing. refl; in_range = refl }

pub asked_alone : (name : Text) (task : Task) → Contains bare_tasks (name, task) → AskedAlone name task
asked_alone name task (zero, below, at) = subst (λ (p : Text × Task). AskedAlone p.0 p.1) at check_alone
asked_alone name task (suc zero, below, at) = subst (λ (p : Text × Task). AskedAlone p.0 p.1) at render_alone
asked_alone name task (suc (suc zero), below, at) = subst (λ (p : Text × Task). AskedAlone p.0 p.1) at draw_alone
asked_alone name task (suc (suc (suc zero)), below, at) = subst (λ (p : Text × Task). AskedAlone p.0 p.1) at encode_alone
asked_alone name task (suc (suc (suc (suc zero))), below, at) = subst (λ (p : Text × Task). AskedAlone p.0 p.1) at play_alone
asked_alone name task (suc (suc (suc (suc (suc zero)))), below, at) = subst (λ (p : Text × Task). AskedAlone p.0 p.1) at loop_alone
asked_alone name task (suc (suc (suc (suc (suc (suc k))))), below, at) = absurd (omega arith)

-- ---- what a parse of the arguments gives

pub fails_by : {T : Type 0} (a : App) (texts : List Text) (r : Result T Error) → a ≡ command_words
    → (is_simple_and_free a ≡ true → FailsBy (fault_of a texts) r) → FailsBy (fault_of command_words texts) r
fails_by a texts r e h = subst (λ (b : App). FailsBy (fault_of b texts) r) e (h (ap is_simple_and_free e ∙ is_exact))

pub name_of_rows : (m : ArgMatches) → option_map (λ p. p.0) (subcommand_rows_of m) ≡ subcommand_name_of m
name_of_rows m = elim (out-ArgMatches m).subcommand as (λ o. option_map (λ p. p.0) (subcommand_rows o) ≡ option_map (λ b. (out-SubCommand (box_value b)).name.now) o) [ Some b ↦ refl | None ↦ refl ]

pub found_by : (a : App) (texts : List Text) (m : ArgMatches) → a ≡ command_words
    → HasMatchesOf a texts m → subcommand_rows_of m ≡ subcommand_of command_words texts
found_by a texts m e h = (h (ap is_simple e ∙ is_known)).1 ∙ ap (λ (b : App). subcommand_of b texts) e

pub both_parts : (found : Option (Text × List Row)) (name : Text) (rows : List Row) → Some name ≡ option_map (λ p. p.0) found
    → Some rows ≡ option_map (λ p. p.1) found → Some (name, rows) ≡ found
both_parts None name rows e f = cc
both_parts (Some p) name rows e f = let e1 : name ≡ p.0 = cc in let f1 : rows ≡ p.1 = cc in
    ap₂ (λ (x : Text) (y : List Row). Some (x, y)) e1 f1

-- the name and the values that a parse found are those of the arguments
pub is_found : (m : ArgMatches) (texts : List Text) (name : Text) (rows : List Row)
    → subcommand_rows_of m ≡ subcommand_of command_words texts → Some name ≡ subcommand_name_of m
    → Some rows ≡ option_map (λ p. p.1) (subcommand_rows_of m) → Some (name, rows) ≡ subcommand_of command_words texts
is_found m texts name rows found e f = both_parts (subcommand_rows_of m) name rows (e ∙ sym (name_of_rows m)) f ∙ found

pub no_rows : (o : Option (Text × List Row)) → None ≡ option_map (λ p. p.0) o → o ≡ None
no_rows None h = refl
no_rows (Some p) h = cc

-- where a parse met no subcommand, the arguments name none
pub none_found : (m : ArgMatches) (texts : List Text)
    → subcommand_rows_of m ≡ subcommand_of command_words texts → None ≡ subcommand_name_of m → subcommand_of command_words texts ≡ None
none_found m texts found e = sym found ∙ no_rows (subcommand_rows_of m) (e ∙ sym (name_of_rows m))

third : (a b g r : Bool) → (a && (b && (not g && r))) ≡ true → g ≡ false
third true true false r e = refl
third true true true r e = cc
third true false g r e = cc
third false b g r e = cc

-- a command of this shape has no argument that its subcommands share
pub is_local : (c : Command) (s : Shape) → (app_of c).top ≡ s → s.is_plain ≡ true → (out-Command c).has_globals ≡ false
is_local c s e h = third _ _ _ _ (ap (λ (x : Shape). x.is_plain) e ∙ h)

-- the arguments meet the name that was found
pub same_name : (texts : List Text) (name other : Text) (rows : List Row) → Some (name, rows) ≡ subcommand_of command_words texts
    → met_by texts ≡ Some other → name ≡ other
same_name texts name other rows found e = some_same name other (ap (option_map (λ p. p.0)) found ∙ e)

-- a task that sets nothing, and that one argument asks for, stands alone
pub stands_alone : (r : Result Task NoTask) (texts : List Text) (name : Text) (rows : List Row)
    → Some (name, rows) ≡ subcommand_of command_words texts
    → IfOk r (λ task. SetsNothing rows task → length texts ≡ 1) → IfOk r (StandsAlone texts)
stands_alone (Ok task) texts name rows found one = subst (λ o. IsSomeAnd o (λ p. SetsNothing p.1 task → texts ≡ p.0 ∷ [])) found
    (λ nothing. is_word texts name (sym (ap (option_map (λ p. p.0)) found)) (one nothing))
stands_alone (Err e) texts name rows found one = tt

-- and the other way round
pub one_word : (texts : List Text) (task : Task) (name : Text) (rows : List Row) → Some (name, rows) ≡ subcommand_of command_words texts
    → StandsAlone texts task → SetsNothing rows task → length texts ≡ 1
one_word texts task name rows found alone nothing =
    ap length (subst (λ o. IsSomeAnd o (λ p. SetsNothing p.1 task → texts ≡ p.0 ∷ [])) (sym found) alone nothing)
