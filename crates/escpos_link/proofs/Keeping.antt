-- What holds for a line holds after each event.
use Rattle.std.proofs.Common.{◌≡◌, ◌≢◌, inl, ℕ, List, [], ◌∷◌, ◌++◌, take, drop, Option, Some, None, refl, sym, ◌∙◌, ap, subst, append_assoc, append-nil, IsTrue}
use Rattle.std.specs.Prelude.{option_map}
use Rattle.std.specs.List.{AllByRecursion}
use Rattle.escpos_command.specs.declared.answer.Answer.{Answer}
use Rattle.escpos_command.specs.declared.command.Command.{Command}
use Rattle.escpos_command.specs.CommandTable.{AreCommands}
use Rattle.escpos_command.specs.Answers.{AreWholeAnswers, Hears, answer_bytes, is_answer, spell_answers}
use Rattle.escpos_printer.specs.declared.condition.Condition.{Condition}
use Rattle.escpos_printer.specs.declared.printer.FeedStop.{FeedStop}
use Rattle.escpos_printer.specs.declared.printer.FeedStop.TheVariants as stop
use Rattle.escpos_printer.specs.Feeds.{PrinterView, Feeds}
use Rattle.escpos_printer.specs.Blocks.{with_one_block}
use Rattle.escpos_printer.specs.Replies.{after_change, replies}
use Rattle.escpos_host.specs.Machine.{HostView, IsSound, Phase, Down, Opening, Open}
use Rattle.escpos_link.specs.EventTable.{answers_left, delivered, ended_fed, hung_up, left_by, live_fed, live_left, moved, off_link, on_its_way, with_host, with_new_link, with_printer, without_first}
use Rattle.escpos_link.specs.Line.{IsLine, LineView}

abbrev pub AreAnswers : List Answer → Type 0
AreAnswers answers = AllByRecursion (λ a. IsTrue (is_answer a)) answers

none_whole : AreWholeAnswers []
none_whole = ([], record { in_range = tt; whole = refl; rest_is = inl refl })

-- ## The host's calls

-- The host is up as before, with the same half answer.
pub with_host_kept : (l : LineView) (host : HostView) → IsLine l → host.half ≡ l.host.half → (host.phase ≡ Down → l.host.phase ≡ Down)
    → (l.host.phase ≡ Down → host.phase ≡ Down) → IsLine (with_host l host)
with_host_kept l host i half from to = record {
  down = λ e. i.down (from e);
  alone = λ up. i.alone (λ e. up (to e));
  quiet = λ e. i.quiet (from e);
  whole = subst (λ bs. AreWholeAnswers (bs ++ l.coming)) (sym half) i.whole;
  fitting = i.fitting;
}

some_none : (bytes : List ℕ) → Some bytes ≡ None → ⊥
some_none bytes e = cc e

pub opened_kept : (l : LineView) (host : HostView) → IsLine l → l.host.phase ≡ Down → host.phase ≡ Opening l.host.next → host.half ≡ [] → IsLine (with_new_link l host)
opened_kept l host i is_down opening none = record {
  down = λ e. let bad : Opening l.host.next ≡ Down = sym opening ∙ e in absurd cc;
  alone = λ up e. absurd (some_none [] e);
  quiet = λ e. let bad : Opening l.host.next ≡ Down = sym opening ∙ e in absurd cc;
  whole = subst AreWholeAnswers (sym (ap (λ v. v ++ l.coming) none ∙ i.quiet is_down)) none_whole;
  fitting = i.fitting;
}

none_mapped : (f : List ℕ → List ℕ) (live : Option (List ℕ)) → live ≡ None → option_map f live ≡ None
none_mapped f live e = ap (option_map f) e

mapped_none : (f : List ℕ → List ℕ) (live : Option (List ℕ)) → option_map f live ≡ None → live ≡ None
mapped_none f None e = refl
mapped_none f (Some bytes) e = absurd cc

pub moved_kept : (l : LineView) (n : ℕ) → IsLine l → IsLine (moved l n)
moved_kept l n i =
    let more = λ (bytes : List ℕ). bytes ++ take n l.host.out in
    record {
      down = λ e. none_mapped more l.live (i.down e);
      alone = λ up e. i.alone up (mapped_none more l.live e);
      quiet = i.quiet;
      whole = i.whole;
      fitting = i.fitting;
    }

-- ## Links that go

left_none : (ended : List (List ℕ)) (live : Option (List ℕ)) → live ≡ None → live_left ended live ≡ None
left_none [] live e = refl
left_none (bytes ∷ others) live e = e

left_alone : (ended : List (List ℕ)) (live : Option (List ℕ)) → (live ≡ None → ended ≡ []) → live_left ended live ≡ None → drop 1 ended ≡ []
left_alone [] live alone e = refl
left_alone (bytes ∷ others) live alone e = ap (drop 1) (alone e)

pub without_first_kept : (l : LineView) → IsLine l → IsLine (without_first l)
without_first_kept l i = record {
  down = λ e. left_none l.ended l.live (i.down e);
  alone = λ up e. left_alone l.ended l.live (i.alone up) e;
  quiet = i.quiet;
  whole = i.whole;
  fitting = i.fitting;
}

-- The host is down, and so off its link.
pub off_link_kept : (l : LineView) (host : HostView) → IsLine l → host.phase ≡ Down → host.half ≡ [] → IsLine (off_link (with_host l host))
off_link_kept l host i is_down half = record {
  down = λ e. refl;
  alone = λ up. absurd (up is_down);
  quiet = λ e. refl;
  whole = subst (λ bs. AreWholeAnswers (bs ++ [])) (sym half) none_whole;
  fitting = i.fitting;
}

hung_up_phase : (phase : Phase) (h : HostView) → phase ≡ h.phase → (hung_up phase h).phase ≡ Down
hung_up_phase Down h e = sym e
hung_up_phase (Opening first) h e = refl
hung_up_phase (Open flight) h e = refl

hung_up_half : (phase : Phase) (h : HostView) → phase ≡ h.phase → IsSound h → (hung_up phase h).half ≡ []
hung_up_half Down h e sound = (sound.quiet (sym e)).1
hung_up_half (Opening first) h e sound = refl
hung_up_half (Open flight) h e sound = refl

pub drop_kept : (l : LineView) → IsLine l → IsSound l.host → IsLine (off_link (with_host l (hung_up l.host.phase l.host)))
drop_kept l i sound =
    off_link_kept l (hung_up l.host.phase l.host) i (hung_up_phase l.host.phase l.host refl) (hung_up_half l.host.phase l.host refl sound)

-- ## The printer

fed_none : (ended : List (List ℕ)) (live : Option (List ℕ)) (k : ℕ) → live ≡ None → live_fed ended live k ≡ None
fed_none [] live k e = none_mapped (drop k) live e
fed_none (bytes ∷ others) live k e = e

none_fed : (ended : List (List ℕ)) (live : Option (List ℕ)) (k : ℕ) → live_fed ended live k ≡ None → live ≡ None
none_fed [] live k e = mapped_none (drop k) live e
none_fed (bytes ∷ others) live k e = e

-- The answers that wait are those of before, and perhaps answers to commands.
pub with_printer_kept : (l : LineView) (printer : PrinterView) → IsLine l → AreAnswers printer.waiting → IsLine (with_printer l printer)
with_printer_kept l printer i answers = record { down = i.down; alone = i.alone; quiet = i.quiet; whole = i.whole; fitting = answers }

pub delivered_kept : (l : LineView) (k : ℕ) (printer : PrinterView) → IsLine l → AreAnswers printer.waiting → IsLine (delivered l k printer)
delivered_kept l k printer i answers = record {
  down = λ e. fed_none l.ended l.live k (i.down e);
  alone = λ up e. ap (λ links. ended_fed links k) (i.alone up (none_fed l.ended l.live k e));
  quiet = i.quiet;
  whole = i.whole;
  fitting = answers;
}

pub left_by_kept : (why : FeedStop) (l : LineView) → IsLine l → IsLine (left_by why l)
left_by_kept stop.All l i = i
left_by_kept stop.AnswersFull l i = i
left_by_kept stop.Offline l i = i
left_by_kept (stop.Fault at why) l i = without_first_kept l i
left_by_kept stop.Memory l i = i

-- Answers to commands are answers that a host knows, and so is what waits of answers, and once the sensors say something new.
pub record Fitting : Type 0 where
  pub replies : (condition : Condition) (cs : List Command) → AreCommands cs → AreAnswers (replies condition cs)
  pub one_block : (answers : List Answer) → AreAnswers answers → AreAnswers (with_one_block answers)
  pub change : (automatic : ℕ) (old new : Condition) (waiting : List Answer) → AreAnswers waiting → AreAnswers (after_change automatic old new waiting)

all_append : (some others : List Answer) → AreAnswers some → AreAnswers others → AreAnswers (some ++ others)
all_append [] others h k = k
all_append (a ∷ some) others h k = (h.0, all_append some others h.1 k)

pub fed_answers : Fitting → (before after : PrinterView) (piece : List ℕ) (k : ℕ) (why : FeedStop) → AreAnswers before.waiting → Feeds before piece k why after
    → AreAnswers after.waiting
fed_answers fitting before after piece k why answers f =
    let same : after.waiting ≡ with_one_block (before.waiting ++ replies before.condition f.commands) = ap (λ (p : PrinterView). p.waiting) f.leaves ∙ f.took.answers in
    subst AreAnswers (sym same)
    (fitting.one_block (before.waiting ++ replies before.condition f.commands)
    (all_append before.waiting (replies before.condition f.commands) answers (fitting.replies before.condition f.commands f.took.ran.reads.commands)))

-- ## Answers on their way

abbrev pub Joined : Type 0
Joined = (a b : List ℕ) (some others : List Answer) (r s : List ℕ) → Hears a some r → Hears (r ++ b) others s → Hears (a ++ b) (some ++ others) s

one_heard : (a : Answer) → IsTrue (is_answer a) → Hears (answer_bytes a) (a ∷ []) []
one_heard a known =
    record { in_range = (known, tt); whole = sym (append-nil (spell_answers (a ∷ [])) ∙ append-nil (answer_bytes a)); rest_is = inl refl }

pub on_its_way_kept : Joined → (l : LineView) (a : Answer) (answers : List Answer) → IsLine l → l.printer.waiting ≡ a ∷ answers → l.live ≢ None
    → IsLine (on_its_way l a answers)
on_its_way_kept joined l a answers i waits live =
    let known = subst AreAnswers waits i.fitting in
    let whole = i.whole in
    record {
      down = i.down;
      alone = i.alone;
      quiet = λ e. absurd (live (i.down e));
      whole = (
        whole.0 ++ a ∷ [],
        subst (λ bs. Hears bs (whole.0 ++ a ∷ []) []) (append_assoc l.host.half l.coming (answer_bytes a))
            (joined (l.host.half ++ l.coming) (answer_bytes a) whole.0 (a ∷ []) [] [] whole.1 (one_heard a known.0)),
      );
      fitting = known.1;
    }

pub handed_kept : (l : LineView) (a : Answer) (answers : List Answer) → IsLine l → l.printer.waiting ≡ a ∷ answers
    → IsLine (with_printer l (answers_left l.printer answers))
handed_kept l a answers i waits = with_printer_kept l (answers_left l.printer answers) i (subst AreAnswers waits i.fitting).1
