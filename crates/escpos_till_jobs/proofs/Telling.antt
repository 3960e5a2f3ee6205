-- A call that is followed from news to news.
use Rattle.std.proofs.Common.{ℕ, Bool, true, false, ◌≡◌, ◌+◌, ◌≤◌, List, [], ◌∷◌, ◌++◌, length, inl, inr, refl, sym, ◌∙◌, ap, subst, arith, append-nil, append_assoc, length-append}
use Rattle.std.specs.Prelude.{IsTrue, ◌⊎◌}
use Rattle.std.proofs.KnownBytes.{Appends-trans}
use Rattle.escpos_till.specs.declared.note.TillNote.{TillNote}
use Rattle.escpos_till.specs.declared.note.TillRefusal.{TillRefusal}
use Rattle.escpos_till.specs.Driver.{Breaks, Call, Calls, Confirms, Deed, DidAll, Ends, Gives, HangsUp, IsSaid, IsTold, Keeps, Learns, Links, Loses, Misses, Pauses, Puts, RanQuietly, RanUpTo, SaysNothing, Tells, TellsNothing}
use Rattle.escpos_till.proofs.DriverLemmas.{not_told as says_and_tells_nothing}
use Rattle.escpos_till.specs.Machine.{MachineView, Rests}
use Rattle.escpos_till_jobs.specs.declared.outcome.Outcome.{Outcome}
use Rattle.escpos_till_jobs.specs.declared.outcome.Outcome.TheVariants as outcome
use Rattle.escpos_till_jobs.specs.declared.outcome.TheConstants.{MOST_DEEDS}
use Rattle.escpos_till_jobs.specs.Lines.{news_text, pause_line, recorded_line}
use Rattle.escpos_till_jobs.specs.Outcomes.{Follows}
use Rattle.escpos_till_jobs.specs.Outputs.{Output, Took}
use Rattle.escpos_till_jobs.specs.News.{BecomesWith, FollowsWith, TellsNews, news_lines}

-- ## Rows of deeds

pub did_both : {D : Type 0} (did : D → Deed → D → Type 0) (m : MachineView) (old : D) (ds : List Deed) (mid : MachineView) (between : D) (es : List Deed) (after : MachineView) (new : D)
    → DidAll did m old ds mid between → DidAll did mid between es after new → DidAll did m old (ds ++ es) after new
did_both {D} did m old [] mid between es after new (is, same) more = subst (λ k. DidAll did k old es after new) is (subst (λ (o : D). DidAll did mid o es after new) same more)
did_both did m old (d ∷ ds) mid between es after new (one, other, turns, sound, first, rest) more =
    (one, other, turns, sound, first, did_both did one other ds mid between es after new rest more)

quiet_both : (ds es : List Deed) → TellsNothing ds → TellsNothing es → TellsNothing (ds ++ es)
quiet_both [] es some more = more
quiet_both (d ∷ ds) es some more = (some.0, quiet_both ds es some.1 more)

silent_quiet : (ds : List Deed) → SaysNothing ds → TellsNothing ds
silent_quiet [] silent = tt
silent_quiet (d ∷ ds) silent = (says_and_tells_nothing d silent.0, silent_quiet ds silent.1)

-- Deeds by which nothing is said have no line.
silent_first : (d : Deed) (ds : List Deed) → (IsSaid d → ⊥) → news_lines (d ∷ ds) ≡ news_lines ds
silent_first (Tells n) ds never = absurd (never tt)
silent_first (Pauses number why) ds never = absurd (never tt)
silent_first (Confirms number) ds never = absurd (never tt)
silent_first (Keeps e and_then) ds never = refl
silent_first (Loses e and_then why) ds never = refl
silent_first (Learns others) ds never = refl
silent_first Links ds never = refl
silent_first Misses ds never = refl
silent_first (Puts bytes) ds never = refl
silent_first (Breaks bytes why) ds never = refl
silent_first (Gives room bytes) ds never = refl
silent_first (Ends why) ds never = refl
silent_first HangsUp ds never = refl

silent_lines : (ds es : List Deed) → SaysNothing ds → news_lines (ds ++ es) ≡ news_lines es
silent_lines [] es silent = refl
silent_lines (d ∷ ds) es silent = silent_first d (ds ++ es) silent.0 ∙ silent_lines ds es silent.1

first_lines : (d : Deed) (ds es : List Deed) → news_lines (ds ++ es) ≡ news_lines ds ++ news_lines es → news_lines (d ∷ (ds ++ es)) ≡ news_lines (d ∷ ds) ++ news_lines es
first_lines (Pauses number why) ds es same = ap (λ v. pause_line number why ++ v) same ∙ sym (append_assoc (pause_line number why) (news_lines ds) (news_lines es))
first_lines (Tells n) ds es same = same
first_lines (Confirms number) ds es same = ap (λ v. recorded_line number ++ v) same ∙ sym (append_assoc (recorded_line number) (news_lines ds) (news_lines es))
first_lines (Keeps e and_then) ds es same = same
first_lines (Loses e and_then why) ds es same = same
first_lines (Learns others) ds es same = same
first_lines Links ds es same = same
first_lines Misses ds es same = same
first_lines (Puts bytes) ds es same = same
first_lines (Breaks bytes why) ds es same = same
first_lines (Gives room bytes) ds es same = same
first_lines (Ends why) ds es same = same
first_lines HangsUp ds es same = same

lines_both : (ds es : List Deed) → news_lines (ds ++ es) ≡ news_lines ds ++ news_lines es
lines_both [] es = refl
lines_both (d ∷ ds) es = first_lines d ds es (lines_both ds es)

-- ## What is printed

pub took_both : (a b c : Output) (x y : List ℕ) → Took a x b → Took b y c → Took a (x ++ y) c
took_both a b c x y first more = record { put = Appends-trans a.written b.written c.written x y first.put more.put; well = λ well. more.well (first.well well) }

-- No further line is printed for deeds by which nothing is said.
still_told : (told : Bool) (a b : Output) (ds es : List Deed) → news_lines es ≡ [] → TellsNews told a ds b → TellsNews told a (ds ++ es) b
still_told false a b ds es none tells = tells
still_told true a b ds es none tells =
    let same : news_lines ds ≡ news_lines (ds ++ es) = sym (lines_both ds es ∙ ap (λ v. news_lines ds ++ v) none ∙ append-nil (news_lines ds)) in
    subst (λ v. Took a v b) same tells

-- ## From news to news

-- These deeds were done so far, and so many may still be; the news among them is printed.
pub record Following {D : Type 0} (did : D → Deed → D → Type 0) (asked : MachineView) (old : D) (before : Output) (told : Bool) (now : MachineView) (new : D) (heard : Output) (left : ℕ) : Type 0 where
  pub deeds : List Deed
  pub did_all : DidAll did asked old deeds now new
  pub quiet : TellsNothing deeds
  pub count : length deeds + left ≡ MOST_DEEDS
  pub tells : TellsNews told before deeds heard
  pub goes_on : Rests now.stage → ⊥

silent_none : (ds : List Deed) → SaysNothing ds → news_lines ds ≡ []
silent_none ds silent = ap news_lines (sym (append-nil ds)) ∙ silent_lines ds [] silent

pub none_more : {D : Type 0} (did : D → Deed → D → Type 0) (m : MachineView) (old : D) (left : ℕ) → left ≤ 0 → RanQuietly did m old m old left
none_more did m old left none =
    let zero_is : 0 ≡ left = omega (arith, none) in
    (record { run = record { deeds = []; did_all = (refl, refl) }; turns = zero_is; quiet = tt }, tt)

-- No more is done.
pub gives_up : {D : Type 0} (did : D → Deed → D → Type 0) (asked : MachineView) (old : D) (before : Output) (told : Bool) (mid : MachineView) (between : D) (heard : Output) (left : ℕ) (after : MachineView) (new : D)
    → Following did asked old before told mid between heard left → RanQuietly did mid between after new left → FollowsWith did asked old before outcome.GivenUp told after new heard
gives_up did asked old before told mid between heard left after new far (ran, silent) = (
  record {
    run = record { deeds = far.deeds ++ ran.run.deeds; did_all = did_both did asked old far.deeds mid between ran.run.deeds after new far.did_all ran.run.did_all };
    turns = length-append far.deeds ran.run.deeds ∙ ap (λ n. length far.deeds + n) ran.turns ∙ far.count;
    quiet = quiet_both far.deeds ran.run.deeds far.quiet ran.quiet;
  },
  still_told told before heard far.deeds ran.run.deeds (silent_none ran.run.deeds silent) far.tells,
)

pub not_told : {D : Type 0} (did : D → Deed → D → Type 0) (asked : MachineView) (old : D) (before : Output) (told : Bool) (mid : MachineView) (between : D) (heard : Output) (left : ℕ) (after : MachineView) (new : D)
    → Following did asked old before told mid between heard left → (Rests mid.stage × (after ≡ mid) × (new ≡ between)) ⊎ RanQuietly did mid between after new left
    → FollowsWith did asked old before outcome.GivenUp told after new heard
not_told did asked old before told mid between heard left after new far (inl rests) = absurd (far.goes_on rests.0)
not_told did asked old before told mid between heard left after new far (inr ran) = gives_up did asked old before told mid between heard left after new far ran

-- Its owner is told what came of the call.
pub told_at_last : {D : Type 0} (did : D → Deed → D → Type 0) (asked : MachineView) (old : D) (before : Output) (told : Bool) (mid : MachineView) (between : D) (heard : Output) (left later : ℕ) (n : TillNote)
    (after : MachineView) (new : D) → Following did asked old before told mid between heard left → RanUpTo did mid between n left later after new → Rests after.stage
    → FollowsWith did asked old before (outcome.Told n) told after new heard
told_at_last did asked old before told mid between heard left later n after new far (inl (final, (ran, silent, counts, rests))) is =
    let whole = did_both did asked old far.deeds mid between (ran.before ++ Tells n ∷ []) after new far.did_all ran.did_all in
    let long : length (far.deeds ++ ran.before) ≡ length far.deeds + length ran.before = length-append far.deeds ran.before in (
      record {
        before = far.deeds ++ ran.before;
        did_all = subst (λ ds. DidAll did asked old ds after new) (sym (append_assoc far.deeds ran.before (Tells n ∷ []))) whole;
        turns = let count = far.count in omega (arith, long, counts, count);
      },
      still_told told before heard far.deeds ran.before (silent_none ran.before silent) far.tells,
    )
told_at_last did asked old before told mid between heard left later n after new far (inr (inl (ran, counts))) is = absurd (ran.goes_on is)
told_at_last did asked old before told mid between heard left later n after new far (inr (inr (ran, counts))) is = absurd (ran.goes_on is)

news_told : (told printed : Bool) (before heard after : Output) (ds es : List Deed) (text : List ℕ) → news_lines es ≡ text → TellsNews told before ds heard
    → (IsTrue printed → IsTrue told × Took heard text after) → ((¬ IsTrue told) → (after ≡ heard) × (¬ IsTrue printed)) → (IsTrue told → (¬ IsTrue printed) → IsTrue after.failed)
    → TellsNews printed before (ds ++ es) after
news_told true true before heard after ds es text lines tells took stays failed =
    let same : news_lines ds ++ text ≡ news_lines (ds ++ es) = sym (lines_both ds es ∙ ap (λ v. news_lines ds ++ v) lines) in
    subst (λ v. Took before v after) same (took_both before heard after (news_lines ds) text tells (took refl).1)
news_told true false before heard after ds es text lines tells took stays failed = failed refl (λ bad. cc bad)
news_told false true before heard after ds es text lines tells took stays failed = absurd (cc (took refl).0)
news_told false false before heard after ds es text lines tells took stays failed = subst (λ (o : Output). IsTrue o.failed) (sym (stays (λ bad. cc bad)).0) tells

-- News is told by this deed, and the call goes on.
tells_by : {D : Type 0} (did : D → Deed → D → Type 0) (asked : MachineView) (old : D) (before : Output) (told printed : Bool) (mid : MachineView) (between : D) (heard : Output) (left later : ℕ) (text : List ℕ) (d : Deed)
    (deeds : List Deed) (after : MachineView) (new : D) (end : Output) → Following did asked old before told mid between heard left → (IsTold d → ⊥) → news_lines (d ∷ []) ≡ text → SaysNothing deeds
    → DidAll did mid between (deeds ++ d ∷ []) after new → length deeds + 1 + later ≡ left → (Rests after.stage → ⊥)
    → (IsTrue printed → IsTrue told × Took heard text end) → ((¬ IsTrue told) → (end ≡ heard) × (¬ IsTrue printed)) → (IsTrue told → (¬ IsTrue printed) → IsTrue end.failed)
    → Following did asked old before printed after new end later
tells_by did asked old before told printed mid between heard left later text d deeds after new end far never line silent did_all counts goes_on took stays failed =
    let es : List Deed = deeds ++ d ∷ [] in
    let lines : news_lines es ≡ text = silent_lines deeds (d ∷ []) silent ∙ line in
    let long : length (far.deeds ++ es) ≡ length far.deeds + (length deeds + 1) = length-append far.deeds es ∙ ap (λ k. length far.deeds + k) (length-append deeds (d ∷ [])) in
    record {
      deeds = far.deeds ++ es;
      did_all = did_both did asked old far.deeds mid between es after new far.did_all did_all;
      quiet = quiet_both far.deeds es far.quiet (quiet_both deeds (d ∷ []) (silent_quiet deeds silent) (never, tt));
      count = let count = far.count in omega (arith, long, counts, count);
      tells = news_told told printed before heard end far.deeds es text lines far.tells took stays failed;
      goes_on = goes_on;
    }

-- News is told, and the call goes on.
pub news_on : {D : Type 0} (did : D → Deed → D → Type 0) (asked : MachineView) (old : D) (before : Output) (told printed : Bool) (mid : MachineView) (between : D) (heard : Output) (left later : ℕ) (n : TillNote)
    (after : MachineView) (new : D) (end : Output) → Following did asked old before told mid between heard left → RanUpTo did mid between n left later after new → (Rests after.stage → ⊥)
    → (IsTrue printed → IsTrue told × Took heard (news_text n) end) → ((¬ IsTrue told) → (end ≡ heard) × (¬ IsTrue printed)) → (IsTrue told → (¬ IsTrue printed) → IsTrue end.failed)
    → Following did asked old before printed after new end later
news_on did asked old before told printed mid between heard left later n after new end far (inl (final, (ran, silent, counts, rests))) goes took stays failed = absurd (goes rests)
news_on did asked old before told printed mid between heard left later n after new end far (inr (inl (ran, counts))) goes took stays failed =
    tells_by did asked old before told printed mid between heard left later (news_text n) (Pauses ran.number ran.why) ran.before after new end far (λ never. never)
    (append-nil (pause_line ran.number ran.why) ∙ ap news_text (sym ran.note_is)) ran.quiet ran.did_all counts ran.goes_on took stays failed
news_on did asked old before told printed mid between heard left later n after new end far (inr (inr (ran, counts))) goes took stays failed =
    tells_by did asked old before told printed mid between heard left later (news_text n) (Confirms ran.number) ran.before after new end far (λ never. never)
    (append-nil (recorded_line ran.number) ∙ ap news_text (sym ran.note_is)) ran.quiet ran.did_all counts ran.goes_on took stays failed

-- What followed is what came of the call.
pub became_with : {D : Type 0} (did : D → Deed → D → Type 0) (Refuses : TillRefusal → Type 0) (m asked : MachineView) (old : D) (call : Call) (before : Output) (o : Outcome) (told : Bool) (after : MachineView) (new : D) (end : Output)
    → Calls m call asked → FollowsWith did asked old before o told after new end → BecomesWith did Refuses m old call before o told after new end
became_with did Refuses m asked old call before (outcome.Refused why) told after new end calls follows = absurd follows
became_with did Refuses m asked old call before (outcome.Told n) told after new end calls (ran, tells) = (record { asked = asked; calls = calls; runs = ran }, tells)
became_with did Refuses m asked old call before outcome.GivenUp told after new end calls (ran, tells) = (record { asked = asked; calls = calls; runs = ran }, tells)

-- The same, whatever was printed.
pub follows_so : {D : Type 0} (did : D → Deed → D → Type 0) (asked : MachineView) (old : D) (before : Output) (o : Outcome) (told : Bool) (after : MachineView) (new : D) (end : Output)
    → FollowsWith did asked old before o told after new end → Follows did asked old o after new
follows_so did asked old before (outcome.Refused why) told after new end follows = follows
follows_so did asked old before (outcome.Told n) told after new end follows = follows.0
follows_so did asked old before outcome.GivenUp told after new end follows = follows.0
