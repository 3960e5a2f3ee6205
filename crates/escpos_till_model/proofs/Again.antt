-- A receipt isn't sent again once an answer to the closing mark of one of its tries was heard.
use Rattle.std.proofs.Common.{ℕ, ◌≡◌, ◌-◌, ◌⊎◌, inl, inr, Option, Some, None, List, [], ◌∷◌, ◌++◌, refl, sym, ◌∙◌, ap, subst, append-nil, append_assoc, arith}
use Rattle.escpos_host.specs.declared.host.HostEvent.{HostEvent}
use Rattle.escpos_host.specs.declared.host.HostEvent.TheVariants as heard
use Rattle.escpos_host.specs.declared.send.SendFault.{SendFault}
use Rattle.escpos_host.specs.Earlier.{with_earlier}
use Rattle.escpos_host.specs.Machine.{HostView}
use Rattle.escpos_link.specs.Wire.{WireView}
use Rattle.escpos_till.specs.declared.book.Book.{Book}
use Rattle.escpos_till.specs.declared.entry.Entry.{Entry}
use Rattle.escpos_till.specs.declared.entry.Entry.TheVariants as entry
use Rattle.escpos_till.specs.declared.further.Further.{Further}
use Rattle.escpos_till.specs.declared.stage.Stage.{Stage}
use Rattle.escpos_till.specs.declared.stage.Stage.TheVariants as stage
use Rattle.escpos_till.specs.declared.stage.Talk.{Talk}
use Rattle.escpos_till.specs.declared.note.TillNote.{TillNote}
use Rattle.escpos_till.specs.declared.stage.Then.{Then}
use Rattle.escpos_till.specs.declared.stage.Then.TheVariants as then
use Rattle.std.specs.List.{AllByRecursion}
use Rattle.escpos_till.specs.Book.{IsBookOf}
use Rattle.escpos_till.specs.Entries.{IsLedger, MayFollow, Waits, cancelled}
use Rattle.escpos_till.specs.Entries.{heard as heard_in}
use Rattle.escpos_till.specs.Further.{GoesFurther, heard_by}
use Rattle.escpos_till.specs.Learning.{EndsCancelled, IsOthers, Revises}
use Rattle.escpos_till.specs.Machine.{Ended, MachineView, Turns as MachineTurns, connected, hung_up, not_connected, printed}
use Rattle.escpos_till.specs.Tries.{ClosesTry, HasTry, tries}
use Rattle.escpos_till_model.specs.declared.event.Happening.{Happening}
use Rattle.escpos_till_model.specs.declared.event.Happening.TheVariants as event
use Rattle.escpos_till_model.specs.Again.{HearsAnswer, IsAnswerTo, IsLostFirst, IsNotTriedAgain}
use Rattle.escpos_till_model.specs.Kept.{Hand}
use Rattle.escpos_till_model.specs.Known.{Accounted, BookMayLag, Holds, IsWorld}
use Rattle.escpos_till_model.specs.Receipts.{Among, Extends, IsEndOf}
use Rattle.escpos_till_model.specs.World.{Happens, Runs, World, running}
use Rattle.escpos_till_model.proofs.Accounts.{no_place, none_after}
use Rattle.escpos_till_model.proofs.EntryFacts.{among_cons, among_either, among_nothing, cancelled_append}
use Rattle.escpos_till_model.proofs.LateLemmas.{has_tried}
use Rattle.escpos_till_model.proofs.LinesKept.{LineLaws}
use Rattle.escpos_till_model.proofs.WorldCalls.{parts}
use Rattle.escpos_till_model.proofs.WorldLearns.{cancelled_so}
use Rattle.escpos_till_model.proofs.WorldStore.{talking_book, talking_holds}
use Rattle.escpos_till_model.proofs.Worlds.{entries_last, over_time, whatever}

-- ## It is to be kept that the receipt is recorded

-- What follows then: the link is given up, or the next receipt is sent.
abbrev Records : ℕ → Then → Type 0
Records number (then.Recorded n) = n ≡ number
Records number (then.GoOn n tried due) = n ≡ number
Records number next = ⊥

abbrev IsRecordingAt : ℕ → Stage → Type 0
IsRecordingAt number (stage.Keeping e next) = ((hd : ℕ) × (e ≡ entry.Recorded number hd)) × Records number next
IsRecordingAt number s = ⊥

printed_at : (b : Book) (n number : ℕ) (h : HostView) → n ≡ number → IsRecordingAt number (printed b n h)
printed_at b n number h same = ((heard_by b h, ap (λ k. entry.Recorded k (heard_by b h)) same), same)

further_at : (b : Book) (n number : ℕ) (further : Option Further) (h : HostView) (s : Stage) → n ≡ number → GoesFurther b n further h s → IsRecordingAt number s
further_at b n number further h s same goes = subst (IsRecordingAt number) (sym goes.stage_is) ((heard_by b h, ap (λ k. entry.Recorded k (heard_by b h)) same), same)

-- The machine is to keep that, and these entries are there, and after them only such as others add.
record IsRecording (number : ℕ) (kept : List Entry) (now : World) : Type 0 where
  m : MachineView
  is : now.machine ≡ Some m
  at : IsRecordingAt number m.stage
  more : List Entry
  each : AllByRecursion IsOthers more
  same : now.kept ≡ kept ++ more

one_machine : (a b : MachineView) → Some a ≡ Some b → a ≡ b
one_machine a b e = cc e

-- The machine that is there stands so.
stands_so : (number : ℕ) (kept : List Entry) (now : World) (m : MachineView) → now.machine ≡ Some m → IsRecording number kept now → IsRecordingAt number m.stage
stands_so number kept now m was r = subst (λ x. IsRecordingAt number x.stage) (one_machine r.m m (sym r.is ∙ was)) r.at

-- So it does still, where the machine has become this one.
still : (number : ℕ) (kept : List Entry) (now new : World) (after : MachineView) (wire : WireView) (notes : List TillNote) → IsRecording number kept now
    → new ≡ running after now.kept wire notes → IsRecordingAt number after.stage → IsRecording number kept new
still number kept now new after wire notes r is at =
    subst (IsRecording number kept) (sym is) (record { m = after; is = refl; at = at; more = r.more; each = r.each; same = r.same })

-- It stands as before.
same_at : (number : ℕ) (m after : MachineView) → after ≡ m → IsRecordingAt number m.stage → IsRecordingAt number after.stage
same_at number m after same at = subst (λ x. IsRecordingAt number x.stage) (sym same) at

connected_at : (number : ℕ) (s : Stage) (m : MachineView) → IsRecordingAt number s → connected s m ≡ m
connected_at number (stage.Keeping e next) m at = refl
connected_at number stage.AtRest m at = absurd at
connected_at number (stage.Connecting due) m at = absurd at
connected_at number (stage.Talking talk) m at = absurd at
connected_at number (stage.HangingUp n) m at = absurd at
connected_at number (stage.Telling n) m at = absurd at
connected_at number stage.Failed m at = absurd at

missed_at : (number : ℕ) (s : Stage) (m : MachineView) → IsRecordingAt number s → not_connected s m ≡ m
missed_at number (stage.Keeping e next) m at = refl
missed_at number stage.AtRest m at = absurd at
missed_at number (stage.Connecting due) m at = absurd at
missed_at number (stage.Talking talk) m at = absurd at
missed_at number (stage.HangingUp n) m at = absurd at
missed_at number (stage.Telling n) m at = absurd at
missed_at number stage.Failed m at = absurd at

hung_at : (number : ℕ) (s : Stage) (m : MachineView) → IsRecordingAt number s → hung_up s m ≡ m
hung_at number (stage.Keeping e next) m at = refl
hung_at number stage.AtRest m at = absurd at
hung_at number (stage.Connecting due) m at = absurd at
hung_at number (stage.Talking talk) m at = absurd at
hung_at number (stage.HangingUp n) m at = absurd at
hung_at number (stage.Telling n) m at = absurd at
hung_at number stage.Failed m at = absurd at

ended_at : (number : ℕ) (s : Stage) (why : SendFault) (m after : MachineView) → IsRecordingAt number s → Ended s why m after → after ≡ m
ended_at number (stage.Keeping e next) why m after at ended = ended
ended_at number stage.AtRest why m after at ended = absurd at
ended_at number (stage.Connecting due) why m after at ended = absurd at
ended_at number (stage.Talking talk) why m after at ended = absurd at
ended_at number (stage.HangingUp n) why m after at ended = absurd at
ended_at number (stage.Telling n) why m after at ended = absurd at
ended_at number stage.Failed why m after at ended = absurd at

-- Nothing but an entry that is kept, a crash or a failure of the store changes that.
abbrev Stays : Happening → Type 0
Stays event.Keep = ⊥
Stays event.Crash = ⊥
Stays (event.FailWith why) = ⊥
Stays (event.FailWithBoth why) = ⊥
Stays (event.FailWithout why) = ⊥
Stays (event.Learn others) = ⊥
Stays (event.FailLearning others why) = ⊥
Stays e = Unit {0}

stays_so : (number : ℕ) (kept : List Entry) (now new : World) (e : Happening) → Stays e → IsRecording number kept now → Happens now e new → IsRecording number kept new
stays_so number kept now new event.Start stays r h = absurd (let bad : None ≡ Some r.m = sym h.off ∙ r.is in cc)
stays_so number kept now new (event.Queue content key) stays r h =
    absurd (subst (IsRecordingAt number) h.goes.rest (stands_so number kept now h.m h.was r))
stays_so number kept now new (event.Raise first) stays r h =
    absurd (subst (IsRecordingAt number) h.goes.rest (stands_so number kept now h.m h.was r))
stays_so number kept now new (event.Cancel other) stays r h =
    absurd (subst (IsRecordingAt number) h.goes.rest (stands_so number kept now h.m h.was r))
stays_so number kept now new (event.Deliver openings most copy further) stays r (is_copy, h) =
    absurd (subst (IsRecordingAt number) h.goes.0.rest (stands_so number kept now h.m h.was r))
stays_so number kept now new event.Refuse stays r h =
    still number kept now new h.after h.wire now.told r h.is (subst (IsRecordingAt number) (sym h.goes.stage) (stands_so number kept now h.m h.was r))
stays_so number kept now new event.Keep stays r h = absurd stays
stays_so number kept now new (event.FailWith why) stays r h = absurd stays
stays_so number kept now new (event.FailWithBoth why) stays r h = absurd stays
stays_so number kept now new (event.FailWithout why) stays r h = absurd stays
stays_so number kept now new (event.Learn others) stays r h = absurd stays
stays_so number kept now new (event.FailLearning others why) stays r h = absurd stays
stays_so number kept now new event.Connect stays r h =
    let at = stands_so number kept now h.m h.was r in
    still number kept now new h.after h.wire now.told r h.is (same_at number h.m h.after (h.goes ∙ connected_at number h.m.stage h.m at) at)
stays_so number kept now new event.Miss stays r h =
    let at = stands_so number kept now h.m h.was r in
    still number kept now new h.after h.wire now.told r h.is (same_at number h.m h.after (h.goes ∙ missed_at number h.m.stage h.m at) at)
stays_so number kept now new (event.Put most) stays r h =
    absurd (subst (IsRecordingAt number) h.talks (stands_so number kept now h.m h.was r))
stays_so number kept now new (event.Break most fewer why) stays r h =
    absurd (subst (IsRecordingAt number) h.talks (stands_so number kept now h.m h.was r))
stays_so number kept now new (event.Hear most) stays r h =
    absurd (subst (IsRecordingAt number) h.talks (stands_so number kept now h.m h.was r))
stays_so number kept now new (event.End why) stays r h =
    let at = stands_so number kept now h.m h.was r in
    still number kept now new h.after h.wire now.told r h.is (same_at number h.m h.after (ended_at number h.m.stage why h.m h.after at h.goes) at)
stays_so number kept now new event.HangUp stays r h =
    let at = stands_so number kept now h.m h.was r in
    still number kept now new h.after h.wire now.told r h.is (same_at number h.m h.after (h.goes ∙ hung_at number h.m.stage h.m at) at)
stays_so number kept now new event.News stays r h =
    absurd (subst (IsRecordingAt number) h.goes.talks (stands_so number kept now h.m h.was r))
stays_so number kept now new event.Tell stays r h =
    absurd (subst (IsRecordingAt number) h.moves.goes.0 (stands_so number kept now h.moves.m h.moves.was r))
stays_so number kept now new (event.OnWire e) stays r h =
    subst (IsRecording number kept) (sym h.is) (record { m = r.m; is = r.is; at = r.at; more = r.more; each = r.each; same = r.same })
stays_so number kept now new event.Idle stays r h =
    subst (IsRecording number kept) (sym h.is) (record { m = r.m; is = r.is; at = r.at; more = r.more; each = r.each; same = r.same })
stays_so number kept now new event.Crash stays r h = absurd stays

-- No entry after those says that the receipt is tried: there are only such as others add; or an entry by which it waits no more, after which none
-- is about it.
abbrev OnlyOthers : List Entry → List Entry → Type 0
OnlyOthers kept after = (more : List Entry) × AllByRecursion IsOthers more × (after ≡ kept ++ more)

abbrev HasEnded : ℕ → List Entry → List Entry → Type 0
HasEnded number kept after = (before : List Entry) × (end : Entry) × (rest : List Entry) × AllByRecursion IsOthers before × IsEndOf number end × (after ≡ kept ++ (before ++ end ∷ rest))

ends_on : (number : ℕ) (kept after later : List Entry) → HasEnded number kept after → Extends after later → HasEnded number kept later
ends_on number kept after later (before, end, rest, each, ends, is) (more, later_is) = (
  before,
  end,
  rest ++ more,
  each,
  ends,
  later_is ∙ ap (λ v. v ++ more) is ∙ append_assoc kept (before ++ end ∷ rest) more ∙ ap (λ v. kept ++ v) (append_assoc before (end ∷ rest) more),
)

others_join : (a b : List Entry) → AllByRecursion IsOthers a → AllByRecursion IsOthers b → AllByRecursion IsOthers (a ++ b)
others_join [] b each more = more
others_join (e ∷ a) b (is, each) more = (is, others_join a b each more)

-- Where others have cancelled it.
cancels_in : (number : ℕ) (others : List Entry) → AllByRecursion IsOthers others → Among number (cancelled others)
    → (before : List Entry) × (rest : List Entry) × AllByRecursion IsOthers before × (others ≡ before ++ entry.Cancelled number ∷ rest)
cancels_in number [] each among = absurd (among_nothing number among)
cancels_in number (entry.Queued content ∷ others) (is, each) among =
    let (before, rest, all, split) = cancels_in number others each among in
    (entry.Queued content ∷ before, rest, (tt, all), ap (λ v. entry.Queued content ∷ v) split)
cancels_in number (entry.Raised next hd ∷ others) (is, each) among =
    let (before, rest, all, split) = cancels_in number others each among in
    (entry.Raised next hd ∷ before, rest, (tt, all), ap (λ v. entry.Raised next hd ∷ v) split)
cancels_in number (entry.Cancelled n ∷ others) (is, each) among = elim (among_cons number n (cancelled others) among) [
  | inl same ↦ ([], others, tt, ap (λ k. entry.Cancelled k ∷ others) same)
  | inr later ↦
      let (before, rest, all, split) = cancels_in number others each later in
      (entry.Cancelled n ∷ before, rest, (tt, all), ap (λ v. entry.Cancelled n ∷ v) split)
]
cancels_in number (entry.Key key ∷ others) (is, each) among =
    let (before, rest, all, split) = cancels_in number others each among in
    (entry.Key key ∷ before, rest, (tt, all), ap (λ v. entry.Key key ∷ v) split)
cancels_in number (entry.Tried n next ∷ others) (is, each) among = absurd is
cancels_in number (entry.Recorded n hd ∷ others) (is, each) among = absurd is
cancels_in number (entry.Renewed last hd ∷ others) (is, each) among = absurd is
cancels_in number (entry.Earlier n key ∷ others) (is, each) among = absurd is

-- So the first entry that is kept says that the receipt is recorded.
kept_first : (number : ℕ) (kept : List Entry) (now mid new : World) (es : List Happening) → IsRecording number kept now → Happens now event.Keep mid → Runs mid es new
    → HasEnded number kept new.kept
kept_first number kept now mid new es r h runs =
    let (hd, is) = (subst (IsRecordingAt number) h.moves.goes.0 (stands_so number kept now h.moves.m h.moves.was r)).0 in
    let here : mid.kept ≡ kept ++ (r.more ++ entry.Recorded number hd ∷ []) =
    ap (λ v. v.kept) h.moves.is ∙ ap (λ es. es ++ h.entry ∷ []) r.same ∙ ap (λ x. (kept ++ r.more) ++ x ∷ []) is ∙ append_assoc kept r.more (entry.Recorded number hd ∷ []) in
    ends_on number kept mid.kept new.kept (r.more, entry.Recorded number hd, [], r.each, refl, here) (entries_last mid new es runs)

revised_at : (number : ℕ) (next : Then) (b : Book) (before h : HostView) (s : Stage) → Records number next → Revises next b before h s → IsRecordingAt number s ⊎ EndsCancelled b number before h s
revised_at number (then.Recorded n) b before h s same (inl (waits, host, at)) = inl (subst (IsRecordingAt number) (sym at) (printed_at b n number before same))
revised_at number (then.Recorded n) b before h s same (inr ends) = inr (subst (λ k. EndsCancelled b k before h s) same ends)
revised_at number (then.GoOn n tried due) b before h s same (inl (waits, host, inl at)) = inl (subst (IsRecordingAt number) (sym at) (printed_at b n number before same))
revised_at number (then.GoOn n tried due) b before h s same (inl (waits, host, inr goes)) = inl (further_at b n number due.further before s same goes)
revised_at number (then.GoOn n tried due) b before h s same (inr ends) = inr (subst (λ k. EndsCancelled b k before h s) same ends)
revised_at number then.Queued b before h s none revises = absurd none
revised_at number (then.Take content) b before h s none revises = absurd none
revised_at number then.Raised b before h s none revises = absurd none
revised_at number (then.Cancelled n tried) b before h s none revises = absurd none
revised_at number (then.Send due) b before h s none revises = absurd none
revised_at number (then.SendNext n due) b before h s none revises = absurd none

-- Others have added entries: it is still to be kept; or one of them has cancelled the receipt.
learned_first : (number : ℕ) (kept others : List Entry) (now mid : World) → IsWorld now → IsRecording number kept now → Happens now (event.Learn others) mid
    → IsRecording number kept mid ⊎ HasEnded number kept mid.kept
learned_first number kept others now mid known r h =
    let m : MachineView = h.moves.m in
    let at : m.stage ≡ stage.Keeping h.entry h.next = h.moves.goes.0 in
    let (is, records) = subst (IsRecordingAt number) at (stands_so number kept now m h.moves.was r) in
    let (each, notes, revises) = h.moves.goes.1 in
    let p = parts now m h.moves.was known in
    let follows = subst (MayFollow now.kept) is.1 (subst (λ s. Holds now.kept p.hand (with_earlier p.earlier m.host) s) at p.holds).0 in
    let book : IsBookOf m.book now.kept = p.book (λ lags. subst BookMayLag at lags) in
    let after_book = (notes now.kept book p.account.keeps.ledger).1 in
    let here : mid.kept ≡ kept ++ (r.more ++ others) = ap (λ v. v.kept) h.moves.is ∙ ap (λ es. es ++ others) r.same ∙ append_assoc kept r.more others in
    elim (revised_at number h.next h.moves.after.book m.host h.moves.after.host h.moves.after.stage records revises) [
      | inl at ↦ inl (subst (IsRecording number kept) (sym h.moves.is) (record {
        m = h.moves.after;
        is = refl;
        at = at;
        more = r.more ++ others;
        each = others_join r.more others r.each each;
        same = ap (λ v. v.kept) (sym h.moves.is) ∙ here;
      }))
      | inr (tried, cancelled_there, drops, at) ↦
          let among = (cancelled_so (now.kept ++ others) number tried (cancelled_there (now.kept ++ others) after_book)).0 in
          let either = among_either number (cancelled now.kept) (cancelled others) (subst (λ ns. Among number ns) (cancelled_append now.kept others) among) in
          elim either [
            | inl before ↦ absurd (no_place (cancelled now.kept) number follows.0.not_cancelled before)
            | inr since ↦
                let (before, rest, all, split) = cancels_in number others each since in
                inr (
                  r.more ++ before,
                  entry.Cancelled number,
                  rest,
                  others_join r.more before r.each all,
                  refl,
                  here ∙ ap (λ v. kept ++ (r.more ++ v)) split ∙ ap (λ v. kept ++ v) (sym (append_assoc r.more before (entry.Cancelled number ∷ rest))),
                )
          ]
    ]

goes : LineLaws → (number : ℕ) (kept : List Entry) (now new : World) (es : List Happening) → IsWorld now → IsRecording number kept now → Runs now es new → (IsLostFirst es → ⊥)
    → OnlyOthers kept new.kept ⊎ HasEnded number kept new.kept
goes laws number kept now new [] known r same kept_so = inl (r.more, r.each, ap (λ v. v.kept) same ∙ r.same)
goes laws number kept now new (event.Keep ∷ es) known r (mid, h, runs) kept_so = inr (kept_first number kept now mid new es r h runs)
goes laws number kept now new (event.Learn others ∷ es) known r (mid, h, runs) kept_so = elim (learned_first number kept others now mid known r h) [
  | inl still_so ↦ goes laws number kept mid new es (whatever laws now mid (event.Learn others) known h) still_so runs kept_so
  | inr ended ↦ inr (ends_on number kept mid.kept new.kept ended (entries_last mid new es runs))
]
goes laws number kept now new (event.FailLearning others why ∷ es) known r (mid, h, runs) kept_so = absurd (kept_so tt)
goes laws number kept now new (event.Crash ∷ es) known r (mid, h, runs) kept_so = absurd (kept_so tt)
goes laws number kept now new (event.FailWith why ∷ es) known r (mid, h, runs) kept_so = absurd (kept_so tt)
goes laws number kept now new (event.FailWithout why ∷ es) known r (mid, h, runs) kept_so = absurd (kept_so tt)
goes laws number kept now new (event.FailWithBoth why ∷ es) known r (mid, h, runs) kept_so = absurd (kept_so tt)
goes laws number kept now new (event.Start ∷ es) known r (mid, h, runs) kept_so = goes laws number kept mid new es (whatever laws now mid event.Start known h) (stays_so number kept now mid event.Start tt r h) runs kept_so
goes laws number kept now new ((event.Queue content key) ∷ es) known r (mid, h, runs) kept_so = goes laws number kept mid new es (whatever laws now mid (event.Queue content key) known h) (stays_so number kept now mid (event.Queue content key) tt r h) runs kept_so
goes laws number kept now new ((event.Raise first) ∷ es) known r (mid, h, runs) kept_so = goes laws number kept mid new es (whatever laws now mid (event.Raise first) known h) (stays_so number kept now mid (event.Raise first) tt r h) runs kept_so
goes laws number kept now new ((event.Cancel other) ∷ es) known r (mid, h, runs) kept_so = goes laws number kept mid new es (whatever laws now mid (event.Cancel other) known h) (stays_so number kept now mid (event.Cancel other) tt r h) runs kept_so
goes laws number kept now new ((event.Deliver openings most copy further) ∷ es) known r (mid, h, runs) kept_so = goes laws number kept mid new es (whatever laws now mid (event.Deliver openings most copy further) known h) (stays_so number kept now mid (event.Deliver openings most copy further) tt r h) runs kept_so
goes laws number kept now new (event.Refuse ∷ es) known r (mid, h, runs) kept_so = goes laws number kept mid new es (whatever laws now mid event.Refuse known h) (stays_so number kept now mid event.Refuse tt r h) runs kept_so
goes laws number kept now new (event.Connect ∷ es) known r (mid, h, runs) kept_so = goes laws number kept mid new es (whatever laws now mid event.Connect known h) (stays_so number kept now mid event.Connect tt r h) runs kept_so
goes laws number kept now new (event.Miss ∷ es) known r (mid, h, runs) kept_so = goes laws number kept mid new es (whatever laws now mid event.Miss known h) (stays_so number kept now mid event.Miss tt r h) runs kept_so
goes laws number kept now new ((event.Put most) ∷ es) known r (mid, h, runs) kept_so = goes laws number kept mid new es (whatever laws now mid (event.Put most) known h) (stays_so number kept now mid (event.Put most) tt r h) runs kept_so
goes laws number kept now new ((event.Break most fewer why) ∷ es) known r (mid, h, runs) kept_so = goes laws number kept mid new es (whatever laws now mid (event.Break most fewer why) known h) (stays_so number kept now mid (event.Break most fewer why) tt r h) runs kept_so
goes laws number kept now new ((event.Hear most) ∷ es) known r (mid, h, runs) kept_so = goes laws number kept mid new es (whatever laws now mid (event.Hear most) known h) (stays_so number kept now mid (event.Hear most) tt r h) runs kept_so
goes laws number kept now new ((event.End why) ∷ es) known r (mid, h, runs) kept_so = goes laws number kept mid new es (whatever laws now mid (event.End why) known h) (stays_so number kept now mid (event.End why) tt r h) runs kept_so
goes laws number kept now new (event.HangUp ∷ es) known r (mid, h, runs) kept_so = goes laws number kept mid new es (whatever laws now mid event.HangUp known h) (stays_so number kept now mid event.HangUp tt r h) runs kept_so
goes laws number kept now new (event.News ∷ es) known r (mid, h, runs) kept_so = goes laws number kept mid new es (whatever laws now mid event.News known h) (stays_so number kept now mid event.News tt r h) runs kept_so
goes laws number kept now new (event.Tell ∷ es) known r (mid, h, runs) kept_so = goes laws number kept mid new es (whatever laws now mid event.Tell known h) (stays_so number kept now mid event.Tell tt r h) runs kept_so
goes laws number kept now new ((event.OnWire e) ∷ es) known r (mid, h, runs) kept_so = goes laws number kept mid new es (whatever laws now mid (event.OnWire e) known h) (stays_so number kept now mid (event.OnWire e) tt r h) runs kept_so
goes laws number kept now new (event.Idle ∷ es) known r (mid, h, runs) kept_so = goes laws number kept mid new es (whatever laws now mid event.Idle known h) (stays_so number kept now mid event.Idle tt r h) runs kept_so

-- ## An answer is heard

-- The receipt that is tried is the only one that waits and was tried.
one_tried : (kept : List Entry) (hand : Option Hand) (held : Hand) (h : HostView) (wire : WireView) (talk : Talk) (number closing : ℕ) → hand ≡ Some held → held.number ≡ talk.number
    → Accounted kept hand h wire → Waits kept talk.number → Waits kept number → HasTry (tries kept) number closing → talk.number ≡ number
one_tried kept hand held h wire talk number closing hand_is same account waits_talk waits has =
    let a : Accounted kept (Some held) h wire = subst (λ v. Accounted kept v h wire) hand_is account in
    let reserved = a.keeps.in_hand.reserved in
    let own : HasTry (tries kept) talk.number (held.limit - 1) =
    subst (λ n. HasTry (tries kept) n (held.limit - 1)) same (has_tried kept reserved.before reserved.following held.number held.limit reserved.entries_are) in
    let low = a.late.first number closing waits has talk.number waits_talk in
    let high = a.late.first talk.number (held.limit - 1) waits_talk own number waits in
    omega (arith, low, high)

answered_at : (kept : List Entry) (b : Book) (e : HostEvent) (talk : Talk) (left number : ℕ) (before h : HostView) (s : Stage) → b.tries.items ≡ tries kept
    → b.heard ≡ heard_in kept → ((closing : ℕ) → Waits kept number → HasTry (tries kept) number closing → talk.number ≡ number) → IsAnswerTo kept talk e before number → MachineTurns b e talk left before h s
    → IsRecordingAt number s
answered_at kept b (heard.Recorded place) talk left number before h s book known one is (same, inl now) = subst (IsRecordingAt number) (sym now) (printed_at b talk.number number before is)
answered_at kept b (heard.Recorded place) talk left number before h s book known one is (same, inr goes) = further_at b talk.number number talk.further before s is goes
answered_at kept b (heard.Late id) talk left number before h s book known one (waits, closes) (inl (own, same, now)) =
    subst (IsRecordingAt number) (sym now) (printed_at b talk.number number before (one closes.0 waits closes.4))
answered_at kept b (heard.Late id) talk left number before h s book known one (waits, closes) (inr (other, goes)) =
    absurd (other (subst (λ ts. ClosesTry ts b.heard before.heard talk.number id) (sym book) (subst (λ hd. ClosesTry (tries kept) hd before.heard talk.number id) (sym known)
    (subst (λ n. ClosesTry (tries kept) (heard_in kept) before.heard n id) (sym (one closes.0 waits closes.4)) closes))))
answered_at kept b heard.None talk left number before h s book known one is turns = absurd is
answered_at kept b heard.Opened talk left number before h s book known one is turns = absurd is
answered_at kept b (heard.Status byte) talk left number before h s book known one is turns = absurd is
answered_at kept b (heard.Condition block) talk left number before h s book known one is turns = absurd is
answered_at kept b (heard.BadAnswer place) talk left number before h s book known one is turns = absurd is

answer_heard : (w new : World) (most number : ℕ) → IsWorld w → HearsAnswer w most number new → IsRecording number w.kept new
answer_heard w new most number known a =
    let v = a.hears in
    let p = parts w v.m v.was known in
    let (held, hand_is, same, receipt, follows, records, up, reserved, news, known) = talking_holds v.m w.kept w.wire v.talk v.talks p in
    let at : IsRecordingAt number v.after.stage =
    answered_at w.kept v.m.book a.event v.talk (v.talk.left - v.consumed) number a.host v.after.host v.after.stage (talking_book v.m w.kept w.wire v.talk v.talks p).tries
    (talking_book v.m w.kept w.wire v.talk v.talks p).heard
    (λ closing waits has. one_tried w.kept p.hand held (with_earlier p.earlier v.m.host) w.wire v.talk number closing hand_is same p.account follows.0 waits has) a.is a.turns in
    subst (IsRecording number w.kept) (sym v.is) (record { m = v.after; is = refl; at = at; more = []; each = tt; same = sym (append-nil w.kept) })

-- ## The law

not_of_others : (number next : ℕ) (more : List Entry) → AllByRecursion IsOthers more → ¬ Among (entry.Tried number next) more
not_of_others number next [] each among = among_nothing (entry.Tried number next) among
not_of_others number next (e ∷ more) (is, each) among = elim (among_cons (entry.Tried number next) e more among) [
  | inl same ↦ subst IsOthers same is
  | inr later ↦ not_of_others number next more each later
]

none_there : (number next : ℕ) (kept before rest after : List Entry) (end : Entry) → IsLedger after → AllByRecursion IsOthers before → IsEndOf number end → after ≡ kept ++ (before ++ end ∷ rest)
    → ¬ Among (entry.Tried number next) (before ++ end ∷ rest)
none_there number next kept before rest after end ledger each ends is among = elim (among_either (entry.Tried number next) before (end ∷ rest) among) [
  | inl within ↦ not_of_others number next before each within
  | inr beyond ↦ elim (among_cons (entry.Tried number next) end rest beyond) [
    | inl same ↦ subst (IsEndOf number) same ends
    | inr later ↦
        none_after (kept ++ before) rest number end (entry.Tried number next) (subst IsLedger (is ∙ sym (append_assoc kept before (end ∷ rest))) ledger) ends later refl
  ]
]

pub not_again : LineLaws → (w mid new : World) (most number : ℕ) (es : List Happening) → IsWorld w → HearsAnswer w most number mid → Runs mid es new → (IsLostFirst es → ⊥)
    → IsNotTriedAgain number w.kept new.kept
not_again laws w mid new most number es known heard runs kept_so =
    let at_mid = whatever laws w mid (event.Hear most) known heard.hears in
    let world = over_time laws mid new es at_mid runs in
    elim (goes laws number w.kept mid new es at_mid (answer_heard w mid most number known heard) runs kept_so) [
      | inl (more, each, is) ↦ record { following = more; are = is; none = λ next among. not_of_others number next more each among }
      | inr (before, end, rest, each, ends, is) ↦ record {
        following = before ++ end ∷ rest;
        are = is;
        none = λ next among. none_there number next w.kept before rest new.kept end world.account.keeps.ledger each ends is among;
      }
    ]
