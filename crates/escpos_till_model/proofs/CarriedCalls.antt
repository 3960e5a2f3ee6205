-- What holds of each link stays so through the calls that put no byte, through entries that are kept or not, and while bytes are put.
use Rattle.std.proofs.Common.{ℕ, zero, suc, ◌≡◌, ◌⊎◌, inl, inr, ◌+◌, ◌-◌, ◌<◌, ◌≤◌, min, Option, Some, None, List, [], ◌∷◌, ◌++◌, length, take, drop, refl, sym, ◌∙◌, ap, subst, append-nil, append_assoc, arith}
use Rattle.std.specs.List.{AllByRecursion}
use Rattle.std.specs.Prelude.{map, option_to_list}
use Rattle.std.proofs.lemmas.Grind.{flat_map-append}
use Rattle.std.proofs.lemmas.List.{take-append-drop, take_min}
use Rattle.escpos_command.specs.declared.command.Command.{Command}
use Rattle.escpos_command.specs.CommandTable.{AreCommands, spell}
use Rattle.escpos_host.specs.Counted.{id_of}
use Rattle.escpos_command.specs.Marks.{mark_id, marks}
use Rattle.escpos_real_time.specs.RealTime.{HoldsRealTime}
use Rattle.escpos_real_time.proofs.Holding.{within}
use Rattle.escpos_receipt.specs.Whole.{HoldNoRealTime}
use Rattle.escpos_receipt.proofs.RealTimes.{none_in}
use Rattle.escpos_host.specs.declared.send.SendFault.{SendFault}
use Rattle.escpos_host.proofs.Recording.{keeps}
use Rattle.escpos_host.specs.Earlier.{with_earlier}
use Rattle.escpos_host.specs.Machine.{HostView, taken_out}
use Rattle.escpos_host.specs.Says.{marks_from}
use Rattle.escpos_till.specs.declared.book.Book.{Book}
use Rattle.escpos_till.specs.declared.entry.Entry.{Entry}
use Rattle.escpos_till.specs.declared.entry.Entry.TheVariants as entry
use Rattle.escpos_till.specs.declared.stage.Stage.{Stage}
use Rattle.escpos_till.specs.declared.stage.Stage.TheVariants as stage
use Rattle.escpos_till.specs.declared.stage.Then.{Then}
use Rattle.escpos_till.specs.declared.stage.Then.TheVariants as then
use Rattle.escpos_till.specs.declared.note.TillNote.{TillNote}
use Rattle.escpos_till.specs.declared.note.TillNote.TheVariants as note
use Rattle.escpos_till.specs.declared.store.StoreFault.{StoreFault}
use Rattle.escpos_till.specs.Entries.{MayFollow, next_free}
use Rattle.escpos_till.specs.Learning.{FollowAll, Learned, Revises}
use Rattle.escpos_till.specs.Machine.{Ended, MachineView, Unsure, after_note, connected, entry_with, hung_up, lost, not_connected, put}
use Rattle.escpos_till.proofs.EntryLemmas.{next_after_cancelled, next_after_earlier, next_after_key, next_after_queued, next_after_raised, next_after_recorded, next_after_tried, next_after_renewed}
use Rattle.escpos_till_model.specs.declared.event.Happening.TheVariants as event
use Rattle.escpos_till_model.specs.Carried.{AreApart, Carried, HasOwnMarks, links_after, numbers_from, out_of, with_put}
use Rattle.escpos_till_model.specs.Known.{Holds, IsMachineIn, IsToKeep, IsWorld}
use Rattle.escpos_till_model.specs.Kept.{Hand}
use Rattle.escpos_till_model.specs.World.{Learns, Breaks, Moves, Puts, Stores, StoresBoth, World}

-- ## Marks

pub marks_of_both : (some others : List Command) → marks (some ++ others) ≡ marks some ++ marks others
marks_of_both some others = flat_map-append (λ c. option_to_list (mark_id c)) some others

pub marks_of_openings : (count first : ℕ) → marks (marks_from count first) ≡ map id_of (numbers_from count first)
marks_of_openings zero first = refl
marks_of_openings (suc count) first = ap (λ ids. id_of first ∷ ids) (marks_of_openings count (first + 1))

pub one_number_more : (count first : ℕ) → numbers_from (suc count) first ≡ numbers_from count first ++ (first + count) ∷ []
one_number_more zero first = ap (λ n. n ∷ []) (let so : first ≡ first + 0 = omega arith in so)
one_number_more (suc count) first =
    ap (λ ns. first ∷ ns) (one_number_more count (first + 1) ∙ ap (λ n. numbers_from count (first + 1) ++ n ∷ []) (let so : first + 1 + count ≡ first + suc count = omega arith in so))

pub map_one_more : (ns : List ℕ) (n : ℕ) → map id_of (ns ++ n ∷ []) ≡ map id_of ns ++ id_of n ∷ []
map_one_more [] n = refl
map_one_more (k ∷ ns) n = ap (λ ids. id_of k ∷ ids) (map_one_more ns n)

-- ## What holds of the links, whatever happens

-- What the host has said on the newest link, and may still say.
pub record IsSaying (l : Carried) (h : HostView) (receipt : Option (List Command)) : Type 0 where
  pub said : List Command
  pub used : ℕ
  pub begins : spell said ≡ l.bytes ++ h.out
  pub commands : AreCommands said
  pub no_real_time : HoldNoRealTime said
  pub marks_are : marks said ≡ map id_of (numbers_from used l.first)
  pub next_is : h.next ≡ l.first + used
  pub within : h.next ≤ l.limit
  pub left : (some : List Command) → receipt ≡ Some some → h.next < l.limit

abbrev pub SaysOn : List Carried → HostView → Option (List Command) → Type 0
SaysOn [] h receipt = ⊥
SaysOn (l ∷ ls) h receipt = IsSaying l h receipt

abbrev pub TalksOn : Stage → HostView → List Carried → Type 0
TalksOn (stage.Talking talk) h links = SaysOn links h talk.receipt
TalksOn s h links = Unit {0}

abbrev pub MachineOn : Option MachineView → List Carried → Type 0
MachineOn None links = Unit {0}
MachineOn (Some m) links = TalksOn m.stage m.host links

pub record AreCarried (low : ℕ) (w : World) (links : List Carried) : Type 0 where
  pub apart : AreApart low links (next_free w.kept)
  pub own : AllByRecursion HasOwnMarks links
  pub talks : MachineOn w.machine links

-- The machine is on no link.
abbrev pub IsQuiet : Stage → Type 0
IsQuiet (stage.Talking talk) = ⊥
IsQuiet s = Unit {0}

pub quiet_on : (s : Stage) (h : HostView) (links : List Carried) → IsQuiet s → TalksOn s h links
quiet_on (stage.Talking talk) h links quiet = absurd quiet
quiet_on stage.AtRest h links quiet = tt
quiet_on (stage.Connecting due) h links quiet = tt
quiet_on (stage.Keeping e next) h links quiet = tt
quiet_on (stage.HangingUp n) h links quiet = tt
quiet_on (stage.Telling n) h links quiet = tt
quiet_on stage.Failed h links quiet = tt

-- The numbers below a higher one.
pub apart_more : (low high higher' : ℕ) (links : List Carried) → high ≤ higher' → AreApart low links high → AreApart low links higher'
apart_more low high higher' [] more apart = omega (arith, more, apart)
apart_more low high higher' (l ∷ ls) more (within, some, rest) = (omega (arith, more, within), some, rest)

-- ## Calls that leave the links as they are

-- The machine goes on as it was, or is quiet.
abbrev pub SameOrQuiet : MachineView → MachineView → Type 0
SameOrQuiet m after = (after ≡ m) ⊎ IsQuiet after.stage

pub same_or_quiet : (m after : MachineView) (links : List Carried) → SameOrQuiet m after → TalksOn m.stage m.host links → TalksOn after.stage after.host links
same_or_quiet m after links (inl same) talks = subst (λ k. TalksOn k.stage k.host links) (sym same) talks
same_or_quiet m after links (inr quiet) talks = quiet_on after.stage after.host links quiet

pub connected_so : (s : Stage) (m after : MachineView) → after ≡ connected s m → SameOrQuiet m after
connected_so (stage.Connecting due) m after is = inr (subst (λ k. IsQuiet k.stage) (sym is) tt)
connected_so stage.AtRest m after is = inl is
connected_so (stage.Keeping e next) m after is = inl is
connected_so (stage.Talking talk) m after is = inl is
connected_so (stage.HangingUp n) m after is = inl is
connected_so (stage.Telling n) m after is = inl is
connected_so stage.Failed m after is = inl is

pub missed_so : (s : Stage) (m after : MachineView) → after ≡ not_connected s m → SameOrQuiet m after
missed_so (stage.Connecting due) m after is = inr (subst (λ k. IsQuiet k.stage) (sym is) tt)
missed_so stage.AtRest m after is = inl is
missed_so (stage.Keeping e next) m after is = inl is
missed_so (stage.Talking talk) m after is = inl is
missed_so (stage.HangingUp n) m after is = inl is
missed_so (stage.Telling n) m after is = inl is
missed_so stage.Failed m after is = inl is

pub hung_so : (s : Stage) (m after : MachineView) → after ≡ hung_up s m → SameOrQuiet m after
hung_so (stage.HangingUp n) m after is = inr (subst (λ k. IsQuiet k.stage) (sym is) tt)
hung_so stage.AtRest m after is = inl is
hung_so (stage.Connecting due) m after is = inl is
hung_so (stage.Keeping e next) m after is = inl is
hung_so (stage.Talking talk) m after is = inl is
hung_so (stage.Telling n) m after is = inl is
hung_so stage.Failed m after is = inl is

pub note_quiet : (n : TillNote) → IsQuiet (after_note n)
note_quiet (note.Queued number) = tt
note_quiet note.Raised = tt
note_quiet (note.Cancelled number tried) = tt
note_quiet (note.Recorded number) = tt
note_quiet (note.NoLink number) = tt
note_quiet (note.Waiting number why) = tt
note_quiet (note.Paused number why) = tt
note_quiet (note.StillPaused number why) = tt
note_quiet (note.NotKept why) = tt

pub ended_so : (s : Stage) (why : SendFault) (m after : MachineView) → Ended s why m after → SameOrQuiet m after
ended_so (stage.Talking talk) why m after (drops, book, is) = inr (subst IsQuiet (sym is) tt)
ended_so stage.AtRest why m after is = inl is
ended_so (stage.Connecting due) why m after is = inl is
ended_so (stage.Keeping e next) why m after is = inl is
ended_so (stage.HangingUp n) why m after is = inl is
ended_so (stage.Telling n) why m after is = inl is
ended_so stage.Failed why m after is = inl is

pub lost_quiet : (next : Then) (why : StoreFault) → IsQuiet (lost next why)
lost_quiet then.Queued why = tt
lost_quiet (then.Take content) why = tt
lost_quiet then.Raised why = tt
lost_quiet (then.Cancelled number tried) why = tt
lost_quiet (then.Send due) why = tt
lost_quiet (then.Recorded number) why = tt
lost_quiet (then.GoOn number tried due) why = tt
lost_quiet (then.SendNext recorded due) why = tt

-- ## An entry more

pub grows : (kept : List Entry) (e : Entry) → MayFollow kept e → next_free kept ≤ next_free (kept ++ e ∷ [])
grows kept (entry.Queued content) follows = omega (arith, next_after_queued kept content)
grows kept (entry.Tried number next) follows = omega (arith, next_after_tried kept number next, follows.1)
grows kept (entry.Recorded number hd) follows = omega (arith, next_after_recorded kept number hd)
grows kept (entry.Raised next hd) follows = omega (arith, next_after_raised kept next hd, follows.0)
grows kept (entry.Cancelled number) follows = omega (arith, next_after_cancelled kept number)
grows kept (entry.Key key) follows = omega (arith, next_after_key kept key)
grows kept (entry.Renewed last hd) follows = omega (arith, next_after_renewed kept last hd)
grows kept (entry.Earlier number key) follows = omega (arith, next_after_earlier kept number key)

-- ## What goes on without a byte

-- The machine goes from this to that, and keeps and puts nothing.
pub moved_on : (Goes : MachineView → MachineView → Type 0) (w new : World) (notes : List TillNote) (low : ℕ) (links : List Carried) → Moves Goes w w.kept notes new
    → ((m after : MachineView) → Goes m after → TalksOn m.stage m.host links → TalksOn after.stage after.host links) → AreCarried low w links → AreCarried low new links
moved_on Goes w new notes low links moves on c = record {
  apart = subst (λ k. AreApart low links (next_free k.kept)) (sym moves.is) c.apart;
  own = c.own;
  talks = subst (λ k. MachineOn k.machine links) (sym moves.is) (on moves.m moves.after moves.goes (subst (λ o. MachineOn o links) moves.was c.talks));
}

-- ## An entry isn't kept, or others are

-- The store fails: no link is opened for the entry.
pub failed_carried : (w new : World) (low : ℕ) (links : List Carried) (why : StoreFault) (has : List Entry → Entry → List Entry) → IsWorld w → ((e : Entry) → MayFollow w.kept e → next_free w.kept ≤ next_free (has w.kept e))
    → AreCarried low w links → Stores (λ m after. Unsure m.stage why m after) has w new → AreCarried low new links
failed_carried w new low links why has known more c stores =
    let m : MachineView = stores.moves.m in
    let is : m.stage ≡ stage.Keeping stores.entry stores.next = stores.moves.goes.0 in
    let here = subst (λ o. IsMachineIn o w.kept known.hand (with_earlier known.earlier known.host)) stores.moves.was known.machine in
    let holds = subst (Holds w.kept known.hand (with_earlier known.earlier known.host)) is here.1 in
    let unsure = subst (λ s. Unsure s why m stores.moves.after) is stores.moves.goes.1 in
    record {
      apart = subst (λ k. AreApart low links (next_free k.kept)) (sym stores.moves.is)
          (apart_more low (next_free w.kept) (next_free (has w.kept stores.entry)) links (more stores.entry holds.0) c.apart);
      own = c.own;
      talks = subst (λ k. MachineOn k.machine links) (sym stores.moves.is)
          (quiet_on stores.moves.after.stage stores.moves.after.host links (subst IsQuiet (sym unsure.2) (lost_quiet stores.next why)));
    }

pub both_grow : (kept : List Entry) (e f : Entry) → MayFollow kept e → MayFollow (kept ++ e ∷ []) f → next_free kept ≤ next_free (kept ++ e ∷ f ∷ [])
both_grow kept e f follows then_follows =
    let one = grows kept e follows in
    let two = grows (kept ++ e ∷ []) f then_follows in
    let same : next_free ((kept ++ e ∷ []) ++ f ∷ []) ≡ next_free (kept ++ e ∷ f ∷ []) = ap next_free (append_assoc kept (e ∷ []) (f ∷ [])) in
    omega (arith, one, two, same)

pub second_follows : (next : Then) (kept : List Entry) (hand : Option Hand) (h : HostView) (e f : Entry) → IsToKeep kept hand h e next → entry_with next ≡ Some f → MayFollow (kept ++ e ∷ []) f
second_follows (then.GoOn number tried due) kept hand h e f keeps with =
    let same : tried ≡ f = (let both : Some tried ≡ Some f = with in cc) in
    subst (MayFollow (kept ++ e ∷ [])) same keeps.1.follows
second_follows then.Queued kept hand h e f keeps with = absurd (let bad : None ≡ Some f = with in cc)
second_follows (then.Take content) kept hand h e f keeps with = absurd (let bad : None ≡ Some f = with in cc)
second_follows then.Raised kept hand h e f keeps with = absurd (let bad : None ≡ Some f = with in cc)
second_follows (then.Cancelled number tried) kept hand h e f keeps with = absurd (let bad : None ≡ Some f = with in cc)
second_follows (then.Send due) kept hand h e f keeps with = absurd (let bad : None ≡ Some f = with in cc)
second_follows (then.Recorded number) kept hand h e f keeps with = absurd (let bad : None ≡ Some f = with in cc)
second_follows (then.SendNext number due) kept hand h e f keeps with = absurd (let bad : None ≡ Some f = with in cc)

-- It fails, and has both entries that are to be kept together.
pub failed_with_both : (w new : World) (low : ℕ) (links : List Carried) (why : StoreFault) → IsWorld w → AreCarried low w links → StoresBoth (λ m after. Unsure m.stage why m after) w new
    → AreCarried low new links
failed_with_both w new low links why known c stores =
    let m : MachineView = stores.moves.m in
    let is : m.stage ≡ stage.Keeping stores.entry stores.next = stores.moves.goes.0 in
    let here = subst (λ o. IsMachineIn o w.kept known.hand (with_earlier known.earlier known.host)) stores.moves.was known.machine in
    let holds = subst (Holds w.kept known.hand (with_earlier known.earlier known.host)) is here.1 in
    let unsure = subst (λ s. Unsure s why m stores.moves.after) is stores.moves.goes.1 in
    let follows = second_follows stores.next w.kept known.hand (with_earlier known.earlier known.host) stores.entry stores.second holds.1 stores.with in
    record {
      apart = subst (λ k. AreApart low links (next_free k.kept)) (sym stores.moves.is)
          (apart_more low (next_free w.kept) (next_free (w.kept ++ stores.entry ∷ stores.second ∷ [])) links (both_grow w.kept stores.entry stores.second holds.0 follows) c.apart);
      own = c.own;
      talks = subst (λ k. MachineOn k.machine links) (sym stores.moves.is)
          (quiet_on stores.moves.after.stage stores.moves.after.host links (subst IsQuiet (sym unsure.2) (lost_quiet stores.next why)));
    }

-- Others have added entries: a machine that learns that puts nothing, and the next mark number doesn't fall.
pub others_grow : (kept others : List Entry) → FollowAll kept others → next_free kept ≤ next_free (kept ++ others)
others_grow kept [] follow = omega (arith, ap next_free (append-nil kept))
others_grow kept (e ∷ others) (follows, follow) =
    let first = grows kept e follows in
    let rest = others_grow (kept ++ e ∷ []) others follow in
    let same : next_free ((kept ++ e ∷ []) ++ others) ≡ next_free (kept ++ e ∷ others) = ap next_free (append_assoc kept (e ∷ []) others) in
    omega (arith, first, rest, same)

revised_quiet : (next : Then) (b : Book) (before h : HostView) (s : Stage) → Revises next b before h s → IsQuiet s
revised_quiet (then.Send due) b before h s (inl (waits, marks, same, at)) = subst IsQuiet (sym at) tt
revised_quiet (then.Send due) b before h s (inr (inl (waits, few, drops, at))) = subst IsQuiet (sym at) tt
revised_quiet (then.Send due) b before h s (inr (inr (tried, cancelled, drops, at))) = subst IsQuiet (sym at) tt
revised_quiet (then.Recorded number) b before h s (inl (waits, same, at)) = subst IsQuiet (sym at) tt
revised_quiet (then.Recorded number) b before h s (inr (tried, cancelled, drops, at)) = subst IsQuiet (sym at) tt
revised_quiet (then.GoOn number tried due) b before h s (inl (waits, same, inl at)) = subst IsQuiet (sym at) tt
revised_quiet (then.GoOn number tried due) b before h s (inl (waits, same, inr further)) = subst IsQuiet (sym further.stage_is) tt
revised_quiet (then.GoOn number tried due) b before h s (inr (times, cancelled, drops, at)) = subst IsQuiet (sym at) tt
revised_quiet (then.SendNext recorded due) b before h s (drops, at) = subst IsQuiet (sym at) tt
revised_quiet then.Queued b before h s none = absurd none
revised_quiet (then.Take content) b before h s none = absurd none
revised_quiet then.Raised b before h s none = absurd none
revised_quiet (then.Cancelled number tried) b before h s none = absurd none

pub learned_quiet : (e : Entry) (next : Then) (others : List Entry) (m after : MachineView) → Learned (stage.Keeping e next) others m after → IsQuiet after.stage
learned_quiet e next others m after (inl learns) = revised_quiet next after.book m.host after.host after.stage learns.2
learned_quiet e next others m after (inr (why, fails)) = subst IsQuiet (sym fails.2) (lost_quiet next why)

pub learns_carried : (Goes : Then → MachineView → MachineView → Type 0) (w new : World) (others : List Entry) (low : ℕ) (links : List Carried)
    → ((e : Entry) (next : Then) (m after : MachineView) → Goes next m after → IsQuiet after.stage) → AreCarried low w links → Learns Goes w others new → AreCarried low new links
learns_carried Goes w new others low links quiet c learns =
    let moves = learns.moves in
    record {
      apart = subst (λ k. AreApart low links (next_free k.kept)) (sym moves.is)
          (apart_more low (next_free w.kept) (next_free (w.kept ++ others)) links (others_grow w.kept others learns.added.follow) c.apart);
      own = c.own;
      talks = subst (λ k. MachineOn k.machine links) (sym moves.is)
          (quiet_on moves.after.stage moves.after.host links (quiet learns.entry learns.next moves.m moves.after moves.goes.1));
    }

-- ## Bytes are put

-- What was put of what is said holds no real-time command either.
put_holds_none : (said : List Command) (bytes unsaid : List ℕ) → spell said ≡ bytes ++ unsaid → HoldNoRealTime said → HoldsRealTime bytes → ⊥
put_holds_none said bytes unsaid begins none held = none_in said none (subst HoldsRealTime (sym begins) (within [] bytes unsaid held))

own_of : (l : Carried) (h : HostView) (receipt : Option (List Command)) → IsSaying l h receipt → HasOwnMarks l
own_of l h receipt says =
    record { said = says.said; unsaid = h.out; used = says.used; begins = says.begins; commands = says.commands; marks_are = says.marks_are; within = omega (arith, says.next_is, says.within); no_real_time = put_holds_none says.said l.bytes h.out says.begins says.no_real_time }

put_says : (l : Carried) (h : HostView) (receipt : Option (List Command)) (most count : ℕ) → count ≡ min most (length h.out) → IsSaying l h receipt
    → IsSaying (record { first = l.first; limit = l.limit; bytes = l.bytes ++ take most h.out }) (taken_out h count) receipt
put_says l h receipt most count is says =
    let same : take most h.out ≡ take count h.out = sym (take_min most h.out) ∙ ap (λ k. take k h.out) (sym is) in
    record {
      said = says.said;
      used = says.used;
      begins = says.begins ∙ ap (λ k. l.bytes ++ k) (sym (take-append-drop count h.out)) ∙ sym (append_assoc l.bytes (take count h.out) (drop count h.out))
          ∙ ap (λ k. (l.bytes ++ k) ++ drop count h.out) (sym same);
      commands = says.commands;
      no_real_time = says.no_real_time;
      marks_are = says.marks_are;
      next_is = says.next_is;
      within = says.within;
      left = says.left;
    }

-- The newest link, with these bytes more on it.
pub one_put : (low high : ℕ) (links : List Carried) (h : HostView) (receipt : Option (List Command)) (most count : ℕ) → count ≡ min most (length h.out) → SaysOn links h receipt → AreApart low links high
    → AllByRecursion HasOwnMarks links → AreApart low (with_put (take most h.out) links) high × AllByRecursion HasOwnMarks (with_put (take most h.out) links)
    × SaysOn (with_put (take most h.out) links) (taken_out h count) receipt
one_put low high [] h receipt most count is says apart own = absurd says
one_put low high (l ∷ ls) h receipt most count is says apart own =
    let more = put_says l h receipt most count is says in
    (apart, (own_of _ (taken_out h count) receipt more, own.1), more)

pub puts_carried : (w new : World) (low : ℕ) (links : List Carried) (most : ℕ) → AreCarried low w links → Puts w most new → AreCarried low new (links_after w (event.Put most) links)
puts_carried w new low links most c puts =
    let m : MachineView = puts.m in
    let out : out_of w.machine ≡ m.host.out = ap out_of puts.was in
    let says = subst (λ s. TalksOn s m.host links) puts.talks (subst (λ o. MachineOn o links) puts.was c.talks) in
    let (apart, own, talks) = one_put low (next_free w.kept) links m.host puts.talk.receipt most puts.count puts.count_is says c.apart c.own in
    subst (λ bytes. AreCarried low new (with_put (take most bytes) links)) (sym out) (record {
      apart = subst (λ k. AreApart low (with_put (take most m.host.out) links) (next_free k.kept)) (sym puts.is) apart;
      own = own;
      talks = subst (λ k. MachineOn k.machine (with_put (take most m.host.out) links)) (sym puts.is)
          (subst (λ s. TalksOn (put s puts.count m).stage (put s puts.count m).host (with_put (take most m.host.out) links)) (sym puts.talks) talks);
    })

pub part_put : (low high : ℕ) (links : List Carried) (h : HostView) (receipt : Option (List Command)) (most fewer : ℕ) → SaysOn links h receipt → AreApart low links high → AllByRecursion HasOwnMarks links
    → AreApart low (with_put (take fewer (take most h.out)) links) high × AllByRecursion HasOwnMarks (with_put (take fewer (take most h.out)) links)
part_put low high [] h receipt most fewer says apart own = absurd says
part_put low high (l ∷ ls) h receipt most fewer says apart own =
    let front : List ℕ = take most h.out in
    let all : (l.bytes ++ take fewer front) ++ (drop fewer front ++ drop most h.out) ≡ l.bytes ++ h.out =
    append_assoc l.bytes (take fewer front) (drop fewer front ++ drop most h.out) ∙ ap (λ k. l.bytes ++ k) (sym (append_assoc (take fewer front) (drop fewer front) (drop most h.out)))
    ∙ ap (λ k. l.bytes ++ (k ++ drop most h.out)) (take-append-drop fewer front) ∙ ap (λ k. l.bytes ++ k) (take-append-drop most h.out) in (
      apart,
      (
        record {
          said = says.said;
          unsaid = drop fewer front ++ drop most h.out;
          used = says.used;
          begins = says.begins ∙ sym all;
          commands = says.commands;
          marks_are = says.marks_are;
          within = omega (arith, says.next_is, says.within);
          no_real_time = put_holds_none says.said (l.bytes ++ take fewer front) (drop fewer front ++ drop most h.out) (says.begins ∙ sym all) says.no_real_time;
        },
        own.1,
      ),
    )

pub breaks_carried : (w new : World) (low : ℕ) (links : List Carried) (most fewer : ℕ) (why : SendFault) → AreCarried low w links → Breaks w most fewer why new
    → AreCarried low new (links_after w (event.Break most fewer why) links)
breaks_carried w new low links most fewer why c breaks =
    let m : MachineView = breaks.m in
    let out : out_of w.machine ≡ m.host.out = ap out_of breaks.was in
    let says = subst (λ s. TalksOn s m.host links) breaks.talks (subst (λ o. MachineOn o links) breaks.was c.talks) in
    let (apart, own) = part_put low (next_free w.kept) links m.host breaks.talk.receipt most fewer says c.apart c.own in
    let ended = subst (λ s. Ended s why (put s breaks.taken m) breaks.after) breaks.talks breaks.ended in
    let put_so : List Carried = with_put (take fewer (take most m.host.out)) links in
    subst (λ bytes. AreCarried low new (with_put (take fewer (take most bytes)) links)) (sym out) (record {
      apart = subst (λ k. AreApart low put_so (next_free k.kept)) (sym breaks.is) apart;
      own = own;
      talks = subst (λ k. MachineOn k.machine put_so) (sym breaks.is) (quiet_on breaks.after.stage breaks.after.host put_so (subst IsQuiet (sym ended.2) tt));
    })
