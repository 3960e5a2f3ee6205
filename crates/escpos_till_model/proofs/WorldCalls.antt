-- What holds of every world holds after the calls of a machine, and after what it is told of its link.
use Rattle.std.proofs.Common.{ℕ, ◌≡◌, ◌+◌, ◌++◌, ◌∙◌, ◌⊎◌, ◌<◌, ◌≤◌, inl, inr, Option, Some, None, List, [], ◌∷◌, length, refl, sym, ap, subst, arith}
use Rattle.std.specs.Prelude.{Bool, true, false, ◌&&◌, is_none, nat_lt, if◌then◌else◌}
use Rattle.std.proofs.Math.Nat.{le-max_right}
use Rattle.escpos_host.specs.declared.send.SendFault.{SendFault}
use Rattle.escpos_command.specs.declared.command.Command.{Command}
use Rattle.escpos_host.specs.Earlier.{with_earlier}
use Rattle.escpos_host.specs.Machine.{Down, HostView, IsSound, Opening, limit_from}
use Rattle.escpos_link.specs.Wire.{WireView, line_of}
use Rattle.escpos_till.specs.declared.entry.Content.{Content}
use Rattle.escpos_till.specs.declared.entry.Entry.{Entry}
use Rattle.escpos_till.specs.declared.stage.Stage.{Stage}
use Rattle.escpos_till.specs.declared.stage.Stage.TheVariants as stage
use Rattle.escpos_till.specs.Book.{IsBookOf}
use Rattle.escpos_till.specs.Entries.{MayFollow, Taken, Waits, cancel_place_of, contents, earlier, heard, is_open, next_free, numbered_from, place_of, taken, waiting}
use Rattle.escpos_till.specs.declared.book.Book.{Book}
use Rattle.escpos_till.specs.declared.entry.Entry.TheVariants as entry
use Rattle.escpos_till.specs.declared.stage.Due.{Due}
use Rattle.escpos_till.specs.declared.stage.Then.TheVariants as then
use Rattle.escpos_till.specs.declared.note.TillNote.{TillNote}
use Rattle.escpos_till.specs.declared.note.TillNote.TheVariants as note_kind
use Rattle.escpos_till.specs.Contents.{ContentDescribes}
use Rattle.escpos_till.specs.Copy.{copy_line, sent_of}
use Rattle.escpos_till.specs.Delivers.{marks_taken}
use Rattle.escpos_receipt.specs.Whole.{Whole}
use Rattle.escpos_till.specs.Delivers.{Due as IsDue, FirstWaits}
use Rattle.escpos_till.specs.Machine.{Cancels, Delivers, Drops, Ended, IsKnown, IsNew, IsNext, IsRaisedTo, MachineView, Queues, Raises, SameEntries, after_note, at, connected, ended_by_pause, hung_up as machine_hung_up, lost, not_connected, taking, told, after_news}
use Rattle.escpos_till.proofs.KeyLemmas.{key_taken}
use Rattle.escpos_till_model.proofs.EntryFacts.{among_cons, among_filtered, among_last, among_nothing, first_among, first_is_taken}
use Rattle.escpos_till_model.proofs.Keeping.{gone_keeps}
use Rattle.escpos_till_model.specs.Receipts.{Among, IsReceipt, IsReceiptOf}
use Rattle.escpos_till_model.specs.Kept.{Hand}
use Rattle.escpos_till_model.specs.Known.{Accounted, BookMayLag, Holds, IsHostOf, IsMachineIn, IsToSend, IsWorld}
use Rattle.escpos_till.specs.declared.pause.Pause.{Pause}
use Rattle.escpos_host.specs.declared.send.SendFault.TheVariants as fault
use Rattle.escpos_till.specs.declared.stage.Talk.{Talk}
use Rattle.escpos_till.specs.Further.{IsText}
use Rattle.escpos_till_model.specs.World.{Calls, FitsLine, IsSendable, IsSo, Tells, TellsNews, Wired, World, running}
use Rattle.escpos_till_model.specs.Late.{HasJustBegun, LateAnswers}
use Rattle.escpos_till_model.proofs.LateLemmas.{drops_late, first_is_least}
use Rattle.escpos_till_model.proofs.LinesKept.{LineLaws, Right, down_or_up, goes, same_wire, drops_right, drops_hung}

-- ## Worlds, part by part

-- What was told is so.
abbrev pub AreSo : List Entry → List TillNote → Type 0
AreSo kept notes = (n : TillNote) → Among n notes → IsSo kept n

-- What holds of a world, where its machine is there.
pub record Parts (m : MachineView) (kept : List Entry) (wire : WireView) : Type 0 where
  pub earlier : List (List Command)
  pub sound : IsSound m.host
  pub right : Right (line_of (with_earlier earlier m.host) wire)
  pub hand : Option Hand
  pub account : Accounted kept hand (with_earlier earlier m.host) wire
  pub begun : HasJustBegun m.host
  pub book : (BookMayLag m.stage → ⊥) → IsBookOf m.book kept
  pub holds : Holds kept hand (with_earlier earlier m.host) m.stage

pub whole : (m : MachineView) (kept : List Entry) (wire : WireView) (notes : List TillNote) → AreSo kept notes → Parts m kept wire → IsWorld (running m kept wire notes)
whole m kept wire notes so p = record {
  earlier = p.earlier;
  host = m.host;
  host_is = refl;
  sound = p.sound;
  line = p.right.line;
  trusted = p.right.trusted;
  hand = p.hand;
  account = p.account;
  begun = p.begun;
  machine = (p.book, p.holds);
  told = so;
}

pub parts_of : (m : MachineView) (kept : List Entry) (wire : WireView) (notes : List TillNote) (machine : Option MachineView) → machine ≡ Some m
    → (w : IsWorld (record { machine = machine; kept = kept; wire = wire; told = notes })) → Parts m kept wire
parts_of m kept wire notes machine is w =
    let host : w.host ≡ m.host = subst (λ x. IsHostOf x w.host) is w.host_is in
    let known = subst (λ x. IsMachineIn x kept w.hand (with_earlier w.earlier w.host)) is w.machine in
    record {
      earlier = w.earlier;
      sound = subst IsSound host w.sound;
      right = subst (λ h. Right (line_of (with_earlier w.earlier h) wire)) host (record { line = w.line; trusted = w.trusted });
      hand = w.hand;
      account = subst (λ h. Accounted kept w.hand (with_earlier w.earlier h) wire) host w.account;
      begun = subst HasJustBegun host w.begun;
      book = known.0;
      holds = subst (λ h. Holds kept w.hand (with_earlier w.earlier h) m.stage) host known.1;
    }

pub parts : (w : World) (m : MachineView) → w.machine ≡ Some m → IsWorld w → Parts m w.kept w.wire
parts w m is known = parts_of m w.kept w.wire w.told w.machine is known

-- ## The host stays as it is

-- The stage alone changes, and what is in hand stays.
pub same_host : (m after : MachineView) (kept : List Entry) (w new : WireView) (p : Parts m kept w) → after.host ≡ m.host → IsSound after.host → Wired m.host after.host w new
    → ((BookMayLag after.stage → ⊥) → IsBookOf after.book kept) → Holds kept p.hand (with_earlier p.earlier m.host) after.stage → Parts after kept new
same_host m after kept w new p same sound wired book holds =
    let wire : new ≡ w = same_wire m.host after.host w new same wired in
    record {
      earlier = p.earlier;
      sound = sound;
      right = subst (λ v. Right (line_of (with_earlier p.earlier after.host) v)) (sym wire) (subst (λ h. Right (line_of (with_earlier p.earlier h) w)) (sym same) p.right);
      hand = p.hand;
      account = subst (λ v. Accounted kept p.hand (with_earlier p.earlier after.host) v) (sym wire) (subst (λ h. Accounted kept p.hand (with_earlier p.earlier h) w) (sym same) p.account);
      begun = subst HasJustBegun (sym same) p.begun;
      book = book;
      holds = subst (λ h. Holds kept p.hand (with_earlier p.earlier h) after.stage) (sym same) holds;
    }

-- ## Calls of a machine at rest

pub at_rest : (m : MachineView) (kept : List Entry) (w : WireView) → m.stage ≡ stage.AtRest → (p : Parts m kept w) → IsBookOf m.book kept × (p.hand ≡ None)
at_rest m kept w rest p = (
  p.book (λ lost. subst BookMayLag rest lost),
  subst (λ s. Holds kept p.hand (with_earlier p.earlier m.host) s) rest p.holds,
)

pub live_at : (s t : Stage) → s ≡ t → (BookMayLag t → ⊥) → BookMayLag s → ⊥
live_at s t same live lost = live (subst BookMayLag same lost)

-- What is kept first of a receipt, and the number of one that has the key.
taking_holds : (kept : List Entry) (hand : Option Hand) (h : HostView) (b : Book) (key : Option (List ℕ)) (content : Content) → IsBookOf b kept → hand ≡ None → IsNew b key
    → Holds kept hand h (taking key b.last_key b.next content)
taking_holds kept hand h b key content book none new = by key b.last_key new
  where
    by : (key last : Option (List ℕ)) → IsNew b key → Holds kept hand h (taking key last b.next content)
    by (Some key) last new = (new kept book, (none, tt))
    by None (Some last) new = ((omega (arith, book.next), inl refl), (none, tt))
    by None None new = (tt, (none, content, refl))

known_so : (kept : List Entry) (b : Book) (key : Option (List ℕ)) (number : ℕ) → IsBookOf b kept → IsKnown b key number → IsSo kept (note_kind.Queued number)
known_so kept b (Some key) number book known = key_taken kept key number (known kept book)
known_so kept b None number book known = absurd known

queues_holds : (kept : List Entry) (hand : Option Hand) (h : HostView) (m : MachineView) (content : Content) (key : Option (List ℕ)) (after : MachineView) → IsBookOf m.book kept → hand ≡ None → Queues m content key after
    → Holds kept hand h after.stage
queues_holds kept hand h m content key after book none queues = elim queues.goes [
  | inl (number, known, is) ↦ subst (λ s. Holds kept hand h s) (sym is) (none, known_so kept m.book key number book known)
  | inr (new, is) ↦ subst (λ s. Holds kept hand h s) (sym is) (taking_holds kept hand h m.book key content book none new)
]

pub queued : (w new : World) (content : Content) (key : Option (List ℕ)) → IsWorld w → Calls (λ m after. Queues m content key after) w new → IsWorld new
queued w new content key known moves =
    let p = parts w moves.m moves.was known in
    let (book, none) = at_rest moves.m w.kept w.wire moves.goes.rest p in
    subst IsWorld (sym moves.is) (whole moves.after w.kept moves.wire w.told known.told
    (same_host moves.m moves.after w.kept w.wire moves.wire p moves.goes.host moves.sound moves.wired
    (λ live. moves.goes.book w.kept book)
    (queues_holds w.kept p.hand (with_earlier p.earlier moves.m.host) moves.m content key moves.after book none moves.goes)))

raised_follows : (kept : List Entry) (b : Book) (first : ℕ) (e : Entry) → IsBookOf b kept → next_free kept ≤ first → IsRaisedTo b first e
    → (hd : ℕ) × (e ≡ entry.Raised first hd) × MayFollow kept e
raised_follows kept b first e book least (inl ((answered, above), is)) =
    let all : heard kept ≡ next_free kept = sym book.heard ∙ answered ∙ book.next in
    (first, is, subst (MayFollow kept) (sym is) (least, inr (refl, all)))
raised_follows kept b first e book least (inr (not_all, is)) = (0, is, subst (MayFollow kept) (sym is) (least, inl refl))

pub raised : (w new : World) (first : ℕ) → IsWorld w → Calls (λ m after. Raises m first after) w new → IsWorld new
raised w new first known moves =
    let p = parts w moves.m moves.was known in
    let (book, none) = at_rest moves.m w.kept w.wire moves.goes.rest p in
    let is = moves.goes.after_is in
    let least : next_free w.kept ≤ first = omega (arith, moves.goes.least, book.next) in
    let (hd, kept_is, follows) = raised_follows w.kept moves.m.book first moves.goes.kept book least moves.goes.kept_is in
    subst IsWorld (sym moves.is) (whole moves.after w.kept moves.wire w.told known.told
    (same_host moves.m moves.after w.kept w.wire moves.wire p (ap (λ m. m.host) is) moves.sound moves.wired
    (λ live. subst (λ b. IsBookOf b w.kept) (sym (ap (λ m. m.book) is)) book)
    (subst (λ s. Holds w.kept p.hand (with_earlier p.earlier moves.m.host) s) (sym (ap (λ m. m.stage) is)) (follows, (none, first, hd, kept_is)))))

pub cancels : (w new : World) (number : ℕ) → IsWorld w → Calls (λ m after. Cancels m number after) w new → IsWorld new
cancels w new number known moves =
    let p = parts w moves.m moves.was known in
    let (book, none) = at_rest moves.m w.kept w.wire moves.goes.rest p in
    let is = moves.goes.after_is in
    let (waits, times) = moves.goes.waits w.kept book in
    subst IsWorld (sym moves.is) (whole moves.after w.kept moves.wire w.told known.told
    (same_host moves.m moves.after w.kept w.wire moves.wire p (ap (λ m. m.host) is) moves.sound moves.wired
    (λ live. subst (λ b. IsBookOf b w.kept) (sym (ap (λ m. m.book) is)) book)
    (subst (λ s. Holds w.kept p.hand (with_earlier p.earlier moves.m.host) s) (sym (ap (λ m. m.stage) is)) (waits, (none, refl, times)))))

pub refused : (w new : World) → IsWorld w → Calls SameEntries w new → IsWorld new
refused w new known moves =
    let p = parts w moves.m moves.was known in
    subst IsWorld (sym moves.is) (whole moves.after w.kept moves.wire w.told known.told
    (same_host moves.m moves.after w.kept w.wire moves.wire p moves.goes.host moves.sound moves.wired
    (λ live. moves.goes.book w.kept (p.book (λ lost. live (subst BookMayLag (sym moves.goes.stage) lost))))
    (subst (λ s. Holds w.kept p.hand (with_earlier p.earlier moves.m.host) s) (sym moves.goes.stage) p.holds)))

-- ## A receipt is due

with_or_without : (b : Bool) (commands receipt line : List Command) → commands ≡ (if b then line ++ receipt else receipt) → (commands ≡ receipt) ⊎ (commands ≡ line ++ receipt)
with_or_without true commands receipt line e = inr e
with_or_without false commands receipt line e = inl e

-- What is sent of a receipt is a receipt, or one after the line of a copy.
pub sent_is : (content : Content) (receipt commands : List Command) (copy : Option (List ℕ)) (tried : ℕ) → IsText copy → ContentDescribes content receipt → Whole receipt
    → commands ≡ sent_of copy tried receipt → IsReceipt content commands
sent_is content receipt commands None tried is describes whole sent = record { receipt = receipt; describes = describes; whole = whole; sent = inl sent }
sent_is content receipt commands (Some text) tried is describes whole sent = record {
  receipt = receipt;
  describes = describes;
  whole = whole;
  sent = elim (with_or_without (nat_lt 0 tried) commands receipt (copy_line text) sent) [ inl e ↦ inl e | inr e ↦ inr (text, is, e) ];
}

pub numbered_bounds : (m : ℕ) (cs : List Content) (t : Taken) → Among t (numbered_from m cs) → (m ≤ t.number) × (t.number < m + length cs)
numbered_bounds m [] t among = absurd (among_nothing t among)
numbered_bounds m (c ∷ cs) t among = elim (among_cons t (record { number = m; content = c }) (numbered_from (m + 1) cs) among) [
  | inl same ↦ let is : m ≡ t.number = ap (λ x. x.number) same in (omega (arith, is), omega (arith, is))
  | inr later ↦ let more = numbered_bounds (m + 1) cs t later in (omega (arith, more.0), omega (arith, more.1))
]

pub open_if : (place cancel : Option ℕ) → (is_none place && is_none cancel) ≡ true → (place ≡ None) × (cancel ≡ None)
open_if None None is = (refl, refl)
open_if None (Some k) is = absurd (let bad : false ≡ true = is in cc)
open_if (Some k) cancel is = absurd (let bad : false ≡ true = is in cc)

pub first_waits : (es : List Entry) (number tried : ℕ) (content : Content) → FirstWaits es number content tried → Waits es number
first_waits es number tried content first =
    let receipt : Taken = record { number = number; content = content } in
    let (among, still) = among_filtered (λ (r : Taken). is_open es r.number) receipt (taken es) (first_among receipt (waiting es) first.first) in
    let (place, cancel) = open_if (place_of es number) (cancel_place_of es number) still in
    let bounds = numbered_bounds (1 + earlier es) (contents es) receipt among in
    record { here = omega (arith, bounds.0); taken = omega (arith, bounds.1); open_still = place; not_cancelled = cancel }

-- What is due is a receipt of the ledger's.
pub due_receipt : (kept : List Entry) (copy : Option (List ℕ)) (number : ℕ) (commands : List Command) → IsText copy → IsDue kept copy number commands → IsReceiptOf kept number commands
due_receipt kept copy number commands is first = record {
  content = first.content;
  taken = first_is_taken kept number first.tried first.content first.first;
  receipt = sent_is first.content first.receipt commands copy first.tried is first.describes first.whole first.sent;
}

pub to_send : (b : Book) (kept : List Entry) (openings most : ℕ) (copy : Option (List ℕ)) (due : Due) → IsBookOf b kept → IsText copy → IsNext b openings most copy due
    → IsSendable due.receipt → IsToSend kept due
to_send b kept openings most copy due book is next fits =
    let first = next.first kept book in
    let within : next_free kept + marks_taken due.openings ≤ limit_from (heard kept) = omega (arith, next.within, book.next, book.heard, ap marks_taken next.marks) in
    record {
      receipt = due_receipt kept copy due.number due.receipt is first;
      within = within;
      fits = fits;
      follows = (first_waits kept due.number first.tried first.content first.first, omega (arith, le-max_right due.openings 1), within);
      first = first_is_least kept due.number first.tried first.content first.first;
    }

pub delivers : (w new : World) (openings most : ℕ) (copy : Option (List ℕ)) (further : Bool) → IsWorld w → IsText copy
    → Calls (λ m after. Delivers m openings most copy further after × FitsLine after.stage) w new → IsWorld new
delivers w new openings most copy further known copy_is moves =
    let p = parts w moves.m moves.was known in
    let (goes, fitting) = moves.goes in
    let (book, none) = at_rest moves.m w.kept w.wire goes.rest p in
    let fits : FitsLine (stage.Connecting goes.due) = subst FitsLine goes.connects fitting in
    subst IsWorld (sym moves.is) (whole moves.after w.kept moves.wire w.told known.told
    (same_host moves.m moves.after w.kept w.wire moves.wire p goes.host moves.sound moves.wired
    (λ live. goes.book w.kept book)
    (subst (λ s. Holds w.kept p.hand (with_earlier p.earlier moves.m.host) s) (sym goes.connects)
    (none, to_send moves.m.book w.kept openings most copy goes.due book copy_is goes.next fits))))

-- ## What the machine is told

-- It wasn't asked for: nothing changes.
pub unchanged : (m after : MachineView) (kept : List Entry) (w new : WireView) → Parts m kept w → after ≡ m → IsSound after.host → Wired m.host after.host w new → Parts after kept new
unchanged m after kept w new p same sound wired =
    same_host m after kept w new p (ap (λ x. x.host) same) sound wired
    (λ live. subst (λ x. IsBookOf x.book kept) (sym same) (p.book (λ lost. live (subst (λ x. BookMayLag x.stage) (sym same) lost))))
    (subst (λ x. Holds kept p.hand (with_earlier p.earlier m.host) x.stage) (sym same) p.holds)

-- The stage becomes another, for which this is known.
pub restaged : (m after : MachineView) (kept : List Entry) (w new : WireView) (s t : Stage) → m.stage ≡ s → (p : Parts m kept w) → after ≡ at m t → IsSound after.host → Wired m.host after.host w new
    → ((BookMayLag t → ⊥) → BookMayLag s → ⊥) → (((BookMayLag s → ⊥) → IsBookOf m.book kept) → Holds kept p.hand (with_earlier p.earlier m.host) s → Holds kept p.hand (with_earlier p.earlier m.host) t)
    → Parts after kept new
restaged m after kept w new s t is p same sound wired live holds =
    let book : (BookMayLag s → ⊥) → IsBookOf m.book kept = λ no_loss. p.book (λ lost. no_loss (subst BookMayLag is lost)) in
    same_host m after kept w new p (ap (λ x. x.host) same) sound wired
    (λ still. subst (λ x. IsBookOf x.book kept) (sym same) (book (live (λ lost. still (subst (λ x. BookMayLag x.stage) (sym same) lost)))))
    (subst (λ x. Holds kept p.hand (with_earlier p.earlier m.host) x.stage) (sym same) (holds book (subst (λ x. Holds kept p.hand (with_earlier p.earlier m.host) x) is p.holds)))

pub told_lag : (n : TillNote) → (BookMayLag (after_note n) → ⊥) → BookMayLag (stage.Telling n) → ⊥
told_lag (note_kind.Queued number) live lost = lost
told_lag note_kind.Raised live lost = lost
told_lag (note_kind.Cancelled number tried) live lost = lost
told_lag (note_kind.Recorded number) live lost = lost
told_lag (note_kind.NoLink number) live lost = lost
told_lag (note_kind.Waiting number why) live lost = lost
told_lag (note_kind.Paused number why) live lost = lost
told_lag (note_kind.StillPaused number why) live lost = lost
told_lag (note_kind.NotKept why) live lost = live tt

pub told_holds : (n : TillNote) (kept : List Entry) (hand : Option Hand) (h : HostView) → hand ≡ None → Holds kept hand h (after_note n)
told_holds (note_kind.Queued number) kept hand h none = none
told_holds note_kind.Raised kept hand h none = none
told_holds (note_kind.Cancelled number tried) kept hand h none = none
told_holds (note_kind.Recorded number) kept hand h none = none
told_holds (note_kind.NoLink number) kept hand h none = none
told_holds (note_kind.Waiting number why) kept hand h none = none
told_holds (note_kind.Paused number why) kept hand h none = none
told_holds (note_kind.StillPaused number why) kept hand h none = none
told_holds (note_kind.NotKept why) kept hand h none = none

pub told_parts : (m after : MachineView) (kept : List Entry) (w new : WireView) (n : TillNote) → m.stage ≡ stage.Telling n → Parts m kept w → after ≡ told m.stage m → IsSound after.host
    → Wired m.host after.host w new → Parts after kept new
told_parts m after kept w new n is p same sound wired =
    restaged m after kept w new (stage.Telling n) (after_note n) is p (same ∙ ap (λ s. told s m) is) sound wired (told_lag n)
    (λ book holds. told_holds n kept p.hand (with_earlier p.earlier m.host) holds.0)

-- The owner is told news of a talk: the same receipt is sent on.
news_holds : (kept : List Entry) (hand : Option Hand) (h : HostView) (talk : Talk) (recorded : Option ℕ) → Holds kept hand h (stage.Talking talk) → Holds kept hand h (stage.Talking (after_news recorded talk))
news_holds kept hand h talk (Some n) (held, hand_is, number, receipt, follows, records, up, reserved, news, known) =
    (held, hand_is, number, receipt, follows, records, up, reserved, (λ k none. absurd (let bad : None ≡ Some k = none in cc)), known)
news_holds kept hand h talk None holds = holds

pub paused_parts : (m after : MachineView) (kept : List Entry) (w new : WireView) (talk : Talk) → m.stage ≡ stage.Talking talk → Parts m kept w → after ≡ told m.stage m → IsSound after.host
    → Wired m.host after.host w new → Parts after kept new
paused_parts m after kept w new talk is p same sound wired =
    restaged m after kept w new (stage.Talking talk) (stage.Talking (after_news talk.recorded talk)) is p (same ∙ ap (λ s. told s m) is) sound wired (λ live lost. lost)
    (λ book holds. news_holds kept p.hand (with_earlier p.earlier m.host) talk talk.recorded holds)

pub hung_lag : (n : TillNote) → (BookMayLag (stage.Telling n) → ⊥) → BookMayLag (stage.HangingUp n) → ⊥
hung_lag (note_kind.Queued number) live lost = lost
hung_lag note_kind.Raised live lost = lost
hung_lag (note_kind.Cancelled number tried) live lost = lost
hung_lag (note_kind.Recorded number) live lost = lost
hung_lag (note_kind.NoLink number) live lost = lost
hung_lag (note_kind.Waiting number why) live lost = lost
hung_lag (note_kind.Paused number why) live lost = lost
hung_lag (note_kind.StillPaused number why) live lost = lost
hung_lag (note_kind.NotKept why) live lost = live lost

pub hung_parts : (m after : MachineView) (kept : List Entry) (w new : WireView) (s : Stage) → m.stage ≡ s → Parts m kept w → after ≡ machine_hung_up s m → IsSound after.host
    → Wired m.host after.host w new → Parts after kept new
hung_parts m after kept w new (stage.HangingUp n) is p same sound wired =
    restaged m after kept w new (stage.HangingUp n) (stage.Telling n) is p same sound wired (hung_lag n) (λ book holds. holds)
hung_parts m after kept w new stage.AtRest is p same sound wired = unchanged m after kept w new p same sound wired
hung_parts m after kept w new (stage.Connecting due) is p same sound wired = unchanged m after kept w new p same sound wired
hung_parts m after kept w new (stage.Keeping e next) is p same sound wired = unchanged m after kept w new p same sound wired
hung_parts m after kept w new (stage.Talking talk) is p same sound wired = unchanged m after kept w new p same sound wired
hung_parts m after kept w new (stage.Telling n) is p same sound wired = unchanged m after kept w new p same sound wired
hung_parts m after kept w new stage.Failed is p same sound wired = unchanged m after kept w new p same sound wired

pub connected_parts : (m after : MachineView) (kept : List Entry) (w new : WireView) (s : Stage) → m.stage ≡ s → Parts m kept w → after ≡ connected s m → IsSound after.host
    → Wired m.host after.host w new → Parts after kept new
connected_parts m after kept w new (stage.Connecting due) is p same sound wired =
    restaged m after kept w new (stage.Connecting due) (stage.Keeping (entry.Tried due.number (m.book.next + marks_taken due.openings)) (then.Send due)) is p same sound wired (λ live lost. lost)
    (λ book holds.
    let next : m.book.next ≡ next_free kept = (book (λ lost. lost)).next in
    subst (λ n. Holds kept p.hand (with_earlier p.earlier m.host) (stage.Keeping (entry.Tried due.number (n + marks_taken due.openings)) (then.Send due))) (sym next)
    (holds.1.follows, (holds.0, holds.1, refl)))
connected_parts m after kept w new stage.AtRest is p same sound wired = unchanged m after kept w new p same sound wired
connected_parts m after kept w new (stage.HangingUp n) is p same sound wired = unchanged m after kept w new p same sound wired
connected_parts m after kept w new (stage.Keeping e next) is p same sound wired = unchanged m after kept w new p same sound wired
connected_parts m after kept w new (stage.Talking talk) is p same sound wired = unchanged m after kept w new p same sound wired
connected_parts m after kept w new (stage.Telling n) is p same sound wired = unchanged m after kept w new p same sound wired
connected_parts m after kept w new stage.Failed is p same sound wired = unchanged m after kept w new p same sound wired

pub missed_parts : (m after : MachineView) (kept : List Entry) (w new : WireView) (s : Stage) → m.stage ≡ s → Parts m kept w → after ≡ not_connected s m → IsSound after.host
    → Wired m.host after.host w new → Parts after kept new
missed_parts m after kept w new (stage.Connecting due) is p same sound wired =
    restaged m after kept w new (stage.Connecting due) (stage.Telling (note_kind.NoLink due.number)) is p same sound wired (λ live lost. lost) (λ book holds. (holds.0, tt))
missed_parts m after kept w new stage.AtRest is p same sound wired = unchanged m after kept w new p same sound wired
missed_parts m after kept w new (stage.HangingUp n) is p same sound wired = unchanged m after kept w new p same sound wired
missed_parts m after kept w new (stage.Keeping e next) is p same sound wired = unchanged m after kept w new p same sound wired
missed_parts m after kept w new (stage.Talking talk) is p same sound wired = unchanged m after kept w new p same sound wired
missed_parts m after kept w new (stage.Telling n) is p same sound wired = unchanged m after kept w new p same sound wired
missed_parts m after kept w new stage.Failed is p same sound wired = unchanged m after kept w new p same sound wired

-- A host that has given its link up opens none.
pub gone_begun : (h other : HostView) → Drops h other → HasJustBegun other
gone_begun h other drops first is = elim (down_or_up h.phase) [
  | inl down ↦ absurd (let bad : Down ≡ Opening first = sym down ∙ ap (λ v. v.phase) (sym (drops.0 down)) ∙ is in cc)
  | inr up ↦ absurd (let bad : Down ≡ Opening first = ap (λ v. v.phase) (sym (drops.1 up)) ∙ is in cc)
]

-- The account of a host that gives its link up.
pub gone_account : LineLaws → (earlier : List (List Command)) (h other : HostView) (kept : List Entry) (hand : Option Hand) (w new : WireView) → IsSound h → Drops h other
    → Wired h other w new → Right (line_of (with_earlier earlier h) w) → Accounted kept hand (with_earlier earlier h) w → Accounted kept None (with_earlier earlier other) new
gone_account laws earlier h other kept hand w new sound drops wired right a =
    let hung = drops_hung earlier h other drops in
    subst (λ v. Accounted kept None v new) (sym hung) (record {
      keeps = gone_keeps kept hand (with_earlier earlier h) a.keeps;
      late = subst (λ v. LateAnswers kept a.keeps.receipts (line_of v new)) hung (drops_late laws kept a.keeps.receipts earlier h other w new sound drops wired right a.late);
    })

-- The host gives its link up, and nothing is in hand any more.
pub let_go : LineLaws → (m after : MachineView) (kept : List Entry) (w new : WireView) (p : Parts m kept w) → Drops m.host after.host → IsSound after.host → Wired m.host after.host w new
    → ((BookMayLag after.stage → ⊥) → IsBookOf after.book kept) → Holds kept None (with_earlier p.earlier after.host) after.stage → Parts after kept new
let_go laws m after kept w new p drops sound wired book holds = record {
  earlier = p.earlier;
  sound = sound;
  right = drops_right laws p.earlier m.host after.host w new p.sound drops wired p.right;
  hand = None;
  account = gone_account laws p.earlier m.host after.host kept p.hand w new p.sound drops wired p.right p.account;
  begun = gone_begun m.host after.host drops;
  book = book;
  holds = holds;
}

-- Whatever ended a link, no note of that says what isn't so.
pub ended_so : (kept : List Entry) (number : ℕ) (why : SendFault) (pause : Option Pause) → IsSo kept (ended_by_pause number why pause)
ended_so kept number fault.TimedOut (Some p) = tt
ended_so kept number fault.TimedOut None = tt
ended_so kept number fault.Ended pause = tt
ended_so kept number fault.ReadFault pause = tt
ended_so kept number fault.WriteFault pause = tt
ended_so kept number fault.TooLong pause = tt
ended_so kept number fault.BadAnswer pause = tt
ended_so kept number (fault.Refused e) pause = tt

pub ended_parts : LineLaws → (why : SendFault) (m after : MachineView) (kept : List Entry) (w new : WireView) (s : Stage) → m.stage ≡ s → Parts m kept w → Ended s why m after → IsSound after.host
    → Wired m.host after.host w new → Parts after kept new
ended_parts laws why m after kept w new (stage.Talking talk) is p (drops, book, now) sound wired =
    let_go laws m after kept w new p drops sound wired (λ live. subst (λ b. IsBookOf b kept) (sym book) (p.book (λ lost. subst BookMayLag is lost)))
    (subst (λ s. Holds kept None (with_earlier p.earlier after.host) s) (sym now) (refl, ended_so kept talk.number why talk.paused.why))
ended_parts laws why m after kept w new stage.AtRest is p same sound wired = unchanged m after kept w new p same sound wired
ended_parts laws why m after kept w new (stage.Connecting due) is p same sound wired = unchanged m after kept w new p same sound wired
ended_parts laws why m after kept w new (stage.HangingUp n) is p same sound wired = unchanged m after kept w new p same sound wired
ended_parts laws why m after kept w new (stage.Keeping e next) is p same sound wired = unchanged m after kept w new p same sound wired
ended_parts laws why m after kept w new (stage.Telling n) is p same sound wired = unchanged m after kept w new p same sound wired
ended_parts laws why m after kept w new stage.Failed is p same sound wired = unchanged m after kept w new p same sound wired

pub moved : (Goes : MachineView → MachineView → Type 0) (w new : World) → IsWorld w → (moves : Calls Goes w new)
    → (Parts moves.m w.kept w.wire → Parts moves.after w.kept moves.wire) → IsWorld new
moved Goes w new known moves go = subst IsWorld (sym moves.is) (whole moves.after w.kept moves.wire w.told known.told (go (parts w moves.m moves.was known)))

-- One more note is so.
pub so_more : (kept : List Entry) (notes : List TillNote) (n : TillNote) → AreSo kept notes → IsSo kept n → AreSo kept (notes ++ n ∷ [])
so_more kept notes n so one x among = elim (among_last x n notes among) [
  | inl there ↦ so x there
  | inr same ↦ subst (λ v. IsSo kept v) same one
]

pub told_world : (w new : World) → IsWorld w → Tells w new → IsWorld new
told_world w new known v =
    let moves = v.moves in
    let (is, same) = moves.goes in
    let p = parts w moves.m moves.was known in
    let holds = subst (λ s. Holds w.kept p.hand (with_earlier p.earlier moves.m.host) s) is p.holds in
    subst IsWorld (sym moves.is) (whole moves.after w.kept moves.wire (w.told ++ v.note ∷ []) (so_more w.kept w.told v.note known.told holds.1)
    (told_parts moves.m moves.after w.kept w.wire moves.wire v.note is p same moves.sound moves.wired))

pub paused_world : (w new : World) → IsWorld w → Calls TellsNews w new → IsWorld new
paused_world w new known v = moved _ w new known v (λ p. paused_parts v.m v.after w.kept w.wire v.wire v.goes.talk v.goes.talks p v.goes.told v.sound v.wired)

pub hung_world : (w new : World) → IsWorld w → Calls (λ m after. after ≡ machine_hung_up m.stage m) w new → IsWorld new
hung_world w new known v = moved _ w new known v (λ p. hung_parts v.m v.after w.kept w.wire v.wire v.m.stage refl p v.goes v.sound v.wired)

pub connected_world : (w new : World) → IsWorld w → Calls (λ m after. after ≡ connected m.stage m) w new → IsWorld new
connected_world w new known v = moved _ w new known v (λ p. connected_parts v.m v.after w.kept w.wire v.wire v.m.stage refl p v.goes v.sound v.wired)

pub missed_world : (w new : World) → IsWorld w → Calls (λ m after. after ≡ not_connected m.stage m) w new → IsWorld new
missed_world w new known v = moved _ w new known v (λ p. missed_parts v.m v.after w.kept w.wire v.wire v.m.stage refl p v.goes v.sound v.wired)

pub ended_world : LineLaws → (w new : World) (why : SendFault) → IsWorld w → Calls (λ m after. Ended m.stage why m after) w new → IsWorld new
ended_world laws w new why known v = moved _ w new known v (λ p. ended_parts laws why v.m v.after w.kept w.wire v.wire v.m.stage refl p v.goes v.sound v.wired)
