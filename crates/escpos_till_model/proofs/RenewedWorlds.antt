-- A ledger that goes on from an older one, where that ledger's till is off: the line goes on as if its host had recorded nothing.
use Rattle.std.proofs.Common.{ℕ, ◌≡◌, ◌≤◌, inl, inr, None, Some, Option, List, [], ◌∷◌, ◌++◌, refl, sym, ◌∙◌, ap, subst, append_assoc, arith}
use Rattle.std.specs.List.{AllZip}
use Rattle.escpos_command.specs.declared.command.Command.{Command}
use Rattle.escpos_paper.specs.declared.item.Item.{Item}
use Rattle.escpos_paper.specs.Page.{Sheet}
use Rattle.escpos_paper.specs.Printed.{printed}
use Rattle.escpos_host.specs.Machine.{HostView, InFlight, closed_by}
use Rattle.escpos_link.specs.Line.{IsLine, LineView}
use Rattle.escpos_link.specs.Promised.{GivenUpFor, LiveFor, NewestFor, Promised, ServedFor, StandsNext}
use Rattle.escpos_link.specs.Promising.{Promising}
use Rattle.escpos_link.specs.Resumed.{resumed_from}
use Rattle.escpos_link.specs.Stands.{Stands}
use Rattle.escpos_link.specs.Trusted.{IsTrusted, Trusting}
use Rattle.escpos_link.specs.Wire.{given_up, wire_of}
use Rattle.escpos_link.proofs.Keeping.{off_link_kept}
use Rattle.escpos_till.specs.declared.entry.Content.{Content}
use Rattle.escpos_till.specs.declared.entry.Entry.{Entry}
use Rattle.escpos_till.specs.declared.note.TillNote.{TillNote}
use Rattle.escpos_till.specs.declared.note.TillNote.TheVariants as note
use Rattle.escpos_till.specs.Entries.{Taken, Waits, cancel_place_of, heard, is_open, next_free, place_of, recorded, taken, waiting}
use Rattle.escpos_till.specs.Renewing.{Renews}
use Rattle.escpos_till.specs.Tries.{tries}
use Rattle.escpos_till_model.specs.Late.{IsHeardBy, LateAnswers}
use Rattle.escpos_till_model.specs.Receipts.{Among, IsReceiptOf, IsTaken}
use Rattle.escpos_till_model.specs.World.{Begins, IsSo, World}
use Rattle.escpos_till_model.proofs.EntryFacts.{among_filtered, filter_keeps}
use Rattle.escpos_till_model.proofs.HeardLemmas.{MayKnow, may_know}
use Rattle.escpos_till_model.proofs.Keeping.{anew}
use Rattle.escpos_till_model.proofs.LinesKept.{none_given_up}
use Rattle.std.specs.Prelude.{true, ◌&&◌, is_none}

-- ## A promise for fewer records

-- What stands after others stands.
stands_last : (width : ℕ) (rs : List (List Command)) (r : List Command) (paper : List Item) → Stands width (rs ++ r ∷ []) paper → Stands width (r ∷ []) paper
stands_last width [] r paper s = s
stands_last width (q ∷ rs) r paper (front, after, is, s) =
    let (more, rest, at, none) = stands_last width rs r after s in (
      front ++ (printed width q ++ more),
      rest,
      is ∙ ap (λ v. front ++ (printed width q ++ v)) at ∙ ap (λ v. front ++ v) (sym (append_assoc (printed width q) more (printed width r ++ rest)))
          ∙ sym (append_assoc front (printed width q ++ more) (printed width r ++ rest)),
      tt,
    )

alone : (width : ℕ) (p : InFlight) (records : List (List Command)) (items : List Item) → StandsNext width p records items → StandsNext width p [] items
alone width p records items s = stands_last width records p.receipt items s

served_alone : (width : ℕ) (p : InFlight) (records : List (List Command)) (sheet : Sheet) (half stream : List ℕ) → ServedFor width p records sheet half stream → ServedFor width p [] sheet half stream
served_alone width p records sheet half stream (inl unread) = inl unread
served_alone width p records sheet half stream (inr on) = inr (record {
  due = on.due;
  aligned = on.aligned;
  kept = on.kept;
  ran = on.ran;
  sheet_is = on.sheet_is;
  fulfils = λ a b split has. alone width p records (on.kept ++ printed width (on.ran ++ a)) (on.fulfils a b split has);
})

given_up_alone : (width : ℕ) (p : InFlight) (records : List (List Command)) (sheet : Sheet) (half : List ℕ) (ended : List (List ℕ)) → GivenUpFor width p records sheet half ended
    → GivenUpFor width p [] sheet half ended
given_up_alone width p records sheet half [] given = tt
given_up_alone width p records sheet half (bytes ∷ others) ((more, served), late) = ((more, served_alone width p records sheet half (bytes ++ more) served), late)

newest_alone : (width : ℕ) (p : InFlight) (records : List (List Command)) (sheet : Sheet) (half : List ℕ) (ended : List (List ℕ)) (stream : List ℕ)
    → NewestFor width p records sheet half ended stream → NewestFor width p [] sheet half ended stream
newest_alone width p records sheet half [] stream served = served_alone width p records sheet half stream served
newest_alone width p records sheet half (bytes ∷ others) stream fresh = fresh

live_alone : (width : ℕ) (p : InFlight) (records : List (List Command)) (sheet : Sheet) (half : List ℕ) (ended : List (List ℕ)) (live : Option (List ℕ)) (out : List ℕ)
    → LiveFor width p records sheet half ended live out → LiveFor width p [] sheet half ended live out
live_alone width p records sheet half ended None out newest = tt
live_alone width p records sheet half ended (Some bytes) out newest = newest_alone width p records sheet half ended (bytes ++ out) newest

promised_alone : (l : LineView) (records : List (List Command)) (p : InFlight) → Promised records p l → Promised [] p l
promised_alone l records p promised =
    let width : ℕ = l.printer.sheet.line_dots in
    record {
      answers = promised.answers;
      hears = promised.hears;
      by = record {
        answered = λ has. alone width p records l.printer.sheet.items (promised.by.answered has);
        given_up = given_up_alone width p records l.printer.sheet l.printer.half l.ended promised.by.given_up;
        newest = live_alone width p records l.printer.sheet l.printer.half l.ended l.live l.host.out promised.by.newest;
      };
    }

-- ## Receipts that wait

still_open : (place cancel : Option ℕ) → place ≡ None → cancel ≡ None → (is_none place && is_none cancel) ≡ true
still_open None None place cancel = refl
still_open None (Some k) place cancel = absurd (cc cancel)
still_open (Some k) cancel place other = absurd (cc place)

-- One that waits was taken in the new ledger too, with the same content.
taken_on : (old new : List Entry) (number : ℕ) (content : Content) → Renews old new → Waits old number → IsTaken old number content → IsTaken new number content
taken_on old new number content renews waits is =
    let receipt : Taken = record { number = number; content = content } in
    let open_so = still_open (place_of old number) (cancel_place_of old number) waits.open_still waits.not_cancelled in
    let here : Among receipt (waiting old) = filter_keeps (λ (t : Taken). is_open old t.number) receipt (taken old) open_so is in
    (among_filtered (λ (t : Taken). is_open new t.number) receipt (taken new) (subst (Among receipt) (sym renews.waiting) here)).0

receipt_on : (old new : List Entry) (number : ℕ) (commands : List Command) → Renews old new → Waits old number → IsReceiptOf old number commands → IsReceiptOf new number commands
receipt_on old new number commands renews waits is =
    record { content = is.content; taken = taken_on old new number is.content renews waits is.taken; receipt = is.receipt }

-- ## The world

late_on : Promising → (old new : List Entry) (records : List (List Command)) (l : LineView) (f hd : ℕ) → Renews old new → LateAnswers old records l → LateAnswers new [] (resumed_from l f 0 hd)
late_on promise old new records l f hd renews late = record {
  first = λ n c waits has k waits_too.
      let so = (renews.waits n).0 waits in
      late.first n c so ((renews.tries n c so).0 has) k ((renews.waits k).0 waits_too);
  promise = λ n c waits has past.
      let so = (renews.waits n).0 waits in
      let (receipt, is, promised) = late.promise n c so ((renews.tries n c so).0 has) (omega (arith, past, renews.heard)) in
      let p : InFlight = closed_by receipt c in
      (receipt, receipt_on old new n receipt renews so is, promised_alone (resumed_from l f 0 hd) records p (promise.off l (anew l.host f 0 hd) records p refl promised));
}

pub queued_on : (old new : List Entry) (number : ℕ) → Renews old new → IsSo old (note.Queued number) → IsSo new (note.Queued number)
queued_on old new number renews (some, within) = (some, omega (arith, within, renews.last))

heard_same_ledger : (old new : List Entry) (h : HostView) → heard new ≡ heard old → IsHeardBy old h → IsHeardBy new h
heard_same_ledger old new h same (inl known) = inl (omega (arith, same, known))
heard_same_ledger old new h same (inr (answered, past)) = inr (answered, omega (arith, same, past))

resumed_right : Trusting → (l : LineView) (f hd : ℕ) → l.host.next ≤ f → MayKnow l.host f hd → IsLine l → IsTrusted l → IsLine (resumed_from l f 0 hd) × IsTrusted (resumed_from l f 0 hd)
resumed_right trust l f hd within (inl known) line trusted = (off_link_kept l (anew l.host f 0 hd) line refl refl, (trust.resumes_from l f 0 hd within known trusted).0)
resumed_right trust l f hd within (inr (answered, most)) line trusted = (off_link_kept l (anew l.host f 0 hd) line refl refl, (trust.resumes_answered l f 0 hd answered most trusted).0)

pub renewed_world : Trusting → Promising → (w : World) (new : List Entry) (told : List TillNote) → Begins w → Renews w.kept new → recorded new ≡ [] → ((n : TillNote) → Among n told → IsSo new n)
    → Begins (record { machine = None; kept = new; wire = w.wire; told = told })
renewed_world trust promise w new told b renews none so =
    let f : ℕ = next_free new in
    let l : LineView = b.line in
    let hd : ℕ = heard new in
    let within : l.host.next ≤ f = omega (arith, b.next, renews.next) in
    let most : hd ≤ f = omega (arith, b.most, renews.heard, renews.next) in
    let known = heard_same_ledger w.kept new l.host renews.heard b.knows in
    let right = resumed_right trust l f hd within (may_know new l.host f known most) b.is_line b.trusted in
    record {
      off = refl;
      ledger = renews.ledger;
      line = resumed_from l f 0 hd;
      is_line = right.0;
      trusted = right.1;
      receipts = subst (λ ns. AllZip (IsReceiptOf new) ns []) (sym none) tt;
      late = late_on promise w.kept new l.host.records l f hd renews b.late;
      next = omega arith;
      knows = inl (omega arith);
      most = most;
      wire_is = b.wire_is ∙ sym (none_given_up (anew l.host f 0 hd) (wire_of (resumed_from l f 0 hd)) refl right.0);
      told = so;
    }
