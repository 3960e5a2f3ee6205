-- What holds of every world holds after whatever happens in it.
use Rattle.std.proofs.Common.{ℕ, ◌≡◌, ◌≤◌, ◌⊎◌, inl, inr, None, List, [], ◌∷◌, ◌++◌, length, take, refl, sym, ◌∙◌, ap, subst, append-nil, append_assoc, arith}
use Rattle.std.proofs.lemmas.List.{take_all}
use Rattle.escpos_command.specs.declared.command.Command.{Command}
use Rattle.escpos_host.specs.Earlier.{with_earlier}
use Rattle.escpos_host.specs.Machine.{HostView, Down}
use Rattle.escpos_link.specs.Line.{IsLine, LineView}
use Rattle.escpos_link.specs.Resumed.{resumed_from}
use Rattle.escpos_link.specs.Trusted.{IsTrusted}
use Rattle.escpos_link.specs.Wire.{given_up, line_of, wire_of}
use Rattle.escpos_link.specs.Stands.{Stands}
use Rattle.escpos_link.proofs.Standing.{stands_front}
use Rattle.escpos_till.specs.declared.entry.Entry.{Entry}
use Rattle.escpos_till.specs.Entries.{IsLedger, heard, next_free, recorded}
use Rattle.escpos_till.specs.declared.entry.Entry.TheVariants as entry
use Rattle.escpos_till.proofs.EntryLemmas.{empty_ledger, ledger-snoc}
use Rattle.escpos_till_model.specs.Receipts.{AreReceipts, Extends, IsReceiptOf, RecordedStand}
use Rattle.escpos_till_model.specs.Late.{LateAnswers}
use Rattle.escpos_till_model.specs.Known.{IsHostOf, IsMachineIn, IsWorld}
use Rattle.escpos_till_model.specs.World.{Begins, Happens, Runs, World}
use Rattle.escpos_till_model.specs.declared.event.Happening.{Happening}
use Rattle.escpos_till_model.specs.declared.event.Happening.TheVariants as event
use Rattle.escpos_till_model.specs.declared.event.Happening.TheVariants.{Break, Cancel, Connect, Crash, Deliver, End, FailWith, FailWithout, HangUp, Hear, Idle, Keep, Miss, OnWire, Put, Queue, Raise, Refuse, Start, Tell}
use Rattle.escpos_till_model.proofs.HeardLemmas.{MayKnow, idle_at, may_know}
use Rattle.escpos_till_model.proofs.LateLemmas.{late_fresh, late_off}
use Rattle.escpos_till_model.proofs.LinesKept.{LineLaws, Right, none_given_up}
use Rattle.escpos_till_model.proofs.EntryFacts.{among_nothing, zip_length}
use Rattle.escpos_till_model.proofs.WorldCalls.{cancels, connected_world, delivers, ended_world, hung_world, missed_world, paused_world, queued, raised, refused, told_world}
use Rattle.escpos_till_model.proofs.WorldLearns.{learned, not_learned}
use Rattle.escpos_till_model.proofs.Keeping.{anew}
use Rattle.escpos_till_model.proofs.WorldKeeps.{fresh_sound, kept_world}
use Rattle.escpos_till_model.proofs.WorldStore.{anew_right, started, on_wire, idled, crashed, puts, breaks, failed_with, failed_with_both, failed_without, fresh_begun, fresh_right}
use Rattle.escpos_till_model.proofs.WorldHears.{hears}

-- ## Whatever happens

pub whatever : LineLaws → (w new : World) (e : Happening) → IsWorld w → Happens w e new → IsWorld new
whatever laws w new Start known happened = started laws w new known happened
whatever laws w new (Queue content key) known happened = queued w new content key known happened
whatever laws w new (Raise first) known happened = raised w new first known happened
whatever laws w new (Cancel number) known happened = cancels w new number known happened
whatever laws w new (Deliver openings most copy further) known happened = delivers w new openings most copy further known happened.0 happened.1
whatever laws w new Refuse known happened = refused w new known happened
whatever laws w new Keep known happened = kept_world laws w new known happened
whatever laws w new (FailWith why) known happened = failed_with laws w new why known happened
whatever laws w new (event.FailWithBoth why) known happened = failed_with_both laws w new why known happened
whatever laws w new (FailWithout why) known happened = failed_without laws w new why known happened
whatever laws w new (event.Learn others) known happened = learned laws w new others known happened
whatever laws w new (event.FailLearning others why) known happened = not_learned laws w new others why known happened
whatever laws w new Connect known happened = connected_world w new known happened
whatever laws w new Miss known happened = missed_world w new known happened
whatever laws w new (Put count) known happened = puts laws w new count known happened
whatever laws w new (Break taken count why) known happened = breaks laws w new taken count why known happened
whatever laws w new (Hear most) known happened = hears laws w new most known happened
whatever laws w new (End why) known happened = ended_world laws w new why known happened
whatever laws w new HangUp known happened = hung_world w new known happened
whatever laws w new event.News known happened = paused_world w new known happened
whatever laws w new Tell known happened = told_world w new known happened
whatever laws w new (OnWire e) known happened = on_wire laws w new e known happened
whatever laws w new Idle known happened = idled laws w new known happened
whatever laws w new Crash known happened = crashed laws w new known happened

pub over_time : LineLaws → (w new : World) (happenings : List Happening) → IsWorld w → Runs w happenings new → IsWorld new
over_time laws w new [] known same = subst IsWorld (sym same) known
over_time laws w new (e ∷ es) known (mid, happened, others) = over_time laws mid new es (whatever laws w mid e known happened) others

-- What is recorded stands on the paper.
pub recorded_stand : LineLaws → (w : World) → IsWorld w → RecordedStand w.wire.printer.sheet.line_dots w.kept w.wire.printer.sheet.items
recorded_stand laws w known = record {
  receipts = known.account.keeps.receipts;
  are = known.account.keeps.are;
  stand = stands_front w.wire.printer.sheet.line_dots known.account.keeps.receipts known.account.keeps.answered w.wire.printer.sheet.items
      (subst (λ rs. Stands w.wire.printer.sheet.line_dots rs w.wire.printer.sheet.items) known.account.keeps.records
      (laws.trust.stands (line_of (with_earlier known.earlier known.host) w.wire) known.trusted));
}

-- ## Entries stay

pub same_entries : (old new : List Entry) → new ≡ old → Extends old new
same_entries old new same = ([], same ∙ sym (append-nil old))

pub entries_stay : (w new : World) (e : Happening) → Happens w e new → Extends w.kept new.kept
entries_stay w new Start happened = same_entries w.kept new.kept (ap (λ v. v.kept) happened.is)
entries_stay w new (Queue content key) happened = same_entries w.kept new.kept (ap (λ v. v.kept) happened.is)
entries_stay w new (Raise first) happened = same_entries w.kept new.kept (ap (λ v. v.kept) happened.is)
entries_stay w new (Cancel number) happened = same_entries w.kept new.kept (ap (λ v. v.kept) happened.is)
entries_stay w new (Deliver openings most copy further) happened = same_entries w.kept new.kept (ap (λ v. v.kept) happened.1.is)
entries_stay w new Refuse happened = same_entries w.kept new.kept (ap (λ v. v.kept) happened.is)
entries_stay w new Keep happened = (happened.entry ∷ [], ap (λ v. v.kept) happened.moves.is)
entries_stay w new (FailWith why) happened = (happened.entry ∷ [], ap (λ v. v.kept) happened.moves.is)
entries_stay w new (event.FailWithBoth why) happened = (happened.entry ∷ happened.second ∷ [], ap (λ v. v.kept) happened.moves.is)
entries_stay w new (event.Learn others) happened = (others, ap (λ v. v.kept) happened.moves.is)
entries_stay w new (event.FailLearning others why) happened = (others, ap (λ v. v.kept) happened.moves.is)
entries_stay w new (FailWithout why) happened = same_entries w.kept new.kept (ap (λ v. v.kept) happened.moves.is)
entries_stay w new Connect happened = same_entries w.kept new.kept (ap (λ v. v.kept) happened.is)
entries_stay w new Miss happened = same_entries w.kept new.kept (ap (λ v. v.kept) happened.is)
entries_stay w new (Put count) happened = same_entries w.kept new.kept (ap (λ v. v.kept) happened.is)
entries_stay w new (Break taken count why) happened = same_entries w.kept new.kept (ap (λ v. v.kept) happened.is)
entries_stay w new (Hear most) happened = same_entries w.kept new.kept (ap (λ v. v.kept) happened.is)
entries_stay w new (End why) happened = same_entries w.kept new.kept (ap (λ v. v.kept) happened.is)
entries_stay w new HangUp happened = same_entries w.kept new.kept (ap (λ v. v.kept) happened.is)
entries_stay w new event.News happened = same_entries w.kept new.kept (ap (λ v. v.kept) happened.is)
entries_stay w new Tell happened = same_entries w.kept new.kept (ap (λ v. v.kept) happened.moves.is)
entries_stay w new (OnWire e) happened = same_entries w.kept new.kept (ap (λ v. v.kept) happened.is)
entries_stay w new Idle happened = same_entries w.kept new.kept (ap (λ v. v.kept) happened.is)
entries_stay w new Crash happened = same_entries w.kept new.kept (ap (λ v. v.kept) happened.is)

pub more_entries : (a b c : List Entry) → Extends a b → Extends b c → Extends a c
more_entries a b c (some, is) (others, later) = (some ++ others, later ∙ ap (λ v. v ++ others) is ∙ append_assoc a some others)

pub entries_last : (w new : World) (happenings : List Happening) → Runs w happenings new → Extends w.kept new.kept
entries_last w new [] same = same_entries w.kept new.kept (ap (λ v. v.kept) same)
entries_last w new (e ∷ es) (mid, happened, others) = more_entries w.kept mid.kept new.kept (entries_stay w mid e happened) (entries_last mid new es others)

-- ## The first world

-- A world that begins is one.
pub begun : LineLaws → (w : World) → Begins w → IsWorld w
begun laws w b =
    let f : ℕ = next_free w.kept in
    let count : ℕ = length (recorded w.kept) in
    let records : List (List Command) = b.line.host.records in
    let same : count ≡ length records = zip_length (IsReceiptOf w.kept) (recorded w.kept) records b.receipts in
    let within : length records ≤ length records = omega arith in
    let all : take count records ≡ records ++ [] = ap (λ n. take n records) same ∙ take_all (length records) records within ∙ sym (append-nil records) in
    let hd : ℕ = heard w.kept in
    let host : anew b.line.host f count hd ≡ with_earlier records (idle_at f hd) =
    ap (λ rs. record { phase = Down; out = []; half = []; next = f; heard = hd; records = rs; left = [] }) all in
    let left : Right (line_of (anew b.line.host f count hd) (given_up (wire_of b.line))) =
    anew_right laws b.line f count hd b.next (may_know w.kept b.line.host f b.knows b.most) (record { line = b.is_line; trusted = b.trusted }) in
    let right : Right (line_of (with_earlier records (idle_at f hd)) w.wire) =
    subst (λ v. Right (line_of (with_earlier records (idle_at f hd)) v)) (sym b.wire_is) (subst (λ h. Right (line_of h (given_up (wire_of b.line)))) host left) in
    record {
      earlier = records;
      host = idle_at f hd;
      host_is = subst (λ x. IsHostOf x (idle_at f hd)) (sym b.off) refl;
      sound = fresh_sound f hd;
      line = right.line;
      trusted = right.trusted;
      hand = None;
      account = record {
        keeps = record {
          ledger = b.ledger;
          receipts = records;
          are = b.receipts;
          answered = [];
          records = refl;
          next = omega arith;
          in_hand = refl;
          knows = inl (omega arith);
          most = b.most;
          since = b.most;
        };
        late = subst (λ v. LateAnswers w.kept records (line_of (with_earlier records (idle_at f hd)) v)) (sym b.wire_is)
            (late_off laws w.kept records b.line (with_earlier records (idle_at f hd)) refl b.late);
      };
      begun = fresh_begun f hd;
      machine = subst (λ x. IsMachineIn x w.kept None (with_earlier records (idle_at f hd))) (sym b.off) refl;
      told = b.told;
    }

-- A world whose till is off may begin again: its line goes on with what is recorded.
pub begins_again : LineLaws → (w : World) → w.machine ≡ None → IsWorld w → Begins w
begins_again laws w off known =
    let down : known.host.phase ≡ Down = subst (λ x. IsHostOf x known.host) off known.host_is in
    let a = known.account in
    let f : ℕ = next_free w.kept in
    let hd : ℕ = heard w.kept in
    let host : HostView = with_earlier a.keeps.receipts (idle_at f hd) in
    let right : Right (line_of host w.wire) =
    fresh_right laws known.earlier known.host w.wire w.kept known.hand f hd down (record { line = known.line; trusted = known.trusted }) a.keeps a.keeps.next
    (may_know w.kept (with_earlier known.earlier known.host) f a.keeps.knows a.keeps.most) in
    record {
      off = off;
      ledger = a.keeps.ledger;
      line = line_of host w.wire;
      is_line = right.line;
      trusted = right.trusted;
      receipts = subst (λ rs. AreReceipts w.kept rs) (sym (append-nil a.keeps.receipts)) a.keeps.are;
      late = subst (λ rs. LateAnswers w.kept rs (line_of host w.wire)) (sym (append-nil a.keeps.receipts))
          (late_fresh w.kept a.keeps.receipts known.earlier a.keeps.receipts known.host w.wire f hd known.sound down a.late);
      next = omega arith;
      knows = inl (omega arith);
      most = a.keeps.most;
      wire_is = sym (none_given_up host w.wire refl right.line);
      told = known.told;
    }

-- What a new ledger says of marks is so: nothing, or that all marks of the line's host are answered.
abbrev pub MayBegin : HostView → ℕ → ℕ → Type 0
MayBegin h n hd = (hd ≡ 0) ⊎ ((hd ≡ n) × (h.next ≤ h.heard))

pub raised_ledger : (n hd : ℕ) → (hd ≡ 0) ⊎ (hd ≡ n) → IsLedger (entry.Raised n hd ∷ [])
raised_ledger n hd says = ledger-snoc [] (entry.Raised n hd) empty_ledger (omega arith, elim says [ inl none ↦ inl none | inr all ↦ inr (all, refl) ])

said_so : (h : HostView) (n hd : ℕ) → MayBegin h n hd → (hd ≡ 0) ⊎ (hd ≡ n)
said_so h n hd (inl none) = inl none
said_so h n hd (inr (all, answered)) = inr all

-- A new ledger has raised the next number to one that this line hasn't used: the line goes on as if it had recorded nothing.
pub first_world : LineLaws → (l : LineView) (n hd : ℕ) → IsLine l → IsTrusted l → l.host.next ≤ n → MayBegin l.host n hd
    → Begins (record { machine = None; kept = entry.Raised n hd ∷ []; wire = given_up (wire_of l); told = [] })
first_world laws l n hd line trusted within says =
    let within_so : hd ≤ n = elim says [ inl none ↦ omega (arith, none) | inr all ↦ omega (arith, all.0) ] in
    let may : MayKnow l.host n hd = elim says [ inl none ↦ inl (omega (arith, none)) | inr all ↦ inr (all.1, omega (arith, all.0)) ] in
    let right = anew_right laws l n 0 hd within may (record { line = line; trusted = trusted }) in
    record {
      off = refl;
      ledger = raised_ledger n hd (said_so l.host n hd says);
      line = resumed_from l n 0 hd;
      is_line = right.line;
      trusted = right.trusted;
      receipts = tt;
      late = record { first = λ number closing waits has. absurd has; promise = λ number closing waits has. absurd has };
      next = omega arith;
      knows = inl (omega arith);
      most = omega (arith, within_so);
      told = λ n among. absurd (among_nothing n among);
      wire_is = sym (none_given_up (anew l.host n 0 hd) (wire_of (resumed_from l n 0 hd)) refl right.line);
    }
