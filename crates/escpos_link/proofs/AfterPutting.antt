-- The four ways of a line when the host puts something out, and when bytes leave it.
use Rattle.std.proofs.Common.{◌≡◌, ◌≢◌, ◌<◌, ◌≤◌, ◌+◌, inl, inr, ℕ, List, [], ◌∷◌, ◌++◌, take, drop, Option, Some, None, refl, sym, ◌∙◌, ap, subst, arith, append-nil, append_assoc, take-append-drop}
use Rattle.escpos_command.specs.declared.command.Command.{Command}
use Rattle.escpos_command.specs.declared.command.Command.TheVariants as kind
use Rattle.escpos_command.specs.CommandTable.{AreCommands, IsCommand, row, spell}
use Rattle.escpos_command.specs.Digits.{mark_count}
use Rattle.escpos_host.specs.Counted.{id_of}
use Rattle.escpos_command.specs.Grammar.{Reads}
use Rattle.escpos_command.specs.Marks.{mark_id, marks}
use Rattle.escpos_paper.specs.Page.{Sheet}
use Rattle.std.specs.Prelude.{false, option_to_list}
use Rattle.escpos_receipt.specs.Whole.{EachMayFollow, is_forbidden}
use Rattle.escpos_host.specs.Machine.{InFlight, IsOpening, Phase, Down, Opening, Open, closed_by}
use Rattle.escpos_link.specs.EventTable.{put_on}
use Rattle.escpos_link.specs.Ways.{Course, Newest, Owed, Row, Way, flight_of}
use Rattle.escpos_link.proofs.Aligning.{OfReadings}
use Rattle.escpos_link.proofs.Claiming.{OfPaper, course_more, course_submit, owed_more, owed_submit}
use Rattle.escpos_link.proofs.Links.{newest_add, step_add}
use Rattle.escpos_link.proofs.Numbers.{OfNumbers}

none_opening : (phase : Phase) → IsOpening phase → flight_of phase ≡ []
none_opening Down is = refl
none_opening (Opening first) is = refl
none_opening (Open flight) is = absurd is

opening_up : (phase : Phase) → IsOpening phase → phase ≡ Down → ⊥
opening_up Down is e = is
opening_up (Opening first) is e = cc e
opening_up (Open flight) is e = is

one_row : (c : Command) → spell (c ∷ []) ≡ row c
one_row c = append-nil (row c)

-- ## A receipt has no mark

allowed_id : (c : Command) → is_forbidden c ≡ false → mark_id c ≡ None
allowed_id (kind.Mark id) allowed = absurd (cc allowed)
allowed_id c allowed = refl

pub unmarked : (before cs : List Command) → EachMayFollow (before ++ cs) → marks cs ≡ []
unmarked before [] each = refl
unmarked before (c ∷ cs) each =
    let rest = unmarked (before ++ c ∷ []) cs (subst EachMayFollow (sym (append_assoc before (c ∷ []) cs)) each) in
    ap (λ v. option_to_list v ++ marks cs) (allowed_id c (each before c cs refl).allowed) ∙ rest

-- ## What the host puts out

row_one : (next : ℕ) → Row next (next + 1) (id_of next ∷ [])
row_one next = let least : next ≤ next = omega arith in let most : next + 1 ≤ next + 1 = omega arith in (next, least, refl, most)

-- One more opening mark.
pub nudged_way : (width : ℕ) → OfReadings → OfNumbers → OfPaper → (phase : Phase) (out : List ℕ) (next heard : ℕ) (records : List (List Command)) (sheet : Sheet) (half : List ℕ)
    (ended : List (List ℕ)) (live : Option (List ℕ)) (pending : List (List ℕ)) → IsOpening phase → next < heard + mark_count
    → Way width phase out next heard records sheet half ended live pending
    → Way width phase (out ++ row (kind.Mark (id_of next))) (next + 1) heard records sheet half ended live pending
nudged_way width below of paper phase out next heard records sheet half ended None pending is few (inl w) =
    inl (record { up = w.up; only = w.only; apart = omega (arith, few); since = w.since; owed = owed_more width heard records (flight_of phase) next (next + 1) sheet.items pending (omega arith) w.owed })
nudged_way width below of paper phase out next heard records sheet half ended None pending is few (inr w) = absurd (opening_up phase is w.down)
nudged_way width below of paper phase out next heard records sheet half ended (Some bytes) pending is few (inl w) =
    let m = kind.Mark (id_of next) in
    inl (record {
      up = w.up;
      only = w.only;
      apart = omega (arith, few);
      since = w.since;
      kept = w.kept;
      ran = w.ran;
      due = w.due ++ m ∷ [];
      sheet_is = w.sheet_is;
      aligned = subst (λ v. Reads (half ++ (bytes ++ (out ++ v))) (w.due ++ m ∷ []) []) (one_row m)
          (step_add below half bytes out w.due (m ∷ []) w.aligned (of.ids next, tt));
      course = course_more width heard paper records (flight_of phase) next (next + 1) w.kept w.ran pending w.due (m ∷ []) (none_opening phase is)
          (row_one next) w.course;
    })
nudged_way width below of paper phase out next heard records sheet half ended (Some bytes) pending is few (inr w) =
    let m = kind.Mark (id_of next) in
    let within = w.within in
    inr (record {
      first = w.first;
      opening = w.opening;
      within = omega (arith, within);
      apart = omega (arith, few);
      stands = w.stands;
      reach = w.reach;
      known = w.known;
      given_up = w.given_up;
      newest = subst (Newest w.first (next + 1) half ended) (append_assoc bytes out (row m))
          (newest_add w.first next half ended (bytes ++ out) (id_of next) (of.ids next) refl w.newest);
    })

not_opening : (phase : Phase) (first : ℕ) (flight : List InFlight) → phase ≡ Open flight → phase ≡ Opening first → ⊥
not_opening phase first flight is also = let bad : Open flight ≡ Opening first = sym is ∙ also in cc

not_down : (phase : Phase) (flight : List InFlight) → phase ≡ Open flight → phase ≡ Down → ⊥
not_down phase flight is also = let bad : Open flight ≡ Down = sym is ∙ also in cc

open_up : (flight : List InFlight) → Open flight ≢ Down
open_up flight e = cc e

-- A receipt.
pub submitted_way : (width : ℕ) → OfReadings → OfNumbers → (phase : Phase) (out : List ℕ) (next heard : ℕ) (records : List (List Command)) (sheet : Sheet) (half : List ℕ)
    (ended : List (List ℕ)) (live : Option (List ℕ)) (pending : List (List ℕ)) (flight : List InFlight) (receipt : List Command) → phase ≡ Open flight
    → next < heard + mark_count → marks receipt ≡ [] → AreCommands receipt → AreCommands (kind.Init ∷ (receipt ++ kind.Mark (id_of next) ∷ []))
    → Way width phase out next heard records sheet half ended live pending
    → Way width (Open (flight ++ closed_by receipt next ∷ [])) (out ++ spell (kind.Init ∷ (receipt ++ kind.Mark (id_of next) ∷ []))) (next + 1)
    heard records sheet half ended live pending
submitted_way width below of phase out next heard records sheet half ended None pending flight receipt is few none are all (inl w) = inl (record {
  up = open_up _;
  only = w.only;
  apart = omega (arith, few);
  since = tt;
  owed = owed_submit width heard records flight next sheet.items pending (closed_by receipt next) refl refl
      (subst (λ v. Owed width heard records (flight_of v) next sheet.items pending) is w.owed);
})
submitted_way width below of phase out next heard records sheet half ended None pending flight receipt is few none are all (inr w) = absurd (not_down phase flight is w.down)
submitted_way width below of phase out next heard records sheet half ended (Some bytes) pending flight receipt is few none are all (inl w) =
    let cs = kind.Init ∷ (receipt ++ kind.Mark (id_of next) ∷ []) in
    inl (record {
      up = open_up _;
      only = w.only;
      apart = omega (arith, few);
      since = tt;
      kept = w.kept;
      ran = w.ran;
      due = w.due ++ cs;
      sheet_is = w.sheet_is;
      aligned = step_add below half bytes out w.due cs w.aligned all;
      course = course_submit width heard records flight next w.kept w.ran pending w.due (closed_by receipt next) refl refl none
          (subst (λ v. Course width heard records (flight_of v) next w.kept w.ran pending w.due) is w.course);
    })
submitted_way width below of phase out next heard records sheet half ended (Some bytes) pending flight receipt is few none are all (inr w) =
    absurd (not_opening phase w.first flight is w.opening)

-- A request.
pub asked_way : (width : ℕ) → OfReadings → OfPaper → (phase : Phase) (out : List ℕ) (next heard : ℕ) (records : List (List Command)) (sheet : Sheet) (half : List ℕ)
    (ended : List (List ℕ)) (live : Option (List ℕ)) (pending : List (List ℕ)) (c : Command) → phase ≡ Open [] → IsCommand c → mark_id c ≡ None
    → Way width phase out next heard records sheet half ended live pending
    → Way width phase (out ++ row c) next heard records sheet half ended live pending
asked_way width below paper phase out next heard records sheet half ended None pending c is ok none (inl w) = inl w
asked_way width below paper phase out next heard records sheet half ended None pending c is ok none (inr w) = inr w
asked_way width below paper phase out next heard records sheet half ended (Some bytes) pending c is ok none (inl w) =
    inl (record {
      up = w.up;
      only = w.only;
      apart = w.apart;
      since = w.since;
      kept = w.kept;
      ran = w.ran;
      due = w.due ++ c ∷ [];
      sheet_is = w.sheet_is;
      aligned = subst (λ v. Reads (half ++ (bytes ++ (out ++ v))) (w.due ++ c ∷ []) []) (one_row c) (step_add below half bytes out w.due (c ∷ []) w.aligned (ok, tt));
      course = course_more width heard paper records (flight_of phase) next next w.kept w.ran pending w.due (c ∷ []) (ap flight_of is)
          (subst (Row next next) (sym (ap (λ v. option_to_list v ++ []) none)) (omega arith)) w.course;
    })
asked_way width below paper phase out next heard records sheet half ended (Some bytes) pending c is ok none (inr w) = absurd (not_opening phase w.first [] is w.opening)

-- Bytes leave the host.
pub kept_bytes : (bytes out : List ℕ) (n : ℕ) → bytes ++ out ≡ (bytes ++ take n out) ++ drop n out
kept_bytes bytes out n = ap (λ v. bytes ++ v) (sym (take-append-drop n out)) ∙ sym (append_assoc bytes (take n out) (drop n out))

pub moved_way : (width : ℕ) (phase : Phase) (out : List ℕ) (next heard : ℕ) (records : List (List Command)) (sheet : Sheet) (half : List ℕ) (ended : List (List ℕ))
    (live : Option (List ℕ)) (pending : List (List ℕ)) (n : ℕ) → Way width phase out next heard records sheet half ended live pending
    → Way width phase (drop n out) next heard records sheet half ended (put_on live (take n out)) pending
moved_way width phase out next heard records sheet half ended None pending n (inl w) = inl w
moved_way width phase out next heard records sheet half ended None pending n (inr w) = inr w
moved_way width phase out next heard records sheet half ended (Some bytes) pending n (inl w) = inl (record {
  up = w.up;
  only = w.only;
  apart = w.apart;
  since = w.since;
  kept = w.kept;
  ran = w.ran;
  due = w.due;
  sheet_is = w.sheet_is;
  aligned = subst (λ v. Reads (half ++ v) w.due []) (kept_bytes bytes out n) w.aligned;
  course = w.course;
})
moved_way width phase out next heard records sheet half ended (Some bytes) pending n (inr w) = inr (record {
  first = w.first;
  opening = w.opening;
  within = w.within;
  apart = w.apart;
  stands = w.stands;
  reach = w.reach;
  known = w.known;
  given_up = w.given_up;
  newest = subst (Newest w.first next half ended) (kept_bytes bytes out n) w.newest;
})
