-- The four ways of a line when bytes of the first link reach the printer.
use Rattle.std.proofs.Common.{◌≡◌, ◌≤◌, inl, inr, ℕ, zero, suc, List, [], ◌∷◌, ◌++◌, length, take, drop, Option, Some, None, refl, sym, ◌∙◌, ap, subst, arith, append-nil, append_assoc}
use Rattle.escpos_command.specs.declared.command.Command.{Command}
use Rattle.escpos_command.specs.Grammar.{Reads}
use Rattle.escpos_command.specs.Marks.{marks}
use Rattle.escpos_paper.specs.declared.item.Item.{Item}
use Rattle.escpos_paper.specs.Page.{Sheet, SheetIs}
use Rattle.escpos_paper.specs.Printed.{printed}
use Rattle.escpos_host.specs.Machine.{Phase, Down, Opening}
use Rattle.escpos_link.specs.EventTable.{ended_fed, first_of, live_fed}
use Rattle.escpos_link.specs.Stands.{Stands}
use Rattle.escpos_link.specs.Ways.{AreApart, Course, IsRest, IsSince, Newest, Owed, Row, ServedLink, Way, flight_of}
use Rattle.escpos_link.proofs.Aligning.{OfReadings, none_read}
use Rattle.escpos_link.proofs.Claiming.{OfPaper, course_run, more_printed, rested}
use Rattle.escpos_link.proofs.Leaving.{items_are}
use Rattle.escpos_link.proofs.Links.{StillOrTurned, row_tails, served_on, unread_on}
use Rattle.escpos_link.proofs.Numbers.{row_from, row_join, row_within}

-- The bytes that were fed, and those after them.
pub fed_split : (k n : ℕ) (xs : List ℕ) → k ≤ length (take n xs) → take k (take n xs) ++ drop k xs ≡ xs
fed_split zero n xs few = refl
fed_split (suc k) zero xs few = absurd (omega (arith, few))
fed_split (suc k) (suc n) [] few = absurd (omega (arith, few))
fed_split (suc k) (suc n) (x ∷ xs) few = ap (λ v. x ∷ v) (fed_split k n xs (omega (arith, few)))

none_taken : (n : ℕ) (xs : List ℕ) → xs ≡ [] → take n xs ≡ []
none_taken zero xs none = refl
none_taken (suc n) xs none = ap (take (suc n)) none

pub none_fed : (k n : ℕ) (xs : List ℕ) → xs ≡ [] → take k (take n xs) ≡ []
none_fed k n xs none = none_taken k (take n xs) (none_taken n xs none)

-- What the printer read, and what it has on its paper then.
pub record Read (width : ℕ) (sheet after : Sheet) (half rest bytes : List ℕ) (cs : List Command) : Type 0 where
  pub kept : List Item
  pub ran : List Command
  pub before : SheetIs width sheet kept ran
  pub page : (on : List Item) (done : List Command) → SheetIs width sheet on done → SheetIs width after on (done ++ cs)
  pub was : IsRest half
  pub reads : Reads (half ++ bytes) cs rest

pub still_stands : (width : ℕ) → OfPaper → (records : List (List Command)) (sheet after : Sheet) (half rest bytes : List ℕ) (cs : List Command) → Read width sheet after half rest bytes cs
    → Stands width records sheet.items → Stands width records after.items
still_stands width paper records sheet after half rest bytes cs r s =
    subst (Stands width records) (sym (items_are width after r.kept (r.ran ++ cs) (r.page r.kept r.ran r.before)))
    (more_printed width paper records r.kept r.ran cs (subst (Stands width records) (items_are width sheet r.kept r.ran r.before) s))

same_items : (width : ℕ) (sheet after : Sheet) (half rest bytes : List ℕ) (cs : List Command) → Read width sheet after half rest bytes cs → cs ≡ [] → after.items ≡ sheet.items
same_items width sheet after half rest bytes cs r none =
    items_are width after r.kept (r.ran ++ cs) (r.page r.kept r.ran r.before) ∙ ap (λ v. r.kept ++ printed width (r.ran ++ v)) none
    ∙ ap (λ v. r.kept ++ printed width v) (append-nil r.ran) ∙ sym (items_are width sheet r.kept r.ran r.before)

none_pending : (pending : List (List ℕ)) (cs : List Command) → cs ≡ [] → pending ++ marks cs ≡ pending
none_pending pending cs none = ap (λ v. pending ++ marks v) none ∙ append-nil pending

-- A mark of the live link may be run.
turns_way : (width : ℕ) → OfReadings → OfPaper → (phase : Phase) (out : List ℕ) (next first reach heard : ℕ) (records : List (List Command)) (sheet after : Sheet)
    (half rest bytes left : List ℕ) (pending : List (List ℕ)) (cs : List Command) → phase ≡ Opening first → first ≤ next → AreApart heard next → Stands width records sheet.items
    → reach ≤ first → Row heard reach pending → Read width sheet after half rest bytes cs → StillOrTurned (Row first next) rest (left ++ out) cs
    → Way width phase out next heard records after rest [] (Some left) (pending ++ marks cs)
turns_way width below paper phase out next first reach heard records sheet after half rest bytes left pending cs opening within apart stands reaches known r (inl (none, u)) = inr (record {
  first = first;
  opening = opening;
  within = within;
  apart = apart;
  stands = still_stands width paper records sheet after half rest bytes cs r stands;
  reach = reach;
  known = subst (λ v. Row heard reach (pending ++ v)) (sym none) (subst (Row heard reach) (sym (append-nil pending)) known);
  given_up = reaches;
  newest = u;
})
turns_way width below paper phase out next first reach heard records sheet after half rest bytes left pending cs opening within apart stands reaches known r (inr (others, goes, all)) =
    let none : flight_of phase ≡ [] = ap flight_of opening in
    let here = r.page r.kept r.ran r.before in
    let row = subst (Row heard next) (sym (append_assoc pending (marks cs) (marks others)))
    (row_join heard reach next pending (marks cs ++ marks others) known (row_from reach first next (marks cs ++ marks others) reaches all)) in
    let now = subst (Stands width records) (items_are width after r.kept (r.ran ++ cs) here) (still_stands width paper records sheet after half rest bytes cs r stands) in
    inl (record {
      up = λ is_down. let bad : Opening first ≡ Down = sym opening ∙ is_down in cc;
      only = refl;
      apart = apart;
      since = subst (λ p. IsSince p heard) (sym opening) (let least = row_within heard reach pending known in omega (arith, least, reaches));
      kept = r.kept;
      ran = r.ran ++ cs;
      due = others;
      sheet_is = here;
      aligned = goes;
      course = subst (λ v. Course width heard records v next r.kept (r.ran ++ cs) (pending ++ marks cs) others) (sym none)
          (rested width heard records next r.kept (r.ran ++ cs) (pending ++ marks cs) others now row);
    })

pub fed_way : (width : ℕ) → OfReadings → OfPaper → (phase : Phase) (out : List ℕ) (next heard : ℕ) (records : List (List Command)) (sheet after : Sheet) (half rest : List ℕ)
    (ended : List (List ℕ)) (live : Option (List ℕ)) (pending : List (List ℕ)) (k n : ℕ) (cs : List Command) → k ≤ length (take n (first_of ended live))
    → Read width sheet after half rest (take k (take n (first_of ended live))) cs → Way width phase out next heard records sheet half ended live pending
    → Way width phase out next heard records after rest (ended_fed ended k) (live_fed ended live k) (pending ++ marks cs)
fed_way width below paper phase out next heard records sheet after half rest [] None pending k n cs few r (inl w) =
    let none = none_read below half (take k (take n [])) cs rest r.was (none_fed k n [] refl) r.reads in
    inl (record {
      up = w.up;
      only = refl;
      apart = w.apart;
      since = w.since;
      owed = subst (λ v. Owed width heard records (flight_of phase) next v (pending ++ marks cs)) (sym (same_items width sheet after half rest _ cs r none))
          (subst (Owed width heard records (flight_of phase) next sheet.items) (sym (none_pending pending cs none)) w.owed);
    })
fed_way width below paper phase out next heard records sheet after half rest [] None pending k n cs few r (inr w) =
    let none = none_read below half (take k (take n [])) cs rest r.was (none_fed k n [] refl) r.reads in
    inr (record {
      down = w.down;
      stands = still_stands width paper records sheet after half rest _ cs r w.stands;
      reach = w.reach;
      end = w.end;
      within = w.within;
      known = subst (Row heard w.reach) (sym (none_pending pending cs none)) w.known;
      given_up = w.given_up;
    })
fed_way width below paper phase out next heard records sheet after half rest [] (Some bytes) pending k n cs few r (inl w) =
    let piece = take k (take n bytes) in
    let all : half ++ (bytes ++ out) ≡ (half ++ piece) ++ (drop k bytes ++ out) =
    ap (λ v. half ++ (v ++ out)) (sym (fed_split k n bytes few)) ∙ ap (λ v. half ++ v) (append_assoc piece (drop k bytes) out)
    ∙ sym (append_assoc half piece (drop k bytes ++ out)) in
    let c = below.cut (half ++ piece) (drop k bytes ++ out) w.due cs rest (subst (λ v. Reads v w.due []) all w.aligned) r.reads in
    inl (record {
      up = w.up;
      only = refl;
      apart = w.apart;
      since = w.since;
      kept = w.kept;
      ran = w.ran ++ cs;
      due = c.0;
      sheet_is = r.page w.kept w.ran w.sheet_is;
      aligned = c.2;
      course = course_run width heard paper records (flight_of phase) next w.kept w.ran pending cs c.0
          (subst (Course width heard records (flight_of phase) next w.kept w.ran pending) c.1 w.course);
    })
fed_way width below paper phase out next heard records sheet after half rest [] (Some bytes) pending k n cs few r (inr w) =
    let piece = take k (take n bytes) in
    let all : bytes ++ out ≡ piece ++ (drop k bytes ++ out) = ap (λ v. v ++ out) (sym (fed_split k n bytes few)) ∙ append_assoc piece (drop k bytes) out in
    turns_way width below paper phase out next w.first w.reach heard records sheet after half rest piece (drop k bytes) pending cs w.opening w.within w.apart w.stands w.given_up w.known r
    (unread_on below (Row w.first next) (row_tails w.first next) half piece (drop k bytes ++ out) rest cs (subst (Newest w.first next half []) all w.newest) r.reads)
fed_way width below paper phase out next heard records sheet after half rest (bytes ∷ others) None pending k n cs few r (inl w) = absurd (cc w.only)
fed_way width below paper phase out next heard records sheet after half rest (bytes ∷ others) None pending k n cs few r (inr w) =
    let piece = take k (take n bytes) in
    let mid = w.given_up.0 in
    let on = served_on below w.reach mid half piece (drop k bytes) rest cs (subst (ServedLink w.reach mid half) (sym (fed_split k n bytes few)) w.given_up.1) r.reads in
    inr (record {
      down = w.down;
      stands = still_stands width paper records sheet after half rest piece cs r w.stands;
      reach = on.0;
      end = w.end;
      within = w.within;
      known = row_join heard w.reach on.0 pending (marks cs) w.known on.1;
      given_up = (mid, on.2, w.given_up.2);
    })
fed_way width below paper phase out next heard records sheet after half rest (bytes ∷ others) (Some newer) pending k n cs few r (inl w) = absurd (cc w.only)
fed_way width below paper phase out next heard records sheet after half rest (bytes ∷ others) (Some newer) pending k n cs few r (inr w) =
    let piece = take k (take n bytes) in
    let mid = w.given_up.0 in
    let on = served_on below w.reach mid half piece (drop k bytes) rest cs (subst (ServedLink w.reach mid half) (sym (fed_split k n bytes few)) w.given_up.1) r.reads in
    inr (record {
      first = w.first;
      opening = w.opening;
      within = w.within;
      apart = w.apart;
      stands = still_stands width paper records sheet after half rest piece cs r w.stands;
      reach = on.0;
      known = row_join heard w.reach on.0 pending (marks cs) w.known on.1;
      given_up = (mid, on.2, w.given_up.2);
      newest = w.newest;
    })
