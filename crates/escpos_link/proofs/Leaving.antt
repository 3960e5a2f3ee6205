-- The four ways of a line when an end leaves a link, or is restarted; and when the host opens one.
use Rattle.std.proofs.Common.{◌≡◌, ◌<◌, ◌≤◌, ◌+◌, inl, inr, ℕ, List, [], ◌∷◌, ◌++◌, drop, Option, Some, None, refl, sym, ◌∙◌, ap, subst, arith, append-nil}
use Rattle.std.specs.Prelude.{option_to_list}
use Rattle.escpos_command.specs.declared.command.Command.{Command}
use Rattle.escpos_command.specs.Digits.{mark_count}
use Rattle.escpos_command.specs.Marks.{marks}
use Rattle.escpos_paper.specs.declared.item.Item.{Item}
use Rattle.escpos_paper.specs.Page.{Sheet, SheetIs}
use Rattle.escpos_paper.specs.Printed.{printed}
use Rattle.escpos_host.specs.Machine.{Phase, Down, Opening}
use Rattle.escpos_link.specs.EventTable.{live_left}
use Rattle.escpos_link.specs.Stands.{Stands}
use Rattle.escpos_link.specs.Ways.{Fresh, GivenUp, InStep, IsRest, IsSince, Off, Owed, Way, flight_of}
use Rattle.escpos_link.proofs.Claiming.{OfPaper, course_known, course_owed, course_stands, owed_front, owed_known, owed_rested, owed_stands}
use Rattle.escpos_link.proofs.Links.{given_add, given_skip, given_to, given_within, newest_next}
use Rattle.escpos_link.proofs.Numbers.{row_back, row_front, row_split, row_to, row_within}

pub items_are : (width : ℕ) (sheet : Sheet) (kept : List Item) (ran : List Command) → SheetIs width sheet kept ran → sheet.items ≡ kept ++ printed width ran
items_are width sheet kept ran is = ap (λ (v : Sheet). v.items) is

-- ## The printer leaves its first link

-- It may be switched off and on: its paper is as it was, and of the answers some may be lost, the last ones.
pub leaves_way : (width : ℕ) → OfPaper → (phase : Phase) (out : List ℕ) (next heard : ℕ) (records : List (List Command)) (sheet after : Sheet) (half rest : List ℕ)
    (ended : List (List ℕ)) (live : Option (List ℕ)) (xs ys : List (List ℕ)) → after.items ≡ sheet.items → IsRest rest
    → Way width phase out next heard records sheet half ended live (xs ++ ys) → Way width phase out next heard records after rest (drop 1 ended) (live_left ended live) xs
leaves_way width paper phase out next heard records sheet after half rest [] None xs ys same is (inl w) = inl (record {
  up = w.up;
  only = refl;
  apart = w.apart;
  since = w.since;
  owed = subst (λ v. Owed width heard records (flight_of phase) next v xs) (sym same) (owed_front width heard records (flight_of phase) next sheet.items xs ys w.owed);
})
leaves_way width paper phase out next heard records sheet after half rest [] None xs ys same is (inr w) =
    inr (record {
      down = w.down;
      stands = subst (Stands width records) (sym same) w.stands;
      reach = w.reach;
      end = w.end;
      within = w.within;
      known = row_front heard w.reach xs ys w.known;
      given_up = w.given_up;
    })
leaves_way width paper phase out next heard records sheet after half rest [] (Some bytes) xs ys same is (inl w) = inl (record {
  up = w.up;
  only = refl;
  apart = w.apart;
  since = w.since;
  owed = subst (λ v. Owed width heard records (flight_of phase) next v xs) (sym (items_are width sheet w.kept w.ran w.sheet_is) ∙ sym same)
      (course_owed width heard paper records (flight_of phase) next w.kept w.ran xs ys w.due w.course);
})
leaves_way width paper phase out next heard records sheet after half rest [] (Some bytes) xs ys same is (inr w) =
    let none : flight_of phase ≡ [] = ap flight_of w.opening in
    let reach = given_within w.reach w.first half [] w.given_up in
    let within = w.within in
    let known = row_to heard w.reach next xs (omega (arith, reach, within)) (row_front heard w.reach xs ys w.known) in
    inl (record {
      up = λ is_down. let bad : Opening w.first ≡ Down = sym w.opening ∙ is_down in cc;
      only = refl;
      apart = w.apart;
      since = subst (λ p. IsSince p heard) (sym w.opening) (let least = row_within heard w.reach (xs ++ ys) w.known in omega (arith, least, reach));
      owed = subst (λ v. Owed width heard records v next after.items xs) (sym none) (owed_rested width heard records next after.items xs (subst (Stands width records) (sym same) w.stands) known);
    })
leaves_way width paper phase out next heard records sheet after half rest (bytes ∷ others) None xs ys same is (inl w) = absurd (cc w.only)
leaves_way width paper phase out next heard records sheet after half rest (bytes ∷ others) None xs ys same is (inr w) = inr (record {
  down = w.down;
  stands = subst (Stands width records) (sym same) w.stands;
  reach = w.reach;
  end = w.end;
  within = w.within;
  known = row_front heard w.reach xs ys w.known;
  given_up = given_skip w.reach w.end half rest bytes others is w.given_up;
})
leaves_way width paper phase out next heard records sheet after half rest (bytes ∷ others) (Some on) xs ys same is (inl w) = absurd (cc w.only)
leaves_way width paper phase out next heard records sheet after half rest (bytes ∷ others) (Some on) xs ys same is (inr w) = inr (record {
  first = w.first;
  opening = w.opening;
  within = w.within;
  apart = w.apart;
  stands = subst (Stands width records) (sym same) w.stands;
  reach = w.reach;
  known = row_front heard w.reach xs ys w.known;
  given_up = given_skip w.reach w.first half rest bytes others is w.given_up;
  newest = newest_next w.first next rest others (on ++ out) is w.newest;
})

-- ## The host gives its link up

-- Answers on their way are lost.
pub off_way : (width : ℕ) → OfPaper → (phase : Phase) (out : List ℕ) (next heard : ℕ) (records : List (List Command)) (sheet : Sheet) (half : List ℕ) (ended : List (List ℕ))
    (live : Option (List ℕ)) (xs ys : List (List ℕ)) → Way width phase out next heard records sheet half ended live (xs ++ ys)
    → Off width Down next heard records sheet half (ended ++ option_to_list live) ys
off_way width paper phase out next heard records sheet half ended None xs ys (inl w) =
    let same : next ≤ next = omega arith in
    record {
      down = refl;
      stands = owed_stands width heard records (flight_of phase) next sheet.items (xs ++ ys) w.owed;
      reach = next;
      end = next;
      within = omega arith;
      known = row_back heard next xs ys (owed_known width heard records (flight_of phase) next sheet.items (xs ++ ys) w.owed);
      given_up = subst (λ v. GivenUp next next half (v ++ [])) (sym w.only) same;
    }
off_way width paper phase out next heard records sheet half ended None xs ys (inr w) = record {
  down = refl;
  stands = w.stands;
  reach = w.reach;
  end = w.end;
  within = w.within;
  known = row_back heard w.reach xs ys w.known;
  given_up = subst (GivenUp w.reach w.end half) (sym (append-nil ended)) w.given_up;
}
off_way width paper phase out next heard records sheet half ended (Some bytes) xs ys (inl w) =
    let known = course_known width heard records (flight_of phase) next w.kept w.ran (xs ++ ys) w.due w.course in
    let r = row_split heard next (xs ++ ys) (marks w.due) known in
    let step : InStep r.0 next half (bytes ++ out) = record { due = w.due; aligned = w.aligned; known = r.2 } in
    let same : next ≤ next = omega arith in
    record {
      down = refl;
      stands = subst (Stands width records) (sym (items_are width sheet w.kept w.ran w.sheet_is))
          (course_stands width heard paper records (flight_of phase) next w.kept w.ran (xs ++ ys) w.due w.course);
      reach = r.0;
      end = next;
      within = omega arith;
      known = row_back heard r.0 xs ys r.1;
      given_up = subst (λ v. GivenUp r.0 next half (v ++ bytes ∷ [])) (sym w.only) (next, (out, inr step), same);
    }
off_way width paper phase out next heard records sheet half ended (Some bytes) xs ys (inr w) = record {
  down = refl;
  stands = w.stands;
  reach = w.reach;
  end = next;
  within = omega arith;
  known = row_back heard w.reach xs ys w.known;
  given_up = given_add w.reach w.first next half ended bytes out w.given_up w.newest;
}

-- ## The host opens a link

pub opened_way : (width : ℕ) → OfPaper → (phase : Phase) (out : List ℕ) (next heard : ℕ) (records : List (List Command)) (sheet : Sheet) (half : List ℕ) (ended : List (List ℕ))
    (live : Option (List ℕ)) (xs ys : List (List ℕ)) (bytes : List ℕ) → live ≡ None → phase ≡ Down → next < heard + mark_count → Fresh next (next + 1) bytes → IsRest half
    → Way width phase out next heard records sheet half ended live (xs ++ ys)
    → Way width (Opening next) bytes (next + 1) heard records sheet half ended (Some []) ys
opened_way width paper phase out next heard records sheet half ended (Some on) xs ys bytes none is_down few fresh is w = absurd (cc none)
opened_way width paper phase out next heard records sheet half ended None xs ys bytes none is_down few fresh is (inl w) = absurd (w.up is_down)
opened_way width paper phase out next heard records sheet half ended None xs ys bytes none is_down few fresh is (inr w) = inr (record {
  first = next;
  opening = refl;
  within = omega arith;
  apart = omega (arith, few);
  stands = w.stands;
  reach = w.reach;
  known = row_back heard w.reach xs ys w.known;
  given_up = given_to w.reach w.end next half ended w.within w.given_up;
  newest = newest_next next (next + 1) half ended bytes is fresh;
})
