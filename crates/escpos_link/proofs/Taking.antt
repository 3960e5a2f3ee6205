-- The caller takes a receipt that is left: the others are promised without it.
use Rattle.std.proofs.Common.{◌≡◌, ◌<◌, ◌≤◌, inl, inr, ℕ, List, [], ◌∷◌, ◌++◌, drop, Option, Some, None, refl, sym, ◌∙◌, ap, subst, append-nil, append_assoc}
use Rattle.escpos_command.specs.declared.command.Command.{Command}
use Rattle.escpos_command.specs.Answers.{Hears}
use Rattle.escpos_paper.specs.declared.item.Item.{Item}
use Rattle.escpos_paper.specs.Page.{Sheet}
use Rattle.escpos_paper.specs.Printed.{printed}
use Rattle.escpos_host.specs.Machine.{HostView, InFlight, handed_out}
use Rattle.escpos_link.specs.Promised.{GivenUpFor, LiveFor, NewestFor, PromisedBy, PromisedIn, ServedFor, StandsNext}
use Rattle.escpos_link.specs.Stands.{Stands}
use Rattle.escpos_link.specs.Trusted.{AllPromised, IsTrusted, StillTrusted}
use Rattle.escpos_link.specs.Ways.{answered_marks}
use Rattle.escpos_link.specs.Wire.{WireView, line_of}

-- ## Fewer receipts stand

stands_after : (width : ℕ) (rs : List (List Command)) (before items : List Item) → Stands width rs items → Stands width rs (before ++ items)
stands_after width [] before items s = tt
stands_after width (r ∷ rs) before items (front, after, is, rest) =
    (before ++ front, after, ap (λ v. before ++ v) is ∙ sym (append_assoc before front (printed width r ++ after)), rest)

stands_rest : (width : ℕ) (r : List Command) (rs : List (List Command)) (items : List Item) → Stands width (r ∷ rs) items → Stands width rs items
stands_rest width r rs items (front, after, is, rest) =
    subst (Stands width rs) (append_assoc front (printed width r) after ∙ sym is) (stands_after width rs (front ++ printed width r) after rest)

stands_without : (width : ℕ) (before : List (List Command)) (r : List Command) (others : List (List Command)) (items : List Item) → Stands width (before ++ r ∷ others) items
    → Stands width (before ++ others) items
stands_without width [] r others items s = stands_rest width r others items s
stands_without width (q ∷ before) r others items (front, after, is, rest) = (front, after, is, stands_without width before r others after rest)

-- ## A promise after fewer receipts

-- Where the receipt stands after those, it does after these.
abbrev Follows : ℕ → InFlight → List (List Command) → List (List Command) → Type 0
Follows width p those these = (items : List Item) → StandsNext width p those items → StandsNext width p these items

served_as : (width : ℕ) (p : InFlight) (those these : List (List Command)) (sheet : Sheet) (half stream : List ℕ) → Follows width p those these → ServedFor width p those sheet half stream
    → ServedFor width p these sheet half stream
served_as width p those these sheet half stream so (inl u) = inl u
served_as width p those these sheet half stream so (inr k) = inr (record {
  due = k.due;
  aligned = k.aligned;
  kept = k.kept;
  ran = k.ran;
  sheet_is = k.sheet_is;
  fulfils = λ a b split is. so (k.kept ++ printed width (k.ran ++ a)) (k.fulfils a b split is);
})

given_as : (width : ℕ) (p : InFlight) (those these : List (List Command)) (sheet : Sheet) (half : List ℕ) (ended : List (List ℕ)) → Follows width p those these
    → GivenUpFor width p those sheet half ended → GivenUpFor width p these sheet half ended
given_as width p those these sheet half [] so given = tt
given_as width p those these sheet half (bytes ∷ others) so ((more, served), late) = ((more, served_as width p those these sheet half (bytes ++ more) so served), late)

newest_as : (width : ℕ) (p : InFlight) (those these : List (List Command)) (sheet : Sheet) (half : List ℕ) (ended : List (List ℕ)) (stream : List ℕ) → Follows width p those these
    → NewestFor width p those sheet half ended stream → NewestFor width p these sheet half ended stream
newest_as width p those these sheet half [] stream so newest = served_as width p those these sheet half stream so newest
newest_as width p those these sheet half (bytes ∷ others) stream so newest = newest

live_as : (width : ℕ) (p : InFlight) (those these : List (List Command)) (sheet : Sheet) (half : List ℕ) (ended : List (List ℕ)) (live : Option (List ℕ)) (out : List ℕ)
    → Follows width p those these → LiveFor width p those sheet half ended live out → LiveFor width p these sheet half ended live out
live_as width p those these sheet half ended None out so live = tt
live_as width p those these sheet half ended (Some bytes) out so live = newest_as width p those these sheet half ended (bytes ++ out) so live

promised_as : (width : ℕ) (p : InFlight) (those these : List (List Command)) (h after : HostView) (w : WireView) → after.half ≡ h.half → after.out ≡ h.out → Follows width p those these
    → PromisedIn width those p (line_of h w) → PromisedIn width these p (line_of after w)
promised_as width p those these h after w half out so promise = record {
  answers = promise.answers;
  hears = subst (λ v. Hears (v ++ w.coming) promise.answers []) (sym half) promise.hears;
  by = subst (λ v. PromisedBy width p these v w.printer.sheet w.printer.half w.ended w.live (answered_marks (promise.answers ++ w.printer.waiting))) (sym out) (record {
    answered = λ is. so w.printer.sheet.items (promise.by.answered is);
    given_up = given_as width p those these w.printer.sheet w.printer.half w.ended so promise.by.given_up;
    newest = live_as width p those these w.printer.sheet w.printer.half w.ended w.live h.out so promise.by.newest;
  });
}

-- All of them are promised without one that comes before them.
all_without : (width : ℕ) (before : List (List Command)) (r : List Command) (others : List (List Command)) (left : List InFlight) (h after : HostView) (w : WireView) → after.half ≡ h.half
    → after.out ≡ h.out → after.next ≡ h.next → after.heard ≡ h.heard → AllPromised width (before ++ r ∷ others) left (line_of h w) → AllPromised width (before ++ others) left (line_of after w)
all_without width before r others [] h after w half out next heard all = tt
all_without width before r others (p ∷ left) h after w half out next heard (one, rest) = (
  record {
    put = subst (λ n. p.number < n) (sym next) one.put;
    mark = one.mark;
    promise = λ is_out. promised_as width p (before ++ r ∷ others) (before ++ others) h after w half out
        (λ items s.
        subst (λ rs. Stands width rs items) (sym (append_assoc before others (p.receipt ∷ [])))
        (stands_without width before r (others ++ p.receipt ∷ []) items (subst (λ rs. Stands width rs items) (append_assoc before (r ∷ others) (p.receipt ∷ [])) s)))
        (one.promise (subst (λ k. k ≤ p.number) heard is_out));
  },
  subst (λ rs. AllPromised width rs left (line_of after w)) (sym (append_assoc before others (p.receipt ∷ [])))
      (all_without width before r (others ++ p.receipt ∷ []) left h after w half out next heard
      (subst (λ rs. AllPromised width rs left (line_of h w)) (append_assoc before (r ∷ others) (p.receipt ∷ [])) rest)),
)

-- ## The first one is taken

first_taken : (width : ℕ) (records : List (List Command)) (left : List InFlight) (h : HostView) (w : WireView) → AllPromised width records left (line_of h w)
    → AllPromised width records (drop 1 left) (line_of (handed_out h) w)
first_taken width records [] h w all = tt
first_taken width records (p ∷ left) h w all =
    subst (λ rs. AllPromised width rs left (line_of (handed_out h) w)) (append-nil records) (all_without width records p.receipt [] left h (handed_out h) w refl refl refl refl all.1)

pub taken_trusted : (h : HostView) (w : WireView) → IsTrusted (line_of h w) → StillTrusted (line_of h w) (line_of (handed_out h) w)
taken_trusted h w t =
    let o = t.on_way in (
      record {
        on_way = record { answers = o.answers; hears = o.hears; half = o.half; reached = o.reached; way = o.way };
        left = λ not_open. first_taken w.printer.sheet.line_dots h.records h.left h w (t.left not_open);
      },
      refl,
    )
