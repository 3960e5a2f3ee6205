-- A link that is served in parts: what was torn off after each stands above what is printed later.
use Rattle.std.proofs.Common.{◌≡◌, ◌+◌, ℕ, List, [], ◌++◌, sym, ◌∙◌, ap, subst, append_assoc, Option}
use Rattle.std.proofs.lemmas.Grind.{flat_map-append}
use Rattle.escpos_paper.specs.declared.item.Item.{Item}
use Rattle.escpos_command.specs.declared.command.Command.{Command}
use Rattle.escpos_paper.specs.ItemsText.{item_text, items_text}
use Rattle.escpos_paper.specs.Page.{SheetIs}
use Rattle.escpos_printer.specs.Feeds.{PrinterView}
use Rattle.escpos_printer.specs.LinkInParts.{in_all, under}
use Rattle.escpos_printer.specs.Serves.{Serves, LinkView, link}
use Rattle.escpos_printer.specs.declared.serve.LinkEnd.TheVariants.{TooLong}
use Rattle.escpos_printer.specs.declared.serve.Served.{Served}

-- The link was served this far, and this is the text of what was torn off.
pub record ServedSoFar (p : PrinterView) (l : LinkView) (most : ℕ) (served : Served) (before text : List ℕ) (q : PrinterView) : Type 0 where
  pub gone : List Item
  pub text_is : text ≡ before ++ items_text gone
  pub serves : Serves p l most served (under gone q)

-- What serving one part does, whatever stands above.
abbrev pub ServesPart : PrinterView → LinkView → ℕ → Served → List ℕ → List ℕ → PrinterView → Type 0
ServesPart p l most served before text q =
    (gone : List Item) × (text ≡ before ++ items_text gone) × ((above : List Item) → Serves (under above p) l most served (under (above ++ gone) q))

-- The law of paper above, as escpos_printer states it.
abbrev pub AboveLaw : Type 0
AboveLaw = (gone : List Item) (p q : PrinterView) (l : LinkView) (most : ℕ) (served : Served) (width : ℕ) (kept : List Item) (cs : List Command)
    → SheetIs width p.sheet kept cs → Serves p l most served q → Serves (under gone p) l most served (under gone q)

both_above : (above gone : List Item) (p : PrinterView) → under above (under gone p) ≡ under (above ++ gone) p
both_above above gone p = let e = sym (append_assoc above gone p.sheet.items) in cc e

-- A part was served, and what it printed was torn off.
pub torn_part : AboveLaw → (p q t : PrinterView) (l : LinkView) (most : ℕ) (served : Served) (before text : List ℕ) (gone : List Item) (width : ℕ) (kept : List Item) (cs : List Command)
    → SheetIs width p.sheet kept cs → Serves p l most served q → text ≡ before ++ items_text gone → q ≡ under gone t → ServesPart p l most served before text t
torn_part law p q t l most served before text gone width kept cs is h e f = (
  gone,
  e,
  λ above. subst (λ v. Serves (under above p) l most served v) (ap (under above) f ∙ both_above above gone t) (law above p q l most served width kept cs is h),
)

pub first_part : (p q : PrinterView) (l : LinkView) (most : ℕ) (served : Served) (before text : List ℕ)
    → ServesPart p l most served before text q → ServedSoFar p l most served before text q
first_part p q l most served before text h = record { gone = h.0; text_is = h.1; serves = h.2 [] }

-- The law of parts, as escpos_printer states it.
abbrev pub PartsLaw : Type 0
PartsLaw = (p q t : PrinterView) (came left rest before between after : Option (List ℕ)) (most further : ℕ) (first more : Served)
    → Serves p (link came left before between) most first q → first.end ≡ TooLong → Serves q (link left rest between after) further more t
    → Serves p (link came rest before after) (most + further) (in_all first more) t

pub next_part : PartsLaw → (p q t : PrinterView) (came left rest before between after : Option (List ℕ)) (most further both : ℕ) (first more : Served) (old kept text : List ℕ)
    → ServedSoFar p (link came left before between) most first old kept q → first.end ≡ TooLong → ServesPart q (link left rest between after) further more kept text t
    → most + further ≡ both → ServedSoFar p (link came rest before after) both (in_all first more) old text t
next_part law p q t came left rest before between after most further both first more old kept text h full k e = record {
  gone = h.gone ++ k.0;
  text_is =
      k.1 ∙ ap (λ v. v ++ items_text k.0) h.text_is ∙ append_assoc old (items_text h.gone) (items_text k.0)
      ∙ ap (λ v. old ++ v) (sym (flat_map-append item_text h.gone k.0));
  serves =
      subst (λ n. Serves p (link came rest before after) n (in_all first more) (under (h.gone ++ k.0) t)) e
      (law p (under h.gone q) (under (h.gone ++ k.0) t) came left rest before between after most further first more h.serves full (k.2 h.gone));
}
