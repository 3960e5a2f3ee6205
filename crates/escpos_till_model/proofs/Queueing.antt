-- What a machine goes on to once a receipt is to be taken.
use Rattle.std.proofs.Common.{ℕ, inl, inr, Option, Some, None, List, sym, subst}
use Rattle.escpos_till.specs.declared.entry.Content.{Content}
use Rattle.escpos_till.specs.declared.entry.Entry.{Entry}
use Rattle.escpos_till.specs.declared.entry.Entry.TheVariants as entry
use Rattle.escpos_till.specs.declared.stage.Stage.{Stage}
use Rattle.escpos_till.specs.declared.stage.Stage.TheVariants as stage
use Rattle.escpos_till.specs.declared.stage.Then.TheVariants as then
use Rattle.escpos_till.specs.declared.note.TillNote.TheVariants as note
use Rattle.escpos_till.specs.Machine.{MachineView, Queues, taking}

taking_to : (P : Stage → Type 0) → ((content : Content) → P (stage.Keeping (entry.Queued content) then.Queued)) → ((e : Entry) (content : Content) → P (stage.Keeping e (then.Take content)))
    → (key last : Option (List ℕ)) (next : ℕ) (content : Content) → P (taking key last next content)
taking_to P receipt first (Some key) last next content = first (entry.Key key) content
taking_to P receipt first None (Some last) next content = first (entry.Raised next 0) content
taking_to P receipt first None None next content = receipt content

-- It tells the number of a receipt that has the key; or it keeps the receipt, or an entry before it.
pub queues_to : (P : Stage → Type 0) → ((number : ℕ) → P (stage.Telling (note.Queued number))) → ((content : Content) → P (stage.Keeping (entry.Queued content) then.Queued))
    → ((e : Entry) (content : Content) → P (stage.Keeping e (then.Take content))) → (m : MachineView) (content : Content) (key : Option (List ℕ)) (after : MachineView) → Queues m content key after → P after.stage
queues_to P tells receipt first m content key after queues = elim queues.goes [
  | inl (number, known, is) ↦ subst P (sym is) (tells number)
  | inr (new, is) ↦ subst P (sym is) (taking_to P receipt first key m.book.last_key m.book.next content)
]
