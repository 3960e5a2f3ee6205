-- What a store is to add, and what it answers.
use Rattle.std.specs.Prelude.{Option, Some, None, List, [], ◌∷◌}
use Rattle.escpos_till.specs.declared.entry.Entry.{Entry}
use Rattle.escpos_till.specs.declared.store.Appended.{Appended}
use Rattle.escpos_till.specs.declared.store.Appended.TheVariants as appended

-- What is added at once: an entry, and perhaps another one after it.
abbrev pub added : Entry → Option Entry → List Entry
added e None = e ∷ []
added e (Some f) = e ∷ f ∷ []

-- The store has what was to be added: this holds then.
abbrev pub IfDone : Appended → Type 0 → Type 0
IfDone appended.Done Holds = Holds
IfDone (appended.Others others) Holds = Unit {0}

-- Others have added these entries before: this holds of them.
abbrev pub IfOthers : Appended → (List Entry → Type 0) → Type 0
IfOthers appended.Done Holds = Unit {0}
IfOthers (appended.Others others) Holds = Holds others.items
