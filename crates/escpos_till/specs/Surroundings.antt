-- What is done with a store and a line to a printer.
use Rattle.std.specs.Prelude.{◌≡◌, ◌⊎◌, Option, List, ◌++◌}
use Rattle.escpos_till.specs.declared.entry.Entry.{Entry}
use Rattle.escpos_till.specs.declared.store.StoreFault.{StoreFault}
use Rattle.escpos_till.specs.declared.surroundings.Surroundings.{Surroundings}
use Rattle.escpos_till.specs.Appending.{added}
use Rattle.escpos_till.specs.Learning.{AreOthers}
use Rattle.escpos_till.specs.Driver.{Confirms, Deed, HangsUp, Keeps, Learns, Loses, Pauses, Tells}

-- If the store has done what it was asked to, it holds the entry after the others, and then the other one, if there is one.
pub record Appends {S : Type 0} (faithful : S → Type 0) (holds : S → List Entry → Type 0) (old : S) (e : Entry) (and_then : Option Entry) (new : S) : Type 0 where
  pub was_faithful : faithful new → faithful old
  pub kept : faithful new → (entries : List Entry) → holds old entries → holds new (entries ++ added e and_then)

-- If it has done what it was asked to, it holds these entries after those that it held, and others may have added them.
pub record TakesIn {S : Type 0} (faithful : S → Type 0) (holds : S → List Entry → Type 0) (old : S) (others : List Entry) (new : S) : Type 0 where
  pub was_faithful : faithful new → faithful old
  pub took : faithful new → (entries : List Entry) → holds old entries → AreOthers entries others × holds new (entries ++ others)

-- If it has done what it was asked to, it holds what it held, though it may have let go of it.
pub record Stays {S : Type 0} (faithful : S → Type 0) (holds : S → List Entry → Type 0) (old : S) (new : S) : Type 0 where
  pub was_faithful : faithful new → faithful old
  pub held : faithful new → (entries : List Entry) → holds old entries → holds new entries

-- The store says why it couldn't tell. If it has done what it was asked to, a crash leaves what it held, with all that was to be added or without.
pub record MayAppend {S : Type 0} (faithful : S → Type 0) (holds leaves : S → List Entry → Type 0) (says : S → List Entry → StoreFault → S → Type 0) (old : S) (e : Entry) (and_then : Option Entry) (why : StoreFault) (new : S) : Type 0 where
  pub said : says old (added e and_then) why new
  pub was_faithful : faithful new → faithful old
  pub kept_or_not : faithful new → (entries left : List Entry) → holds old entries → leaves new left → (left ≡ entries) ⊎ (left ≡ entries ++ added e and_then)

-- This was done, and then it is so: by the store, or over the line, and the other is as it was; but while something is done over the line that may
-- take long, the store lets others add entries. To tell the owner changes neither.
unfoldable pub Did : {S L : Type 0} → (S → Type 0) → (S → List Entry → Type 0) → (S → List Entry → Type 0) → (S → List Entry → StoreFault → S → Type 0) → (L → Deed → L → Type 0) → Surroundings S L → Deed → Surroundings S L → Type 0
Did faithful holds leaves says did old (Keeps e and_then) new = Appends faithful holds old.store e and_then new.store × (new.line ≡ old.line)
Did faithful holds leaves says did old (Loses e and_then why) new = MayAppend faithful holds leaves says old.store e and_then why new.store × (new.line ≡ old.line)
Did faithful holds leaves says did old (Learns others) new = TakesIn faithful holds old.store others new.store × (new.line ≡ old.line)
Did faithful holds leaves says did old (Pauses number why) new = new ≡ old
Did faithful holds leaves says did old (Confirms number) new = new ≡ old
Did faithful holds leaves says did old (Tells note) new = new ≡ old
Did faithful holds leaves says did old HangsUp new = did old.line HangsUp new.line × (new.store ≡ old.store)
Did faithful holds leaves says did old deed new = did old.line deed new.line × Stays faithful holds old.store new.store
