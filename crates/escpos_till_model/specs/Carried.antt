-- What a till puts on its links, and with which mark numbers: told of the bytes on each link, over every run of the world, and of a driver.
use Rattle.std.specs.Prelude.{ℕ, zero, suc, ◌≡◌, ◌≢◌, ◌+◌, ◌<◌, ◌≤◌, map, Option, Some, None, List, [], ◌∷◌, ◌++◌, length, take}
use Rattle.std.specs.List.{AllByRecursion}
use Rattle.escpos_command.specs.declared.command.Command.{Command}
use Rattle.escpos_command.specs.CommandTable.{AreCommands, spell}
use Rattle.escpos_host.specs.Counted.{id_of}
use Rattle.escpos_command.specs.Marks.{marks}
use Rattle.escpos_real_time.specs.RealTime.{HoldsRealTime}
use Rattle.escpos_till.specs.declared.entry.Entry.{Entry}
use Rattle.escpos_till.specs.declared.entry.Entry.TheVariants as entry
use Rattle.escpos_till.specs.declared.stage.Stage.{Stage}
use Rattle.escpos_till.specs.declared.stage.Stage.TheVariants as stage
use Rattle.escpos_till.specs.declared.stage.Then.{Then}
use Rattle.escpos_till.specs.declared.stage.Then.TheVariants as then
use Rattle.escpos_till.specs.Driver.{Breaks, Deed, Keeps, Learns, Puts}
use Rattle.escpos_till.specs.Entries.{next_free}
use Rattle.escpos_till.specs.Machine.{MachineView}
use Rattle.escpos_till_model.specs.declared.event.Happening.{Happening}
use Rattle.escpos_till_model.specs.declared.event.Happening.TheVariants as event
use Rattle.escpos_till_model.specs.World.{Happens, World}

-- A link for which it was kept that a receipt is tried: the mark numbers that are reserved with that, from the first up to the limit, which
-- isn't one of them; and the bytes that were put on the link so far. Where the next receipt is tried over the same link, a new one begins here.
pub record Carried : Type 0 where
  pub first : ℕ
  pub limit : ℕ
  pub bytes : List ℕ

-- The bytes that a machine has to put.
abbrev pub out_of : Option MachineView → List ℕ
out_of None = []
out_of (Some m) = m.host.out

-- The bytes are put on the newest link, which is the first.
abbrev pub with_put : List ℕ → List Carried → List Carried
with_put bytes [] = []
with_put bytes (l ∷ ls) = record { first = l.first; limit = l.limit; bytes = l.bytes ++ bytes } ∷ ls

abbrev pub limit_of : Entry → ℕ
limit_of (entry.Tried number limit) = limit
limit_of e = 0

-- The link of an entry that is kept, if a receipt is sent then.
abbrev pub link_of : Then → Entry → ℕ → List Carried
link_of (then.Send due) e first = record { first = first; limit = limit_of e; bytes = [] } ∷ []
link_of (then.SendNext recorded due) e first = record { first = first; limit = limit_of e; bytes = [] } ∷ []
link_of next e first = []

abbrev pub link_at : Stage → ℕ → List Carried
link_at (stage.Keeping e next) first = link_of next e first
link_at s first = []

abbrev pub link_by : Option MachineView → ℕ → List Carried
link_by None first = []
link_by (Some m) first = link_at m.stage first

-- The links, the newest first, after something happened in this world.
abbrev pub links_after : World → Happening → List Carried → List Carried
links_after w event.Keep links = link_by w.machine (next_free w.kept) ++ links
links_after w (event.Put most) links = with_put (take most (out_of w.machine)) links
links_after w (event.Break most fewer why) links = with_put (take fewer (take most (out_of w.machine))) links
links_after w e links = links

-- The links after a run, where these were there before.
abbrev pub Carries : World → List Happening → World → List Carried → List Carried → Type 0
Carries w [] new before links = (new ≡ w) × (links ≡ before)
Carries w (e ∷ es) new before links = (mid : World) × Happens w e mid × Carries mid es new (links_after w e before) links

-- So many numbers, one after another, from this one on.
abbrev pub numbers_from : ℕ → ℕ → List ℕ
numbers_from zero first = []
numbers_from (suc count) first = first ∷ numbers_from count (first + 1)

-- What was put on the link is the beginning of commands. Their marks have the numbers that are reserved for it, from the first on, each
-- once and in order. And no real-time command stands anywhere in it.
pub record HasOwnMarks (l : Carried) : Type 0 where
  pub said : List Command
  pub unsaid : List ℕ
  pub used : ℕ
  pub begins : spell said ≡ l.bytes ++ unsaid
  pub commands : AreCommands said
  pub marks_are : marks said ≡ map id_of (numbers_from used l.first)
  pub within : l.first + used ≤ l.limit
  pub no_real_time : ¬ HoldsRealTime l.bytes

-- The numbers of each link are above those of the links before it, from `low` on and below `high`: none is reserved twice.
abbrev pub AreApart : ℕ → List Carried → ℕ → Type 0
AreApart low [] high = low ≤ high
AreApart low (l ∷ ls) high = (l.limit ≤ high) × (l.first < l.limit) × AreApart low ls l.first

-- ## What a driver puts

-- The link of an entry that is kept after these, if a receipt is tried by it.
abbrev pub link_for : List Entry → Entry → List Carried
link_for kept (entry.Tried number limit) = record { first = next_free kept; limit = limit; bytes = [] } ∷ []
link_for kept e = []

-- The links after these deeds, where the store had these entries and these links were there before: one for each entry by which a receipt is
-- tried, with what was put since then; for what others add there is none. Nothing is put before there is one. Where a link broke, some of
-- the bytes were put, or none or all.
abbrev pub CarriesBy : List Entry → List Deed → List Carried → List Carried → Type 0
CarriesBy kept [] before links = links ≡ before
CarriesBy kept (Keeps e None ∷ ds) before links = CarriesBy (kept ++ e ∷ []) ds (link_for kept e ++ before) links
CarriesBy kept (Keeps e (Some f) ∷ ds) before links = CarriesBy (kept ++ e ∷ f ∷ []) ds (link_for (kept ++ e ∷ []) f ++ (link_for kept e ++ before)) links
CarriesBy kept (Learns others ∷ ds) before links = CarriesBy (kept ++ others) ds before links
CarriesBy kept (Puts bytes ∷ ds) before links = (before ≢ []) × CarriesBy kept ds (with_put bytes before) links
CarriesBy kept (Breaks bytes why ∷ ds) before links = (count : ℕ) × (count ≤ length bytes) × (before ≢ []) × CarriesBy kept ds (with_put (take count bytes) before) links
CarriesBy kept (d ∷ ds) before links = CarriesBy kept ds before links

-- These deeds have such links, where the store had these entries at first and has those at the end. Each link has mark numbers of its own, and
-- no others are put on it.
pub record UsesMarksOnce (kept : List Entry) (deeds : List Deed) (left : List Entry) : Type 0 where
  pub some : (links : List Carried) × CarriesBy kept deeds [] links
  pub apart : (links : List Carried) → CarriesBy kept deeds [] links → AreApart (next_free kept) links (next_free left)
  pub own : (links : List Carried) → CarriesBy kept deeds [] links → AllByRecursion HasOwnMarks links
