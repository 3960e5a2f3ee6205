-- What a driver does with a machine: all that the machine asks for, in order, with nothing between.
use Rattle.std.specs.Prelude.{ℕ, Bool, Option, Some, None, ◌≡◌, ◌≢◌, ◌⊎◌, ◌+◌, ◌<◌, ◌≤◌, List, [], ◌∷◌, ◌++◌, length, take, drop}
use Rattle.escpos_host.specs.declared.send.SendFault.{SendFault}
use Rattle.escpos_host.specs.Machine.{IsSound}
use Rattle.escpos_till.specs.declared.entry.Content.{Content}
use Rattle.escpos_till.specs.declared.entry.Entry.{Entry}
use Rattle.escpos_till.specs.declared.stage.Due.{Due}
use Rattle.escpos_till.specs.declared.stage.Stage.TheVariants as stage
use Rattle.escpos_till.specs.declared.stage.Talk.{Talk}
use Rattle.escpos_till.specs.declared.stage.Then.{Then}
use Rattle.escpos_till.specs.declared.note.TillNote.{TillNote}
use Rattle.escpos_till.specs.declared.note.TillNote.TheVariants as note
use Rattle.escpos_till.specs.declared.pause.Pause.{Pause}
use Rattle.escpos_till.specs.declared.store.StoreFault.{StoreFault}
use Rattle.escpos_till.specs.Learning.{Learned}
use Rattle.escpos_till.specs.Machine.{Came, Cancels, Delivers, Ended, IsFinal, Kept, MachineView, Queues, Raises, Rests, SendsReceipt, Unsure, connected, entry_with, hung_up, news_of, not_connected, put, told}

-- ## One turn

-- What is done of what a machine asks for.
pub data Deed : Type 0 where
  -- the entry is kept, and with it perhaps another one; or the store couldn't tell whether that is so
  Keeps : Entry → Option Entry → Deed
  Loses : Entry → Option Entry → StoreFault → Deed
  -- no entry is kept, since others have added these
  Learns : List Entry → Deed
  -- a link is opened; or there is none
  Links : Deed
  Misses : Deed
  -- these bytes are put; or not all of them are, and the link is of no more use
  Puts : List ℕ → Deed
  Breaks : List ℕ → SendFault → Deed
  -- with room for so many, these bytes of answers came; or no more come
  Gives : ℕ → List ℕ → Deed
  Ends : SendFault → Deed
  -- the link is given up
  HangsUp : Deed
  -- the owner is told that the printer prints nothing for now, while the receipt with this number is being sent
  Pauses : ℕ → Pause → Deed
  -- the owner is told that the receipt with this number is recorded, while the next one is being sent
  Confirms : ℕ → Deed
  -- the owner is told this, which came of a call
  Tells : TillNote → Deed

-- Its owner is told what came of a call.
abbrev pub IsTold : Deed → Type 0
IsTold (Tells note) = Unit {0}
IsTold deed = ⊥

-- Its owner is told something: what came of a call, a pause, or that a receipt is recorded while the next one is being sent.
abbrev pub IsSaid : Deed → Type 0
IsSaid (Tells note) = Unit {0}
IsSaid (Pauses number why) = Unit {0}
IsSaid (Confirms number) = Unit {0}
IsSaid deed = ⊥

-- By this deed its owner is told this note.
abbrev pub IsTelling : Deed → TillNote → Type 0
IsTelling (Tells n) told = (n ≡ told) × IsFinal n
IsTelling (Pauses number why) told = note.Paused number why ≡ told
IsTelling (Confirms number) told = note.Recorded number ≡ told
IsTelling deed told = ⊥

-- It hears these bytes, each time up to an event, for as long as it talks; what comes after that is dropped. The counts are how many it took
-- each time.
abbrev pub HearsAll : MachineView → List ℕ → List ℕ → MachineView → Type 0
HearsAll m bytes [] after = (after ≡ m) × ((talk : Talk) → m.stage ≡ stage.Talking talk → bytes ≡ [])
HearsAll m bytes (count ∷ counts) after =
    (talk : Talk) × (mid : MachineView) × (m.stage ≡ stage.Talking talk) × (bytes ≢ []) × Came m.stage bytes count m mid × IsSound mid.host
    × HearsAll mid (drop count bytes) counts after

-- It is given what it waited for; where nothing came, it is told that.
abbrev pub IsGiven : MachineView → List ℕ → MachineView → Type 0
IsGiven m [] after = Came m.stage [] 0 m after
IsGiven m bytes after = (counts : List ℕ) × HearsAll m bytes counts after

-- The first bytes that are to be put, at least one.
pub record IsNextOut (m : MachineView) (bytes : List ℕ) (count : ℕ) : Type 0 where
  pub talk : Talk
  pub talks : m.stage ≡ stage.Talking talk
  pub quiet : news_of talk ≡ None
  pub some : m.host.out ≢ []
  pub positive : 0 < count
  pub within : count ≤ length m.host.out
  pub bytes_are : bytes ≡ take count m.host.out

-- It waits for answers, with room for so many bytes of them: for some, unless none may be read any more.
pub record IsWaiting (m : MachineView) (room : ℕ) : Type 0 where
  pub talk : Talk
  pub talks : m.stage ≡ stage.Talking talk
  pub quiet : news_of talk ≡ None
  pub nothing_out : m.host.out ≡ []
  pub within : room ≤ talk.left
  pub some : room ≡ 0 → talk.left ≡ 0

-- No entry is kept with that one, or the one that is to be.
abbrev pub MayGoWith : Option Entry → Then → Type 0
MayGoWith None next = Unit {0}
MayGoWith (Some f) next = entry_with next ≡ Some f

-- It asks for an entry to be kept, and is told that it is; and so for the next one, if both are kept together.
abbrev pub KeepsEntry : MachineView → Entry → MachineView → Type 0
KeepsEntry m e after = (next : Then) × (m.stage ≡ stage.Keeping e next) × Kept m.stage m after

abbrev pub KeepsOne : MachineView → Entry → MachineView → Option Entry → Type 0
KeepsOne m e after None = KeepsEntry m e after
KeepsOne m e after (Some f) =
    (mid : MachineView) × (next : Then) × (m.stage ≡ stage.Keeping e next) × (entry_with next ≡ Some f) × Kept m.stage m mid × IsSound mid.host × KeepsEntry mid f after

-- The machine asks for this deed, and is told what came of it.
abbrev pub Turns : MachineView → Deed → MachineView → Type 0
Turns m (Keeps e and_then) after = KeepsOne m e after and_then
Turns m (Loses e and_then why) after = (next : Then) × (m.stage ≡ stage.Keeping e next) × MayGoWith and_then next × Unsure m.stage why m after
Turns m (Learns others) after = (e : Entry) × (next : Then) × (m.stage ≡ stage.Keeping e next) × Learned m.stage others m after
Turns m Links after = (due : Due) × (m.stage ≡ stage.Connecting due) × (after ≡ connected m.stage m)
Turns m Misses after = (due : Due) × (m.stage ≡ stage.Connecting due) × (after ≡ not_connected m.stage m)
Turns m (Puts bytes) after = (count : ℕ) × IsNextOut m bytes count × (after ≡ put m.stage count m)
Turns m (Breaks bytes why) after = (count : ℕ) × IsNextOut m bytes count × Ended m.stage why (put m.stage count m) after
Turns m (Gives room bytes) after = IsWaiting m room × (length bytes ≤ room) × IsGiven m bytes after
Turns m (Ends why) after = (room : ℕ) × IsWaiting m room × Ended m.stage why m after
Turns m HangsUp after = (note : TillNote) × (m.stage ≡ stage.HangingUp note) × (after ≡ hung_up m.stage m)
Turns m (Pauses number why) after = (talk : Talk) × (m.stage ≡ stage.Talking talk) × (news_of talk ≡ Some (note.Paused number why)) × (after ≡ told m.stage m)
Turns m (Confirms number) after = (talk : Talk) × (m.stage ≡ stage.Talking talk) × (talk.recorded ≡ Some number) × (after ≡ told m.stage m)
Turns m (Tells note) after = (m.stage ≡ stage.Telling note) × (after ≡ told m.stage m)

-- ## A run

-- One deed after another: each is what the machine asks for, and the outside did it. What holds of every host holds of each machine's.
abbrev pub DidAll : {D : Type 0} → (D → Deed → D → Type 0) → MachineView → D → List Deed → MachineView → D → Type 0
DidAll did m old [] after new = (after ≡ m) × (new ≡ old)
DidAll {D} did m old (d ∷ ds) after new =
    (mid : MachineView) × (between : D) × Turns m d mid × IsSound mid.host × did old d between × DidAll did mid between ds after new

-- A run, from this machine and this outside to those.
pub record Ran {D : Type 0} (did : D → Deed → D → Type 0) (m : MachineView) (old : D) (after : MachineView) (new : D) : Type 0 where
  pub deeds : List Deed
  pub did_all : DidAll did m old deeds after new

-- A run at whose end the machine's owner is told this, with at most so many deeds.
pub record RanTo {D : Type 0} (did : D → Deed → D → Type 0) (m : MachineView) (old : D) (n : TillNote) (most : ℕ) (after : MachineView) (new : D) : Type 0 where
  pub before : List Deed
  pub did_all : DidAll did m old (before ++ Tells n ∷ []) after new
  pub turns : length before < most

-- Its owner is told by none of these what came of a call.
abbrev pub TellsNothing : List Deed → Type 0
TellsNothing [] = Unit {0}
TellsNothing (d ∷ ds) = (IsTold d → ⊥) × TellsNothing ds

-- Nor of a pause, nor of a receipt while the next one is being sent.
abbrev pub SaysNothing : List Deed → Type 0
SaysNothing [] = Unit {0}
SaysNothing (d ∷ ds) = (IsSaid d → ⊥) × SaysNothing ds

-- A run at whose end the machine's owner is told that the printer prints nothing for now.
pub record RanPaused {D : Type 0} (did : D → Deed → D → Type 0) (m : MachineView) (old : D) (n : TillNote) (most : ℕ) (after : MachineView) (new : D) : Type 0 where
  pub before : List Deed
  pub number : ℕ
  pub why : Pause
  pub note_is : n ≡ note.Paused number why
  pub did_all : DidAll did m old (before ++ Pauses number why ∷ []) after new
  pub turns : length before < most
  pub quiet : SaysNothing before
  pub goes_on : Rests after.stage → ⊥

-- A run at whose end the machine's owner is told that a receipt is recorded, while the next one is being sent.
pub record RanConfirming {D : Type 0} (did : D → Deed → D → Type 0) (m : MachineView) (old : D) (n : TillNote) (most : ℕ) (after : MachineView) (new : D) : Type 0 where
  pub before : List Deed
  pub number : ℕ
  pub note_is : n ≡ note.Recorded number
  pub did_all : DidAll did m old (before ++ Confirms number ∷ []) after new
  pub turns : length before < most
  pub quiet : SaysNothing before
  pub goes_on : Rests after.stage → ⊥

-- A run at whose end the machine's owner is told this: what came of a call, and nothing of one before; or, while the call goes on, that the
-- printer prints nothing for now, or that a receipt is recorded. So many deeds may still be done then, of those that might be.
abbrev pub RanUpTo : {D : Type 0} → (D → Deed → D → Type 0) → MachineView → D → TillNote → ℕ → ℕ → MachineView → D → Type 0
RanUpTo did m old n most left after new =
    (IsFinal n × ((ran : RanTo did m old n most after new) × SaysNothing ran.before × (length ran.before + 1 + left ≡ most) × Rests after.stage))
    ⊎ (((ran : RanPaused did m old n most after new) × (length ran.before + 1 + left ≡ most))
    ⊎ ((ran : RanConfirming did m old n most after new) × (length ran.before + 1 + left ≡ most)))

-- A run with so many deeds, by which its owner is told nothing of what came of a call.
pub record RanFor {D : Type 0} (did : D → Deed → D → Type 0) (m : MachineView) (old : D) (after : MachineView) (new : D) (count : ℕ) : Type 0 where
  pub run : Ran did m old after new
  pub turns : length run.deeds ≡ count
  pub quiet : TellsNothing run.deeds

-- The same, where its owner is told of nothing else either.
abbrev pub RanQuietly : {D : Type 0} → (D → Deed → D → Type 0) → MachineView → D → MachineView → D → ℕ → Type 0
RanQuietly did m old after new count = (ran : RanFor did m old after new count) × SaysNothing ran.run.deeds

-- ## What an owner asks for

-- A call of a machine at rest.
pub data Call : Type 0 where
  -- a receipt with this content is to be taken, which comes with this key or with none
  Queue : Content → Option (List ℕ) → Call
  -- the next mark number is to be this
  Raise : ℕ → Call
  -- the receipt with this number is to be cancelled
  Cancel : ℕ → Call
  -- the first receipt that waits is to be delivered: with so many opening marks, at most so many bytes of answers, and perhaps a text for
  -- copies; and if that is said, those after it over the same link
  Deliver : ℕ → ℕ → Option (List ℕ) → Bool → Call

-- It is made, and what is to be sent is a receipt.
abbrev pub Calls : MachineView → Call → MachineView → Type 0
Calls m (Queue content key) asked = Queues m content key asked
Calls m (Raise first) asked = Raises m first asked
Calls m (Cancel number) asked = Cancels m number asked
Calls m (Deliver openings most copy further) asked = Delivers m openings most copy further asked × SendsReceipt asked.stage

-- A call, and the run that follows, at whose end the owner is told this, with at most so many deeds.
pub record Serves {D : Type 0} (did : D → Deed → D → Type 0) (m : MachineView) (old : D) (call : Call) (n : TillNote) (most : ℕ) (after : MachineView) (new : D) : Type 0 where
  pub asked : MachineView
  pub calls : Calls m call asked
  pub runs : RanTo did asked old n most after new

-- The same, where the owner isn't told anything within so many deeds.
pub record GivesUp {D : Type 0} (did : D → Deed → D → Type 0) (m : MachineView) (old : D) (call : Call) (most : ℕ) (after : MachineView) (new : D) : Type 0 where
  pub asked : MachineView
  pub calls : Calls m call asked
  pub runs : RanFor did asked old after new most

-- A call, and what its owner was told of it.
pub record Answered : Type 0 where
  pub call : Call
  pub note : TillNote

-- These calls were served, one after another, and between them nothing was done.
pub data ServesAll {D : Type 0} (did : D → Deed → D → Type 0) (most : ℕ) (m : MachineView) (old : D) : List Answered → MachineView → D → Type 0 where
  none : ServesAll did most m old [] m old
  more : (before : List Answered) (mid : MachineView) (between : D) (last : Answered) (after : MachineView) (new : D) (all : List Answered) → ServesAll did most m old before mid between
      → Serves did mid between last.call last.note most after new → all ≡ before ++ last ∷ [] → ServesAll did most m old all after new
