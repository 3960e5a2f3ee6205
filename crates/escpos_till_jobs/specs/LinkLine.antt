-- What is done over a line whose links are each a source of answers and a sink.
use Rattle.std.specs.Prelude.{ℕ, Bool, false, ◌≡◌, ◌≢◌, ◌≤◌, ◌⊎◌, Option, Some, None, List, [], length, take, IsTrue}
use Rattle.std.specs.Io.KnownBytes.{Appends, Consumes}
use Rattle.escpos_host.specs.declared.send.SendFault.{SendFault}
use Rattle.escpos_host.specs.declared.send.SendFault.TheVariants as fault
use Rattle.escpos_addresses.specs.declared.address.Address.{Address}
use Rattle.escpos_till.specs.Driver.{Breaks, Deed, Ends, Gives, HangsUp, Links, Misses, Puts}
use Rattle.escpos_till_jobs.specs.declared.link_line.AtAddress.{AtAddress}
use Rattle.escpos_till_jobs.specs.declared.link_line.Link.{Link}
use Rattle.escpos_till_jobs.specs.declared.link_line.LinkLine.{LinkLine}
use Rattle.escpos_till_jobs.specs.declared.link_line.Waits.{Waits}

-- What is known of sources, and of sinks.
pub record Source (R : Type 0) : Type 0 where
  pub to_come : R → Option (List ℕ)
  pub ended : R → Bool
  pub failed : R → Bool
  pub timed_out : R → Bool

pub record Sink (W : Type 0) : Type 0 where
  pub written : W → Option (List ℕ)
  pub failed : W → Bool
  pub timed_out : W → Bool

abbrev pub source : {R : Type 0} → (R → Option (List ℕ)) → (R → Bool) → (R → Bool) → (R → Bool) → Source R
source to_come ended failed timed_out = record { to_come = to_come; ended = ended; failed = failed; timed_out = timed_out }

abbrev pub sink : {W : Type 0} → (W → Option (List ℕ)) → (W → Bool) → (W → Bool) → Sink W
sink written failed timed_out = record { written = written; failed = failed; timed_out = timed_out }

-- Why a source gives no more is what it says itself.
abbrev pub SourceSays : {R : Type 0} → Source R → R → SendFault → Type 0
SourceSays s r fault.Ended = IsTrue (s.ended r)
SourceSays s r fault.ReadFault = IsTrue (s.failed r) × (¬ IsTrue (s.timed_out r))
SourceSays s r fault.TimedOut = IsTrue (s.failed r) × IsTrue (s.timed_out r)
SourceSays s r why = ⊥

abbrev pub SinkSays : {W : Type 0} → Sink W → W → SendFault → Type 0
SinkSays s w fault.WriteFault = IsTrue (s.failed w) × (¬ IsTrue (s.timed_out w))
SinkSays s w fault.TimedOut = IsTrue (s.failed w) × IsTrue (s.timed_out w)
SinkSays s w why = ⊥

-- These bytes were put; or a prefix of them, and the sink says why no more.
abbrev pub PutPart : {W : Type 0} → Sink W → List ℕ → SendFault → W → W → Type 0
PutPart s bytes why before after = (count : ℕ) × (count ≤ length bytes) × Appends (s.written before) (s.written after) (take count bytes) × SinkSays s after why

-- What each deed does with a link: with its source, or with its sink, and the other is as it was. Where there is room, at least one byte comes, or the source
-- has ended.
abbrev pub LinkDid : {R W : Type 0} → Source R → Sink W → Link R W → Deed → Link R W → Type 0
LinkDid from to old (Puts bytes) new = (new.reader ≡ old.reader) × Appends (to.written old.writer) (to.written new.writer) bytes
LinkDid from to old (Breaks bytes why) new = (new.reader ≡ old.reader) × PutPart to bytes why old.writer new.writer
LinkDid from to old (Gives room bytes) new = (new.writer ≡ old.writer) × Consumes (from.to_come old.reader) (from.to_come new.reader) bytes × (bytes ≡ [] → room ≡ 0)
LinkDid from to old (Ends why) new = (new.writer ≡ old.writer) × Consumes (from.to_come old.reader) (from.to_come new.reader) [] × SourceSays from new.reader why
LinkDid from to old deed new = ⊥

-- The link waits for a printer that prints nothing, or for any other, as it did, and was left as it was; or the dialler made it wait as it is to
-- now.
abbrev pub IsPaced : {R W D : Type 0} → (D → Link R W → Bool → Link R W → D → Type 0) → Bool → Bool → D → Link R W → Link R W → D → Type 0
IsPaced paced was is old before after new = ((is ≡ was) × (after ≡ before) × (new ≡ old)) ⊎ ((is ≢ was) × paced old before is after new)

-- It is done with the link that is open, once that waits as it is to; the link stays open.
pub record WithLink {R W D : Type 0} (from : Source R) (to : Sink W) (paced : D → Link R W → Bool → Link R W → D → Type 0) (old : LinkLine R W D) (deed : Deed) (new : LinkLine R W D) : Type 0 where
  pub before : Link R W
  pub waiting : Link R W
  pub after : Link R W
  pub was : old.link ≡ Some before
  pub is : new.link ≡ Some after
  pub waits : IsPaced paced old.patient new.patient old.dialler before waiting new.dialler
  pub to_come : from.to_come waiting.reader ≡ from.to_come before.reader
  pub written : to.written waiting.writer ≡ to.written before.writer
  pub done : LinkDid from to waiting deed after

-- There is no link.
abbrev pub LacksLink : {R W D : Type 0} → LinkLine R W D → LinkLine R W D → Type 0
LacksLink old new = (old.link ≡ None) × (new ≡ old)

-- The link that was open is taken back by the dialler, which closes it.
pub record TakenBack {R W D : Type 0} (closed : D → Link R W → D → Type 0) (old new : LinkLine R W D) : Type 0 where
  pub link : Link R W
  pub was : old.link ≡ Some link
  pub none : new.link ≡ None
  pub dialler : closed old.dialler link new.dialler

-- A link is dialled, which waits for a printer that prints; one that is open then is of no more use.
pub record Dialled {R W D : Type 0} (dialled : D → Option (Link R W) → D → Type 0) (old : LinkLine R W D) (link : Option (Link R W)) (new : LinkLine R W D) : Type 0 where
  pub dialler : dialled old.dialler link new.dialler
  pub is : new.link ≡ link
  pub waits : new.patient ≡ false

-- What each deed does; where there is no link, nothing is put, and nothing comes. A deed of the store or of the owner isn't the line's.
abbrev pub OverLink : {R W D : Type 0} → Source R → Sink W → (D → Option (Link R W) → D → Type 0) → (D → Link R W → Bool → Link R W → D → Type 0) → (D → Link R W → D → Type 0) → LinkLine R W D → Deed → LinkLine R W D → Type 0
OverLink from to dialled paced closed old Links new = (link : Link _ _) × Dialled dialled old (Some link) new
OverLink from to dialled paced closed old Misses new = Dialled dialled old None new
OverLink from to dialled paced closed old (Puts bytes) new = WithLink from to paced old (Puts bytes) new
OverLink from to dialled paced closed old (Breaks bytes why) new = (LacksLink old new × (why ≡ fault.WriteFault)) ⊎ WithLink from to paced old (Breaks bytes why) new
OverLink from to dialled paced closed old (Gives room bytes) new = WithLink from to paced old (Gives room bytes) new
OverLink from to dialled paced closed old (Ends why) new = (LacksLink old new × (why ≡ fault.Ended)) ⊎ WithLink from to paced old (Ends why) new
OverLink from to dialled paced closed old HangsUp new = LacksLink old new ⊎ TakenBack closed old new
OverLink from to dialled paced closed old deed new = ⊥

-- The dialler dials this address over this network, with links that wait so.
pub record Dials {N : Type 0} (net : N) (address : Address) (waits : Waits) (d : AtAddress N) : Type 0 where
  pub to : d.address ≡ address
  pub over : d.net.now ≡ net
  pub within : d.waits ≡ waits

-- It still does, whatever link it watches.
pub record DialsTheSame {N : Type 0} (old new : AtAddress N) : Type 0 where
  pub to : new.address ≡ old.address
  pub over : new.net ≡ old.net
  pub within : new.waits ≡ old.waits

-- This is all that can be done where there never is a link.
abbrev pub HasNoLink : Deed → Type 0
HasNoLink Misses = Unit {0}
HasNoLink (Breaks bytes why) = why ≡ fault.WriteFault
HasNoLink (Ends why) = why ≡ fault.Ended
HasNoLink HangsUp = Unit {0}
HasNoLink deed = ⊥
