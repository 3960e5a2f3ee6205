-- A host that was switched off, and goes on with fewer records than it had: whoever keeps them may have been switched off
-- before the last ones were written down.
use Rattle.std.specs.Prelude.{ℕ, ◌≡◌, ◌<◌, min, [], take, None}
use Rattle.escpos_host.specs.Machine.{HostView, Down}
use Rattle.escpos_link.specs.declared.event.Refusal.TheVariants as refusal
use Rattle.escpos_link.specs.declared.event.Refused.{Refused}
use Rattle.escpos_link.specs.EventTable.{off_link, with_host}
use Rattle.escpos_link.specs.Line.{LineView}

-- The host is made anew from the first `count` of its records, all of them if there are no more. It knows what the old one had heard.
abbrev pub resumed_host : HostView → ℕ → ℕ → HostView
resumed_host h f count = record { phase = Down; out = []; half = []; next = f; heard = min h.heard f; records = take count h.records; left = [] }

-- It has `f` for its next mark, and is off its link.
abbrev pub resumed : LineView → ℕ → ℕ → LineView
resumed l f count = off_link (with_host l (resumed_host l.host f count))

-- The same, where it knows only that no mark below this number can be answered any more.
abbrev pub resumed_from : LineView → ℕ → ℕ → ℕ → LineView
resumed_from l f count heard = off_link (with_host l (record { phase = Down; out = []; half = []; next = f; heard = heard; records = take count l.host.records; left = [] }))

-- It isn't, since a number below its next one may have been used: the line is as it was.
pub record RefusesResume (l : LineView) (f : ℕ) (refused : Refused) (after : LineView) : Type 0 where
  pub reason : refused.why ≡ refusal.MarkReused l.host.next
  pub used : f < l.host.next
  pub receipt : refused.receipt ≡ None
  pub same : after ≡ l
