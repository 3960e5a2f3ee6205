-- Why a call of a till's machine that a driver serves is in the world: the call happens there, and then all that the driver does.
use Rattle.std.proofs.Common.{ℕ, ◌≡◌, None, Some, List, [], ◌∷◌, ◌++◌, refl, sym, ◌∙◌, ap, subst}
use Rattle.escpos_command.specs.declared.command.Command.{Command}
use Rattle.escpos_command.specs.CommandTable.{AreCommands}
use Rattle.escpos_host.specs.Machine.{IsSound}
use Rattle.escpos_link.specs.declared.event.Event.TheVariants as line
use Rattle.escpos_link.specs.Trusted.{IsFitting}
use Rattle.escpos_receipt.specs.Whole.{Whole}
use Rattle.escpos_till.specs.declared.note.TillNote.{TillNote}
use Rattle.escpos_till.specs.Book.{IsBookOf}
use Rattle.escpos_till.specs.Driver.{Call, Calls, Cancel, Deliver, Queue, Raise, Ran, RanTo, Tells}
use Rattle.escpos_till.specs.Machine.{Cancels, Delivers, IsStarted, MachineView, Queues, Raises}
use Rattle.escpos_till_model.specs.Around.{Around, CrashesTo, DoesInTime, HasNoLink, IsAround, around}
use Rattle.escpos_till_model.specs.Bridge.{GoesTo, MayCall}
use Rattle.escpos_till_model.specs.Known.{IsHostOf, IsWorld}
use Rattle.escpos_till_model.specs.World.{FitsLine, HasCome, Happens, Runs, World, running}
use Rattle.escpos_till_model.specs.declared.event.Happening.{Happening}
use Rattle.escpos_till_model.specs.declared.event.Happening.TheVariants as event
use Rattle.escpos_till_model.proofs.Driven.{crashed, driven}
use Rattle.escpos_till_model.proofs.DriverDoes.{rests_at_end, rests_no_link}
use Rattle.escpos_till_model.proofs.Queueing.{queues_to}
use Rattle.escpos_till_model.proofs.TillHappens.{called_in}
use Rattle.escpos_till_model.proofs.TillWorlds.{comes_on, fits_by, starts_in}

-- Every receipt fits the line.
abbrev pub Fitting : Type 0
Fitting = (receipt : List Command) → Whole receipt → AreCommands receipt → IsFitting (line.Submit receipt)

abbrev happening_of : Call → Happening
happening_of (Queue content key) = event.Queue content key
happening_of (Raise first) = event.Raise first
happening_of (Cancel number) = event.Cancel number
happening_of (Deliver openings most copy further) = event.Deliver openings most copy further

asked_host : (call : Call) (m asked : MachineView) → Calls m call asked → asked.host ≡ m.host
asked_host (Queue content key) m asked calls = calls.host
asked_host (Raise first) m asked calls = ap (λ v. v.host) calls.after_is
asked_host (Cancel number) m asked calls = ap (λ v. v.host) calls.after_is
asked_host (Deliver openings most copy further) m asked calls = calls.0.host

asked_no_link : (call : Call) (m asked : MachineView) → Calls m call asked → HasNoLink asked.stage
asked_no_link (Queue content key) m asked calls = queues_to HasNoLink (λ number. tt) (λ c. tt) (λ e c. tt) m content key asked calls
asked_no_link (Raise first) m asked calls = subst HasNoLink (sym (ap (λ v. v.stage) calls.after_is)) tt
asked_no_link (Cancel number) m asked calls = subst HasNoLink (sym (ap (λ v. v.stage) calls.after_is)) tt
asked_no_link (Deliver openings most copy further) m asked calls = subst HasNoLink (sym calls.0.connects) tt

-- The call happens in the world, where nothing else changes.
called_so : Fitting → (call : Call) (w : World) (m asked : MachineView) → w.machine ≡ Some m → Calls m call asked → MayCall call → IsSound asked.host
    → Happens w (happening_of call) (running asked w.kept w.wire w.told)
called_so fitting (Queue content key) w m asked was calls may sound = called_in (λ k after. Queues k content key after) w w m asked refl was calls sound (asked_host (Queue content key) m asked calls)
called_so fitting (Raise first) w m asked was calls may sound = called_in (λ k after. Raises k first after) w w m asked refl was calls sound (asked_host (Raise first) m asked calls)
called_so fitting (Cancel number) w m asked was calls may sound = called_in (λ k after. Cancels k number after) w w m asked refl was calls sound (asked_host (Cancel number) m asked calls)
called_so fitting (Deliver openings most copy further) w m asked was calls is_copy sound = (
  is_copy,
  called_in (λ k after. Delivers k openings most copy further after × FitsLine after.stage) w w m asked refl was (calls.0, fits_by fitting asked.stage calls.1) sound
      (asked_host (Deliver openings most copy further) m asked calls),
)

host_sound : (w : World) (m : MachineView) → IsWorld w → w.machine ≡ Some m → IsSound m.host
host_sound w m world was = subst IsSound (subst (λ o. IsHostOf o world.host) was world.host_is) world.sound

-- What surrounds the machine is the same then.
pub asked_around : (w : World) (m asked : MachineView) (a : Around) (call : Call) → IsAround m a w → Calls m call asked → IsAround asked a (running asked w.kept w.wire w.told)
asked_around w m asked a call is calls = record {
  machine = refl;
  surrounds = is.surrounds;
  stage = asked_no_link call m asked calls;
  down = ap (λ h. h.phase) (asked_host call m asked calls) ∙ is.down;
}

asked_sound : (w : World) (m asked : MachineView) (a : Around) (call : Call) → IsWorld w → IsAround m a w → Calls m call asked → IsSound asked.host
asked_sound w m asked a call world is calls = subst IsSound (sym (asked_host call m asked calls)) (host_sound w m world is.machine)

-- That world has come.
pub asked_come : Fitting → (w : World) (m asked : MachineView) (a : Around) (call : Call) → HasCome w → IsWorld w → IsAround m a w → Calls m call asked → MayCall call → HasCome (running asked w.kept w.wire w.told)
asked_come fitting w m asked a call come world is calls may =
    let next : World = running asked w.kept w.wire w.told in
    comes_on w next (happening_of call ∷ []) come (next, called_so fitting call w m asked is.machine calls may (asked_sound w m asked a call world is calls), refl)

-- What a driver did after a call leads to a world that is around the machine.
pub served_in : Fitting → (w : World) (m asked after : MachineView) (a new : Around) (call : Call) (n : TillNote) (most : ℕ) → HasCome w → IsWorld w → IsAround m a w → Calls m call asked → MayCall call
    → RanTo DoesInTime asked a n most after new → GoesTo w after new
served_in fitting w m asked after a new call n most come world is calls may ran =
    let next : World = running asked w.kept w.wire w.told in
    let run : Ran DoesInTime asked a after new = record { deeds = ran.before ++ Tells n ∷ []; did_all = ran.did_all } in
    let reaches = driven asked after a new next (asked_around w m asked a call is calls) run in
    let runs : Runs w (happening_of call ∷ reaches.happenings) reaches.now =
    (next, called_so fitting call w m asked is.machine calls may (asked_sound w m asked a call world is calls), reaches.runs) in
    record {
      happenings = happening_of call ∷ reaches.happenings;
      now = reaches.now;
      runs = runs;
      come = comes_on w reaches.now (happening_of call ∷ reaches.happenings) come runs;
      is = reaches.rests (rests_no_link after.stage (rests_at_end DoesInTime ran.before n asked after a new ran.did_all));
    }

-- The till is switched off within what a driver did after a call.
pub switched_off : Fitting → (w : World) (m asked after : MachineView) (a new : Around) (call : Call) → IsWorld w → IsAround m a w → Calls m call asked → MayCall call → Ran DoesInTime asked a after new
    → CrashesTo w after new
switched_off fitting w m asked after a new call world is calls may ran =
    let next : World = running asked w.kept w.wire w.told in
    let crashes = crashed asked after a new next (asked_around w m asked a call is calls) ran in
    record {
      happenings = happening_of call ∷ crashes.happenings;
      now = crashes.now;
      runs = (next, called_so fitting call w m asked is.machine calls may (asked_sound w m asked a call world is calls), crashes.runs);
      off = crashes.off;
      kept = crashes.kept;
      told = crashes.told;
      no_link = crashes.no_link;
      link = crashes.link;
    }

-- A machine is made of the entries that are there.
pub started_in : (w : World) (m : MachineView) → HasCome w → w.machine ≡ None → IsStarted m → IsBookOf m.book w.kept → IsSound m.host → GoesTo w m (around w.kept w.wire w.told)
started_in w m come none started book sound =
    let now : World = running m w.kept w.wire w.told in
    let runs : Runs w (event.Start ∷ []) now = (now, starts_in w w m refl none started book sound, refl) in
    record {
      happenings = event.Start ∷ [];
      now = now;
      runs = runs;
      come = comes_on w now (event.Start ∷ []) come runs;
      is = record {
        machine = refl;
        surrounds = refl;
        stage = subst HasNoLink (sym started.stage) tt;
        down = ap (λ h. h.phase) started.host;
      };
    }
