-- Whether a command hides a real-time command, as it is found out.
use Rattle.std.proofs.Common.{◌≡◌, ◌↔◌, ℕ, Bool, true, false, IsTrue, refl}
use Rattle.escpos_command.specs.declared.command.Command.{Command}
use Rattle.escpos_command.specs.declared.command.Command.TheVariants as kind
use Rattle.escpos_command.specs.CommandTable.{row}
use Rattle.escpos_real_time.specs.RealTime.{HoldsRealTime}
use Rattle.escpos_real_time.specs.Scan.{holds}
use Rattle.escpos_real_time.proofs.Holding.{finds, found}
use Rattle.escpos_job_parts.specs.RealTimeNotes.{is_hiding}

-- A command that is none itself hides what its bytes hold.
pub hides_what_it_holds : (c : Command) → ((n : ℕ) → c ≡ kind.Status n → ⊥) → is_hiding c ≡ holds (row c)
hides_what_it_holds (kind.Char b) other = refl
hides_what_it_holds kind.Tab other = refl
hides_what_it_holds kind.LineFeed other = refl
hides_what_it_holds kind.Return other = refl
hides_what_it_holds kind.Init other = refl
hides_what_it_holds (kind.Set s) other = refl
hides_what_it_holds (kind.AutomaticStatus n) other = refl
hides_what_it_holds (kind.FeedLines n) other = refl
hides_what_it_holds (kind.FeedUnits n) other = refl
hides_what_it_holds (kind.Position p) other = refl
hides_what_it_holds (kind.TabStops columns) other = refl
hides_what_it_holds (kind.Pulse pulse) other = refl
hides_what_it_holds (kind.Bars bars) other = refl
hides_what_it_holds (kind.Raster raster) other = refl
hides_what_it_holds (kind.GraphicsStore p) other = refl
hides_what_it_holds (kind.GraphicsPrint fn) other = refl
hides_what_it_holds (kind.QrModel n) other = refl
hides_what_it_holds (kind.QrSize n) other = refl
hides_what_it_holds (kind.QrLevel n) other = refl
hides_what_it_holds (kind.QrStore stored) other = refl
hides_what_it_holds kind.QrPrint other = refl
hides_what_it_holds (kind.Cut cut) other = refl
hides_what_it_holds (kind.OldCut b) other = refl
hides_what_it_holds (kind.Status n) other = absurd (other n refl)
hides_what_it_holds (kind.Mark id) other = refl

-- Two that are true of the same are one.
same_truth : (s t : Bool) → (IsTrue s → IsTrue t) → (IsTrue t → IsTrue s) → s ≡ t
same_truth true true f g = refl
same_truth true false f g = let bad : false ≡ true = f refl in absurd cc
same_truth false true f g = let bad : false ≡ true = g refl in absurd cc
same_truth false false f g = refl

pub is_held : (t : Bool) (c : Command) → IsTrue t ↔ HoldsRealTime (row c) → t ≡ holds (row c)
is_held t c iff = same_truth t (holds (row c)) (λ h. finds (row c) (iff.0 h)) (λ h. iff.1 (found (row c) h))
