-- Why a printer's lines keep their width, whatever happens in the world.
use Rattle.std.proofs.Common.{ℕ, ◌≡◌, inl, inr, Option, Some, None, List, [], ◌∷◌, refl, sym, ◌∙◌, ap, subst}
use Rattle.escpos_host.specs.Earlier.{with_earlier}
use Rattle.escpos_host.specs.Machine.{HostView, Down}
use Rattle.escpos_host.proofs.Earlier.{earlier_sound}
use Rattle.escpos_link.specs.Wire.{WireView, line_of}
use Rattle.escpos_till.specs.Machine.{MachineView}
use Rattle.escpos_till_model.specs.declared.event.Happening.{Happening}
use Rattle.escpos_till_model.specs.declared.event.Happening.TheVariants as event
use Rattle.escpos_till_model.specs.Known.{IsWorld}
use Rattle.escpos_till_model.specs.World.{Crashes, Happens, Runs, Wired, World}
use Rattle.escpos_till_model.proofs.LinesKept.{LineLaws, down_or_up}
use Rattle.escpos_till_model.proofs.WorldStore.{fits_wire}
use Rattle.escpos_till_model.proofs.Worlds.{whatever}

abbrev width_of : WireView → ℕ
width_of w = w.printer.sheet.line_dots

-- A host leaves the printer as it is.
wired_width : (h h' : HostView) (w new : WireView) → Wired h h' w new → width_of new ≡ width_of w
wired_width h h' w new wired = elim (down_or_up h.phase) [
  | inl down ↦ elim (down_or_up h'.phase) [
    | inl down' ↦ ap width_of (wired.stays_down down down')
    | inr up' ↦ ap width_of (wired.goes_up down up')
  ]
  | inr up ↦ elim (down_or_up h'.phase) [
    | inl down' ↦ ap width_of (wired.goes_down up down')
    | inr up' ↦ ap width_of (wired.stays_up up up')
  ]
]

abbrev IsDown : Option MachineView → Type 0
IsDown None = Unit {0}
IsDown (Some m) = m.host.phase ≡ Down

crashed_width : (w new : World) (o : Option MachineView) → w.machine ≡ o → (crashes : Crashes w new) → width_of crashes.wire ≡ width_of w.wire
crashed_width w new None is crashes = ap width_of (crashes.no_link (λ m was. absurd (let bad : None ≡ Some m = sym is ∙ was in cc)))
crashed_width w new (Some m) is crashes = elim (down_or_up m.host.phase) [
  | inl down ↦ ap width_of (crashes.no_link (λ k was. subst IsDown (sym is ∙ was) down))
  | inr up ↦ ap width_of (crashes.link m is up)
]

step_width : LineLaws → (e : Happening) (w new : World) → IsWorld w → Happens w e new → width_of new.wire ≡ width_of w.wire
step_width laws event.Start w new known happened = ap (λ k. width_of k.wire) happened.is
step_width laws (event.Queue content key) w new known happened = ap (λ k. width_of k.wire) happened.is ∙ wired_width happened.m.host happened.after.host w.wire happened.wire happened.wired
step_width laws (event.Raise first) w new known happened = ap (λ k. width_of k.wire) happened.is ∙ wired_width happened.m.host happened.after.host w.wire happened.wire happened.wired
step_width laws (event.Cancel number) w new known happened = ap (λ k. width_of k.wire) happened.is ∙ wired_width happened.m.host happened.after.host w.wire happened.wire happened.wired
step_width laws (event.Deliver openings most copy further) w new known (is_copy, happened) =
    ap (λ k. width_of k.wire) happened.is ∙ wired_width happened.m.host happened.after.host w.wire happened.wire happened.wired
step_width laws event.Refuse w new known happened = ap (λ k. width_of k.wire) happened.is ∙ wired_width happened.m.host happened.after.host w.wire happened.wire happened.wired
step_width laws event.Keep w new known happened =
    ap (λ k. width_of k.wire) happened.moves.is ∙ wired_width happened.moves.m.host happened.moves.after.host w.wire happened.moves.wire happened.moves.wired
step_width laws (event.FailWith why) w new known happened =
    ap (λ k. width_of k.wire) happened.moves.is ∙ wired_width happened.moves.m.host happened.moves.after.host w.wire happened.moves.wire happened.moves.wired
step_width laws (event.FailWithBoth why) w new known happened =
    ap (λ k. width_of k.wire) happened.moves.is ∙ wired_width happened.moves.m.host happened.moves.after.host w.wire happened.moves.wire happened.moves.wired
step_width laws (event.FailWithout why) w new known happened =
    ap (λ k. width_of k.wire) happened.moves.is ∙ wired_width happened.moves.m.host happened.moves.after.host w.wire happened.moves.wire happened.moves.wired
step_width laws (event.Learn others) w new known happened =
    ap (λ k. width_of k.wire) happened.moves.is ∙ wired_width happened.moves.m.host happened.moves.after.host w.wire happened.moves.wire happened.moves.wired
step_width laws (event.FailLearning others why) w new known happened =
    ap (λ k. width_of k.wire) happened.moves.is ∙ wired_width happened.moves.m.host happened.moves.after.host w.wire happened.moves.wire happened.moves.wired
step_width laws event.Connect w new known happened = ap (λ k. width_of k.wire) happened.is ∙ wired_width happened.m.host happened.after.host w.wire happened.wire happened.wired
step_width laws event.Miss w new known happened = ap (λ k. width_of k.wire) happened.is ∙ wired_width happened.m.host happened.after.host w.wire happened.wire happened.wired
step_width laws (event.Put most) w new known happened = ap (λ k. width_of k.wire) happened.is
step_width laws (event.Break most fewer why) w new known happened = ap (λ k. width_of k.wire) happened.is
step_width laws (event.Hear most) w new known happened =
    ap (λ k. width_of k.wire) happened.is ∙ wired_width happened.m.host happened.after.host _ happened.wire happened.wired
step_width laws (event.End why) w new known happened = ap (λ k. width_of k.wire) happened.is ∙ wired_width happened.m.host happened.after.host w.wire happened.wire happened.wired
step_width laws event.HangUp w new known happened = ap (λ k. width_of k.wire) happened.is ∙ wired_width happened.m.host happened.after.host w.wire happened.wire happened.wired
step_width laws event.News w new known happened = ap (λ k. width_of k.wire) happened.is ∙ wired_width happened.m.host happened.after.host w.wire happened.wire happened.wired
step_width laws event.Tell w new known happened =
    ap (λ k. width_of k.wire) happened.moves.is ∙ wired_width happened.moves.m.host happened.moves.after.host w.wire happened.moves.wire happened.moves.wired
step_width laws (event.OnWire e) w new known happened =
    let before : HostView = with_earlier known.earlier known.host in
    ap (λ k. width_of k.wire) happened.is
    ∙ (laws.trust.kept e (line_of before w.wire) (line_of before happened.wire) happened.effect (fits_wire e happened.at_printer) (earlier_sound known.earlier known.host known.sound)
    known.line (happened.happened before) known.trusted).1
step_width laws event.Idle w new known happened = ap (λ k. width_of k.wire) happened.is
step_width laws event.Crash w new known happened = ap (λ k. width_of k.wire) happened.is ∙ crashed_width w new w.machine refl happened

pub same_width : LineLaws → (es : List Happening) (w new : World) → IsWorld w → Runs w es new → width_of new.wire ≡ width_of w.wire
same_width laws [] w new known same = ap (λ k. width_of k.wire) same
same_width laws (e ∷ es) w new known (mid, happened, more) =
    same_width laws es mid new (whatever laws w mid e known happened) more ∙ step_width laws e w mid known happened
