-- A line whose records can be trusted stays one, whatever its host does.
use Rattle.std.proofs.Common.{ℕ, ◌≡◌, ◌≢◌, ◌+◌, ◌⊎◌, ◌<◌, ◌≤◌, inl, inr, None, List, [], ◌++◌, take, refl, sym, ◌∙◌, ap, subst, append-nil}
use Rattle.std.specs.Prelude.{option_to_list}
use Rattle.escpos_command.specs.declared.command.Command.{Command}
use Rattle.escpos_command.specs.CommandTable.{AreCommands}
use Rattle.escpos_command.specs.Digits.{mark_count}
use Rattle.escpos_receipt.specs.Whole.{Whole}
use Rattle.escpos_host.specs.Counted.{id_of}
use Rattle.escpos_host.specs.Earlier.{with_earlier}
use Rattle.escpos_host.specs.Machine.{HostView, Phase, Down, Opening, Open, IsSound}
use Rattle.escpos_host.specs.declared.host.HostEvent.{HostEvent}
use Rattle.escpos_host.specs.Heard.{EndsLink, HearsAll, last_of}
use Rattle.escpos_link.specs.declared.event.Event.{Event}
use Rattle.escpos_link.specs.declared.event.Event.TheVariants as event
use Rattle.escpos_link.specs.declared.event.Note.{Note}
use Rattle.escpos_link.specs.declared.event.Note.TheVariants as note
use Rattle.escpos_link.specs.EventTable.{After, hung_up}
use Rattle.escpos_link.specs.Line.{IsLine, LineView}
use Rattle.escpos_link.specs.Promising.{Promising}
use Rattle.escpos_link.specs.Trusted.{IsFitting, IsTrusted, Trusting}
use Rattle.escpos_link.specs.Wire.{WireView, given_up, line_of}
use Rattle.escpos_link.proofs.AtTheEnd.{hung_up_by}
use Rattle.escpos_host.proofs.Earlier.{earlier_sound}
use Rattle.escpos_till.specs.Machine.{Drops}
use Rattle.escpos_till_model.specs.World.{Wired}

-- The laws of the line that are cited.
pub record LineLaws : Type 0 where
  pub trust : Trusting
  pub promise : Promising
  pub apart : (m n : ℕ) → m ≤ n → n < m + mark_count → id_of m ≡ id_of n → m ≡ n
  pub every : (e : Event) (l after : LineView) (n : Note) → IsSound l.host → IsLine l → After e l n after → IsLine after
  pub fitting : (receipt : List Command) → Whole receipt → AreCommands receipt → IsFitting (event.Submit receipt)
  pub turn : (h after : HostView) (w : WireView) (most consumed : ℕ) (events : List HostEvent) → IsLine (line_of h w) → IsTrusted (line_of h w)
      → HearsAll h (take most w.coming) events consumed after → EndsLink (last_of events) → ⊥

-- A line that can be trusted.
pub record Right (l : LineView) : Type 0 where
  pub line : IsLine l
  pub trusted : IsTrusted l

pub goes : LineLaws → (e : Event) (l after : LineView) (n : Note) → IsFitting e → IsSound l.host → Right l → After e l n after → Right after
goes laws e l after n fits sound right happened = record {
  line = laws.every e l after n sound right.line happened;
  trusted = (laws.trust.kept e l after n fits sound right.line happened right.trusted).0;
}

-- ## A host with a link, or without

pub down_or_up : (p : Phase) → (p ≡ Down) ⊎ (p ≢ Down)
down_or_up Down = inl refl
down_or_up (Opening first) = inr (λ same. cc same)
down_or_up (Open flight) = inr (λ same. cc same)

pub same_wire : (h h' : HostView) (w new : WireView) → h' ≡ h → Wired h h' w new → new ≡ w
same_wire h h' w new same wired = elim (down_or_up h.phase) [
  | inl down ↦ wired.stays_down down (ap (λ v. v.phase) same ∙ down)
  | inr up ↦ wired.stays_up up (λ down. up (ap (λ v. v.phase) (sym same) ∙ down))
]

-- A line whose host has no link is as it would be if that were given up.
pub none_given_up : (h : HostView) (w : WireView) → h.phase ≡ Down → IsLine (line_of h w) → given_up w ≡ w
none_given_up h w down line =
    let live = line.down down in
    let quiet = line.quiet down in
    ap (λ l. record { printer = w.printer; ended = w.ended ++ option_to_list l; live = None; coming = [] }) live
    ∙ ap (λ e. record { printer = w.printer; ended = e; live = None; coming = [] }) (append-nil w.ended)
    ∙ ap (λ l. record { printer = w.printer; ended = w.ended; live = l; coming = [] }) (sym live)
    ∙ ap (λ c. record { printer = w.printer; ended = w.ended; live = w.live; coming = c }) (sym quiet)

-- The host gives its link up, if it has one.
pub drops_right : LineLaws → (earlier : List (List Command)) (h h' : HostView) (w new : WireView) → IsSound h → Drops h h' → Wired h h' w new
    → Right (line_of (with_earlier earlier h) w) → Right (line_of (with_earlier earlier h') new)
drops_right laws earlier h h' w new sound drops wired right = elim (down_or_up h.phase) [
  | inl down ↦
      let same = drops.0 down in
      subst (λ v. Right (line_of (with_earlier earlier h') v)) (sym (same_wire h h' w new same wired))
      (subst (λ v. Right (line_of (with_earlier earlier v) w)) (sym same) right)
  | inr up ↦
      let gone = drops.1 up in
      let is : new ≡ given_up w = wired.goes_down up (ap (λ v. v.phase) gone) in
      subst (λ v. Right (line_of (with_earlier earlier h') v)) (sym is)
      (goes laws event.HostDrops (line_of (with_earlier earlier h) w) (line_of (with_earlier earlier h') (given_up w)) note.Done tt (earlier_sound earlier h sound) right
      (hung_up_by (with_earlier earlier h) (with_earlier earlier h') w (λ _. ap (with_earlier earlier) gone) (λ down. absurd (up down))))
]

pub hung_by : (earlier : List (List Command)) (h h' : HostView) (p : Phase) → h.phase ≡ p → Drops h h' → with_earlier earlier h' ≡ hung_up p (with_earlier earlier h)
hung_by earlier h h' Down is drops = ap (with_earlier earlier) (drops.0 is)
hung_by earlier h h' (Opening first) is drops = ap (with_earlier earlier) (drops.1 (λ down. let bad : Opening first ≡ Down = sym is ∙ down in cc))
hung_by earlier h h' (Open flight) is drops = ap (with_earlier earlier) (drops.1 (λ down. let bad : Open flight ≡ Down = sym is ∙ down in cc))

-- It is the host that the line's own events leave.
pub drops_hung : (earlier : List (List Command)) (h h' : HostView) → Drops h h' → with_earlier earlier h' ≡ hung_up h.phase (with_earlier earlier h)
drops_hung earlier h h' drops = hung_by earlier h h' h.phase refl drops
