-- What a host hears puts nothing more out: what it still has to say stays as it is, or is dropped with the link.
use Rattle.std.proofs.Common.{◌≡◌, ◌≢◌, ◌≤◌, ℕ, List, [], length, arith, refl, ap, inl, inr}
use Rattle.escpos_command.specs.declared.answer.Answer.{Answer}
use Rattle.escpos_host.specs.declared.host.HostEvent.{HostEvent}
use Rattle.escpos_host.specs.declared.host.HostEvent.TheVariants as event
use Rattle.escpos_host.specs.Heard.{Grows, HearsByte, IsHeard, Misfits, Turns, with_half}
use Rattle.escpos_host.specs.Machine.{HostView, Phase, Down, Opening, Open}
use Rattle.escpos_host.proofs.Recording.{keeps, told}

-- there is no more to take out than there was
abbrev pub IsQuiet : HostView → HostView → Type 0
IsQuiet h after = length after.out ≤ length h.out

abbrev out_of : HostView → List ℕ
out_of h = h.out

same : (h after : HostView) → after.out ≡ h.out → IsQuiet h after
same h after e = let l = ap length e in omega (arith, l)

dropped : (h after : HostView) → after.out ≡ [] → IsQuiet h after
dropped h after e = let l : length after.out ≡ 0 = ap length e in omega (arith, l)

turned : (h : HostView) (a : Answer) (e : HostEvent) (after : HostView) → Turns h a e after → IsQuiet h after
turned h a event.None after t = same h after (ap out_of t.1)
turned h a event.Opened after (first, n, id, opening, mark, among, is) = same h after (ap out_of is)
turned h a (event.Recorded number) after (id, mark, records) = same h after (keeps h after id number records).out
turned h a (event.Late id) after (first, opening, mark, other, unleft, late) = same h after (told h after first id opening late).keeps.out
turned h a (event.Status byte) after t = same h after (ap out_of t.1)
turned h a (event.Condition block) after t = same h after (ap out_of t.1)
turned h a (event.BadAnswer place) after turns = absurd turns

grown : (h : HostView) (byte : ℕ) (e : HostEvent) (after : HostView) → Grows h byte e after → IsQuiet h after
grown h byte event.None after t = same h after (ap out_of t.0)
grown h byte event.Opened after t = absurd t
grown h byte (event.Recorded number) after t = absurd t
grown h byte (event.Late id) after t = absurd t
grown h byte (event.Status b) after t = absurd t
grown h byte (event.Condition block) after t = absurd t
grown h byte (event.BadAnswer place) after t = absurd t

misfits : (h : HostView) (byte at : ℕ) (e : HostEvent) (after : HostView) → Misfits h byte at e after → IsQuiet h after
misfits h byte at (event.BadAnswer place) after t = dropped h after (ap out_of t.2)
misfits h byte at event.None after t = absurd t
misfits h byte at event.Opened after t = absurd t
misfits h byte at (event.Recorded number) after t = absurd t
misfits h byte at (event.Late id) after t = absurd t
misfits h byte at (event.Status b) after t = absurd t
misfits h byte at (event.Condition block) after t = absurd t

hears_byte : (h : HostView) (byte at : ℕ) (e : HostEvent) (after : HostView) → HearsByte h byte at e after → IsQuiet h after
hears_byte h byte at e after t = elim t [
  | inl grows ↦ grown h byte e after grows
  | inr other ↦ elim other [
    | inl bad ↦ misfits h byte at e after bad
    | inr whole ↦ turned (with_half h []) whole.0 e after whole.2
  ]
]

pub is_quiet : (h : HostView) (bytes : List ℕ) (consumed : ℕ) (e : HostEvent) (after : HostView) → IsHeard h bytes consumed e after → IsQuiet h after
is_quiet h bytes consumed e after heard = elim heard [
  | inl all ↦ same h after (ap out_of all.3)
  | inr (at, half, inside, some, count, passed, byte) ↦ hears_byte (with_half h half) _ at e after byte
]

-- so it is with and without a link
pub stays_quiet : (phase : Phase) (h : HostView) (bytes : List ℕ) (consumed : ℕ) (e : HostEvent) (after : HostView)
    → (phase ≡ Down → (consumed ≡ length bytes) × (e ≡ event.None) × (after ≡ h)) → (phase ≢ Down → IsHeard h bytes consumed e after) → IsQuiet h after
stays_quiet Down h bytes consumed e after down up = same h after (ap out_of (down refl).2)
stays_quiet (Opening first) h bytes consumed e after down up = is_quiet h bytes consumed e after (up (λ e. cc))
stays_quiet (Open flight) h bytes consumed e after down up = is_quiet h bytes consumed e after (up (λ e. cc))
