-- What a host has said keeps its form.
use Rattle.std.proofs.Common.{◌≡◌, inl, inr, ℕ, ◌+◌, zero, suc, List, [], ◌∷◌, ◌++◌, refl, sym, ◌∙◌, ap, subst, append-nil, append_assoc, arith}
use Rattle.std.specs.Prelude.{slice_index, IsTrue, ◌≢◌}
use Rattle.std.specs.List.{flat_map}
use Rattle.std.proofs.lemmas.Grind.{flat_map-append}
use Rattle.escpos_command.specs.declared.command.Command.{Command}
use Rattle.escpos_command.specs.declared.command.Command.TheVariants as kind
use Rattle.escpos_command.specs.CommandTable.{row, spell}
use Rattle.escpos_host.specs.Counted.{id_of}
use Rattle.escpos_command.specs.Parameters.{is_status_kind}
use Rattle.escpos_command.specs.declared.answer.Answer.{Answer}
use Rattle.escpos_host.specs.declared.host.HostEvent.{HostEvent}
use Rattle.escpos_host.specs.declared.host.HostEvent.TheVariants as event
use Rattle.escpos_host.specs.Heard.{HearsByte, IsHeard, Turns, with_half}
use Rattle.escpos_host.specs.Machine.{HostView, InFlight, IsOpening as Opens, Phase, Down, Opening, Open, ask_reports}
use Rattle.escpos_receipt.proofs.Prefixes.{all_joined}
use Rattle.escpos_host.specs.Says.{Asked, AskedReports, IsBeginning, IsPart, IsSent, Part, SaysIn, Sent, Talks, marks_from, said_by, framed}

-- One more mark.
pub marks-snoc : (count first : ℕ) → marks_from (suc count) first ≡ marks_from count first ++ kind.Mark (id_of (first + count)) ∷ []
marks-snoc zero first = let same : first ≡ first + 0 = omega arith in ap (λ n. kind.Mark (id_of n) ∷ []) same
marks-snoc (suc count) first =
    let same : (first + 1) + count ≡ first + suc count = omega arith in
    ap (λ cs. kind.Mark (id_of first) ∷ cs) (marks-snoc count (first + 1) ∙ ap (λ n. marks_from count (first + 1) ++ kind.Mark (id_of n) ∷ []) same)

pub says_linked : (next : ℕ) → SaysIn (Opening next) (next + 1) (kind.Mark (id_of next) ∷ [])
says_linked next = (0, omega arith, inl refl)

pub says_linked_reporting : (next : ℕ) → SaysIn (Opening next) (next + 1) (ask_reports ∷ kind.Mark (id_of next) ∷ [])
says_linked_reporting next = (0, omega arith, inr refl)

-- One more opening mark.
more_marks : (count first next : ℕ) → next ≡ first + count → marks_from count first ++ kind.Mark (id_of next) ∷ [] ≡ marks_from (suc count) first
more_marks count first next is = ap (λ n. marks_from count first ++ kind.Mark (id_of n) ∷ []) is ∙ sym (marks-snoc count first)

more_opening : (count first next : ℕ) (said : List Command) → next ≡ first + count → IsBeginning count first said → IsBeginning (suc count) first (said ++ kind.Mark (id_of next) ∷ [])
more_opening count first next said is (inl marks) = inl (ap (λ cs. cs ++ kind.Mark (id_of next) ∷ []) marks ∙ more_marks count first next is)
more_opening count first next said is (inr marks) =
    inr (ap (λ cs. cs ++ kind.Mark (id_of next) ∷ []) marks ∙ ap (λ cs. ask_reports ∷ cs) (more_marks count first next is))

pub says_nudged : (phase : Phase) (next : ℕ) (said : List Command) → Opens phase → SaysIn phase next said → SaysIn phase (next + 1) (said ++ kind.Mark (id_of next) ∷ [])
says_nudged Down next said opening says = absurd says
says_nudged (Open flight) next said opening says = absurd opening
says_nudged (Opening first) next said opening (count, is_next, is_said) =
    let later : next + 1 ≡ first + suc (suc count) = omega (arith, is_next) in
    (suc count, later, more_opening (suc count) first next said is_next is_said)

pub says_opened : (phase : Phase) (next : ℕ) (said : List Command) → Opens phase → SaysIn phase next said → SaysIn (Open []) next said
says_opened Down next said opening says = absurd says
says_opened (Open flight) next said opening says = absurd opening
says_opened (Opening first) next said opening (count, is_next, is_said) =
    (first, count, said, [], is_said, tt, tt, sym (append-nil (said ++ []) ∙ append-nil said))

-- One more request, while nothing is in flight.
asked_one : (next : ℕ) (part : Part) (c : Command) (said : List Command) → said_by part ≡ c ∷ [] → IsPart part → SaysIn (Open []) next said → SaysIn (Open []) next (said ++ c ∷ [])
asked_one next part c said one known (first, count, opening, parts, opens, each, none, is_said) =
    let before = flat_map said_by parts in (
      first,
      count,
      opening,
      parts ++ part ∷ [],
      opens,
      all_joined IsPart parts (part ∷ []) each (known, tt),
      tt,
      ap (λ cs. cs ++ c ∷ []) (is_said ∙ append-nil (opening ++ before)) ∙ append_assoc opening before (c ∷ [])
          ∙ ap (λ cs. opening ++ cs) (ap (λ cs. before ++ cs) (sym one ∙ sym (append-nil (said_by part))) ∙ sym (flat_map-append said_by parts (part ∷ [])))
          ∙ sym (append-nil (opening ++ flat_map said_by (parts ++ part ∷ []))),
    )

says_part : (phase : Phase) (next : ℕ) (part : Part) (c : Command) (said : List Command) → phase ≡ Open [] → said_by part ≡ c ∷ [] → IsPart part → SaysIn phase next said
    → SaysIn phase next (said ++ c ∷ [])
says_part phase next part c said ready one known says =
    let now : SaysIn (Open []) next said = subst (λ p. SaysIn p next said) ready says in
    subst (λ p. SaysIn p next (said ++ c ∷ [])) (sym ready) (asked_one next part c said one known now)

pub says_asked : (phase : Phase) (next n : ℕ) (said : List Command) → phase ≡ Open [] → IsTrue (is_status_kind n) → SaysIn phase next said → SaysIn phase next (said ++ kind.Status n ∷ [])
says_asked phase next n said ready known says = says_part phase next (Asked n) (kind.Status n) said ready refl known says

pub says_asked_reports : (phase : Phase) (next : ℕ) (said : List Command) → phase ≡ Open [] → SaysIn phase next said → SaysIn phase next (said ++ ask_reports ∷ [])
says_asked_reports phase next said ready says = says_part phase next AskedReports ask_reports said ready refl tt says

submitted_one : (next later : ℕ) (said : List Command) (flight : List InFlight) (p : InFlight) → IsSent p → SaysIn (Open flight) next said
    → SaysIn (Open (flight ++ p ∷ [])) later (said ++ framed p)
submitted_one next later said flight p whole (first, count, opening, parts, opens, each, sent_each, is_said) =
    let before = opening ++ flat_map said_by parts in (
      first,
      count,
      opening,
      parts,
      opens,
      each,
      all_joined IsSent flight (p ∷ []) sent_each (whole, tt),
      ap (λ cs. cs ++ framed p) is_said ∙ append_assoc before (flat_map framed flight) (framed p)
          ∙ ap (λ cs. before ++ cs) (ap (λ cs. flat_map framed flight ++ cs) (sym (append-nil (framed p))) ∙ sym (flat_map-append framed flight (p ∷ []))),
    )

pub says_submitted : (phase : Phase) (next later : ℕ) (said : List Command) (flight : List InFlight) (p : InFlight) → phase ≡ Open flight → IsSent p → SaysIn phase next said
    → SaysIn (Open (flight ++ p ∷ [])) later (said ++ framed p)
says_submitted phase next later said flight p open_phase whole says = submitted_one next later said flight p whole (subst (λ f. SaysIn f next said) open_phase says)

recorded_one : (next : ℕ) (said : List Command) (p : InFlight) (ps : List InFlight) → SaysIn (Open (p ∷ ps)) next said → SaysIn (Open ps) next said
recorded_one next said p ps (first, count, opening, parts, opens, each, sent_each, is_said) =
    let before = flat_map said_by parts in
    let rest = flat_map framed ps in (
      first,
      count,
      opening,
      parts ++ Sent p ∷ [],
      opens,
      all_joined IsPart parts (Sent p ∷ []) each (sent_each.0, tt),
      sent_each.1,
      is_said ∙ sym (append_assoc (opening ++ before) (framed p) rest)
          ∙ ap (λ cs. cs ++ rest) (append_assoc opening before (framed p) ∙ ap (λ cs. opening ++ cs) (ap (λ cs. before ++ cs) (sym (append-nil (framed p))) ∙ sym (flat_map-append said_by parts (Sent p ∷ [])))),
    )

recorded_all : (next : ℕ) (said : List Command) (before : List InFlight) (p : InFlight) (ps : List InFlight) → SaysIn (Open (before ++ p ∷ ps)) next said → SaysIn (Open ps) next said
recorded_all next said [] p ps says = recorded_one next said p ps says
recorded_all next said (q ∷ before) p ps says = recorded_all next said before p ps (recorded_one next said q (before ++ p ∷ ps) says)

pub says_recorded : (phase : Phase) (next : ℕ) (said : List Command) (before : List InFlight) (p : InFlight) (ps : List InFlight) → phase ≡ Open (before ++ p ∷ ps)
    → SaysIn phase next said → SaysIn (Open ps) next said
says_recorded phase next said before p ps open_phase says = recorded_all next said before p ps (subst (λ f. SaysIn f next said) open_phase says)

-- One more byte is heard.
says_turned : (h after : HostView) (a : Answer) (e : HostEvent) (out : List ℕ) (said : List Command) → after.phase ≢ Down → Talks h out said → Turns h a e after → Talks after out said
says_turned h after a event.None out said up talks turns = subst (λ v. Talks v out said) (sym turns.1) talks
says_turned h after a event.Opened out said up talks (first, n, id, is_first, is_mark, is_opening, same) =
    subst (λ v. Talks v out said) (sym same)
    (record { says = says_opened h.phase h.next said (subst Opens (sym is_first) tt) talks.says; whole = talks.whole })
says_turned h after a (event.Recorded number) out said up talks (id, is_mark, r) = elim r.way [
  | inl (flight, is_open, f, same) ↦
      subst (λ v. Talks v out said) (sym same)
      (record { says = says_recorded h.phase h.next said r.before r.last r.others (is_open ∙ ap Open f.all_are) talks.says; whole = talks.whole })
  | inr (first, opening, other, f, same) ↦ subst (λ v. Talks v out said) (sym same) (record { says = talks.says; whole = talks.whole })
]
says_turned h after a (event.Late id) out said up talks (first, phase, is, other, unleft, inl (n, of_it, same)) =
    subst (λ v. Talks v out said) (sym same) (record { says = talks.says; whole = talks.whole })
says_turned h after a (event.Late id) out said up talks (first, phase, is, other, unleft, inr (none, same)) = subst (λ v. Talks v out said) (sym same) talks
says_turned h after a (event.Status byte) out said up talks turns = subst (λ v. Talks v out said) (sym turns.1) talks
says_turned h after a (event.Condition block) out said up talks turns = subst (λ v. Talks v out said) (sym turns.1) talks
says_turned h after a (event.BadAnswer place) out said up talks turns = absurd turns

says_byte : (h after : HostView) (byte at : ℕ) (e : HostEvent) (out : List ℕ) (said : List Command) → after.phase ≢ Down → Talks h out said → HearsByte h byte at e after → Talks after out said
says_byte h after byte at event.None out said up talks (inl grows) = subst (λ v. Talks v out said) (sym grows.0) (record { says = talks.says; whole = talks.whole })
says_byte h after byte at event.Opened out said up talks (inl grows) = absurd grows
says_byte h after byte at (event.Recorded number) out said up talks (inl grows) = absurd grows
says_byte h after byte at (event.Late id) out said up talks (inl grows) = absurd grows
says_byte h after byte at (event.Status b) out said up talks (inl grows) = absurd grows
says_byte h after byte at (event.Condition block) out said up talks (inl grows) = absurd grows
says_byte h after byte at (event.BadAnswer place) out said up talks (inl grows) = absurd grows
says_byte h after byte at event.None out said up talks (inr (inl misfit)) = absurd misfit
says_byte h after byte at event.Opened out said up talks (inr (inl misfit)) = absurd misfit
says_byte h after byte at (event.Recorded number) out said up talks (inr (inl misfit)) = absurd misfit
says_byte h after byte at (event.Late id) out said up talks (inr (inl misfit)) = absurd misfit
says_byte h after byte at (event.Status b) out said up talks (inr (inl misfit)) = absurd misfit
says_byte h after byte at (event.Condition block) out said up talks (inr (inl misfit)) = absurd misfit
says_byte h after byte at (event.BadAnswer place) out said up talks (inr (inl misfit)) = absurd (up (ap (λ (v : HostView). v.phase) misfit.2))
says_byte h after byte at e out said up talks (inr (inr (a, spelled, turns))) =
    says_turned (with_half h []) after a e out said up (record { says = talks.says; whole = talks.whole }) turns

-- A piece is heard.
pub says_heard : (h after : HostView) (bytes : List ℕ) (consumed : ℕ) (e : HostEvent) (out : List ℕ) (said : List Command) → after.phase ≢ Down → Talks h out said
    → IsHeard h bytes consumed e after → Talks after out said
says_heard h after bytes consumed e out said up talks (inl (none, count, passed, same)) = subst (λ v. Talks v out said) (sym same) (record { says = talks.says; whole = talks.whole })
says_heard h after bytes consumed e out said up talks (inr (at, half, within, some, count, passed, heard)) =
    says_byte (with_half h half) after (slice_index bytes at) at e out said up (record { says = talks.says; whole = talks.whole }) heard

-- The bytes of what is said, with more commands.
pub more_said : (out left : List ℕ) (said more : List Command) → spell said ≡ out ++ left → spell (said ++ more) ≡ out ++ (left ++ spell more)
more_said out left said more whole = flat_map-append row said more ∙ ap (λ v. v ++ spell more) whole ∙ append_assoc out left (spell more)

pub one_more_said : (out left : List ℕ) (said : List Command) (c : Command) → spell said ≡ out ++ left → spell (said ++ c ∷ []) ≡ out ++ (left ++ row c)
one_more_said out left said c whole = more_said out left said (c ∷ []) whole ∙ ap (λ v. out ++ (left ++ v)) (append-nil (row c))
