use Rattle.std.proofs.Common.{◌+◌, ◌++◌, ◌∷◌, [], take, drop, refl, sym, ◌∙◌, ap, append-nil, append_assoc}
use Rattle.std.proofs.lemmas.List.{take-append-drop}
use Rattle.escpos_command.specs.CommandTable.{row}
use Rattle.escpos_command.specs.declared.command.Command.TheVariants as kind
use Rattle.escpos_host.specs.Machine.{ask_reports, closed_by, next_mark}
use Rattle.escpos_host.proofs.Said.{more_said, one_more_said, says_asked, says_asked_reports, says_heard, says_linked, says_linked_reporting, says_nudged, says_submitted}
use Rattle.escpos_host.proofs.NoRealTime.{between_requests}
use Rattle.escpos_host.proofs.laws.says.Goals as goal

pub returns-clause-linked : goal.returns-clause-linked
returns-clause-linked c = λ h marks. record { says = says_linked h.next; whole = append-nil (row (next_mark h)) }

pub returns-clause-linked_reporting : goal.returns-clause-linked_reporting
returns-clause-linked_reporting c = λ h marks. record {
  says = says_linked_reporting h.next;
  whole = ap (λ v. row ask_reports ++ v) (append-nil (row (next_mark h)));
}

pub returns-clause-nudged : goal.returns-clause-nudged
returns-clause-nudged c = λ h out said opening marks talks. record {
  says = says_nudged h.phase h.next said opening talks.says;
  whole = one_more_said out h.out said (next_mark h) talks.whole;
}

pub returns-clause-asked : goal.returns-clause-asked
returns-clause-asked c = λ h out said n ready known talks. record {
  says = says_asked h.phase h.next n said ready known talks.says;
  whole = one_more_said out h.out said (kind.Status n) talks.whole;
}

pub returns-clause-asked_reports : goal.returns-clause-asked_reports
returns-clause-asked_reports c = λ h out said ready talks. record {
  says = says_asked_reports h.phase h.next said ready talks.says;
  whole = one_more_said out h.out said ask_reports talks.whole;
}

pub returns-clause-submitted : goal.returns-clause-submitted
returns-clause-submitted c = λ h out said flight receipt up marks whole talks. record {
  says = says_submitted h.phase h.next (h.next + 1) said flight (closed_by receipt h.next) up (whole, refl) talks.says;
  whole = more_said out h.out said (kind.Init ∷ (receipt ++ next_mark h ∷ [])) talks.whole;
}

pub returns-clause-taken : goal.returns-clause-taken
returns-clause-taken c = λ h out said count talks. record {
  says = talks.says;
  whole = talks.whole ∙ ap (λ v. out ++ v) (sym (take-append-drop count h.out)) ∙ sym (append_assoc out (take count h.out) (drop count h.out));
}

pub returns-clause-heard : goal.returns-clause-heard
returns-clause-heard c = λ h after out said bytes consumed e up heard talks. says_heard h after bytes consumed e out said up talks heard

pub returns-clause-handed_out : goal.returns-clause-handed_out
returns-clause-handed_out c = λ h out said talks. record { says = talks.says; whole = talks.whole }

pub returns-clause-no_real_time : goal.returns-clause-no_real_time
returns-clause-no_real_time c = between_requests c.counted_marks.ensures.ids
