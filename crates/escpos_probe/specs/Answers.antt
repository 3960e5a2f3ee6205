-- What the answers of a printer show.
use Rattle.std.specs.Prelude.{◌&&◌, ℕ, Bool, false, List, [], ◌∷◌, bytes_eq}
use Rattle.escpos_command.specs.Answers.{is_status_byte}
use Rattle.escpos_probe.specs.declared.premises.Premises.{Premises}
use Rattle.escpos_probe.specs.declared.question.Shows.{Shows}
use Rattle.escpos_probe.specs.declared.question.Shows.TheVariants.{Status, Marks, Nothing}
use Rattle.escpos_probe.specs.declared.question.TheConstants.{MARK_ANSWER}

-- the answer is one status byte
abbrev pub is_status_answer : List ℕ → Bool
is_status_answer (byte ∷ []) = is_status_byte byte
is_status_answer bytes = false

-- the answer is that to the mark which was asked for
abbrev pub is_mark_answer : List ℕ → Bool
is_mark_answer bytes = bytes_eq bytes MARK_ANSWER.now

-- what is shown after this answer to a question that shows this
abbrev pub after_answer : Shows → List ℕ → Premises → Premises
after_answer Status bytes premises = record { quiet = premises.quiet; marks = premises.marks; status = premises.status && is_status_answer bytes }
after_answer Marks bytes premises = record { quiet = premises.quiet; marks = is_mark_answer bytes; status = premises.status }
after_answer Nothing bytes premises = premises
