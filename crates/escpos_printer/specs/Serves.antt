-- What serving a link does: the bytes that came from it, what the printer made of them, and the bytes of the answers that
-- went back. It speaks of the whole link; the code reads pieces, and writes answers between them.
use Rattle.std.specs.Prelude.{ℕ, ◌≡◌, ◌<◌, ◌≤◌, ◌-◌, ◌⊎◌, nat_lt, List, [], ◌∷◌, ◌++◌, length, take, slice_index, Option, Some, if◌then◌else◌}
use Rattle.std.specs.Io.KnownBytes.{Appends, Consumes}
use Rattle.escpos_io.specs.Gather.{StopsIn}
use Rattle.escpos_command.specs.declared.answer.Answer.{Answer}
use Rattle.escpos_command.specs.declared.command.Command.{Command}
use Rattle.escpos_command.specs.Answers.{answer_bytes, spell_answers}
use Rattle.escpos_command.specs.Grammar.{Viable}
use Rattle.escpos_printer.specs.declared.printer.FeedStop.TheVariants as stop
use Rattle.escpos_printer.specs.declared.serve.LinkEnd.{LinkEnd}
use Rattle.escpos_printer.specs.declared.serve.LinkEnd.TheVariants.{Ended, TooLong, Fault, Offline, ReadFault, WriteFault, Memory}
use Rattle.escpos_printer.specs.declared.serve.Carried.{Carried}
use Rattle.escpos_printer.specs.declared.serve.Served.{Served}
use Rattle.escpos_printer.specs.Feeds.{PrinterView, Ran, HasCause}
use Rattle.escpos_printer.specs.Blocks.{PutInParts}
use Rattle.escpos_printer.specs.Replies.{replies}

-- The answers after the one that holds byte `at` of the bytes of all of them, counted from 0; none if no answer holds it.
abbrev pub after_byte : List Answer → ℕ → List Answer
after_byte [] at = []
after_byte (a ∷ answers) at = if nat_lt at (length (answer_bytes a)) then answers else after_byte answers (at - length (answer_bytes a))

-- The bytes that a sink has taken, where it can name them, before and after.
pub record Sent : Type 0 where
  pub before : Option (List ℕ)
  pub after : Option (List ℕ)

abbrev pub sent : Option (List ℕ) → Option (List ℕ) → Sent
sent before after = record { before = before; after = after }

-- All these answers went out, `written` bytes, and none waits.
pub record AllOut (s : Sent) (answers : List Answer) (written : ℕ) (waiting : List Answer) : Type 0 where
  pub out : Appends s.before s.after (spell_answers answers)
  pub count : written ≡ length (spell_answers answers)
  pub none : waiting ≡ []

-- The sink failed within these answers: exactly the first `written` of their bytes went out, the answer that holds the next
-- byte is lost, and those after it wait.
pub record CutOff (s : Sent) (answers : List Answer) (written : ℕ) (waiting : List Answer) : Type 0 where
  pub out : StopsIn s.before s.after (spell_answers answers) written
  pub later : waiting ≡ after_byte answers written

-- Which of these answers went out by this end of a link; None is no end.
abbrev pub AnswersGo : Option LinkEnd → Sent → List Answer → ℕ → List Answer → Type 0
AnswersGo (Some WriteFault) s answers written waiting = CutOff s answers written waiting
AnswersGo end s answers written waiting = AllOut s answers written waiting

-- Why no more of the bytes were taken: there are none, or the next one has a cause. Where the writer failed, this is left
-- open.
abbrev pub EndsBy : Option LinkEnd → PrinterView → List ℕ → ℕ → Type 0
EndsBy (Some (Fault why)) taken bytes consumed = (consumed < length bytes) × HasCause (stop.Fault consumed why) taken (slice_index bytes consumed)
EndsBy (Some Offline) taken bytes consumed = (consumed < length bytes) × HasCause stop.Offline taken (slice_index bytes consumed)
EndsBy (Some Memory) taken bytes consumed = (consumed < length bytes) × HasCause stop.Memory taken (slice_index bytes consumed)
EndsBy (Some WriteFault) taken bytes consumed = Unit {0}
EndsBy end taken bytes consumed = consumed ≡ length bytes

-- The printer with no half command.
abbrev pub dropped : PrinterView → PrinterView
dropped printer = record { sheet = printer.sheet; half = []; waiting = printer.waiting; condition = printer.condition; automatic = printer.automatic }

-- What is left of the printer: a fault drops the half command. Where the writer failed, the half command may have been
-- dropped too, if no command continues with the next byte.
abbrev pub IsLeftBy : Option LinkEnd → PrinterView → List ℕ → ℕ → PrinterView → Type 0
IsLeftBy (Some (Fault why)) taken bytes consumed after = after ≡ dropped taken
IsLeftBy (Some WriteFault) taken bytes consumed after =
    (after ≡ taken) ⊎ ((after ≡ dropped taken) × (consumed < length bytes) × (Viable (taken.half ++ slice_index bytes consumed ∷ []) → ⊥))
IsLeftBy end taken bytes consumed after = after ≡ taken

-- What a printer made of bytes that came, and how far its answers went out: in parts, of which the last may still wait.
pub record IsCarried (before : PrinterView) (bytes : List ℕ) (s : Sent) (carried : Carried) (after : PrinterView) : Type 0 where
  pub commands : List Command
  pub taken : PrinterView
  pub within : carried.consumed ≤ length bytes
  pub ran : Ran before (take carried.consumed bytes) commands taken
  pub out : List Answer
  pub parts : PutInParts (before.waiting ++ replies before.condition commands) out
  pub answers : AnswersGo carried.end s out carried.written taken.waiting
  pub cause : EndsBy carried.end taken bytes carried.consumed
  pub leaves : IsLeftBy carried.end taken bytes carried.consumed after

-- A link before and after: the bytes to come from the host, and the bytes that it was sent, where they are known.
pub record LinkView : Type 0 where
  pub came : Option (List ℕ)
  pub rest : Option (List ℕ)
  pub sent : Sent

abbrev pub link : Option (List ℕ) → Option (List ℕ) → Option (List ℕ) → Option (List ℕ) → LinkView
link came rest before after = record { came = came; rest = rest; sent = sent before after }

-- What serving a link does. `read` bytes came from it, at most as many as it may have; the printer took `consumed` of them;
-- and `written` bytes of answers went out. The source's end and its failure are found only by a read, and there is no read
-- once as many bytes were read as the link may have.
pub record Serves (before : PrinterView) (l : LinkView) (most : ℕ) (served : Served) (after : PrinterView) : Type 0 where
  pub bytes : List ℕ
  pub came : Consumes l.came l.rest bytes
  pub read : served.read ≡ length bytes
  pub within : served.read ≤ most
  pub carries : IsCarried before bytes l.sent (record { consumed = served.consumed; written = served.written; end = Some served.end }) after
  pub too_long : served.end ≡ TooLong → served.read ≡ most
  pub early : (served.end ≡ Ended) ⊎ (served.end ≡ ReadFault) → served.read < most
