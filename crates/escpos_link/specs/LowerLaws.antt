-- What the laws of the layers below say, as sending a receipt over a line on which nothing is under way needs them.
-- For private clauses, invariants and proofs alone: no public clause names these.
use Rattle.std.specs.Prelude.{ℕ, ◌≡◌, ◌≢◌, ◌⊎◌, List, [], ◌∷◌, ◌++◌, length, IsTrue}
use Rattle.escpos_command.specs.declared.answer.Answer.{Answer}
use Rattle.escpos_command.specs.declared.command.Command.{Command}
use Rattle.escpos_command.specs.declared.command.Command.TheVariants as kind
use Rattle.escpos_command.specs.Answers.{AreWholeAnswers, Hears, answer_bytes, is_answer}
use Rattle.escpos_command.specs.CommandTable.{spell}
use Rattle.escpos_host.specs.Counted.{id_of}
use Rattle.escpos_command.specs.Parameters.{is_mark_id}
use Rattle.escpos_paper.specs.Printed.{printed}
use Rattle.escpos_printer.specs.declared.printer.FeedStop.{FeedStop}
use Rattle.escpos_printer.specs.declared.printer.FeedStop.TheVariants as stop
use Rattle.escpos_printer.specs.Feeds.{Feeds, PrinterView, Took}
use Rattle.escpos_printer.specs.ReadyFor.{IsReadyFor}
use Rattle.escpos_host.specs.declared.host.HostEvent.{HostEvent}
use Rattle.escpos_host.specs.Heard.{GoesOn, HearsAll, IsOff, Turns, last_of}
use Rattle.escpos_host.specs.Machine.{HostView, Down}

-- What a host leaves of whole answers.
abbrev pub LeavesAnswers : Type 0
LeavesAnswers = (h after : HostView) (bytes more : List ℕ) (events : List HostEvent) (consumed : ℕ) → h.phase ≢ Down → AreWholeAnswers (h.half ++ (bytes ++ more))
    → HearsAll h bytes events consumed after → IsOff events after ⊎ GoesOn bytes more events consumed after

-- What the laws of the layers below say.
pub record Laws : Type 0 where
  pub whole_commands : (p q : PrinterView) (cs : List Command) (k : ℕ) (why : FeedStop) → IsReadyFor p cs → Feeds p (spell cs) k why q
      → (why ≡ stop.Memory) ⊎ ((why ≡ stop.All) × (k ≡ length (spell cs)) × Took p (spell cs) cs q × (q.half ≡ []))
  pub one_answer : (h after : HostView) (a : Answer) (events : List HostEvent) (consumed : ℕ) → h.phase ≢ Down → h.half ≡ [] → IsTrue (is_answer a)
      → HearsAll h (answer_bytes a) events consumed after → Turns h a (last_of events) after
  pub leaves : LeavesAnswers
  pub one_hearing : (bs : List ℕ) (some others : List Answer) (x y : List ℕ) → Hears bs some x → Hears bs others y → (some ≡ others) × (x ≡ y)
  pub init : (width : ℕ) (a b : List Command) → printed width (a ++ kind.Init ∷ [] ++ b) ≡ printed width a ++ printed width b
  pub marks : (width : ℕ) (cs : List Command) (id : List ℕ) → printed width (cs ++ kind.Mark id ∷ []) ≡ printed width cs
  pub ids : (n : ℕ) → IsTrue (is_mark_id (id_of n))
