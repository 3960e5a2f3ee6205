-- A receipt line: a host, a printer, and all that lies between them.
--
-- The host puts bytes on its link, and the printer takes them from the first link that it has not left. So there may be
-- several links; the host is only on the newest, and on none while it is down. The printer's answers go back to the host if
-- the link that the printer serves is the one that the host is on.
use Rattle.std.specs.Prelude.{ℕ, ◌≡◌, ◌≢◌, ◌++◌, List, [], Option, None, IsTrue}
use Rattle.std.specs.List.{AllByRecursion}
use Rattle.escpos_command.specs.Answers.{AreWholeAnswers, is_answer}
use Rattle.escpos_host.specs.Machine.{HostView, Down}
use Rattle.escpos_printer.specs.Feeds.{PrinterView}

-- The model of a line: the host, the printer, and the bytes between them. For each link that the host has given up and the
-- printer has not left there are the bytes that were put on it and not delivered, the oldest link first; the same for the
-- live link, which is the newest of all, if there is one; and the bytes of answers that are on their way to the host.
pub record LineView : Type 0 where
  pub host : HostView
  pub printer : PrinterView
  pub ended : List (List ℕ)
  pub live : Option (List ℕ)
  pub coming : List ℕ

-- What holds for every line.
pub record IsLine (l : LineView) : Type 0 where
  -- The host is on the live link. If there is a link and the host is up, the newest link is live.
  pub down : l.host.phase ≡ Down → l.live ≡ None
  pub alone : l.host.phase ≢ Down → l.live ≡ None → l.ended ≡ []
  -- Nothing is on its way to a host that is down.
  pub quiet : l.host.phase ≡ Down → l.coming ≡ []
  -- What the host has heard of an answer and what is on its way are whole answers.
  pub whole : AreWholeAnswers (l.host.half ++ l.coming)
  -- The answers that wait in the printer are answers that a host knows.
  pub fitting : AllByRecursion (λ a. IsTrue (is_answer a)) l.printer.waiting
