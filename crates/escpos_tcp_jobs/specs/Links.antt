-- What `emulate` prints for a link.
use Rattle.std.specs.Prelude.{ℕ, List, [], ◌∷◌, ◌++◌, codes, decimal}
use Rattle.escpos_command.specs.declared.bytes.TheConstants.{LF}
use Rattle.escpos_paper.specs.Torn.{bare}
use Rattle.escpos_printer.specs.Feeds.{PrinterView}
use Rattle.escpos_printer.specs.declared.serve.Served.{Served}
use Rattle.escpos_printer.specs.LinkEnds.{end_name}
use Rattle.escpos_job_parts.specs.declared.lines.TheConstants.{SPACE}

-- The line of a link that has ended: its number, how many bytes were read, how many of them the printer took, how many bytes
-- of answers were written, and why it ended.
abbrev pub link_line : ℕ → Served → List ℕ
link_line number served = codes "link " ++ decimal number ++ codes " read " ++ decimal served.read ++ codes " consumed " ++ decimal served.consumed
    ++ codes " written " ++ decimal served.written ++ SPACE ∷ [] ++ end_name served.end ++ LF ∷ []

-- The printer once its paper is torn off.
abbrev pub torn : PrinterView → PrinterView
torn printer = record { sheet = bare printer.sheet; half = printer.half; waiting = printer.waiting; condition = printer.condition; automatic = printer.automatic }
