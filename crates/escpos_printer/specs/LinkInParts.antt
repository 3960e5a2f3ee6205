-- A link that is served in parts, between which paper is torn off.
use Rattle.std.specs.Prelude.{◌+◌, List}
use Rattle.escpos_paper.specs.declared.item.Item.{Item}
use Rattle.escpos_paper.specs.Torn.{below}
use Rattle.escpos_printer.specs.declared.serve.Served.{Served}
use Rattle.escpos_printer.specs.Feeds.{PrinterView}

-- A printer with these items above its own on the paper.
abbrev pub under : List Item → PrinterView → PrinterView
under gone printer = record { sheet = below gone printer.sheet; half = printer.half; waiting = printer.waiting; condition = printer.condition; automatic = printer.automatic }

-- How far a link was served whose first part and whose second part were served this far.
abbrev pub in_all : Served → Served → Served
in_all first more = record {
  read = first.read + more.read;
  consumed = first.consumed + more.consumed;
  written = first.written + more.written;
  end = more.end;
}
