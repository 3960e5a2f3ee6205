use Rattle.std.proofs.Common.{[], ◌≤◌, ◌∙◌, length-take, take, map, arith, sym, subst}
use Rattle.std.proofs.lemmas.List.{take-take}
use Rattle.escpos_command.specs.declared.command.Command.TheVariants.{Char}
use Rattle.escpos_printer.specs.Feeds.{PrinterView, Took}
use Rattle.escpos_printer.proofs.Taking.{took_none}
use Rattle.escpos_printer.proofs.TextTaken.{Prints, text_taken}
use Rattle.escpos_printer.proofs.printer.Printer.feed_text.Goals as goal

pub returns-then-is_offline-clause-taken : goal.returns-then-is_offline-clause-taken
returns-then-is_offline-clause-taken c =
    subst (λ (v : PrinterView). Took v [] [] v) c.self.view_is (took_none _ c.self.invariant.0 c.self.invariant.2)

pub returns-clause-taken : goal.returns-clause-taken
returns-clause-taken c =
    let bytes = c.args.bytes.now in
    let n = c.print_text.result in
    let count = c.characters-count.result in
    let short = length-take count bytes in
    let few : n ≤ count = omega (arith, c.print_text.ensures.count, short) in
    let prints =
    subst (λ text. Prints c.self.inside.page.sheet text c.print_text.new.page.sheet) (take-take n count bytes few) c.print_text.ensures.printed in
    subst
    (λ (v : PrinterView). Took v (take n bytes) (map Char (take n bytes))
    (record { sheet = c.print_text.new.page.sheet; half = c.self.inside.decoder; waiting = c.self.inside.waiting.items; condition = c.self.inside.condition; automatic = c.self.inside.reporting }))
    c.self.view_is
    (text_taken _ (take n bytes) c.print_text.new.page.sheet c.self.invariant.0 c.self.invariant.2 (sym c.is_offline.ensures ∙ c.if-is_offline.false)
    (λ a cs. c.characters-count.ensures.stream n a cs few) prints)
