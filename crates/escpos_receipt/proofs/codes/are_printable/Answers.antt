use Rattle.std.proofs.Common.{◌≡◌, ◌+◌, ◌∷◌, take, drop, true, false, ◌∙◌, ap, subst}
use Rattle.std.specs.List.{flat_map}
use Rattle.std.proofs.lemmas.Grind.{flat_map-append}
use Rattle.escpos_receipt.specs.EntryCommands.{commands_in}
use Rattle.escpos_receipt.specs.Printable.{IsPrintable}
use Rattle.escpos_receipt.proofs.Prefixes.{split_at}
use Rattle.escpos_receipt.proofs.Printables.{none_printable}
use Rattle.escpos_receipt.proofs.codes.are_printable.Goals as goal

pub loop-entry-init : goal.loop-entry-init
loop-entry-init c = record { each = none_printable c.args.width; settings = c.power_on-codes.ensures }

pub returns-then-not-follow_entry : goal.returns-then-not-follow_entry
returns-then-not-follow_entry c =
    let entries = c.args.entries.now in
    let i = c.loop-entry.entry-index in
    let entry = c.entry-item.result in
    let split = ap (flat_map commands_in) (split_at entries i entry c.loop-entry-test.true c.entry-item.is) ∙ flat_map-append commands_in (take i entries) (entry ∷ drop (i + 1) entries) in (
      λ e. absurd (let clash : false ≡ true = e in cc),
      λ each. absurd (c.follow_entry.ensures.left_out c.if-not-follow_entry.true (flat_map commands_in (take i entries)) (flat_map commands_in (drop (i + 1) entries)) c.loop-entry.invariant.settings
          (subst (IsPrintable c.args.width) split each)),
    )
