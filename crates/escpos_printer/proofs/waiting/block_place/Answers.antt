use Rattle.std.proofs.Common.{ap, sym, ◌∙◌}
use Rattle.std.specs.Option.{option_copied}
use Rattle.escpos_printer.proofs.OneBlock.{none_yet}
use Rattle.escpos_printer.proofs.waiting.block_place.Goals as goal

pub loop-place-preserved : goal.loop-place-preserved
loop-place-preserved c = record {
  none =
      none_yet c.args.waiting.now.items c.loop-place.place c.unwrap.result.now (sym c.get.ensures ∙ ap option_copied c.unwrap.ensures) (sym c.if-is_block.ensures)
      c.loop-place.invariant.none;
}
