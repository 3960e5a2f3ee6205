use Rattle.std.proofs.Common.{◌∙◌, sym, ap, refl}
use Rattle.std.specs.Prelude.{◌&&◌, nat_lt}
use Rattle.escpos_decode.proofs.Steps.{stopped_ends, stopped_goes, stopped_stops}
use Rattle.escpos_decode.proofs.content.codabar.Goals as goal

pub returns-then-is_codabar_end : goal.returns-then-is_codabar_end
returns-then-is_codabar_end c = λ read. (
  record {
    below = stopped_ends _ _ _ _ read c.args.byte (sym c.is_codabar_end.ensures ∙ c.if-is_codabar_end.true);
    same = refl;
    held = refl;
    has = refl;
  },
  refl,
  refl,
)

pub returns-then-is_one_more : goal.returns-then-is_one_more
returns-then-is_one_more c = λ read. (
  record {
    below =
        stopped_goes _ _ _ _ read c.args.byte (sym c.is_codabar_end.ensures ∙ c.if-is_codabar_end.false)
        (sym (c.is_one_more.ensures ∙ ap (λ v. nat_lt 0 c.args.most && v) c.is_codabar.ensures) ∙ c.if-is_one_more.true);
    same = refl;
    held = refl;
    has = refl;
  },
  refl,
  refl,
)

pub returns-else-is_one_more : goal.returns-else-is_one_more
returns-else-is_one_more c = λ read.
    stopped_stops _ _ _ _ read c.args.byte (sym c.is_codabar_end.ensures ∙ c.if-is_codabar_end.false)
    (sym (c.is_one_more.ensures ∙ ap (λ v. nat_lt 0 c.args.most && v) c.is_codabar.ensures) ∙ c.if-is_one_more.false)
