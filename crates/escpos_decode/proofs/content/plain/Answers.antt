use Rattle.std.proofs.Common.{◌∙◌, sym, ap, refl}
use Rattle.std.specs.Prelude.{◌&&◌, nat_lt}
use Rattle.escpos_decode.proofs.Steps.{closed_ends, closed_refuses, closed_goes, closed_stops, not_zero}
use Rattle.escpos_decode.proofs.content.plain.Goals as goal

pub returns-then-has_length : goal.returns-then-has_length
returns-then-has_length c = closed_ends _ _ _ _ c.args.content.now c.args.byte c.if-byte-eq0.true (sym c.has_length.ensures ∙ c.if-has_length.true)

pub returns-else-has_length : goal.returns-else-has_length
returns-else-has_length c = closed_refuses _ _ _ _ c.args.content.now c.args.byte c.if-byte-eq0.true (sym c.has_length.ensures ∙ c.if-has_length.false)

pub returns-then-is_one_more : goal.returns-then-is_one_more
returns-then-is_one_more c = (
  record {
    below =
        closed_goes _ _ _ _ c.args.content.now c.args.byte (not_zero c.args.byte c.if-byte-eq0.false)
        (sym (c.is_one_more.ensures ∙ ap (λ v. nat_lt 0 c.args.most && v) c.is_plain.ensures) ∙ c.if-is_one_more.true);
    same = refl;
    held = refl;
    has = refl;
  },
  refl,
  refl,
)

pub returns-else-is_one_more : goal.returns-else-is_one_more
returns-else-is_one_more c =
    closed_stops _ _ _ _ c.args.content.now c.args.byte (not_zero c.args.byte c.if-byte-eq0.false)
    (sym (c.is_one_more.ensures ∙ ap (λ v. nat_lt 0 c.args.most && v) c.is_plain.ensures) ∙ c.if-is_one_more.false)
