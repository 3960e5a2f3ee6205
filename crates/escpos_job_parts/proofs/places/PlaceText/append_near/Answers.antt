-- The digits but the last are those of a tenth of the place, and are fewer than 20.
use Rattle.std.proofs.Common.{◌≡◌, ℕ, List, ◌+◌, ◌/◌, ◌%◌, ◌≤◌, ◌<◌, ◌^◌, ◌∷◌, ◌++◌, ◌∙◌, [], sym, ap, arith, length, append_assoc, length-append}
use Rattle.std.specs.Prelude.{decimal}
use Rattle.std.proofs.lemmas.Fmt.{decimal_digit, decimal_step, length-decimal-le}
use Rattle.escpos_job_parts.proofs.places.PlaceText.append_near.Goals as goal

front : (items digits : List ℕ) (tens kept place : ℕ) → items ≡ digits → digits ≡ decimal tens → tens ≡ kept → kept ≡ place / 10 → items ≡ decimal (place / 10)
front items digits tens kept place same are is near = same ∙ are ∙ ap decimal (is ∙ near)

few : (n : ℕ) → n < 2 ^ 64 → length (decimal (n / 10)) ≤ 19
few n fits = length-decimal-le 19 (n / 10) (omega arith) (omega (arith, fits)) (omega (arith, fits))

pub extend-requires : goal.extend-requires
extend-requires c = omega (arith, c.requires.room, c.as_slice.ensures.fits)

pub push-requires : goal.push-requires
push-requires c = omega (arith, c.requires.room)

pub push-requires-2 : goal.push-requires-2
push-requires-2 c =
    let short = few c.args.place c.ranges.place.fits in
    let long : length c.extend.new.self.kept ≡ length c.args.gather.now.kept + length (decimal (c.args.place / 10)) =
    ap length (c.extend.ensures.kept ∙ ap (λ l. c.args.gather.now.kept ++ l) (front _ _ _ _ c.args.place c.as_slice.ensures.value c.self.invariant c.self.view_is c.requires.near)) ∙ length-append c.args.gather.now.kept (decimal (c.args.place / 10)) in
    omega (arith, c.requires.room, short, long)

pub returns-then-place-lt10-clause-kept : goal.returns-then-place-lt10-clause-kept
returns-then-place-lt10-clause-kept c = c.push.ensures.kept ∙ ap (λ l. c.args.gather.now.kept ++ l) (sym (decimal_digit c.args.place c.if-place-lt10.true))

pub returns-then-place-lt10-clause-short : goal.returns-then-place-lt10-clause-short
returns-then-place-lt10-clause-short c = length-decimal-le 20 c.args.place (omega arith) (omega (arith, c.ranges.place.fits)) (omega (arith, c.ranges.place.fits))

pub returns-clause-kept : goal.returns-clause-kept
returns-clause-kept c =
    c.push-2.ensures.kept
    ∙ ap (λ l. l ++ (48 + c.args.place % 10) ∷ []) (c.extend.ensures.kept ∙ ap (λ l. c.args.gather.now.kept ++ l) (front _ _ _ _ c.args.place c.as_slice.ensures.value c.self.invariant c.self.view_is c.requires.near))
    ∙ append_assoc c.args.gather.now.kept (decimal (c.args.place / 10)) ((48 + c.args.place % 10) ∷ [])
    ∙ ap (λ l. c.args.gather.now.kept ++ l) (sym (decimal_step c.args.place c.if-place-lt10.false c.ranges.place.fits))

pub returns-clause-short : goal.returns-clause-short
returns-clause-short c = length-decimal-le 20 c.args.place (omega arith) (omega (arith, c.ranges.place.fits)) (omega (arith, c.ranges.place.fits))
