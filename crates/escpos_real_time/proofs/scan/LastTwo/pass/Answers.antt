-- Two bytes that aren't DLE begin nothing, and no byte before the first DLE does.
use Rattle.std.proofs.Common.{◌≡◌, ◌∷◌, ◌++◌, ◌∙◌, ◌+◌, suc, drop, ap, refl, sym, arith}
use Rattle.std.proofs.Math.Seq.{drop-length}
use Rattle.escpos_command.specs.declared.bytes.TheConstants.{DLE}
use Rattle.escpos_real_time.specs.Scan.{holds}
use Rattle.escpos_real_time.proofs.Holding.{from_start, not_one, skip, held_from, none_held}
use Rattle.escpos_real_time.proofs.scan.LastTwo.pass.Goals as goal

pub returns-in-Some-clause-held : goal.returns-in-Some-clause-held
returns-in-Some-clause-held c = λ following.
    let bytes = c.args.bytes.now in
    let found = c.in-Some.ensures in
    skip c.args.self.now.first (c.args.self.now.second ∷ (bytes ++ following)) (not_one c.args.self.now.first c.requires.first)
    ∙ skip c.args.self.now.second (bytes ++ following) (not_one c.args.self.now.second c.requires.second)
    ∙ held_from bytes following c.in-Some.place found.0.high (λ i less. found.0.before i (omega arith) less) found.1
    ∙ ap (λ n. holds (DLE ∷ (drop n bytes ++ following))) (let e : suc c.in-Some.place ≡ c.in-Some.place + 1 = omega arith in e)
    ∙ sym (skip 0 (DLE ∷ (drop (c.in-Some.place + 1) bytes ++ following)) refl)

pub returns-in-None-clause-held : goal.returns-in-None-clause-held
returns-in-None-clause-held c = λ following.
    let bytes = c.args.bytes.now in
    skip c.args.self.now.first (c.args.self.now.second ∷ (bytes ++ following)) (not_one c.args.self.now.first c.requires.first)
    ∙ skip c.args.self.now.second (bytes ++ following) (not_one c.args.self.now.second c.requires.second)
    ∙ none_held bytes following (λ k less. c.in-None.ensures k (omega arith) less)
    ∙ sym (from_start following)
    ∙ ap (λ l. holds (0 ∷ 0 ∷ (l ++ following))) (sym (drop-length bytes))
