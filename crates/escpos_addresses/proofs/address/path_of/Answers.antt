use Rattle.std.proofs.Common.{◌≡◌, ◌∙◌, ◌+◌, ap, arith, sym, drop, []}
use Rattle.std.proofs.Math.ListN.{drop_of_length-le}
use Rattle.escpos_addresses.specs.Address.{after_colon}
use Rattle.escpos_addresses.proofs.address.path_of.Goals as goal

pub returns-in-None : goal.returns-in-None
returns-in-None c =
    let none = c.in-None.ensures.byte (omega arith) (λ w o h. h) in
    let empty : after_colon c.args.text.now ≡ [] = ap (λ n. drop (n + 1) c.args.text.now) none ∙ drop_of_length-le c.args.text.now (omega arith) in
    sym empty
