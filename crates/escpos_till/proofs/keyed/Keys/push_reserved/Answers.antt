-- A new key goes last.
use Rattle.std.proofs.Common.{◌<◌, ◌∙◌, ◌++◌, ◌∷◌, [], ap, subst, length, nat_eq, arith}
use Rattle.std.specs.HashMap.{spare}
use lib.Pointwise.{pointwise}
use Rattle.indexmap.proofs.CallerLemmas.{insert_entry-new}
use Rattle.escpos_till.specs.Keyed.{ListsKey}
use Rattle.escpos_till.proofs.keyed.Keys.push_reserved.Goals as goal
use Rattle.escpos_till.proofs.KeyedLemmas.{not_found, on_ok}

pub returns : goal.returns
returns c =
    let items = ap (λ t. t.items) c.self.view_is in
    let cap = ap (λ t. t.cap) c.self.view_is in
    let new = not_found c.self.inside.map.entries c.args.key (λ n lists. c.requires.new n (subst (λ xs. ListsKey xs c.args.key n) items lists)) in
    let room : 0 < spare c.self.inside.map = omega (arith, c.requires.room, cap, ap length items) in
    on_ok c.insert.result c.insert.ensures.entries (c.insert.ensures.succeeds room) ∙ insert_entry-new (pointwise nat_eq) c.self.inside.map c.args.key c.args.number new ∙ ap (λ xs. xs ++ (c.args.key, c.args.number) ∷ []) items
