use Rattle.std.proofs.Common.{◌≡◌, ◌∷◌, ◌++◌, [], sym, ◌∙◌, ap, refl, true}
use Rattle.std.specs.Prelude.{not}
use Rattle.std.specs.List.{list_any}
use Rattle.escpos_command.specs.SettingTable.{table, takes_third}
use Rattle.escpos_command.specs.Tree.{walk, grammar}
use Rattle.escpos_command.proofs.Combinators.{both}
use Rattle.escpos_decode.specs.State.{tree_of}
use Rattle.escpos_decode.proofs.Letters.{letters, no_letters}
use Rattle.escpos_decode.proofs.state.after_letters.Goals as goal

pub returns-in-Some : goal.returns-in-Some
returns-in-Some c = λ p read front at from.
    c.at_setting.ensures p read c.args.second (c.in-Some.ensures ∙ ap (λ v. v ++ c.args.second ∷ []) (sym front)) (at ∙ ap (walk grammar) (sym front)) from

pub returns-in-None : goal.returns-in-None
returns-in-None c = λ p read front at from.
    let begun : list_any (takes_third c.args.first c.args.second) table ≡ true = sym c.is_begun.ensures ∙ c.if-is_begun.true in (
      record {
        below = letters (tree_of p read) c.args.first c.args.second at;
        grown = ap (λ v. v ++ c.args.second ∷ []) (sym front);
        held = both _ _ (both _ _ begun (ap not c.in-None.ensures)) c.requires;
        from = from;
      },
      refl,
    )

pub returns-in-None-2 : goal.returns-in-None-2
returns-in-None-2 c = λ p read front at from.
    letters (tree_of p read) c.args.first c.args.second at
    ∙ no_letters c.args.first c.args.second c.requires c.in-None-2.ensures (sym c.is_begun.ensures ∙ c.if-is_begun.false)
