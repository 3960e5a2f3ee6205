use Rattle.std.proofs.Common.{◌≡◌, ◌+◌, ◌∷◌, ◌++◌, [], Ok, Err, refl, sym, ◌∙◌, ap, append_assoc, append-nil, drop}
use Rattle.std.proofs.lemmas.List.{drop_more, drop_all}
use Rattle.escpos_io.proofs.Giving.{given_in_turn, given_in_the_front}
use Rattle.escpos_picture.specs.Places.{place_after, place_after_all}
use Rattle.escpos_picture.specs.Groups.{drawing, drawings}
use Rattle.escpos_picture.proofs.GivenSteps.{nothing_given, given_as}
use Rattle.escpos_picture.proofs.Turns.{next_item, no_item}
use Rattle.escpos_picture.proofs.item.put_items.Goals as goal

pub loop-item-init : goal.loop-item-init
loop-item-init g c = record {
  so_far = record { done = []; given = nothing_given _ _ _; whole_is = refl };
  place = refl;
}

pub returns-in_err-put_item-clause-given : goal.returns-in_err-put_item-clause-given
returns-in_err-put_item-clause-given g c =
    let l = c.loop-item in
    let far = l.invariant.so_far in
    let item = c.item-item.result in
    let below = drop (l.item-index + 1) c.args.items.now in
    let next : drop l.item-index c.args.items.now ≡ item ∷ below =
    drop_more c.args.items.now l.item-index item c.loop-item-test.true ∙ ap (λ x. x ∷ below) (sym c.item-item.is) in
    let stopped = given_in_turn (Err c.in_err-put_item.field-0.0) _ _ _ _ _ _ _ _ _ far.done (drawing l.pen item) (far.done ++ drawing l.pen item) far.given c.in_err-put_item.ensures.given refl in
    given_in_the_front c.from_residual.result c.in_err-put_item.field-0.0 _ _ _ (far.done ++ drawing l.pen item) (drawings (place_after l.pen item) below) _ c.from_residual.ensures.1 stopped
    (far.whole_is ∙ ap (λ items. far.done ++ drawings l.pen items) next ∙ ap (λ t. far.done ++ t) (next_item l.pen item below)
    ∙ sym (append_assoc far.done (drawing l.pen item) (drawings (place_after l.pen item) below)))

pub loop-item-preserved : goal.loop-item-preserved
loop-item-preserved g c =
    let l = c.loop-item in
    let far = l.invariant.so_far in
    let item = c.item-item.result in
    let below = drop (l.item-index + 1) c.args.items.now in
    let next : drop l.item-index c.args.items.now ≡ item ∷ below =
    drop_more c.args.items.now l.item-index item c.loop-item-test.true ∙ ap (λ x. x ∷ below) (sym c.item-item.is) in
    record {
      so_far = record {
        done = far.done ++ drawing l.pen item;
        given = given_in_turn (Ok tt) _ _ _ _ _ _ _ _ _ far.done (drawing l.pen item) (far.done ++ drawing l.pen item) far.given c.in_ok-put_item.ensures.given refl;
        whole_is = far.whole_is ∙ ap (λ items. far.done ++ drawings l.pen items) next ∙ ap (λ t. far.done ++ t) (next_item l.pen item below)
            ∙ sym (append_assoc far.done (drawing l.pen item) (drawings (place_after l.pen item) below))
            ∙ ap (λ p. (far.done ++ drawing l.pen item) ++ drawings p below) (sym c.in_ok-put_item.ensures.place);
      };
      place = l.invariant.place ∙ ap (place_after_all l.pen) next ∙ ap (λ p. place_after_all p below) (sym c.in_ok-put_item.ensures.place);
    }

pub returns-clause-given : goal.returns-clause-given
returns-clause-given g c =
    let l = c.loop-item in
    let far = l.invariant.so_far in
    let none = drop_all l.item-index c.args.items.now c.loop-item-test.false in
    given_as _ _ _ far.done _ far.given
    (far.whole_is ∙ ap (λ items. far.done ++ drawings l.pen items) none ∙ ap (λ t. far.done ++ t) (no_item l.pen) ∙ append-nil far.done)
