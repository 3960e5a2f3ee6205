-- Items one after another: their drawings, and the places that they lead to.
use Rattle.std.proofs.Common.{◌≡◌, List, [], ◌∷◌, ◌++◌, refl, sym, ◌∙◌, ap, append_assoc}
use Rattle.escpos_paper.specs.declared.item.Item.{Item}
use Rattle.escpos_picture.specs.Places.{Place, place_after, place_after_all}
use Rattle.escpos_picture.specs.Groups.{drawing, drawings}

pub places_in_turn : (place : Place) (front more : List Item) → place_after_all place (front ++ more) ≡ place_after_all (place_after_all place front) more
places_in_turn place [] more = refl
places_in_turn place (item ∷ items) more = places_in_turn (place_after place item) items more

pub drawings_in_turn : (place : Place) (front more : List Item) → drawings place (front ++ more) ≡ drawings place front ++ drawings (place_after_all place front) more
unfolding drawings
drawings_in_turn place [] more = refl
drawings_in_turn place (item ∷ items) more =
    ap (λ t. drawing place item ++ t) (drawings_in_turn (place_after place item) items more)
    ∙ sym (append_assoc (drawing place item) (drawings (place_after place item) items) (drawings (place_after_all (place_after place item) items) more))

pub next_item : (place : Place) (item : Item) (items : List Item) → drawings place (item ∷ items) ≡ drawing place item ++ drawings (place_after place item) items
unfolding drawings
next_item place item items = refl

pub no_item : (place : Place) → drawings place [] ≡ []
unfolding drawings
no_item place = refl
