-- The line of an item is what comes before its dots, the dots, and the content of a QR code.
use Rattle.std.proofs.Common.{◌≡◌, [], ◌++◌, sym, ◌∙◌, ap, append-nil}
use Rattle.std.specs.Prelude.{flat_map}
use Rattle.hex.specs.Hex.{encode_lower}
use Rattle.escpos_paper.specs.declared.item.Item.{Item}
use Rattle.escpos_paper.specs.declared.item.Item.TheVariants.{Raster, Qr}
use Rattle.escpos_paper.specs.ItemsText.{byte_text, words}
use Rattle.escpos_paper.specs.ItemParts.{front, dots_of, characters_of}

pub in_parts : encode_lower [] ≡ [] → (item : Item) → words item ≡ front item ++ encode_lower (dots_of item) ++ flat_map byte_text (characters_of item)
in_parts none (Raster align scale x y dots) = sym (append-nil (front (Raster align scale x y dots) ++ encode_lower dots))
in_parts none (Qr align model size level content) =
    ap (λ t. t ++ flat_map byte_text content)
    (sym (ap (λ t. front (Qr align model size level content) ++ t) none ∙ append-nil (front (Qr align model size level content))))
in_parts none item = sym (append-nil (words item ++ encode_lower []) ∙ ap (λ t. words item ++ t) none ∙ append-nil (words item))
