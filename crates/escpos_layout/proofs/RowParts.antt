-- Rows, field by field.
use Rattle.std.proofs.Common.{◌≡◌, ℕ, ◌+◌, ◌<◌, ◌≤◌, List, [], ◌∷◌, ◌++◌, length, take, drop, get_or, sym, ap, ◌∙◌}
use Rattle.std.proofs.lemmas.Grind.{flat_map-append}
use Rattle.std.proofs.lemmas.List.{append-nil, take_more, take-append-drop, take_all}
use Rattle.escpos_layout.specs.declared.row.Field.{Field}
use Rattle.escpos_layout.specs.Layouts.{field_text, row}

pub row-more : (fields : List Field) (i : ℕ) (field : Field) → i < length fields → field ≡ get_or fields i field
    → row (take i fields) ++ field_text field ≡ row (take (i + 1) fields)
row-more fields i field h is =
    ap (λ text. row (take i fields) ++ text) (sym (append-nil (field_text field)))
    ∙ sym (flat_map-append field_text (take i fields) (field ∷ []))
    ∙ ap (λ (f : Field). row (take i fields ++ f ∷ [])) is
    ∙ ap row (sym (take_more fields i field h))

pub row-parts : (fields : List Field) (i : ℕ) → row (take i fields) ++ row (drop i fields) ≡ row fields
row-parts fields i = sym (flat_map-append field_text (take i fields) (drop i fields)) ∙ ap row (take-append-drop i fields)

pub row-all : (fields : List Field) (i : ℕ) → length fields ≤ i → row (take i fields) ≡ row fields
row-all fields i h = ap row (take_all i fields h)
