-- The cells of a line's text.
use Rattle.std.proofs.Common.{◌≡◌, ℕ, ◌+◌, ◌*◌, ◌/◌, ◌≤◌, ◌<◌, ◌⊎◌, inl, inr, zero, suc, List, [], ◌∷◌, ◌++◌, length, map, refl, sym, ap, ◌∙◌, arith, append-nil, Bool, true, false, Some}
use Rattle.std.specs.Prelude.{if◌then◌else◌}
use Rattle.std.specs.List.{AllByRecursion}
use Rattle.std.proofs.Math.Nat.{le-div_iff_mul-le, lt-div-mul-add, mul-le-mul}
use Rattle.std.proofs.Math.Seq.{append_snoc}
use Rattle.std.proofs.lemmas.List.Sums.{sum_by-cons}
use Rattle.escpos_command.specs.declared.command.Command.{Command}
use Rattle.escpos_command.specs.declared.command.Command.TheVariants.{Char, Set}
use Rattle.escpos_command.specs.SettingTable.{value}
use Rattle.escpos_command.specs.declared.setting.SettingKind.TheVariants as sets
use Rattle.escpos_command.specs.declared.parameter.choices.FontFace.{FontFace}
use Rattle.escpos_command.specs.declared.parameter.choices.FontFace.TheVariants.{A, B}
use Rattle.escpos_paper.specs.declared.cell.Cell.{Cell}
use Rattle.escpos_paper.specs.declared.style.Style.{Style}
use Rattle.escpos_paper.specs.Cells.{cell_dots, dots}
use Rattle.escpos_paper.specs.Dots.{face_dots, face_rows, style_dots, narrow_dots}
use Rattle.escpos_paper.specs.Rows.{fits}
use Rattle.escpos_paper.proofs.Fits.{Follows, narrow_fits, one_fits}
use Rattle.escpos_paper.specs.Styles.{style, style_after}
use Rattle.escpos_paper.specs.Typed.{IsTyping, typed}
use Rattle.escpos_text.specs.Laws.{read_back}
use Rattle.escpos_text.specs.Reading.{reads}
use Rattle.escpos_text.specs.SpelledTexts.{AreOfText}
use Rattle.escpos_text.specs.Writing.{table_after}
use Rattle.escpos_layout.specs.Columns.{at_least_one, columns_of}
use Rattle.escpos_layout.specs.OnPaper.{read_cell, HasStyle, EndsAtLineEnd}

-- ## Laws of the crates below

abbrev pub StylesGrow : Type 0
StylesGrow = (cs : List Command) (c : Command) → style (cs ++ c ∷ []) ≡ style_after (style cs) c

-- ## Texts

pub are_typing : (cs : List Command) → AreOfText cs → AllByRecursion IsTyping cs
are_typing [] h = tt
are_typing (Char b ∷ cs) h = (tt, are_typing cs h.2)
are_typing (Set (sets.Table, Some n) ∷ cs) h = (tt, are_typing cs h.1)
are_typing (c ∷ cs) h = absurd h

-- The style after a text is the one before it, but for the code table.
pub style_then : StylesGrow → (before cs : List Command) → AreOfText cs → style (before ++ cs) ≡ record (style before) { table = table_after (style before).table cs }
style_then grow before [] h = ap style (append-nil before)
style_then grow before (Char b ∷ cs) h =
    ap style (sym (append_snoc before (Char b) cs)) ∙ style_then grow (before ++ Char b ∷ []) cs h.2
    ∙ ap (λ (s : Style). record s { table = table_after s.table cs }) (grow before (Char b))
style_then grow before (Set (sets.Table, Some n) ∷ cs) h =
    ap style (sym (append_snoc before (Set (sets.Table, Some n)) cs)) ∙ style_then grow (before ++ Set (sets.Table, Some n) ∷ []) cs h.1
    ∙ ap (λ (s : Style). record s { table = table_after s.table cs }) (grow before (Set (sets.Table, Some n)))
style_then grow before (c ∷ cs) h = absurd h

-- Its cells read as its commands do.
pub text_read : StylesGrow → (before cs : List Command) → AreOfText cs → map read_cell (typed before cs) ≡ read_back (style before).character_set (style before).table cs
text_read grow before [] h = refl
text_read grow before (Char b ∷ cs) h =
    ap (λ l. reads (style before).character_set (style before).table b ∷ l) (text_read grow (before ++ Char b ∷ []) cs h.2)
    ∙ ap (λ (s : Style). reads (style before).character_set (style before).table b ∷ read_back s.character_set s.table cs) (grow before (Char b))
text_read grow before (Set (sets.Table, Some n) ∷ cs) h =
    text_read grow (before ++ Set (sets.Table, Some n) ∷ []) cs h.1 ∙ ap (λ (s : Style). read_back s.character_set s.table cs) (grow before (Set (sets.Table, Some n)))
text_read grow before (c ∷ cs) h = absurd h

-- The commands have set this style, but for the code table.
abbrev pub IsSet : Style → List Command → Type 0
IsSet s before = style before ≡ record s { table = (style before).table }

is_set_after : StylesGrow → (s : Style) (before : List Command) (c : Command) → IsTyping c → IsSet s before → IsSet s (before ++ c ∷ [])
is_set_after grow s before (Char b) h is = grow before (Char b) ∙ is ∙ ap (λ (t : Style). record s { table = t.table }) (sym (grow before (Char b)))
is_set_after grow s before (Set (sets.Table, p)) h is =
    grow before (Set (sets.Table, p)) ∙ ap (λ (t : Style). record t { table = value p }) is ∙ ap (λ (t : Style). record s { table = t.table }) (sym (grow before (Set (sets.Table, p))))
is_set_after grow s before c h is = absurd h

pub cells_in_style : StylesGrow → (s : Style) (before cs : List Command) → AreOfText cs → IsSet s before → AllByRecursion (HasStyle s) (typed before cs)
cells_in_style grow s before [] h is = tt
cells_in_style grow s before (Char b ∷ cs) h is = (is, cells_in_style grow s (before ++ Char b ∷ []) cs h.2 (is_set_after grow s before (Char b) tt is))
cells_in_style grow s before (Set (sets.Table, Some n) ∷ cs) h is = cells_in_style grow s (before ++ Set (sets.Table, Some n) ∷ []) cs h.1 (is_set_after grow s before (Set (sets.Table, Some n)) tt is)
cells_in_style grow s before (c ∷ cs) h is = absurd h

-- ## Widths

pub dots_in_style : (s : Style) (row : List Cell) → AllByRecursion (HasStyle s) row → dots row ≡ length row * style_dots s
dots_in_style s [] h = omega arith
dots_in_style s (x ∷ row) h =
    let rest = dots_in_style s row h.1 in
    let one : cell_dots x ≡ style_dots s = ap style_dots h.0 in
    omega (arith, rest, one, sum_by-cons cell_dots x row)

at_least : (n m : ℕ) → n ≤ at_least_one m → (n ≤ 1) ⊎ (n ≤ m)
at_least n zero h = inl h
at_least n (suc m) h = inr h

inside : (width n d : ℕ) → n ≤ width / d → n * d ≤ width
inside width n zero h = omega arith
inside width n (suc d) h = (le-div_iff_mul-le (omega arith)).0 h

-- A line's characters fit on a row.
pub row_fits : (width : ℕ) (s : Style) (row : List Cell) → AllByRecursion (HasStyle s) row → AllByRecursion Follows row → length row ≤ columns_of width s → fits width row ≡ true
row_fits width s row h follows few = elim (at_least (length row) (width / style_dots s) few) [
  | inl one ↦ one_fits width row follows one
  | inr some ↦ narrow_fits width row follows (omega (arith, inside width (length row) (style_dots s) some, dots_in_style s row h))
]

-- ## The end of a line

face_some : (face : FontFace) (turned : Bool) → 1 ≤ (if turned then face_rows face else face_dots face)
face_some A true = omega arith
face_some A false = omega arith
face_some B true = omega arith
face_some B false = omega arith

style_some : (s : Style) → 1 ≤ narrow_dots s
style_some s = let face = face_some s.font s.turned in omega (arith, face)

factor_some : (turned : Bool) (width height : ℕ) → 1 ≤ width → 1 ≤ height → 1 ≤ (if turned then height else width)
factor_some true width height h k = k
factor_some false width height h k = h

-- One character more isn't on the line.
one_over : (width d : ℕ) → 1 ≤ d → width < at_least_one (width / d) * d + d
one_over width d some = go (width / d) (lt-div-mul-add some) where
  go : (m : ℕ) → width < m * d + d → width < at_least_one m * d + d
  go zero h = omega (arith, h)
  go (suc m) h = h

pub ends_at_line_end : (width : ℕ) (s : Style) (row : List Cell) → (1 ≤ s.width) × (1 ≤ s.height) → AllByRecursion (HasStyle s) row → length row ≡ columns_of width s
    → EndsAtLineEnd width s row
ends_at_line_end width s row some h full =
    let d = style_dots s in
    let wide : 1 ≤ d = mul-le-mul (style_some s) (factor_some s.turned s.width s.height some.0 some.1) in
    let dots_are = dots_in_style s row h in
    let same : length row * d ≡ at_least_one (width / d) * d = ap (λ n. n * d) full in
    omega (arith, dots_are, same, one_over width d wide)
