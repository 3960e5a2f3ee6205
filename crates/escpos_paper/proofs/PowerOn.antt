-- The tests for what a printer just switched on has: each is true of that alone. And what follows commands that leave a printer so is
-- printed as by that one.
use Rattle.std.proofs.Common.{◌≡◌, ℕ, List, [], ◌∷◌, ◌++◌, refl, sym, ap, append-nil, subst, Bool, true, false, Option, None, Some}
use Rattle.std.specs.Prelude.{◌↔◌, ◌&&◌, not, IsTrue}
use Rattle.std.specs.Cmp.Lexicographic.{pointwise}
use Rattle.std.proofs.lemmas.Bool.{eqb-true}
use Rattle.std.proofs.Math.Dec.{eqb}
use Rattle.escpos_command.specs.declared.parameter.choices.Alignment.{Alignment}
use Rattle.escpos_command.specs.declared.parameter.choices.Alignment.TheVariants.{Left}
use Rattle.escpos_command.specs.declared.parameter.choices.Correction.{Correction}
use Rattle.escpos_command.specs.declared.parameter.choices.Correction.TheVariants.{L}
use Rattle.escpos_command.specs.declared.parameter.choices.FontFace.{FontFace}
use Rattle.escpos_command.specs.declared.parameter.choices.FontFace.TheVariants.{A, B}
use Rattle.escpos_command.specs.declared.parameter.choices.HriPosition.{HriPosition}
use Rattle.escpos_command.specs.declared.parameter.choices.HriPosition.TheVariants.{Nowhere}
use Rattle.escpos_command.specs.declared.command.Command.{Command}
use Rattle.escpos_command.specs.Text.{is_some}
use Rattle.escpos_paper.specs.declared.cell.Cell.{Cell}
use Rattle.escpos_paper.specs.declared.style.BarStyle.{BarStyle}
use Rattle.escpos_paper.specs.declared.style.LineStyle.{LineStyle}
use Rattle.escpos_paper.specs.declared.style.Placing.{Placing}
use Rattle.escpos_paper.specs.declared.style.QrStyle.{QrStyle}
use Rattle.escpos_paper.specs.declared.style.Settings.{Settings}
use Rattle.escpos_paper.specs.declared.style.Style.{Style}
use Rattle.escpos_paper.specs.Styles.{is_empty, power_on, power_on_settings, same_face, same_flag, same_look, same_marks, same_setting, same_style, settings, stops, usual_stops}
use Rattle.escpos_paper.specs.Cells.{Placed, nothing_placed}
use Rattle.escpos_paper.specs.Page.{Sheet}
use Rattle.escpos_paper.specs.Printed.{printed}
use Rattle.escpos_paper.specs.PowerOn.{AreAsAtPowerOn, LeavesAsNew, are_as_at_power_on, are_usual, are_usual_bars, are_usual_codes, are_usual_lines, is_at_left, is_clear, is_level_l, is_nowhere, is_set_as_new, is_usual_place, same_numbers, stores_nothing}
use Rattle.escpos_paper.specs.Storage.{Storage, nothing_stored, storage}
use Rattle.escpos_paper.proofs.Initialisation.{same_after}
use Rattle.escpos_paper.proofs.SettingParts.{same_lines, same_settings}
use Rattle.escpos_paper.proofs.Sheets.{sheet_of}

-- ## Tests

both_pass : (a b : Bool) → (a && b) ≡ true → (a ≡ true) × (b ≡ true)
both_pass true b h = (refl, h)
both_pass false b h = absurd cc

is_not : (b : Bool) → not b ≡ true → b ≡ false
is_not true h = absurd cc
is_not false h = refl

is_none : {X : Type 0} (o : Option X) → not (is_some o) ≡ true → o ≡ None
is_none None h = refl
is_none (Some x) h = absurd cc

-- ## Numbers

numbers_are : (xs ys : List ℕ) → same_numbers xs ys ≡ true → xs ≡ ys
numbers_are [] [] h = refl
numbers_are [] (y ∷ ys) h = absurd cc
numbers_are (x ∷ xs) [] h = absurd cc
numbers_are (x ∷ xs) (y ∷ ys) h =
    let both = both_pass _ (same_numbers xs ys) h in
    let here : x ≡ y = eqb-true x y both.0 in
    let there : xs ≡ ys = numbers_are xs ys both.1 in
    cc

-- Slices are compared in the same way.
pub slices_test : (xs ys : List ℕ) → pointwise eqb xs ys ≡ same_numbers xs ys
slices_test [] [] = refl
slices_test [] (y ∷ ys) = refl
slices_test (x ∷ xs) [] = refl
slices_test (x ∷ xs) (y ∷ ys) = ap (λ v. eqb x y && v) (slices_test xs ys)

-- ## Settings

face_is : (a b : FontFace) → same_face a b ≡ true → a ≡ b
face_is A A h = refl
face_is A B h = absurd cc
face_is B A h = absurd cc
face_is B B h = refl

flag_is : (a b : Bool) → same_flag a b ≡ true → a ≡ b
flag_is true b h = sym h
flag_is false b h = sym (is_not b h)

left_is : (side : Alignment) → is_at_left side ≡ true → side ≡ Left
left_is Left h = refl
left_is side h = absurd cc

nowhere_is : (place : HriPosition) → is_nowhere place ≡ true → place ≡ Nowhere
nowhere_is Nowhere h = refl
nowhere_is place h = absurd cc

level_is : (level : Correction) → is_level_l level ≡ true → level ≡ L
level_is L h = refl
level_is level h = absurd cc

bars_are : (s : BarStyle) → are_usual_bars s ≡ true → s ≡ power_on_settings.bars
bars_are s h =
    let a = both_pass _ (same_face s.hri_font A) h in
    let b = both_pass _ (is_nowhere s.place) a.0 in
    let c = both_pass _ _ b.0 in
    let height : s.height ≡ 162 = eqb-true s.height 162 c.0 in
    let across : s.module_width ≡ 3 = eqb-true s.module_width 3 c.1 in
    let place : s.place ≡ Nowhere = nowhere_is s.place b.1 in
    let font : s.hri_font ≡ A = face_is s.hri_font A a.1 in
    let whole : ◌≡◌ {A = BarStyle} (record { height = s.height; module_width = s.module_width; place = s.place; hri_font = s.hri_font }) power_on_settings.bars = cc in
    whole

place_is : (p : Placing) → is_usual_place p ≡ true → p ≡ power_on_settings.lines.alignment
place_is p h =
    let a = both_pass _ (not (is_some p.width)) h in
    let b = both_pass (is_at_left p.side) _ a.0 in
    let side : p.side ≡ Left = left_is p.side b.0 in
    let margin : p.margin ≡ 0 = eqb-true p.margin 0 b.1 in
    let width : p.width ≡ None = is_none p.width a.1 in
    let whole : ◌≡◌ {A = Placing} (record { side = p.side; margin = p.margin; width = p.width }) power_on_settings.lines.alignment = cc in
    whole

lines_are : (s : LineStyle) → are_usual_lines s ≡ true → s ≡ power_on_settings.lines
lines_are s h =
    let a = both_pass _ (not (is_some s.spacing)) h in
    let b = both_pass (is_usual_place s.alignment) (not s.upside_down) a.0 in
    same_lines (place_is s.alignment b.0) (is_not s.upside_down b.1) (is_none s.spacing a.1)

codes_are : (s : QrStyle) → are_usual_codes s ≡ true → s ≡ power_on_settings.codes
codes_are s h =
    let a = both_pass _ (is_level_l s.correction) h in
    let b = both_pass _ _ a.0 in
    let model : s.model ≡ 2 = eqb-true s.model 2 b.0 in
    let size : s.size ≡ 3 = eqb-true s.size 3 b.1 in
    let level : s.correction ≡ L = level_is s.correction a.1 in
    let whole : ◌≡◌ {A = QrStyle} (record { model = s.model; size = s.size; correction = s.correction }) power_on_settings.codes = cc in
    whole

record HasSameLook (s t : Style) : Type 0 where
  table : s.table ≡ t.table
  font : s.font ≡ t.font
  width : s.width ≡ t.width
  height : s.height ≡ t.height
  bold : s.bold ≡ t.bold
  underline : s.underline ≡ t.underline

look_is : (s t : Style) → same_look s t ≡ true → HasSameLook s t
look_is s t h =
    let a = both_pass _ _ h in
    let b = both_pass _ (same_flag s.bold t.bold) a.0 in
    let d = both_pass _ _ b.0 in
    let e = both_pass _ _ d.0 in
    let f = both_pass _ (same_face s.font t.font) e.0 in
    record {
      table = eqb-true s.table t.table f.0;
      font = face_is s.font t.font f.1;
      width = eqb-true s.width t.width e.1;
      height = eqb-true s.height t.height d.1;
      bold = flag_is s.bold t.bold b.1;
      underline = eqb-true s.underline t.underline a.1;
    }

style_is : (s t : Style) → same_style s t ≡ true → s ≡ t
style_is s t h =
    let a = both_pass (same_look s t && same_marks s t) (same_setting s t) h in
    let b = both_pass (same_look s t) (same_marks s t) a.0 in
    let look = look_is s t b.0 in
    let c = both_pass _ _ b.1 in
    let d = both_pass (same_flag s.strike t.strike) (same_flag s.reverse t.reverse) c.0 in
    let e = both_pass _ (same_flag s.turned t.turned) a.1 in
    let f = both_pass _ _ e.0 in
    let strike = flag_is s.strike t.strike d.0 in
    let reverse = flag_is s.reverse t.reverse d.1 in
    let set : s.character_set ≡ t.character_set = eqb-true s.character_set t.character_set c.1 in
    let spacing : s.spacing ≡ t.spacing = eqb-true s.spacing t.spacing f.0 in
    let color : s.color ≡ t.color = eqb-true s.color t.color f.1 in
    let turned = flag_is s.turned t.turned e.1 in
    let whole : ◌≡◌ {A = Style} (record { table = s.table; font = s.font; width = s.width; height = s.height; bold = s.bold; underline = s.underline; strike = s.strike; reverse = s.reverse; character_set = s.character_set; spacing = s.spacing; color = s.color; turned = s.turned }) (record { table = t.table; font = t.font; width = t.width; height = t.height; bold = t.bold; underline = t.underline; strike = t.strike; reverse = t.reverse; character_set = t.character_set; spacing = t.spacing; color = t.color; turned = t.turned }) = cc in
    whole

settings_are : (s : Settings) → are_usual s ≡ true → s ≡ power_on_settings
settings_are s h =
    let a = both_pass _ (are_usual_codes s.codes) h in
    let b = both_pass _ (are_usual_lines s.lines) a.0 in
    let c = both_pass (same_style s.text power_on) (are_usual_bars s.bars) b.0 in
    same_settings (style_is s.text power_on c.0) (bars_are s.bars c.1) (lines_are s.lines b.1) (codes_are s.codes a.1)

-- ## What is stored, and the line

storage_is : (s : Storage) → stores_nothing s ≡ true → s ≡ nothing_stored
storage_is s h =
    let both = both_pass (not (is_some s.codes)) (not (is_some s.graphics)) h in
    let codes = is_none s.codes both.0 in
    let graphics = is_none s.graphics both.1 in
    let whole : ◌≡◌ {A = Storage} (record { codes = s.codes; graphics = s.graphics }) nothing_stored = cc in
    whole

no_cell : (xs : List Cell) → is_empty xs ≡ true → xs ≡ []
no_cell [] h = refl
no_cell (x ∷ xs) h = absurd cc

line_is : (p : Placed) → is_clear p ≡ true → p ≡ nothing_placed
line_is p h =
    let both = both_pass (is_empty p.cells) (not (is_some p.moved)) h in
    let cells = no_cell p.cells both.0 in
    let moved = is_none p.moved both.1 in
    let whole : ◌≡◌ {A = Placed} (record { cells = p.cells; moved = p.moved }) nothing_placed = cc in
    whole

pub line_test : (p : Placed) → IsTrue (is_clear p) ↔ (p ≡ nothing_placed)
line_test p = (line_is p, λ e. subst (λ v. IsTrue (is_clear v)) (sym e) refl)

-- ## All of it

set_as_new : (s : Settings) (now : Storage) (ns : List ℕ) → IsTrue (is_set_as_new s now ns)
    ↔ ((s ≡ power_on_settings) × (now ≡ nothing_stored) × (ns ≡ usual_stops))
set_as_new s now ns = (
  λ h.
      let a = both_pass _ (same_numbers ns usual_stops) h in
      let b = both_pass (are_usual s) (stores_nothing now) a.0 in
      (settings_are s b.0, storage_is now b.1, numbers_are ns usual_stops a.1),
  λ e.
      subst (λ v. IsTrue (is_set_as_new v now ns)) (sym e.0)
      (subst (λ v. IsTrue (is_set_as_new power_on_settings v ns)) (sym e.1)
      (subst (λ v. IsTrue (is_set_as_new power_on_settings nothing_stored v)) (sym e.2) refl)),
)

pub set_test : (cs : List Command) → IsTrue (are_as_at_power_on cs) ↔ AreAsAtPowerOn cs
set_test cs =
    let test = set_as_new (settings cs) (storage cs) (stops cs) in (
      λ h. let e = test.0 h in record { all_settings = e.0; no_storage = e.1; same_stops = e.2 },
      λ e. test.1 (e.all_settings, e.no_storage, e.same_stops),
    )

-- Commands that leave a printer as one just switched on, on paper that holds nothing, leave the sheet of no command on paper that holds what
-- they print.
sheet_as_new : (w : ℕ) (cs : List Command) → LeavesAsNew w cs → sheet_of w [] cs ≡ sheet_of w (printed w cs) []
sheet_as_new w cs h =
    let items = sym (append-nil (printed w cs)) in
    cc (items, h.set.all_settings, h.set.no_storage, h.set.same_stops, h.line)

pub prints_as_new : (w : ℕ) (cs more : List Command) → LeavesAsNew w cs → printed w (cs ++ more) ≡ printed w cs ++ printed w more
prints_as_new w cs more h = ap (λ (s : Sheet). s.items) (same_after w [] (printed w cs) cs [] more (sheet_as_new w cs h))
