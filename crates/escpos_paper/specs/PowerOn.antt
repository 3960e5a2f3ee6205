-- Whether commands have left a printer as one just switched on: then what it prints next, it prints as that one. The answers that it tells
-- unasked are no matter of its paper.
use Rattle.std.specs.Prelude.{ℕ, ◌≡◌, ◌==◌, ◌&&◌, not, Bool, true, false, List, [], ◌∷◌}
use Rattle.escpos_command.specs.declared.command.Command.{Command}
use Rattle.escpos_command.specs.declared.parameter.choices.Alignment.{Alignment}
use Rattle.escpos_command.specs.declared.parameter.choices.Alignment.TheVariants.{Left}
use Rattle.escpos_command.specs.declared.parameter.choices.Correction.{Correction}
use Rattle.escpos_command.specs.declared.parameter.choices.Correction.TheVariants.{L}
use Rattle.escpos_command.specs.declared.parameter.choices.HriPosition.{HriPosition}
use Rattle.escpos_command.specs.declared.parameter.choices.HriPosition.TheVariants.{Nowhere}
use Rattle.escpos_command.specs.Text.{is_some}
use Rattle.escpos_paper.specs.declared.style.BarStyle.{BarStyle}
use Rattle.escpos_paper.specs.declared.style.LineStyle.{LineStyle}
use Rattle.escpos_paper.specs.declared.style.Placing.{Placing}
use Rattle.escpos_paper.specs.declared.style.QrStyle.{QrStyle}
use Rattle.escpos_paper.specs.declared.style.Settings.{Settings}
use Rattle.escpos_paper.specs.Styles.{is_empty, power_on, power_on_settings, same_face, same_style, settings, stops, usual_stops}
use Rattle.escpos_paper.specs.Cells.{Placed, nothing_placed}
use Rattle.escpos_paper.specs.Rows.{placed}
use Rattle.escpos_paper.specs.Page.{Sheet}
use Rattle.escpos_paper.specs.Storage.{Storage, nothing_stored, storage}

-- ## In words

-- All settings, what is stored and the tab stops are those of a printer just switched on.
pub record AreAsAtPowerOn (cs : List Command) : Type 0 where
  pub all_settings : settings cs ≡ power_on_settings
  pub no_storage : storage cs ≡ nothing_stored
  pub same_stops : stops cs ≡ usual_stops

-- And the line has no character, and the next one stands at its beginning.
pub record LeavesAsNew (width : ℕ) (cs : List Command) : Type 0 where
  pub set : AreAsAtPowerOn cs
  pub line : placed width cs ≡ nothing_placed

-- ## As a test

abbrev pub is_at_left : Alignment → Bool
is_at_left Left = true
is_at_left side = false

abbrev pub is_nowhere : HriPosition → Bool
is_nowhere Nowhere = true
is_nowhere place = false

abbrev pub is_level_l : Correction → Bool
is_level_l L = true
is_level_l level = false

-- Each part of the settings is as at power-on.
abbrev pub are_usual_bars : BarStyle → Bool
are_usual_bars s =
    s.height == power_on_settings.bars.height && s.module_width == power_on_settings.bars.module_width && is_nowhere s.place
    && same_face s.hri_font power_on_settings.bars.hri_font

abbrev pub is_usual_place : Placing → Bool
is_usual_place p = is_at_left p.side && p.margin == power_on_settings.lines.alignment.margin && not (is_some p.width)

abbrev pub are_usual_lines : LineStyle → Bool
are_usual_lines s = is_usual_place s.alignment && not s.upside_down && not (is_some s.spacing)

abbrev pub are_usual_codes : QrStyle → Bool
are_usual_codes s = s.model == power_on_settings.codes.model && s.size == power_on_settings.codes.size && is_level_l s.correction

abbrev pub are_usual : Settings → Bool
are_usual s = same_style s.text power_on && are_usual_bars s.bars && are_usual_lines s.lines && are_usual_codes s.codes

abbrev pub same_numbers : List ℕ → List ℕ → Bool
same_numbers [] [] = true
same_numbers (x ∷ xs) (y ∷ ys) = x == y && same_numbers xs ys
same_numbers xs ys = false

abbrev pub stores_nothing : Storage → Bool
stores_nothing s = not (is_some s.codes) && not (is_some s.graphics)

-- The settings, what is stored and the tab stops are as at power-on.
abbrev pub is_set_as_new : Settings → Storage → List ℕ → Bool
is_set_as_new s now stops_now = are_usual s && stores_nothing now && same_numbers stops_now usual_stops

-- The line has no character, and the next one stands at its beginning.
abbrev pub is_clear : Placed → Bool
is_clear p = is_empty p.cells && not (is_some p.moved)

-- Those after commands.
abbrev pub are_as_at_power_on : List Command → Bool
are_as_at_power_on cs = is_set_as_new (settings cs) (storage cs) (stops cs)

abbrev pub has_clear_line : ℕ → List Command → Bool
has_clear_line width cs = is_clear (placed width cs)

-- Those of a sheet.
abbrev pub is_sheet_set_as_new : Sheet → Bool
is_sheet_set_as_new sheet = is_set_as_new sheet.settings sheet.storage sheet.stops
