-- The settings after a list of commands. For each attribute the last command that sets it decides, of those
-- after the last Init; where none sets it, it has its power-on value. (Reference: ESC SP, ESC !, ESC -, ESC E,
-- ESC D, ESC G, ESC M, ESC R, ESC V, ESC a, ESC r, ESC t, ESC {, ESC 2, ESC 3, GS !, GS B, GS L, GS W, GS h, GS w, GS H, GS f, GS ( k,
-- ESC @.)
use Rattle.std.specs.Prelude.{ℕ, ◌==◌, ◌*◌, ◌&&◌, not, Bool, true, false, List, [], ◌∷◌, Option, None, Some, map, option_to_list, if◌then◌else◌}
use Rattle.std.specs.Option.{unwrap_or}
use Rattle.escpos_command.specs.declared.command.Command.{Command}
use Rattle.escpos_command.specs.declared.command.Command.TheVariants as kind
use Rattle.escpos_command.specs.declared.setting.SettingKind.TheVariants as sets
use Rattle.escpos_command.specs.declared.parameter.choices.FontFace.{FontFace}
use Rattle.escpos_command.specs.declared.parameter.choices.FontFace.TheVariants.{A, B}
use Rattle.escpos_command.specs.declared.parameter.choices.Alignment.{Alignment}
use Rattle.escpos_command.specs.declared.parameter.choices.Correction.{Correction}
use Rattle.escpos_command.specs.declared.parameter.choices.Correction.TheVariants.{L}
use Rattle.escpos_command.specs.declared.parameter.choices.Alignment.TheVariants.{Left}
use Rattle.escpos_command.specs.declared.parameter.choices.HriPosition.{HriPosition}
use Rattle.escpos_command.specs.declared.parameter.choices.HriPosition.TheVariants.{Nowhere}
use Rattle.escpos_command.specs.Meanings.{has_bit, choice, face_of, alignment_of, hri_position_of, face_of_mode, magnified, underline_of_mode, size_width, size_height, model_number, correction_of}
use Rattle.escpos_command.specs.declared.parameter.position.PositionKind.TheVariants as position
use Rattle.escpos_command.specs.Settings.{is_init, last_or, setting}
use Rattle.escpos_command.specs.SettingTable.{value}
use Rattle.escpos_command.specs.Text.{text}
use Rattle.escpos_paper.specs.declared.style.Style.{Style}
use Rattle.escpos_paper.specs.declared.style.BarStyle.{BarStyle}
use Rattle.escpos_paper.specs.declared.style.LineStyle.{LineStyle}
use Rattle.escpos_paper.specs.declared.style.Placing.{Placing}
use Rattle.escpos_paper.specs.declared.style.QrStyle.{QrStyle}
use Rattle.escpos_paper.specs.declared.style.Settings.{Settings}
use Rattle.escpos_paper.specs.Dots.{style_dots}
use Rattle.escpos_paper.specs.OverPlaces.{over_places}

-- Which commands set an attribute, and to what. ESC ! sets attributes that each have a command of their own, too.
abbrev pub sets_table : Command → Option ℕ
sets_table (kind.Set (sets.Table, p)) = Some (value p)
sets_table _ = None

abbrev pub sets_font : Command → Option FontFace
sets_font (kind.Set (sets.Mode, p)) = Some (face_of_mode (value p))
sets_font (kind.Set (sets.Font, p)) = Some (face_of (choice (value p)))
sets_font _ = None

abbrev pub sets_width : Command → Option ℕ
sets_width (kind.Set (sets.Mode, p)) = Some (magnified (has_bit (value p) 5))
sets_width (kind.Set (sets.Size, p)) = Some (size_width (value p))
sets_width _ = None

abbrev pub sets_height : Command → Option ℕ
sets_height (kind.Set (sets.Mode, p)) = Some (magnified (has_bit (value p) 4))
sets_height (kind.Set (sets.Size, p)) = Some (size_height (value p))
sets_height _ = None

abbrev pub sets_bold : Command → Option Bool
sets_bold (kind.Set (sets.Mode, p)) = Some (has_bit (value p) 3)
sets_bold (kind.Set (sets.Emphasis, p)) = Some (has_bit (value p) 0)
sets_bold _ = None

abbrev pub sets_underline : Command → Option ℕ
sets_underline (kind.Set (sets.Mode, p)) = Some (underline_of_mode (value p))
sets_underline (kind.Set (sets.Underline, p)) = Some (choice (value p))
sets_underline _ = None

abbrev pub sets_strike : Command → Option Bool
sets_strike (kind.Set (sets.DoubleStrike, p)) = Some (has_bit (value p) 0)
sets_strike _ = None

abbrev pub sets_reverse : Command → Option Bool
sets_reverse (kind.Set (sets.Reverse, p)) = Some (has_bit (value p) 0)
sets_reverse _ = None

abbrev pub sets_character_set : Command → Option ℕ
sets_character_set (kind.Set (sets.CharacterSet, p)) = Some (value p)
sets_character_set _ = None

-- The space to the right of each character.
abbrev pub sets_character_spacing : Command → Option ℕ
sets_character_spacing (kind.Set (sets.CharacterSpacing, p)) = Some (value p)
sets_character_spacing _ = None

-- The number of the colour: 0, or 1 for the second one.
abbrev pub sets_color : Command → Option ℕ
sets_color (kind.Set (sets.Color, p)) = Some (choice (value p))
sets_color _ = None

-- Whether characters are turned.
abbrev pub sets_turned : Command → Option Bool
sets_turned (kind.Set (sets.Turned, p)) = Some (not (choice (value p) == 0))
sets_turned _ = None

-- The left margin, and the width of the printing area, in dots.
abbrev pub sets_margin : Command → Option ℕ
sets_margin (kind.Position (position.LeftMargin, n)) = Some n
sets_margin _ = None

abbrev pub sets_area : Command → Option (Option ℕ)
sets_area (kind.Position (position.AreaWidth, n)) = Some (Some n)
sets_area _ = None

abbrev pub sets_alignment : Command → Option Alignment
sets_alignment (kind.Set (sets.Align, p)) = Some (alignment_of (choice (value p)))
sets_alignment _ = None

abbrev pub sets_upside_down : Command → Option Bool
sets_upside_down (kind.Set (sets.UpsideDown, p)) = Some (has_bit (value p) 0)
sets_upside_down _ = None

-- A line spacing in motion units, or none for the default.
abbrev pub sets_spacing : Command → Option (Option ℕ)
sets_spacing (kind.Set (sets.LineSpacing, p)) = Some (Some (value p))
sets_spacing (kind.Set (sets.DefaultSpacing, p)) = Some None
sets_spacing _ = None

abbrev pub sets_bar_height : Command → Option ℕ
sets_bar_height (kind.Set (sets.BarHeight, p)) = Some (value p)
sets_bar_height _ = None

abbrev pub sets_module_width : Command → Option ℕ
sets_module_width (kind.Set (sets.BarWidth, p)) = Some (value p)
sets_module_width _ = None

abbrev pub sets_hri_place : Command → Option HriPosition
sets_hri_place (kind.Set (sets.HriPlace, p)) = Some (hri_position_of (choice (value p)))
sets_hri_place _ = None

abbrev pub sets_hri_font : Command → Option FontFace
sets_hri_font (kind.Set (sets.HriFont, p)) = Some (face_of (choice (value p)))
sets_hri_font _ = None

abbrev pub sets_qr_model : Command → Option ℕ
sets_qr_model (kind.QrModel n) = Some (model_number n)
sets_qr_model _ = None

abbrev pub sets_qr_size : Command → Option ℕ
sets_qr_size (kind.QrSize n) = Some n
sets_qr_size _ = None

abbrev pub sets_correction : Command → Option Correction
sets_correction (kind.QrLevel n) = Some (correction_of (choice n))
sets_correction _ = None

-- The style of a printer just switched on.
abbrev pub power_on : Style
power_on = record {
  table = 0;
  font = A;
  width = 1;
  height = 1;
  bold = false;
  underline = 0;
  strike = false;
  reverse = false;
  character_set = 0;
  spacing = 0;
  color = 0;
  turned = false;
}

-- Its tab stops: each eighth character of font A, as far as the widest line has any. (Reference: ESC D.)
abbrev pub usual_stops : List ℕ
usual_stops = 96 ∷ 192 ∷ 288 ∷ 384 ∷ 480 ∷ 576 ∷ 672 ∷ 768 ∷ 864 ∷ 960 ∷ []

-- All its settings. Init restores them.
abbrev pub power_on_settings : Settings
power_on_settings = record {
  text = power_on;
  bars = record { height = 162; module_width = 3; place = Nowhere; hri_font = A };
  lines = record { alignment = record { side = Left; margin = 0; width = None }; upside_down = false; spacing = None };
  codes = record { model = 2; size = 3; correction = L };
}

-- Whether two styles are the same.
abbrev pub same_face : FontFace → FontFace → Bool
same_face A A = true
same_face A B = false
same_face B A = false
same_face B B = true

abbrev pub same_flag : Bool → Bool → Bool
same_flag true b = b
same_flag false b = not b

abbrev pub same_look : Style → Style → Bool
same_look s t =
    s.table == t.table && same_face s.font t.font && s.width == t.width && s.height == t.height && same_flag s.bold t.bold
    && s.underline == t.underline

abbrev pub same_marks : Style → Style → Bool
same_marks s t = same_flag s.strike t.strike && same_flag s.reverse t.reverse && s.character_set == t.character_set

abbrev pub same_setting : Style → Style → Bool
same_setting s t = s.spacing == t.spacing && s.color == t.color && same_flag s.turned t.turned

abbrev pub same_style : Style → Style → Bool
same_style s t = same_look s t && same_marks s t && same_setting s t

-- The style that a character after the commands gets.
abbrev pub style : List Command → Style
style cs = record {
  table = setting sets_table power_on.table cs;
  font = setting sets_font power_on.font cs;
  width = setting sets_width power_on.width cs;
  height = setting sets_height power_on.height cs;
  bold = setting sets_bold power_on.bold cs;
  underline = setting sets_underline power_on.underline cs;
  strike = setting sets_strike power_on.strike cs;
  reverse = setting sets_reverse power_on.reverse cs;
  character_set = setting sets_character_set power_on.character_set cs;
  spacing = setting sets_character_spacing power_on.spacing cs;
  color = setting sets_color power_on.color cs;
  turned = setting sets_turned power_on.turned cs;
}

-- The value of an attribute after a command.
abbrev pub set_after : {X : Type 0} → (Command → Option X) → X → X → Command → X
set_after sets start value c = if is_init c then start else unwrap_or (sets c) value

-- The style of characters after one more command: the law `styles_grow` says that this is so.
abbrev pub style_after : Style → Command → Style
style_after s c = record {
  table = set_after sets_table power_on.table s.table c;
  font = set_after sets_font power_on.font s.font c;
  width = set_after sets_width power_on.width s.width c;
  height = set_after sets_height power_on.height s.height c;
  bold = set_after sets_bold power_on.bold s.bold c;
  underline = set_after sets_underline power_on.underline s.underline c;
  strike = set_after sets_strike power_on.strike s.strike c;
  reverse = set_after sets_reverse power_on.reverse s.reverse c;
  character_set = set_after sets_character_set power_on.character_set s.character_set c;
  spacing = set_after sets_character_spacing power_on.spacing s.spacing c;
  color = set_after sets_color power_on.color s.color c;
  turned = set_after sets_turned power_on.turned s.turned c;
}

-- The settings that a barcode after the commands gets.
abbrev pub bar_style : List Command → BarStyle
bar_style cs = record {
  height = setting sets_bar_height power_on_settings.bars.height cs;
  module_width = setting sets_module_width power_on_settings.bars.module_width cs;
  place = setting sets_hri_place power_on_settings.bars.place cs;
  hri_font = setting sets_hri_font power_on_settings.bars.hri_font cs;
}

-- The settings that a QR code after the commands gets.
abbrev pub qr_style : List Command → QrStyle
qr_style cs = record {
  model = setting sets_qr_model power_on_settings.codes.model cs;
  size = setting sets_qr_size power_on_settings.codes.size cs;
  correction = setting sets_correction power_on_settings.codes.correction cs;
}

abbrev pub is_empty : {X : Type 0} → List X → Bool
is_empty [] = true
is_empty (x ∷ xs) = false

-- An alignment, a margin, the width of the printing area, and whether lines are upside down, count only at the beginning of a line.
abbrev pub acts_at_line_start : Command → Bool
acts_at_line_start (kind.Set (sets.Align, p)) = true
acts_at_line_start (kind.Set (sets.UpsideDown, p)) = true
acts_at_line_start (kind.Position (position.LeftMargin, n)) = true
acts_at_line_start (kind.Position (position.AreaWidth, n)) = true
acts_at_line_start _ = false

-- The command as a list of one, or nothing if it is one of these with text before it in its line: then it doesn't count.
abbrev pub if_it_counts : List Command → Command → List Command → List Command
if_it_counts before c following = if acts_at_line_start c && not (is_empty (text before)) then [] else c ∷ []

-- The commands without those that don't count.
abbrev pub commands_that_count : List Command → List Command
commands_that_count cs = over_places if_it_counts [] cs

-- Where a line after the commands stands.
abbrev pub placing : List Command → Placing
placing cs = record {
  side = setting sets_alignment power_on_settings.lines.alignment.side (commands_that_count cs);
  margin = setting sets_margin power_on_settings.lines.alignment.margin (commands_that_count cs);
  width = setting sets_area power_on_settings.lines.alignment.width (commands_that_count cs);
}

-- How it is printed and fed.
abbrev pub line_style : List Command → LineStyle
line_style cs = record {
  alignment = placing cs;
  upside_down = setting sets_upside_down power_on_settings.lines.upside_down (commands_that_count cs);
  spacing = setting sets_spacing power_on_settings.lines.spacing cs;
}

-- The tab stops that a command sets, in dots: columns of characters in a style.
abbrev pub dots_of_columns : Style → List ℕ → List ℕ
dots_of_columns s columns = map (λ n. n * style_dots s) columns

abbrev pub sets_stops : Style → Command → Option (List ℕ)
sets_stops s (kind.TabStops columns) = Some (dots_of_columns s columns)
sets_stops s kind.Init = Some usual_stops
sets_stops s _ = None

-- The tab stops in dots: those that the last ESC D has set, in the style before it.
abbrev pub stops_at : List Command → Command → List Command → List (List ℕ)
stops_at before c following = option_to_list (sets_stops (style before) c)

abbrev pub stops : List Command → List ℕ
stops cs = last_or usual_stops (over_places stops_at [] cs)

-- All settings after the commands.
abbrev pub settings : List Command → Settings
settings cs = record { text = style cs; bars = bar_style cs; lines = line_style cs; codes = qr_style cs }
