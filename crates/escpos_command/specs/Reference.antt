-- The settings as the Reference has them, written apart from the table. The law `setting_table` says that the table agrees, so a
-- letter or a range that changes there is refused.
use Rattle.std.specs.Prelude.{ℕ, Bool, true, false, List, [], ◌∷◌, Option, None, Some, codes}
use Rattle.escpos_command.specs.Parameters.{is_byte, is_one_of_two, is_one_of_three, is_one_of_four, is_character_set, is_size, is_bar_height, is_bar_width}
use Rattle.escpos_command.specs.declared.bytes.TheConstants.{ESC, FS, GS}
use Rattle.escpos_command.specs.declared.setting.SettingKind.{SettingKind}
use Rattle.escpos_command.specs.declared.setting.SettingKind.TheVariants as sets

-- The bytes that a setting begins with, the parameters that may follow, and the name that programs print.
pub record Reference : Type 0 where
  pub letters : List ℕ
  pub allows : Option ℕ → Bool
  pub name : List ℕ

-- A parameter follows that passes the test.
abbrev pub passes : (ℕ → Bool) → Option ℕ → Bool
passes test None = false
passes test (Some n) = test n

-- No parameter follows.
abbrev pub alone : Option ℕ → Bool
alone None = true
alone (Some n) = false

abbrev pub setting_of : List ℕ → (Option ℕ → Bool) → List ℕ → Reference
setting_of letters allows name = record { letters = letters; allows = allows; name = name }

abbrev pub reference : SettingKind → Reference
reference sets.Mode = setting_of (ESC ∷ 0x21 ∷ []) (passes is_byte) (codes "mode")  -- ESC !
reference sets.Emphasis = setting_of (ESC ∷ 0x45 ∷ []) (passes is_byte) (codes "emphasis")  -- ESC E
reference sets.DoubleStrike = setting_of (ESC ∷ 0x47 ∷ []) (passes is_byte) (codes "strike")  -- ESC G
reference sets.Underline = setting_of (ESC ∷ 0x2D ∷ []) (passes is_one_of_three) (codes "underline")  -- ESC -
reference sets.Font = setting_of (ESC ∷ 0x4D ∷ []) (passes is_one_of_two) (codes "font")  -- ESC M
reference sets.Table = setting_of (ESC ∷ 0x74 ∷ []) (passes is_byte) (codes "table")  -- ESC t
reference sets.CharacterSet = setting_of (ESC ∷ 0x52 ∷ []) (passes is_character_set) (codes "charset")  -- ESC R
reference sets.Reverse = setting_of (GS ∷ 0x42 ∷ []) (passes is_byte) (codes "reverse")  -- GS B
reference sets.Smoothing = setting_of (GS ∷ 0x62 ∷ []) (passes is_byte) (codes "smooth")  -- GS b
reference sets.UpsideDown = setting_of (ESC ∷ 0x7B ∷ []) (passes is_byte) (codes "upside")  -- ESC {
reference sets.Align = setting_of (ESC ∷ 0x61 ∷ []) (passes is_one_of_three) (codes "align")  -- ESC a
reference sets.LineSpacing = setting_of (ESC ∷ 0x33 ∷ []) (passes is_byte) (codes "spacing")  -- ESC 3
reference sets.DefaultSpacing = setting_of (ESC ∷ 0x32 ∷ []) alone (codes "spacing default")  -- ESC 2
reference sets.Size = setting_of (GS ∷ 0x21 ∷ []) (passes is_size) (codes "size")  -- GS !
reference sets.BarHeight = setting_of (GS ∷ 0x68 ∷ []) (passes is_bar_height) (codes "barheight")  -- GS h
reference sets.BarWidth = setting_of (GS ∷ 0x77 ∷ []) (passes is_bar_width) (codes "barwidth")  -- GS w
reference sets.HriPlace = setting_of (GS ∷ 0x48 ∷ []) (passes is_one_of_four) (codes "hriplace")  -- GS H
reference sets.HriFont = setting_of (GS ∷ 0x66 ∷ []) (passes is_one_of_two) (codes "hrifont")  -- GS f
reference sets.Unidirectional = setting_of (ESC ∷ 0x55 ∷ []) (passes is_byte) (codes "unidirectional")  -- ESC U
reference sets.Home = setting_of (ESC ∷ 0x3C ∷ []) alone (codes "home")  -- ESC <
reference sets.Devices = setting_of (ESC ∷ 0x3D ∷ []) (passes is_byte) (codes "devices")  -- ESC =
reference sets.EndSensors = setting_of (ESC ∷ 0x63 ∷ 0x33 ∷ []) (passes is_byte) (codes "endsensors")  -- ESC c 3
reference sets.StopSensors = setting_of (ESC ∷ 0x63 ∷ 0x34 ∷ []) (passes is_byte) (codes "stopsensors")  -- ESC c 4
reference sets.PanelButtons = setting_of (ESC ∷ 0x63 ∷ 0x35 ∷ []) (passes is_byte) (codes "buttons")  -- ESC c 5
reference sets.KanjiOff = setting_of (FS ∷ 0x2E ∷ []) alone (codes "kanji off")  -- FS .
reference sets.CharacterSpacing = setting_of (ESC ∷ 0x20 ∷ []) (passes is_byte) (codes "charspacing")  -- ESC SP
reference sets.Color = setting_of (ESC ∷ 0x72 ∷ []) (passes is_one_of_two) (codes "color")  -- ESC r
reference sets.Turned = setting_of (ESC ∷ 0x56 ∷ []) (passes is_one_of_three) (codes "turned")  -- ESC V

-- The name that programs print.
abbrev pub name_of : SettingKind → List ℕ
name_of which = (reference which).name
