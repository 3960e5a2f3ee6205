-- What a receipt's text holds, by the values in the code: the commands of an entry, and the value of the text.
use Rattle.std.specs.Prelude.{ℕ, ◌||◌, ◌&&◌, Bool, true, false, not, List, [], ◌∷◌, ◌++◌, Option, Some}
use Rattle.std.specs.Option.{unwrap_or}
use Rattle.serde_json.specs.Data.{Data}
use Rattle.serde_json.specs.View.{view}
use Rattle.serde_json.specs.declared.value.Value.{Value}
use Rattle.escpos_command.specs.declared.command.Command.{Command}
use Rattle.escpos_command.specs.declared.command.Command.TheVariants as kind
use Rattle.escpos_receipt.specs.Describes.{IsJson}
use Rattle.escpos_receipt.specs.declared.member.Member.{Member}
use Rattle.escpos_receipt.specs.declared.entry.Entry.{Entry}
use Rattle.escpos_receipt.specs.declared.entry.Entry.TheVariants as entry
use Rattle.escpos_receipt.specs.declared.entry.Meaning.{Meaning}
use Rattle.escpos_receipt.specs.declared.entry.Meaning.TheVariants as means
use Rattle.escpos_receipt.specs.Entries.{at_table, chosen_by, names_tables, qr_commands}
use Rattle.escpos_paper.specs.Styles.{power_on, set_after, sets_character_set, sets_table, style_after}
use Rattle.escpos_command.specs.Graphics.{has_its_dots}
use Rattle.escpos_command.specs.Text.{characters, ends_text}
use Rattle.escpos_text.specs.Choices.{usual_tables}
use Rattle.escpos_receipt.specs.declared.in_force.InForce.{InForce}
use Rattle.escpos_receipt.specs.declared.in_force.LineState.{LineState}
use Rattle.escpos_receipt.specs.Whole.{is_nonempty}
use Rattle.escpos_text.specs.declared.encoding.Encoding.{Encoding}

abbrev pub commands_in : Entry → List Command
commands_in (entry.Text text) = text
commands_in (entry.Line text) = text ++ kind.LineFeed ∷ []
commands_in (entry.Command c) = c ∷ []

abbrev pub commands_meant : Meaning → List Command
commands_meant (means.Entry entry) = commands_in entry
commands_meant (means.QrCode code) = qr_commands code.size code.level code.stored
commands_meant means.Choice = []

-- A value after commands that may set it.
abbrev pub value_after : {X : Type 0} → (Command → Option X) → X → X → List Command → X
value_after sets start value [] = value
value_after sets start value (c ∷ cs) = value_after sets start (set_after sets start value c) cs

-- The encoding in force after these commands.
abbrev pub with_commands : Encoding → List Command → Encoding
with_commands e cs = record {
  set = value_after sets_character_set power_on.character_set e.set cs;
  table = value_after sets_table power_on.table e.table cs;
  choice = e.choice;
  replacement = e.replacement;
}

-- The same with other tables to choose from, if some are named.
abbrev pub with_choice : Encoding → Option (List ℕ) → Encoding
with_choice e choice = record { set = e.set; table = e.table; choice = unwrap_or choice e.choice; replacement = e.replacement }

-- The encoding in force after an entry that gives these commands.
abbrev pub encoding_after : Encoding → Data → List Command → Encoding
encoding_after e d cs = with_choice (with_commands e cs) (chosen_by d)

-- The same after a member with this value.
abbrev pub after_member : Encoding → Member → Data → List Command → Encoding
after_member e m v cs = with_choice (with_commands e cs) (names_tables (Some (m, v)))

-- Whether a command ends the line, by whether data of QR codes are stored, and graphics.
abbrev pub ends_where : Bool → Bool → Command → Bool
ends_where stored graphics kind.QrPrint = stored
ends_where stored graphics (kind.GraphicsPrint fn) = graphics
ends_where stored graphics c = ends_text c

abbrev pub stored_after : Bool → Command → Bool
stored_after stored (kind.QrStore bytes) = true
stored_after stored kind.Init = false
stored_after stored c = stored

abbrev pub graphics_after : Bool → Command → Bool
graphics_after graphics (kind.GraphicsStore picture) = has_its_dots picture || graphics
graphics_after graphics (kind.GraphicsPrint fn) = false
graphics_after graphics kind.Init = false
graphics_after graphics c = graphics

-- What a line is like after one more command, and after these.
abbrev pub line_step : LineState → Command → LineState
line_step l c = record {
  width = l.width;
  style = at_table l.style.table (style_after l.style c);
  in_line = is_nonempty (characters c) || l.in_line && not (ends_where l.stored l.graphics c);
  stored = stored_after l.stored c;
  graphics = graphics_after l.graphics c;
}

abbrev pub line_after : LineState → List Command → LineState
line_after l [] = l
line_after l (c ∷ cs) = line_after (line_step l c) cs

-- What is in force after an entry that gives these commands.
abbrev pub force_after : InForce → Data → List Command → InForce
force_after f d cs = record { encoding = encoding_after f.encoding d cs; line = line_after f.line cs }

-- The same after a member with this value.
abbrev pub force_after_member : InForce → Member → Data → List Command → InForce
force_after_member f m v cs = record { encoding = after_member f.encoding m v cs; line = line_after f.line cs }

-- What is in force at the beginning.
abbrev pub start_of : ℕ → Option ℕ → InForce
start_of width replacement = record {
  encoding = record { set = power_on.character_set; table = power_on.table; choice = usual_tables; replacement = replacement };
  line = record { width = width; style = power_on; in_line = false; stored = false; graphics = false };
}

-- The text is this value in JSON.
abbrev pub IsValueOf : List ℕ → Value → Type 0
IsValueOf text value = IsJson text (view value)
