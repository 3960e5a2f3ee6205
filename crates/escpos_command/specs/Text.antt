-- The text of the line: the characters that no command has printed or dropped yet. (Reference: LF, ESC d,
-- ESC J, ESC @, ESC i, ESC m, GS k, GS v 0, GS V, GS ( k, GS ( L.)
use Rattle.std.specs.Prelude.{ℕ, ◌||◌, Bool, true, false, List, [], ◌∷◌, ◌++◌, Option, None, Some, if◌then◌else◌}
use Rattle.escpos_command.specs.declared.command.Command.{Command}
use Rattle.escpos_command.specs.declared.command.Command.TheVariants as kind
use Rattle.escpos_command.specs.Settings.{stored, stored_graphics}

-- After this command the line is empty: it prints the line or drops it. (QrPrint does so if data is stored, and GraphicsPrint if graphics
-- are.)
abbrev pub ends_text : Command → Bool
ends_text kind.LineFeed = true
ends_text (kind.FeedLines n) = true
ends_text (kind.FeedUnits n) = true
ends_text kind.Init = true
ends_text (kind.Bars bars) = true
ends_text (kind.Raster raster) = true
ends_text (kind.Cut cut) = true
ends_text (kind.OldCut b) = true
ends_text kind.QrPrint = true
ends_text (kind.GraphicsPrint fn) = true
ends_text _ = false

-- The character of a Char command, as a list of one; none for any other command.
abbrev pub characters : Command → List ℕ
characters (kind.Char b) = b ∷ []
characters _ = []

abbrev pub is_some : {X : Type 0} → Option X → Bool
is_some None = false
is_some (Some x) = true

-- Whether the line is empty after a command that comes after others. A QR code is printed, and the line before it, only if data
-- is stored, and graphics only if some are; otherwise the command does nothing.
abbrev pub ends_line : List Command → Command → Bool
ends_line before kind.QrPrint = is_some (stored before)
ends_line before (kind.GraphicsPrint fn) = is_some (stored_graphics before)
ends_line before c = ends_text c

-- Whether one of these commands, which come after others, ends the line.
abbrev pub ends_later : List Command → List Command → Bool
ends_later before [] = false
ends_later before (c ∷ cs) = ends_line before c || ends_later (before ++ c ∷ []) cs

-- The characters of the Char commands that no later command has printed or dropped, of commands that come after others.
abbrev pub text_after : List Command → List Command → List ℕ
text_after before [] = []
text_after before (c ∷ cs) = (if ends_later (before ++ c ∷ []) cs then [] else characters c) ++ text_after (before ++ c ∷ []) cs

abbrev pub text : List Command → List ℕ
text cs = text_after [] cs
