-- Lists made from each place of a list of commands.
use Rattle.std.specs.Prelude.{List, [], ◌∷◌, ◌++◌}
use Rattle.escpos_command.specs.declared.command.Command.{Command}

-- The lists that f gives for each place of a list of commands, joined in order. The arguments of f are the commands before
-- the place, the command there, and the commands after it. The list itself comes after the commands `before`.
abbrev pub over_places : {X : Type 0} → (List Command → Command → List Command → List X) → List Command → List Command → List X
over_places f before [] = []
over_places f before (c ∷ following) = f before c following ++ over_places f (before ++ c ∷ []) following
