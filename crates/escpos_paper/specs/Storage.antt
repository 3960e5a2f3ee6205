-- What a printer stores to print it later.
use Rattle.std.specs.Prelude.{ℕ, List, Option, None}
use Rattle.escpos_command.specs.declared.command.Command.{Command}
use Rattle.escpos_command.specs.Graphics.{StoredPicture}
use Rattle.escpos_command.specs.Settings.{stored, stored_graphics}

-- The data of QR codes, and graphics, if there are any.
pub record Storage : Type 0 where
  pub codes : Option (List ℕ)
  pub graphics : Option StoredPicture

abbrev pub nothing_stored : Storage
nothing_stored = record { codes = None; graphics = None }

-- What is stored after the commands.
abbrev pub storage : List Command → Storage
storage cs = record { codes = stored cs; graphics = stored_graphics cs }
