-- What the last command after the last Init sets: the one form in which everything that a printer keeps is defined.
use Rattle.std.specs.Prelude.{ℕ, Bool, true, false, List, [], ◌∷◌, ◌++◌, Option, None, Some, filter_map, if◌then◌else◌}
use Rattle.std.specs.List.{list_any}
use Rattle.escpos_command.specs.declared.command.Command.{Command}
use Rattle.escpos_command.specs.declared.command.Command.TheVariants as kind
use Rattle.escpos_command.specs.Graphics.{StoredPicture, has_its_dots}

abbrev pub is_init : Command → Bool
is_init kind.Init = true
is_init _ = false

-- The commands after the last Init: each that isn't an Init and that no Init follows.
abbrev pub after_init : List Command → List Command
after_init [] = []
after_init (c ∷ cs) = (if list_any is_init (c ∷ cs) then [] else c ∷ []) ++ after_init cs

-- The last element of a list, or a given value if there is none.
abbrev pub last_or : {X : Type 0} → X → List X → X
last_or x [] = x
last_or x (y ∷ ys) = last_or y ys

-- What the last of the commands after the last Init that set an attribute sets it to, or its power-on value.
abbrev pub setting : {X : Type 0} → (Command → Option X) → X → List Command → X
setting sets power_on cs = last_or power_on (filter_map sets (after_init cs))

-- The data of QR codes that is stored, if there is any. (Reference: GS ( k, function 80.)
abbrev pub sets_stored : Command → Option (Option (List ℕ))
sets_stored (kind.QrStore bytes) = Some (Some bytes)
sets_stored _ = None

abbrev pub stored : List Command → Option (List ℕ)
stored cs = setting sets_stored None cs

-- The graphics that are stored, if there are any: a print leaves none, and a store with fewer or more dots than its size says does
-- nothing. (Reference: GS ( L and GS 8 L, functions 112 and 50.)
abbrev pub sets_graphics : Command → Option (Option StoredPicture)
sets_graphics (kind.GraphicsStore graphics) = if has_its_dots graphics then Some (Some graphics) else None
sets_graphics (kind.GraphicsPrint fn) = Some None
sets_graphics _ = None

abbrev pub stored_graphics : List Command → Option StoredPicture
stored_graphics cs = setting sets_graphics None cs
