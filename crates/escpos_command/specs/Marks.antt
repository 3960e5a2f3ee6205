-- The marks of a stream, and what is read of a mark that is sent after any bytes.
use Rattle.std.specs.Prelude.{ℕ, ◌≡◌, ◌⊎◌, List, [], ◌∷◌, Option, Some, None, option_to_list}
use Rattle.std.specs.List.{flat_map}
use Rattle.escpos_command.specs.declared.command.Command.{Command}
use Rattle.escpos_command.specs.declared.command.Command.TheVariants as kind

-- The id of a mark; none for any other command.
abbrev pub mark_id : Command → Option (List ℕ)
mark_id (kind.Mark id) = Some id
mark_id _ = None

-- The ids of the marks among the commands, in order.
abbrev pub marks : List Command → List (List ℕ)
marks cs = flat_map (λ c. option_to_list (mark_id c)) cs

-- A prefix of the mark with this id comes after a half command, or after nothing; `more` of the mark is still to come. The
-- commands `cs` that these bytes read as either hold no mark, or they are this mark alone: then nothing stood before it and
-- all of it has come. And where that is so, they are the mark.
pub record IsMarkOrNone (half more : List ℕ) (id : List ℕ) (cs : List Command) : Type 0 where
  pub none_else : (marks cs ≡ []) ⊎ ((half ≡ []) × (more ≡ []) × (cs ≡ kind.Mark id ∷ []))
  pub whole : half ≡ [] → more ≡ [] → cs ≡ kind.Mark id ∷ []
