-- Characters side by side: one command for each byte, and the bytes are its spelling.
use Rattle.std.proofs.Common.{◌≡◌, ℕ, List, [], ◌∷◌, ◌++◌, map, refl, ap, subst}
use Rattle.std.specs.Prelude.{IsTrue}
use Rattle.std.specs.List.{AllPass}
use Rattle.std.proofs.lemmas.List.Elements.{All-head, All-tail}
use Rattle.escpos_command.specs.declared.command.Command.{Command}
use Rattle.escpos_command.specs.declared.command.Command.TheVariants.{Char}
use Rattle.escpos_command.specs.CommandTable.{AreCommands, spell}
use Rattle.escpos_command.specs.Grammar.{Reads}
use Rattle.escpos_command.specs.Parameters.{is_character}
use Rattle.escpos_command.proofs.Readings.{joined, reads_spelled}

pub characters_in_range : (bs : List ℕ) → AllPass is_character bs → AreCommands (map Char bs)
characters_in_range [] h = tt
characters_in_range (b ∷ bs) h = (All-head (λ x. IsTrue (is_character x)) b bs h, characters_in_range bs (All-tail (λ x. IsTrue (is_character x)) b bs h))

pub spelled : (bs : List ℕ) → spell (map Char bs) ≡ bs
spelled [] = refl
spelled (b ∷ bs) = ap (λ t. b ∷ t) (spelled bs)

-- After whole commands, characters are read as themselves.
pub text_read : (a bs : List ℕ) (cs : List Command) → AllPass is_character bs → Reads a cs [] → Reads (a ++ bs) (cs ++ map Char bs) []
text_read a bs cs printing read =
    joined a bs cs (map Char bs) [] [] read (subst (λ t. Reads t (map Char bs) []) (spelled bs) (reads_spelled (map Char bs) (characters_in_range bs printing)))
