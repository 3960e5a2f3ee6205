-- The commands of tokens, as these come.
use Rattle.std.proofs.Common.{◌≡◌, ℕ, List, [], ◌∷◌, ◌++◌, map, refl, ap}
use Rattle.escpos_command.specs.declared.command.Command.{Command}
use Rattle.escpos_command.specs.declared.command.Command.TheVariants.{Char}
use Rattle.escpos_passed.specs.Reading.{text_tokens}
use Rattle.escpos_passed.specs.Tokens.{Token, taken, passed, commands_of}

pub one_command_more : (ts : List Token) (c : Command) → commands_of (ts ++ taken c ∷ []) ≡ commands_of ts ++ c ∷ []
one_command_more [] c = refl
one_command_more (taken d ∷ ts) c = ap (λ v. d ∷ v) (one_command_more ts c)
one_command_more (passed i bs ∷ ts) c = one_command_more ts c

of_text : (text : List ℕ) → commands_of (text_tokens text) ≡ map Char text
of_text [] = refl
of_text (b ∷ text) = ap (λ v. Char b ∷ v) (of_text text)

pub text_more : (ts : List Token) (text : List ℕ) → commands_of (ts ++ text_tokens text) ≡ commands_of ts ++ map Char text
text_more [] text = of_text text
text_more (taken d ∷ ts) text = ap (λ v. d ∷ v) (text_more ts text)
text_more (passed i bs ∷ ts) text = text_more ts text

pub none_more : (ts : List Token) (i : ℕ) (bs : List ℕ) → commands_of (ts ++ passed i bs ∷ []) ≡ commands_of ts
none_more [] i bs = refl
none_more (taken d ∷ ts) i bs = ap (λ v. d ∷ v) (none_more ts i bs)
none_more (passed j run ∷ ts) i bs = none_more ts i bs
