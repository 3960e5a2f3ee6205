-- The commands of lines are in range.
use Rattle.std.proofs.Common.{◌≡◌, ℕ, ◌<◌, List, [], ◌∷◌, ◌++◌, refl, sym, subst, All, Result, Ok, Err}
use Rattle.escpos_command.specs.declared.command.Command.{Command}
use Rattle.escpos_command.specs.declared.command.Command.TheVariants as kind
use Rattle.escpos_command.specs.CommandTable.{AreCommands}
use Rattle.escpos_text.specs.declared.encoding.Encoding.{Encoding}
use Rattle.escpos_text.specs.declared.encoding.TextFault.{TextFault}
use Rattle.escpos_text.specs.Writing.{◌>>=◌, written}
use Rattle.escpos_layout.specs.Writing.{lines_written}
use Rattle.escpos_layout.proofs.Parts.{in_force_after}

-- What the commands of a line and those after it are made of.
pub record FirstLine (e : Encoding) (line : List ℕ) (lines : List (List ℕ)) (commands : List Command) : Type 0 where
  pub text : List Command
  pub rest : List Command
  pub joined : commands ≡ text ++ kind.LineFeed ∷ rest
  pub text_written : written e line ≡ Ok text
  pub rest_written : lines_written (in_force_after e text) lines ≡ Ok rest

pub first_line : (e : Encoding) (line : List ℕ) (lines : List (List ℕ)) (commands : List Command) → lines_written e (line ∷ lines) ≡ Ok commands → FirstLine e line lines commands
unfolding lines_written
first_line e line lines commands h = go (written e line) refl h where
  later : (text : List Command) → written e line ≡ Ok text → (r : Result (List Command) TextFault) → lines_written (in_force_after e text) lines ≡ r
      → (r >>= (λ rest. Ok (text ++ kind.LineFeed ∷ rest))) ≡ Ok commands → FirstLine e line lines commands
  later text is (Ok rest) then h =
      let e : text ++ kind.LineFeed ∷ rest ≡ commands = cc in
      record { text = text; rest = rest; joined = sym e; text_written = is; rest_written = then }
  later text is (Err fault) then h = absurd (cc)

  go : (r : Result (List Command) TextFault) → written e line ≡ r
      → (r >>= (λ text. lines_written (in_force_after e text) lines >>= (λ rest. Ok (text ++ kind.LineFeed ∷ rest)))) ≡ Ok commands → FirstLine e line lines commands
  go (Ok text) is h = later text is (lines_written (in_force_after e text) lines) refl h
  go (Err fault) is h = absurd (cc)

pub no_line : (e : Encoding) (commands : List Command) → lines_written e [] ≡ Ok commands → commands ≡ []
unfolding lines_written
no_line e commands h = cc

both_in_range : (xs ys : List Command) → AreCommands xs → AreCommands ys → AreCommands (xs ++ ys)
both_in_range [] ys h k = k
both_in_range (x ∷ xs) ys h k = (h.0, both_in_range xs ys h.1 k)

abbrev pub TextsAreInRange : Type 0
TextsAreInRange =
    (encoding : Encoding) (text : List ℕ) (commands : List Command) → written encoding text ≡ Ok commands → All (λ number. number < 256) encoding.choice
    → AreCommands commands

pub lines_in_range : TextsAreInRange → (e : Encoding) (lines : List (List ℕ)) (commands : List Command) → lines_written e lines ≡ Ok commands
    → All (λ number. number < 256) e.choice → AreCommands commands
lines_in_range texts e [] commands h bytes = subst AreCommands (sym (no_line e commands h)) tt
lines_in_range texts e (line ∷ lines) commands h bytes =
    let f = first_line e line lines commands h in
    subst AreCommands (sym f.joined)
    (both_in_range f.text (kind.LineFeed ∷ f.rest) (texts e line f.text f.text_written bytes)
    (refl, lines_in_range texts (in_force_after e f.text) lines f.rest f.rest_written bytes))
