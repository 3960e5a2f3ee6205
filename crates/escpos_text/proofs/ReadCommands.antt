-- The commands of a written text, read from their bytes.
use Rattle.std.proofs.Common.{◌≡◌, ◌==◌, false, List, [], ◌∷◌, refl, ap, ◌∙◌, arith, ne_eqb, Some}
use Rattle.std.proofs.lemmas.Bool.{cond-false}
use Rattle.escpos_command.specs.declared.bytes.TheConstants.{ESC}
use Rattle.escpos_command.specs.declared.command.Command.{Command}
use Rattle.escpos_command.specs.declared.command.Command.TheVariants as kind
use Rattle.escpos_command.specs.SettingTable.{table}
use Rattle.escpos_command.specs.declared.setting.SettingKind.TheVariants as sets
use Rattle.escpos_command.specs.CommandTable.{spell, set_to}
use Rattle.escpos_text.specs.SpelledTexts.{commands_from, text_commands, AreOfText}

read-spell : (commands : List Command) → AreOfText commands → commands_from 0 (spell commands) ≡ commands
unfolding table
read-spell [] are = refl
read-spell (kind.Char b ∷ commands) are =
    let other : (b == ESC) ≡ false = ne_eqb b ESC (λ (same : b ≡ 0x1B). absurd (omega (arith, are.0))) in
    cond-false _ _ _ other ∙ ap (λ cs. kind.Char b ∷ cs) (read-spell commands are.2)
read-spell (kind.Set (sets.Table, Some n) ∷ commands) are = ap (λ cs. set_to sets.Table n ∷ cs) (read-spell commands are.1)
read-spell (_ ∷ commands) are = absurd are

pub text_commands-spell : (commands : List Command) → AreOfText commands → text_commands (spell commands) ≡ commands
unfolding text_commands
text_commands-spell commands are = read-spell commands are
