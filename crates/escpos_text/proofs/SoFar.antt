-- A text that is written as far as some of its characters.
use Rattle.std.proofs.Common.{◌≡◌, ℕ, ◌==◌, Bool, true, false, cond, List, [], ◌∷◌, ◌++◌, refl, sym, ap, ◌∙◌, append_assoc, Result, Ok, Err, eqb-true}
use Rattle.std.proofs.lemmas.Grind.{flat_map-append}
use Rattle.std.proofs.lemmas.List.{append-nil}
use Rattle.escpos_command.specs.declared.command.Command.{Command}
use Rattle.escpos_command.specs.declared.command.Command.TheVariants as kind
use Rattle.escpos_command.specs.declared.setting.SettingKind.TheVariants as sets
use Rattle.escpos_command.specs.CommandTable.{row, spell, set_to}
use Rattle.escpos_text.specs.declared.encoding.Encoding.{Encoding}
use Rattle.escpos_text.specs.declared.encoding.TextFault.{TextFault}
use Rattle.escpos_text.specs.declared.encoding.TextFault.TheVariants.{Control, NoCharacter, Memory}
use Rattle.escpos_text.specs.declared.placing.Place.{Place}
use Rattle.escpos_text.specs.Writing.{placed, commands_for, ◌>>=◌, written, after_command, table_after, Writes, WritesOne, IsRefused}

-- These commands, and then those of the rest.
abbrev pub prepend : List Command → Result (List Command) TextFault → Result (List Command) TextFault
prepend commands others = others >>= (λ rest. Ok (commands ++ rest))

pub record SoFar (before : Encoding) (all rest bytes more : List ℕ) (now : Encoding) : Type 0 where
  pub commands : List Command
  pub are_written : written before all ≡ prepend commands (written now rest)
  pub are_spelled : more ≡ bytes ++ spell commands
  pub in_force : now ≡ record before { table = table_after before.table commands }

pub prepend-nil : (others : Result (List Command) TextFault) → others ≡ prepend [] others
prepend-nil (Ok rest) = refl
prepend-nil (Err fault) = refl

pub prepend-prepend : (some more : List Command) (others : Result (List Command) TextFault) → prepend some (prepend more others) ≡ prepend (some ++ more) others
prepend-prepend some more (Ok rest) = ap Ok (sym (append_assoc some more rest))
prepend-prepend some more (Err fault) = refl

pub SoFar-none : (e : Encoding) (cs bytes : List ℕ) → SoFar e cs cs bytes bytes e
SoFar-none e cs bytes = record {
  commands = [];
  are_written = prepend-nil (written e cs);
  are_spelled = sym (append-nil bytes);
  in_force = refl;
}

pub written-cons : (e : Encoding) (c : ℕ) (cs : List ℕ) (place : Place) → placed e c ≡ Ok place → written e (c ∷ cs) ≡ prepend (commands_for e.table place) (written (record e { table = place.table }) cs)
unfolding written
written-cons e c cs place h = ap (λ r. r >>= (λ p. prepend (commands_for e.table p) (written (record e { table = p.table }) cs))) h

pub written-refused : (e : Encoding) (c : ℕ) (cs : List ℕ) (fault : TextFault) → placed e c ≡ Err fault → written e (c ∷ cs) ≡ Err fault
unfolding written
written-refused e c cs fault h = ap (λ r. r >>= (λ p. prepend (commands_for e.table p) (written (record e { table = p.table }) cs))) h

pub spell-append : (some more : List Command) → spell (some ++ more) ≡ spell some ++ spell more
spell-append some more = flat_map-append row some more

pub table_after-append : (some more : List Command) (table : ℕ) → table_after table (some ++ more) ≡ table_after (table_after table some) more
table_after-append [] more table = refl
table_after-append (x ∷ xs) more table = table_after-append xs more (after_command table x)

pub table_after-place : (table : ℕ) (place : Place) → table_after table (commands_for table place) ≡ place.table
table_after-place table place = go (place.table == table) refl where
  go : (t : Bool) → (place.table == table) ≡ t → table_after table (cond t [] (set_to sets.Table place.table ∷ []) ++ kind.Char place.byte ∷ []) ≡ place.table
  go true e = sym (eqb-true place.table table e)
  go false e = refl

pub SoFar-more : (before : Encoding) (all : List ℕ) (c : ℕ) (rest bytes more : List ℕ) (now : Encoding) (later : List ℕ) (then : Encoding) → SoFar before all (c ∷ rest) bytes more now → WritesOne now c more later then → SoFar before all rest bytes later then
SoFar-more before all c rest bytes more now later then s w =
    let added = commands_for now.table w.place in
    let table : now.table ≡ table_after before.table s.commands = ap (λ (e : Encoding). e.table) s.in_force in
    let last : table_after before.table (s.commands ++ added) ≡ w.place.table =
    table_after-append s.commands added before.table ∙ ap (λ t. table_after t added) (sym table) ∙ table_after-place now.table w.place in
    let same : then ≡ record before { table = w.place.table } =
    w.in_force ∙ ap (λ (e : Encoding). record e { table = w.place.table }) s.in_force in
    record {
      commands = s.commands ++ added;
      are_written =
          s.are_written
          ∙ ap (prepend s.commands) (written-cons now c rest w.place w.stands ∙ ap (λ (e : Encoding). prepend added (written e rest)) (sym w.in_force))
          ∙ prepend-prepend s.commands added (written then rest);
      are_spelled =
          w.are_spelled ∙ ap (λ xs. xs ++ spell added) s.are_spelled ∙ append_assoc bytes (spell s.commands) (spell added)
          ∙ ap (λ xs. bytes ++ xs) (sym (spell-append s.commands added));
      in_force = same ∙ ap (λ t. record before { table = t }) (sym last);
    }

pub SoFar-all : (before : Encoding) (all bytes more : List ℕ) (now : Encoding) → SoFar before all [] bytes more now → Writes before all bytes more now
unfolding written
SoFar-all before all bytes more now s = record {
  commands = s.commands;
  are_written = s.are_written ∙ ap Ok (append-nil s.commands);
  are_spelled = s.are_spelled;
  in_force = s.in_force;
}

pub SoFar-refused : (before : Encoding) (all : List ℕ) (c : ℕ) (rest bytes more : List ℕ) (now : Encoding) (fault : TextFault) → SoFar before all (c ∷ rest) bytes more now → IsRefused (placed now c) fault → IsRefused (written before all) fault
SoFar-refused before all c rest bytes more now (Control d) s h = s.are_written ∙ ap (prepend s.commands) (written-refused now c rest (Control d) h)
SoFar-refused before all c rest bytes more now (NoCharacter d) s h = s.are_written ∙ ap (prepend s.commands) (written-refused now c rest (NoCharacter d) h)
SoFar-refused before all c rest bytes more now Memory s h = tt
