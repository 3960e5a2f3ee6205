-- What is written in parts, one after another.
use Rattle.std.proofs.Common.{◌≡◌, ℕ, List, [], ◌∷◌, ◌++◌, refl, sym, ap, subst, ◌∙◌, append_assoc, Result, Ok, Err}
use Rattle.std.specs.Prelude.{OnOk, OnErr, IfErr, MatchResult}
use Rattle.std.proofs.lemmas.Grind.{flat_map-append}
use Rattle.std.proofs.lemmas.List.{append-nil}
use Rattle.escpos_command.specs.declared.bytes.TheConstants.{LF}
use Rattle.escpos_command.specs.declared.command.Command.{Command}
use Rattle.escpos_command.specs.declared.command.Command.TheVariants as kind
use Rattle.escpos_command.specs.CommandTable.{row, spell}
use Rattle.escpos_text.specs.declared.encoding.Encoding.{Encoding}
use Rattle.escpos_text.specs.declared.encoding.TextFault.{TextFault}
use Rattle.escpos_text.specs.declared.encoding.TextFault.TheVariants.{Control, NoCharacter, Memory}
use Rattle.escpos_text.specs.Laws.{one_after_another}
use Rattle.escpos_text.specs.Writing.{◌>>=◌, written, after_command, table_after, Writes, IsRefused}
use Rattle.escpos_layout.specs.Writing.{lines_written, WritesAs, Stops, Ends}

-- What is in force after commands.
abbrev pub in_force_after : Encoding → List Command → Encoding
in_force_after e commands = record e { table = table_after e.table commands }

-- These commands, and then those of the rest.
abbrev pub prepend : List Command → Result (List Command) TextFault → Result (List Command) TextFault
prepend commands others = others >>= (λ rest. Ok (commands ++ rest))

-- A part, and after it another, with the table that is in force then.
abbrev pub in_turn : Encoding → Result (List Command) TextFault → (Encoding → Result (List Command) TextFault) → Result (List Command) TextFault
in_turn e what more = what >>= (λ some. prepend some (more (in_force_after e some)))

pub table_after-append : (some more : List Command) (table : ℕ) → table_after table (some ++ more) ≡ table_after (table_after table some) more
table_after-append [] more table = refl
table_after-append (x ∷ xs) more table = table_after-append xs more (after_command table x)

spell-append : (some more : List Command) → spell (some ++ more) ≡ spell some ++ spell more
spell-append some more = flat_map-append row some more

-- ## What a part leaves

pub both_written : (what : Result (List Command) TextFault) (more : Encoding → Result (List Command) TextFault) (first second third : Encoding) (bytes then last : List ℕ)
    → WritesAs what first bytes then second → WritesAs (more second) second then last third → WritesAs (in_turn first what more) first bytes last third
both_written what more first second third bytes then last w v =
    let table : second.table ≡ table_after first.table w.commands = ap (λ (e : Encoding). e.table) w.in_force in
    record {
      commands = w.commands ++ v.commands;
      are_written =
          ap (λ r. in_turn first r more) w.are_written ∙ ap (λ (e : Encoding). prepend w.commands (more e)) (sym w.in_force)
          ∙ ap (prepend w.commands) v.are_written;
      are_spelled =
          v.are_spelled ∙ ap (λ xs. xs ++ spell v.commands) w.are_spelled ∙ append_assoc bytes (spell w.commands) (spell v.commands)
          ∙ ap (λ xs. bytes ++ xs) (sym (spell-append w.commands v.commands));
      in_force =
          v.in_force ∙ ap (λ (e : Encoding). record e { table = table_after second.table v.commands }) w.in_force
          ∙ ap (λ t. record first { table = t }) (ap (λ t. table_after t v.commands) table ∙ sym (table_after-append w.commands v.commands first.table));
    }

refused_later : (what : Result (List Command) TextFault) (more : Encoding → Result (List Command) TextFault) (first second : Encoding) (bytes then : List ℕ) (fault : TextFault)
    → WritesAs what first bytes then second → IsRefused (more second) fault → IsRefused (in_turn first what more) fault
refused_later what more first second bytes then (Control c) w h =
    ap (λ r. in_turn first r more) w.are_written ∙ ap (λ (e : Encoding). prepend w.commands (more e)) (sym w.in_force) ∙ ap (prepend w.commands) h
refused_later what more first second bytes then (NoCharacter c) w h =
    ap (λ r. in_turn first r more) w.are_written ∙ ap (λ (e : Encoding). prepend w.commands (more e)) (sym w.in_force) ∙ ap (prepend w.commands) h
refused_later what more first second bytes then Memory w h = tt

pub stops_later : (what : Result (List Command) TextFault) (more : Encoding → Result (List Command) TextFault) (first second third : Encoding) (bytes then last : List ℕ) (fault : TextFault)
    → WritesAs what first bytes then second → Stops (more second) second then last third fault → Stops (in_turn first what more) first bytes last third fault
stops_later what more first second third bytes then last fault w s = record {
  refused = refused_later what more first second bytes then fault w s.refused;
  begun = (
    spell w.commands ++ s.begun.0,
    s.begun.1 ∙ ap (λ xs. xs ++ s.begun.0) w.are_spelled ∙ append_assoc bytes (spell w.commands) s.begun.0,
  );
  but_for_table = (s.but_for_table.0, s.but_for_table.1 ∙ ap (λ (e : Encoding). record e { table = s.but_for_table.0 }) w.in_force);
}

refused_at_once : (what : Result (List Command) TextFault) (more : Encoding → Result (List Command) TextFault) (first : Encoding) (fault : TextFault)
    → IsRefused what fault → IsRefused (in_turn first what more) fault
refused_at_once what more first (Control c) h = ap (λ r. in_turn first r more) h
refused_at_once what more first (NoCharacter c) h = ap (λ r. in_turn first r more) h
refused_at_once what more first Memory h = tt

pub stops_at_once : (what : Result (List Command) TextFault) (more : Encoding → Result (List Command) TextFault) (first second : Encoding) (bytes then : List ℕ) (fault : TextFault)
    → Stops what first bytes then second fault → Stops (in_turn first what more) first bytes then second fault
stops_at_once what more first second bytes then fault s = record {
  refused = refused_at_once what more first fault s.refused;
  begun = s.begun;
  but_for_table = s.but_for_table;
}

pub end_in_turn : {A : Type 0} (what : Result (List Command) TextFault) (more : Encoding → Result (List Command) TextFault) (first second third : Encoding) (bytes then last : List ℕ) (r : Result A TextFault)
    → WritesAs what first bytes then second → Ends (more second) second then last third r → Ends (in_turn first what more) first bytes last third r
end_in_turn what more first second third bytes then last (Ok u) w v = both_written what more first second third bytes then last w v
end_in_turn what more first second third bytes then last (Err fault) w s = stops_later what more first second third bytes then last fault w s

-- Nothing.
pub nothing_written : (e : Encoding) (bytes : List ℕ) → WritesAs (Ok []) e bytes bytes e
nothing_written e bytes = record { commands = []; are_written = refl; are_spelled = sym (append-nil bytes); in_force = refl }

-- ## Texts

-- One text after another.
abbrev pub TextsJoin : Type 0
TextsJoin = (encoding : Encoding) (text more : List ℕ) → written encoding (text ++ more) ≡ one_after_another encoding text more

pub text_ends : {A : Type 0} (e now : Encoding) (text bytes more : List ℕ) (r : Result A TextFault) → OnOk r (Writes e text bytes more now)
    → MatchResult r (λ _. Unit {0}) (IsRefused (written e text)) → OnErr r (more ≡ bytes) → OnErr r (now ≡ e) → Ends (written e text) e bytes more now r
text_ends e now text bytes more (Ok u) w refused kept still =
    record { commands = w.commands; are_written = w.are_written; are_spelled = w.are_spelled; in_force = w.in_force }
text_ends e now text bytes more (Err fault) w refused kept still =
    record { refused = refused; begun = ([], kept ∙ sym (append-nil bytes)); but_for_table = (e.table, still) }

pub texts_end : {A : Type 0} → TextsJoin → (first second third : Encoding) (text others bytes then last : List ℕ) (r : Result A TextFault)
    → WritesAs (written first text) first bytes then second → Ends (written second others) second then last third r
    → Ends (written first (text ++ others)) first bytes last third r
texts_end join first second third text others bytes then last r w v =
    subst (λ what. Ends what first bytes last third r) (sym (join first text others))
    (end_in_turn (written first text) (λ e. written e others) first second third bytes then last r w v)

pub text_stops : TextsJoin → (first second : Encoding) (text others bytes then : List ℕ) (fault : TextFault)
    → Stops (written first text) first bytes then second fault → Stops (written first (text ++ others)) first bytes then second fault
text_stops join first second text others bytes then fault s =
    subst (λ what. Stops what first bytes then second fault) (sym (join first text others))
    (stops_at_once (written first text) (λ e. written e others) first second bytes then fault s)

pub no_text : (e : Encoding) (bytes : List ℕ) → WritesAs (written e []) e bytes bytes e
unfolding written
no_text e bytes = nothing_written e bytes

-- ## Lines

prepend-nil : (others : Result (List Command) TextFault) → others ≡ prepend [] others
prepend-nil (Ok rest) = refl
prepend-nil (Err fault) = refl

-- A line, and LF.
pub line_written : (first second third : Encoding) (line bytes then last : List ℕ) → WritesAs (written first line) first bytes then second → last ≡ then ++ LF ∷ []
    → third ≡ second → WritesAs (lines_written first (line ∷ [])) first bytes last third
unfolding lines_written
line_written first second third line bytes then last w e same =
    both_written (written first line) (λ _. Ok (kind.LineFeed ∷ [])) first second third bytes then last w
    (record { commands = kind.LineFeed ∷ []; are_written = refl; are_spelled = e; in_force = same })

pub line_stops : (first second : Encoding) (line bytes then : List ℕ) (fault : TextFault) → Stops (written first line) first bytes then second fault
    → Stops (lines_written first (line ∷ [])) first bytes then second fault
unfolding lines_written
line_stops first second line bytes then fault s =
    stops_at_once (written first line) (λ _. Ok (kind.LineFeed ∷ [])) first second bytes then fault s

-- The line stands there, but LF doesn't.
pub line_begun : (first second : Encoding) (line bytes then : List ℕ) → WritesAs (written first line) first bytes then second
    → Stops (lines_written first (line ∷ [])) first bytes then second Memory
line_begun first second line bytes then w = record {
  refused = tt;
  begun = (spell w.commands, w.are_spelled);
  but_for_table = (table_after first.table w.commands, w.in_force);
}

-- Lines after others.
rest_of_line : (e : Encoding) (commands : List Command) (what : Result (List Command) TextFault) (ys : List (List ℕ))
    → ((what >>= (λ some. prepend some (lines_written (in_force_after (in_force_after e commands) some) ys))) >>= (λ rest. Ok (commands ++ kind.LineFeed ∷ rest)))
    ≡ ((what >>= (λ rest. Ok (commands ++ kind.LineFeed ∷ rest))) >>= (λ some. prepend some (lines_written (in_force_after e some) ys)))
rest_of_line e commands (Err fault) ys = refl
rest_of_line e commands (Ok some) ys =
    go (lines_written (in_force_after (in_force_after e commands) some) ys)
    ∙ ap (λ t. prepend (commands ++ kind.LineFeed ∷ some) (lines_written (record e { table = t }) ys))
    (sym (table_after-append commands (kind.LineFeed ∷ some) e.table)) where
      go : (others : Result (List Command) TextFault)
          → (prepend some others >>= (λ rest. Ok (commands ++ kind.LineFeed ∷ rest))) ≡ prepend (commands ++ kind.LineFeed ∷ some) others
      go (Ok rest) = ap Ok (sym (append_assoc commands (kind.LineFeed ∷ some) rest))
      go (Err fault) = refl

pub lines_join : (e : Encoding) (xs ys : List (List ℕ)) → lines_written e (xs ++ ys) ≡ in_turn e (lines_written e xs) (λ then. lines_written then ys)
unfolding lines_written
lines_join e [] ys = prepend-nil (lines_written e ys)
lines_join e (x ∷ xs) ys = go (written e x) (λ commands. lines_join (in_force_after e commands) xs ys) where
  go : (r : Result (List Command) TextFault)
      → ((commands : List Command) → lines_written (in_force_after e commands) (xs ++ ys)
      ≡ in_turn (in_force_after e commands) (lines_written (in_force_after e commands) xs) (λ then. lines_written then ys))
      → (r >>= (λ commands. lines_written (in_force_after e commands) (xs ++ ys) >>= (λ rest. Ok (commands ++ kind.LineFeed ∷ rest))))
      ≡ ((r >>= (λ commands. lines_written (in_force_after e commands) xs >>= (λ rest. Ok (commands ++ kind.LineFeed ∷ rest)))) >>= (λ some. prepend some (lines_written (in_force_after e some) ys)))
  go (Err fault) more = refl
  go (Ok commands) more =
      ap (λ others. others >>= (λ rest. Ok (commands ++ kind.LineFeed ∷ rest))) (more commands)
      ∙ rest_of_line e commands (lines_written (in_force_after e commands) xs) ys

pub lines_end : {A : Type 0} (first second third : Encoding) (lines others : List (List ℕ)) (bytes then last : List ℕ) (r : Result A TextFault)
    → WritesAs (lines_written first lines) first bytes then second → Ends (lines_written second others) second then last third r
    → Ends (lines_written first (lines ++ others)) first bytes last third r
lines_end first second third lines others bytes then last r w v =
    subst (λ what. Ends what first bytes last third r) (sym (lines_join first lines others))
    (end_in_turn (lines_written first lines) (λ e. lines_written e others) first second third bytes then last r w v)

pub lines_stop : (first second : Encoding) (lines others : List (List ℕ)) (bytes then : List ℕ) (fault : TextFault)
    → Stops (lines_written first lines) first bytes then second fault → Stops (lines_written first (lines ++ others)) first bytes then second fault
lines_stop first second lines others bytes then fault s =
    subst (λ what. Stops what first bytes then second fault) (sym (lines_join first lines others))
    (stops_at_once (lines_written first lines) (λ e. lines_written e others) first second bytes then fault s)

pub no_lines : (e : Encoding) (bytes : List ℕ) → WritesAs (lines_written e []) e bytes bytes e
unfolding lines_written
no_lines e bytes = nothing_written e bytes

-- LF after a line, or out of memory.
pub line_ends : {A : Type 0} (first second : Encoding) (line bytes then last : List ℕ) (r : Result A TextFault) → WritesAs (written first line) first bytes then second
    → OnOk r (last ≡ then ++ LF ∷ []) → OnErr r (last ≡ then) → IfErr r (λ fault. fault ≡ Memory) → Ends (lines_written first (line ∷ [])) first bytes last second r
line_ends first second line bytes then last (Ok u) w ended kept memory = line_written first second second line bytes then last w ended refl
line_ends first second line bytes then last (Err fault) w ended kept memory =
    subst (λ f. Stops (lines_written first (line ∷ [])) first bytes last second f) (sym memory)
    (subst (λ xs. Stops (lines_written first (line ∷ [])) first bytes xs second Memory) (sym kept) (line_begun first second line bytes then w))

-- ## What the end of a call says

pub ends_written : {A : Type 0} (what : Result (List Command) TextFault) (e now : Encoding) (bytes more : List ℕ) (r : Result A TextFault)
    → Ends what e bytes more now r → OnOk r (WritesAs what e bytes more now)
ends_written what e now bytes more (Ok u) w = w
ends_written what e now bytes more (Err fault) s = tt

pub ends_refused : {A : Type 0} (what : Result (List Command) TextFault) (e now : Encoding) (bytes more : List ℕ) (r : Result A TextFault)
    → Ends what e bytes more now r → MatchResult r (λ _. Unit {0}) (IsRefused what)
ends_refused what e now bytes more (Ok u) w = tt
ends_refused what e now bytes more (Err fault) s = s.refused
