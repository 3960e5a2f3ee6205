-- What follows of written texts.
use Rattle.std.proofs.Common.{◌≡◌, ◌≢◌, ℕ, suc, ◌<◌, ◌≤◌, Bool, true, false, ◌==◌, cond, List, [], ◌∷◌, ◌++◌, length, map, refl, sym, ap, subst, ◌∙◌, arith, eqb-true, eq-eqb, Some, None, Result, Ok, Err, inl, inr}
use Rattle.std.specs.Prelude.{All}
use Rattle.std.proofs.lemmas.Bool.{and_from, le-leb, lt-ltb}
use Rattle.std.proofs.lemmas.Option.{none-some}
use Rattle.std.proofs.lemmas.List.{append-nil}
use Rattle.escpos_command.specs.declared.command.Command.{Command}
use Rattle.escpos_command.specs.declared.command.Command.TheVariants as kind
use Rattle.escpos_command.specs.SettingTable.{table}
use Rattle.escpos_command.specs.declared.setting.SettingKind.TheVariants as sets
use Rattle.escpos_command.specs.CommandTable.{IsCommand, AreCommands, set_to}
use Rattle.escpos_text.specs.declared.encoding.Encoding.{Encoding}
use Rattle.escpos_text.specs.declared.encoding.TextFault.{TextFault}
use Rattle.escpos_text.specs.declared.encoding.TextFault.TheVariants.{Control, NoCharacter}
use Rattle.escpos_text.specs.declared.placing.Place.{Place}
use Rattle.escpos_text.specs.Reading.{reads}
use Rattle.escpos_text.specs.Writing.{placed, commands_for, ◌>>=◌, written, table_after}
use Rattle.escpos_text.specs.SpelledTexts.{AreOfText}
use Rattle.escpos_text.specs.Laws.{read_back, IsShownFor, IsReadBack, IsLean, NothingShows, IsRefusedAt}
use Rattle.escpos_text.proofs.SoFar.{prepend, prepend-nil, prepend-prepend, written-cons, written-refused, table_after-append, table_after-place}
use Rattle.escpos_text.proofs.Standing.{Stands, stands, byte_for-reads, reads-printed, refused-control, refused-character}

-- Of a text that is written: where its first character stands, and the rest.
record First (e : Encoding) (c : ℕ) (cs : List ℕ) (commands : List Command) : Type 0 where
  place : Place
  stands : placed e c ≡ Ok place
  rest : List Command
  rest_written : written (record e { table = place.table }) cs ≡ Ok rest
  joined : commands ≡ commands_for e.table place ++ rest

first : (e : Encoding) (c : ℕ) (cs : List ℕ) (commands : List Command) → written e (c ∷ cs) ≡ Ok commands → First e c cs commands
first e c cs commands h = go (placed e c) refl where
  ended : (place : Place) → placed e c ≡ Ok place → (r : Result (List Command) TextFault) → written (record e { table = place.table }) cs ≡ r → First e c cs commands
  ended place stands (Ok rest) is =
      let all = sym (written-cons e c cs place stands ∙ ap (prepend (commands_for e.table place)) is) ∙ h in
      record { place = place; stands = stands; rest = rest; rest_written = is; joined = cc }
  ended place stands (Err why) is =
      let all = sym (written-cons e c cs place stands ∙ ap (prepend (commands_for e.table place)) is) ∙ h in absurd (cc)

  go : (r : Result Place TextFault) → placed e c ≡ r → First e c cs commands
  go (Ok place) is = ended place is (written (record e { table = place.table }) cs) refl
  go (Err why) is = let none = sym (written-refused e c cs why is) ∙ h in absurd (cc)

nothing : (e : Encoding) (commands : List Command) → written e [] ≡ Ok commands → commands ≡ []
unfolding written
nothing e commands h = cc

-- The commands of a character are of text, and read back as what is shown for it.
cell-same : (e : Encoding) (c : ℕ) (place : Place) → (s : Stands e c place) → reads e.set place.table place.byte ≡ Some s.shown
cell-same e c place s = (byte_for-reads e.set place.table s.shown place.byte s.reached.byte).1

byte-from : (e : Encoding) (c : ℕ) (place : Place) → Stands e c place → 0x20 ≤ place.byte
byte-from e c place s = reads-printed e.set place.table place.byte s.shown (cell-same e c place s)

byte-to : (e : Encoding) (c : ℕ) (place : Place) → Stands e c place → place.byte < 256
byte-to e c place s = (byte_for-reads e.set place.table s.shown place.byte s.reached.byte).0

one-cell : (e : Encoding) (c : ℕ) (place : Place) → (s : Stands e c place) → (rest : List Command) → read_back e.set e.table (commands_for e.table place ++ rest) ≡ Some s.shown ∷ read_back e.set place.table rest
one-cell e c place s rest = go (place.table == e.table) refl where
  go : (t : Bool) → (place.table == e.table) ≡ t → read_back e.set e.table ((cond t [] (set_to sets.Table place.table ∷ []) ++ kind.Char place.byte ∷ []) ++ rest) ≡ Some s.shown ∷ read_back e.set place.table rest
  go true is =
      let same : e.table ≡ place.table = sym (eqb-true place.table e.table is) in
      ap (λ t. reads e.set t place.byte ∷ read_back e.set t rest) same ∙ ap (λ cell. cell ∷ read_back e.set place.table rest) (cell-same e c place s)
  go false is = ap (λ cell. cell ∷ read_back e.set place.table rest) (cell-same e c place s)

of_text : (e : Encoding) (c : ℕ) (place : Place) → Stands e c place → (rest : List Command) → AreOfText rest → AreOfText (commands_for e.table place ++ rest)
of_text e c place s rest are = go (place.table == e.table) where
  go : (t : Bool) → AreOfText ((cond t [] (set_to sets.Table place.table ∷ []) ++ kind.Char place.byte ∷ []) ++ rest)
  go true = (byte-from e c place s, byte-to e c place s, are)
  go false = (tt, (byte-from e c place s, byte-to e c place s, are))

pub written-of_text : (e : Encoding) (cs : List ℕ) (commands : List Command) → written e cs ≡ Ok commands → AreOfText commands
written-of_text e [] commands h = subst AreOfText (sym (nothing e commands h)) tt
written-of_text e (c ∷ cs) commands h =
    let f = first e c cs commands h in
    subst AreOfText (sym f.joined) (of_text e c f.place (stands e c f.place f.stands) f.rest (written-of_text (record e { table = f.place.table }) cs f.rest f.rest_written))

-- Read back.
pub is_read_back : (e : Encoding) (cs : List ℕ) (commands : List Command) → written e cs ≡ Ok commands → IsReadBack e cs commands
is_read_back e [] commands h = nothing e commands h
is_read_back e (c ∷ cs) commands h =
    let f = first e c cs commands h in
    let s = stands e c f.place f.stands in
    let some = commands_for e.table f.place in
    let cells : read_back e.set e.table some ≡ Some s.shown ∷ [] = ap (read_back e.set e.table) (sym (append-nil some)) ∙ one-cell e c f.place s [] in (
      s.shown,
      some,
      f.rest,
      f.joined,
      cells,
      s.is_shown,
      subst (λ t. IsReadBack (record e { table = t }) cs f.rest) (sym (table_after-place e.table f.place)) (is_read_back (record e { table = f.place.table }) cs f.rest f.rest_written),
    )

pub one_each : (e : Encoding) (cs : List ℕ) (commands : List Command) → written e cs ≡ Ok commands → length (read_back e.set e.table commands) ≡ length cs
one_each e [] commands h = ap (λ xs. length (read_back e.set e.table xs)) (nothing e commands h)
one_each e (c ∷ cs) commands h =
    let f = first e c cs commands h in
    let s = stands e c f.place f.stands in
    ap (λ xs. length (read_back e.set e.table xs)) f.joined ∙ ap length (one-cell e c f.place s f.rest)
    ∙ ap suc (one_each (record e { table = f.place.table }) cs f.rest f.rest_written)

itself : (e : Encoding) (c d : ℕ) → IsShownFor e c d → e.replacement ≡ None → c ≢ 0xA0 → d ≡ c
itself e c d shown none other =
    elim shown [
      | inl same ↦ same
      | inr instead ↦ elim (instead.1) [ inl space ↦ absurd (other space.0) | inr replaced ↦ absurd (none-some d (sym none ∙ replaced)) ]
    ]

pub same_text : (e : Encoding) (cs : List ℕ) (commands : List Command) → written e cs ≡ Ok commands → e.replacement ≡ None → All (λ c. c ≢ 0xA0) cs → read_back e.set e.table commands ≡ map (λ c. Some c) cs
same_text e [] commands h none other = ap (read_back e.set e.table) (nothing e commands h)
same_text e (c ∷ cs) commands h none other =
    let f = first e c cs commands h in
    let s = stands e c f.place f.stands in
    let same = itself e c s.shown s.is_shown none (other 0 0 (omega arith)) in
    ap (read_back e.set e.table) f.joined ∙ one-cell e c f.place s f.rest
    ∙ ap (λ d. Some d ∷ read_back e.set f.place.table f.rest) same
    ∙ ap (λ cells. Some c ∷ cells) (same_text (record e { table = f.place.table }) cs f.rest f.rest_written none (λ k d lt. other (suc k) d (omega arith)))

-- Lean.
lean_more : (e : Encoding) (c : ℕ) (place : Place) → Stands e c place → (rest : List Command) → IsLean (record e { table = place.table }) rest → IsLean e (commands_for e.table place ++ rest)
lean_more e c place s rest lean = go (place.table == e.table) refl where
  go : (t : Bool) → (place.table == e.table) ≡ t → IsLean e ((cond t [] (set_to sets.Table place.table ∷ []) ++ kind.Char place.byte ∷ []) ++ rest)
  go true is = subst (λ t. IsLean (record e { table = t }) rest) (eqb-true place.table e.table is) lean
  go false is =
      elim (s.reached.reason) [
        | inl same ↦ absurd (let clash = sym is ∙ eq-eqb place.table e.table same in cc)
        | inr other ↦ ((s.shown, cell-same e c place s, other.0, other.1), lean)
      ]

pub is_lean : (e : Encoding) (cs : List ℕ) (commands : List Command) → written e cs ≡ Ok commands → IsLean e commands
is_lean e [] commands h = subst (IsLean e) (sym (nothing e commands h)) tt
is_lean e (c ∷ cs) commands h =
    let f = first e c cs commands h in
    subst (IsLean e) (sym f.joined) (lean_more e c f.place (stands e c f.place f.stands) f.rest (is_lean (record e { table = f.place.table }) cs f.rest f.rest_written))

-- In range.
in_range_more : (e : Encoding) (c : ℕ) (place : Place) → Stands e c place → All (λ n. n < 256) e.choice → (rest : List Command) → AreCommands rest → AreCommands (commands_for e.table place ++ rest)
unfolding table
in_range_more e c place s bytes rest are = go (place.table == e.table) refl where
  character : IsCommand (kind.Char place.byte)
  character = and_from _ _ (le-leb 0x20 place.byte (byte-from e c place s)) (lt-ltb place.byte 256 (byte-to e c place s))

  go : (t : Bool) → (place.table == e.table) ≡ t → AreCommands ((cond t [] (set_to sets.Table place.table ∷ []) ++ kind.Char place.byte ∷ []) ++ rest)
  go true is = (character, are)
  go false is =
      elim (s.reached.reason) [
        | inl same ↦ absurd (let clash = sym is ∙ eq-eqb place.table e.table same in cc)
        | inr other ↦
            let at = other.1 in
            let below : place.table < 256 = subst (λ n. n < 256) at.2 (bytes at.0 0 at.1) in
            (lt-ltb place.table 256 below, (character, are))
      ]

pub in_range : (e : Encoding) (cs : List ℕ) (commands : List Command) → written e cs ≡ Ok commands → All (λ n. n < 256) e.choice → AreCommands commands
in_range e [] commands h bytes = subst AreCommands (sym (nothing e commands h)) tt
in_range e (c ∷ cs) commands h bytes =
    let f = first e c cs commands h in
    subst AreCommands (sym f.joined) (in_range_more e c f.place (stands e c f.place f.stands) bytes f.rest (in_range (record e { table = f.place.table }) cs f.rest f.rest_written bytes))

-- One text after another.
after_commands : (table : ℕ) (place : Place) (rest : List Command) → table_after table (commands_for table place ++ rest) ≡ table_after place.table rest
after_commands table place rest = table_after-append (commands_for table place) rest table ∙ ap (λ t. table_after t rest) (table_after-place table place)

pub written-append : (e : Encoding) (xs ys : List ℕ) → written e (xs ++ ys) ≡ (written e xs >>= (λ some. prepend some (written (record e { table = table_after e.table some }) ys)))
unfolding written
written-append e [] ys = prepend-nil (written e ys)
written-append e (c ∷ xs) ys = go (placed e c) (λ place. written-append (record e { table = place.table }) xs ys) where
  rest_of : (place : Place) → (r : Result (List Command) TextFault)
      → prepend (commands_for e.table place) (r >>= (λ some. prepend some (written (record e { table = table_after place.table some }) ys)))
      ≡ (prepend (commands_for e.table place) r >>= (λ some. prepend some (written (record e { table = table_after e.table some }) ys)))
  rest_of place (Ok some) =
      prepend-prepend (commands_for e.table place) some (written (record e { table = table_after place.table some }) ys)
      ∙ ap (λ t. prepend (commands_for e.table place ++ some) (written (record e { table = t }) ys)) (sym (after_commands e.table place some))
  rest_of place (Err why) = refl

  go : (r : Result Place TextFault)
      → ((place : Place) → written (record e { table = place.table }) (xs ++ ys) ≡ (written (record e { table = place.table }) xs >>= (λ some. prepend some (written (record e { table = table_after place.table some }) ys))))
      → (r >>= (λ place. prepend (commands_for e.table place) (written (record e { table = place.table }) (xs ++ ys))))
      ≡ ((r >>= (λ place. prepend (commands_for e.table place) (written (record e { table = place.table }) xs))) >>= (λ some. prepend some (written (record e { table = table_after e.table some }) ys)))
  go (Ok place) more = ap (prepend (commands_for e.table place)) (more place) ∙ rest_of place (written (record e { table = place.table }) xs)
  go (Err why) more = refl

-- A text that is refused: what stands before the character is written, and the character is refused there.
record Refused (e : Encoding) (cs : List ℕ) (fault : TextFault) : Type 0 where
  before : List ℕ
  after : List ℕ
  at : ℕ
  commands : List Command
  parts : cs ≡ before ++ at ∷ after
  before_written : written e before ≡ Ok commands
  at_refused : placed (record e { table = table_after e.table commands }) at ≡ Err fault

refused_later : (e : Encoding) (c : ℕ) (cs : List ℕ) (place : Place) (fault : TextFault) → placed e c ≡ Ok place → Refused (record e { table = place.table }) cs fault → Refused e (c ∷ cs) fault
refused_later e c cs place fault stands r = record {
  before = c ∷ r.before;
  after = r.after;
  at = r.at;
  commands = commands_for e.table place ++ r.commands;
  parts = ap (λ xs. c ∷ xs) r.parts;
  before_written = written-cons e c r.before place stands ∙ ap (prepend (commands_for e.table place)) r.before_written;
  at_refused = ap (λ t. placed (record e { table = t }) r.at) (after_commands e.table place r.commands) ∙ r.at_refused;
}

refused : (e : Encoding) (cs : List ℕ) (fault : TextFault) → written e cs ≡ Err fault → Refused e cs fault
unfolding written
refused e [] fault h = absurd (cc)
refused e (c ∷ cs) fault h = go (placed e c) refl (λ place. refused (record e { table = place.table }) cs fault) where
  later : (place : Place) → placed e c ≡ Ok place → (r : Result (List Command) TextFault) → written (record e { table = place.table }) cs ≡ r
      → (written (record e { table = place.table }) cs ≡ Err fault → Refused (record e { table = place.table }) cs fault) → Refused e (c ∷ cs) fault
  later place stands (Ok rest) is more =
      let all = sym (written-cons e c cs place stands ∙ ap (prepend (commands_for e.table place)) is) ∙ h in absurd (cc)
  later place stands (Err why) is more =
      let all = sym (written-cons e c cs place stands ∙ ap (prepend (commands_for e.table place)) is) ∙ h in
      let same : why ≡ fault = cc in
      refused_later e c cs place fault stands (more (is ∙ ap (λ w. Err w) same))

  go : (r : Result Place TextFault) → placed e c ≡ r
      → ((place : Place) → written (record e { table = place.table }) cs ≡ Err fault → Refused (record e { table = place.table }) cs fault) → Refused e (c ∷ cs) fault
  go (Ok place) is more = later place is (written (record e { table = place.table }) cs) refl (more place)
  go (Err why) is more =
      let all = sym (written-refused e c cs why is) ∙ h in
      let same : why ≡ fault = cc in
      record {
        before = [];
        after = cs;
        at = c;
        commands = [];
        parts = refl;
        before_written = refl;
        at_refused = is ∙ ap (λ w. Err w) same;
      }

pub refused_character : (e : Encoding) (cs : List ℕ) (c : ℕ) → written e cs ≡ Err (NoCharacter c) → IsRefusedAt e cs c (λ there. (0x20 ≤ c) × NothingShows there c)
refused_character e cs c h =
    let r = refused e cs (NoCharacter c) h in
    let there : Encoding = record e { table = table_after e.table r.commands } in
    let why = refused-character there r.at c r.at_refused in (
      r.before,
      r.after,
      r.commands,
      r.parts ∙ ap (λ x. r.before ++ x ∷ r.after) why.0,
      r.before_written,
      subst (λ x. (0x20 ≤ x) × NothingShows there x) why.0 why.1,
    )

pub refused_control : (e : Encoding) (cs : List ℕ) (c : ℕ) → written e cs ≡ Err (Control c) → IsRefusedAt e cs c (λ there. c < 0x20)
refused_control e cs c h =
    let r = refused e cs (Control c) h in
    let why = refused-control (record e { table = table_after e.table r.commands }) r.at c r.at_refused in
    (r.before, r.after, r.commands, r.parts ∙ ap (λ x. r.before ++ x ∷ r.after) why.0, r.before_written, subst (λ x. x < 0x20) why.0 why.1)
