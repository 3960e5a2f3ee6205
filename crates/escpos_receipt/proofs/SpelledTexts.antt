-- Bytes of a text, and the commands that they spell.
use Rattle.std.proofs.Common.{◌≡◌, ℕ, ◌<◌, ◌≤◌, ◌≢◌, List, [], ◌∷◌, ◌++◌, Bool, true, false, IsTrue, refl, sym, ◌∙◌, ap, subst, cond, map, arith, Some}
use Rattle.std.specs.Prelude.{◌==◌, length, not, Option, None}
use Rattle.std.specs.Option.{unwrap_or}
use Rattle.std.proofs.lemmas.Bool.{cond-false}
use Rattle.std.proofs.lemmas.Bool.Decides.{nat_tests}
use Rattle.escpos_command.specs.declared.bytes.TheConstants.{ESC, LF}
use Rattle.escpos_command.specs.declared.command.Command.{Command}
use Rattle.escpos_command.specs.declared.command.Command.TheVariants.{Char, LineFeed, Set}
use Rattle.escpos_command.specs.SettingTable.{table}
use Rattle.escpos_command.specs.declared.setting.SettingKind.TheVariants as sets
use Rattle.escpos_command.specs.CommandTable.{spell}
use Rattle.escpos_command.specs.Parameters.{is_character}
use Rattle.escpos_paper.specs.Styles.{set_after}
use Rattle.escpos_paper.specs.Styles.{sets_character_set, sets_table}
use Rattle.escpos_text.specs.declared.encoding.Encoding.{Encoding}
use Rattle.escpos_text.specs.SpelledTexts.{AreOfText, BeginsWithChar}
use Rattle.escpos_text.specs.Writing.{table_after}
use Rattle.escpos_receipt.specs.EntryCommands.{value_after, with_commands}
use Rattle.escpos_receipt.specs.SpelledText.{AreOfLines, IsTextBytes, commands_from, lines_commands, text_left}
use Rattle.escpos_receipt.specs.Whole.{is_nonempty}

-- A text has no line feed, but all else that a text may have.
pub of_text : (cs : List Command) → AreOfText cs → AreOfLines cs
of_text [] t = tt
of_text (Char b ∷ cs) (least, most, t) = (least, most, of_text cs t)
of_text (Set (sets.Table, Some n) ∷ cs) (first, t) = (first, of_text cs t)
of_text (c ∷ cs) t = absurd t

no_escape : (b : ℕ) → IsTrue (is_character b) → (b == ESC) ≡ false
no_escape b h = grind (arith, nat_tests)

no_line_feed : (b : ℕ) → IsTrue (is_character b) → (b == LF) ≡ false
no_line_feed b h = grind (arith, nat_tests)

read_lines : (cs : List Command) → AreOfLines cs → commands_from 0 (spell cs) ≡ cs
unfolding table
read_lines [] t = refl
read_lines (Char b ∷ cs) (least, most, t) =
    let other : (b == ESC) ≡ false = grind (arith, nat_tests) in
    let more : (b == LF) ≡ false = grind (arith, nat_tests) in
    cond-false _ _ _ other ∙ ap (λ x. x ∷ commands_from 0 (spell cs)) (cond-false _ _ _ more) ∙ ap (λ l. Char b ∷ l) (read_lines cs t)
read_lines (Set (sets.Table, Some n) ∷ cs) (first, t) = ap (λ l. Set (sets.Table, Some n) ∷ l) (read_lines cs t)
read_lines (LineFeed ∷ cs) t = ap (λ l. LineFeed ∷ l) (read_lines cs t)
read_lines (c ∷ cs) t = absurd t

pub lines_commands-spell : (cs : List Command) → AreOfLines cs → lines_commands (spell cs) ≡ cs
unfolding lines_commands
lines_commands-spell cs t = read_lines cs t

pub text_bytes : (cs : List Command) → AreOfLines cs → IsTextBytes (spell cs)
text_bytes cs t = (ap spell (sym (lines_commands-spell cs t)), subst AreOfLines (sym (lines_commands-spell cs t)) t)

-- Characters as they were given.
spelled_characters : (bs : List ℕ) → spell (map Char bs) ≡ bs
spelled_characters [] = refl
spelled_characters (b ∷ bs) = ap (λ l. b ∷ l) (spelled_characters bs)

pub given_bytes : (bs : List ℕ) → AreOfText (map Char bs) → IsTextBytes bs × (lines_commands bs ≡ map Char bs)
given_bytes bs t = (
  subst IsTextBytes (spelled_characters bs) (text_bytes (map Char bs) (of_text (map Char bs) t)),
  ap lines_commands (sym (spelled_characters bs)) ∙ lines_commands-spell (map Char bs) (of_text (map Char bs) t),
)

-- ## What a text sets

pub table_set : (t : ℕ) (cs : List Command) → AreOfLines cs → value_after sets_table 0 t cs ≡ table_after t cs
table_set t [] h = refl
table_set t (Char b ∷ cs) (least, most, h) = table_set t cs h
table_set t (Set (sets.Table, Some n) ∷ cs) (first, h) = table_set n cs h
table_set t (LineFeed ∷ cs) h = table_set t cs h
table_set t (c ∷ cs) h = absurd h

pub no_set : (s : ℕ) (cs : List Command) → AreOfLines cs → value_after sets_character_set 0 s cs ≡ s
no_set s [] h = refl
no_set s (Char b ∷ cs) (least, most, h) = no_set s cs h
no_set s (Set (sets.Table, Some n) ∷ cs) (first, h) = no_set s cs h
no_set s (LineFeed ∷ cs) h = no_set s cs h
no_set s (c ∷ cs) h = absurd h

pub next_of_lines : (e : Encoding) (cs : List Command) → AreOfLines cs
    → with_commands e cs ≡ record { set = e.set; table = table_after e.table cs; choice = e.choice; replacement = e.replacement }
next_of_lines e cs h = cc (no_set e.set cs h, table_set e.table cs h)

pub next_of_text : (e : Encoding) (cs : List Command) → AreOfText cs
    → with_commands e cs ≡ record { set = e.set; table = table_after e.table cs; choice = e.choice; replacement = e.replacement }
next_of_text e cs h = next_of_lines e cs (of_text cs h)

same_table : (t : ℕ) (bs : List ℕ) → value_after sets_table 0 t (map Char bs) ≡ t
same_table t [] = refl
same_table t (b ∷ bs) = same_table t bs

same_set : (s : ℕ) (bs : List ℕ) → value_after sets_character_set 0 s (map Char bs) ≡ s
same_set s [] = refl
same_set s (b ∷ bs) = same_set s bs

pub next_of_characters : (e : Encoding) (bs : List ℕ) → with_commands e (map Char bs) ≡ e
next_of_characters e bs =
    ap (λ n. record { set = n; table = value_after sets_table 0 e.table (map Char bs); choice = e.choice; replacement = e.replacement }) (same_set e.set bs)
    ∙ ap (λ n. record { set = e.set; table = n; choice = e.choice; replacement = e.replacement }) (same_table e.table bs)

-- A line feed sets nothing.
fed : {X : Type 0} (sets : Command → Option X) (power_on : X) (cs : List Command) (value : X) → sets LineFeed ≡ None
    → value_after sets power_on value (cs ++ LineFeed ∷ []) ≡ value_after sets power_on value cs
fed sets power_on [] value h = ap (λ o. unwrap_or o value) h
fed sets power_on (c ∷ cs) value h = fed sets power_on cs (set_after sets power_on value c) h

pub next_of_line : (e : Encoding) (cs : List Command) → with_commands e (cs ++ LineFeed ∷ []) ≡ with_commands e cs
next_of_line e cs = cc (fed sets_character_set 0 cs e.set refl, fed sets_table 0 cs e.table refl)

pub is_nonempty_spelled : (cs : List Command) → AreOfLines cs → (length (spell cs) == 0) ≡ not (is_nonempty cs)
unfolding table
is_nonempty_spelled [] h = refl
is_nonempty_spelled (Char b ∷ cs) h = grind (arith, nat_tests)
is_nonempty_spelled (Set (sets.Table, Some n) ∷ cs) h = grind (arith, nat_tests)
is_nonempty_spelled (LineFeed ∷ cs) h = grind (arith, nat_tests)
is_nonempty_spelled (c ∷ cs) h = absurd h

in_range : (b : ℕ) → 0x20 ≤ b → b < 256 → IsTrue (is_character b)
in_range b h k = grind (arith, nat_tests)

-- ## The last byte

none_spelled_so : (cs : List Command) → AreOfLines cs → spell cs ≡ [] → cs ≡ []
unfolding table
none_spelled_so [] t e = refl
none_spelled_so (Char b ∷ cs) t e = absurd cc
none_spelled_so (Set (sets.Table, Some n) ∷ cs) t e = absurd cc
none_spelled_so (LineFeed ∷ cs) t e = absurd cc
none_spelled_so (c ∷ cs) t e = absurd t

begins_with_a_byte : (cs : List Command) → BeginsWithChar cs → spell cs ≡ [] → ⊥
begins_with_a_byte (Char b ∷ cs) first e = absurd cc
begins_with_a_byte [] first e = first
begins_with_a_byte (c ∷ cs) first e = first

-- A code table is three bytes.
spelled_table : (n : ℕ) (cs : List Command) → spell (Set (sets.Table, Some n) ∷ cs) ≡ ESC ∷ 0x74 ∷ n ∷ spell cs
unfolding table
spelled_table n cs = refl

-- There is text in the line unless the last byte is LF.
pub last_byte : (in_line : Bool) (cs : List Command) (front : List ℕ) (b : ℕ) → AreOfLines cs → spell cs ≡ front ++ b ∷ [] → text_left in_line cs ≡ not (b == LF)
last_byte in_line [] [] b t e = absurd cc
last_byte in_line [] (f ∷ front) b t e = absurd cc
last_byte in_line (Char c ∷ cs) [] b (least, most, t) e =
    let same : c ≡ b = cc in
    let rest : spell cs ≡ [] = cc in
    ap (text_left true) (none_spelled_so cs t rest) ∙ ap not (sym (no_line_feed b (subst (λ n. IsTrue (is_character n)) same (in_range c least most))))
last_byte in_line (Char c ∷ cs) (f ∷ front) b (least, most, t) e =
    let rest : spell cs ≡ front ++ b ∷ [] = cc in
    last_byte true cs front b t rest
last_byte in_line (LineFeed ∷ cs) [] b t e =
    let same : LF ≡ b = cc in
    let rest : spell cs ≡ [] = cc in
    ap (text_left false) (none_spelled_so cs t rest) ∙ ap (λ n. not (n == LF)) same
last_byte in_line (LineFeed ∷ cs) (f ∷ front) b t e =
    let rest : spell cs ≡ front ++ b ∷ [] = cc in
    last_byte false cs front b t rest
last_byte in_line (Set (sets.Table, Some n) ∷ cs) [] b (first, t) e =
    let whole : ESC ∷ 0x74 ∷ n ∷ spell cs ≡ b ∷ [] = sym (spelled_table n cs) ∙ e in
    absurd cc
last_byte in_line (Set (sets.Table, Some n) ∷ cs) (f ∷ []) b (first, t) e =
    let whole : ESC ∷ 0x74 ∷ n ∷ spell cs ≡ f ∷ b ∷ [] = sym (spelled_table n cs) ∙ e in
    absurd cc
last_byte in_line (Set (sets.Table, Some n) ∷ cs) (f ∷ g ∷ []) b (first, t) e =
    let whole : ESC ∷ 0x74 ∷ n ∷ spell cs ≡ f ∷ g ∷ b ∷ [] = sym (spelled_table n cs) ∙ e in
    let rest : spell cs ≡ [] = cc in
    absurd (begins_with_a_byte cs first rest)
last_byte in_line (Set (sets.Table, Some n) ∷ cs) (f ∷ g ∷ h ∷ front) b (first, t) e =
    let whole : ESC ∷ 0x74 ∷ n ∷ spell cs ≡ f ∷ g ∷ h ∷ (front ++ b ∷ []) = sym (spelled_table n cs) ∙ e in
    let rest : spell cs ≡ front ++ b ∷ [] = cc in
    last_byte in_line cs front b t rest
last_byte in_line (c ∷ cs) front b t e = absurd t

pub nothing_left : (in_line : Bool) (bytes : List ℕ) → bytes ≡ [] → text_left in_line (lines_commands bytes) ≡ in_line
unfolding lines_commands
nothing_left in_line bytes e = ap (λ l. text_left in_line (commands_from 0 l)) e

-- ## The first command

escape_read : (a b n : ℕ) (rest : List ℕ) → a ≡ ESC → lines_commands (a ∷ b ∷ n ∷ rest) ≡ Set (sets.Table, Some n) ∷ lines_commands rest
unfolding lines_commands
escape_read a b n rest e = ap (λ x. commands_from 0 (x ∷ b ∷ n ∷ rest)) e

-- A text that begins with ESC begins with a code table.
pub table_first : (bytes : List ℕ) (a b n : ℕ) (rest : List ℕ) → bytes ≡ a ∷ b ∷ n ∷ rest → a ≡ ESC → IsTextBytes bytes
    → (lines_commands bytes ≡ Set (sets.Table, Some n) ∷ lines_commands rest) × IsTextBytes rest × (length rest < length bytes)
unfolding table
table_first bytes a b n rest is e (spelled, t) =
    let first : lines_commands bytes ≡ Set (sets.Table, Some n) ∷ lines_commands rest = ap lines_commands is ∙ escape_read a b n rest e in
    let whole : a ∷ b ∷ n ∷ rest ≡ spell (Set (sets.Table, Some n) ∷ lines_commands rest) = sym is ∙ spelled ∙ ap spell first in
    let same : rest ≡ spell (lines_commands rest) = cc in
    let long = ap length is in
    (first, (same, (subst AreOfLines first t).1), omega (arith, long))

-- Nothing but a code table begins with ESC.
pub long_enough : (bytes : List ℕ) (a : ℕ) (rest : List ℕ) → bytes ≡ a ∷ rest → a ≡ ESC → IsTextBytes bytes → 2 ≤ length rest
unfolding lines_commands
long_enough bytes a [] is e (spelled, t) =
    let none : a ∷ [] ≡ [] = sym is ∙ spelled ∙ ap (λ bs. spell (commands_from 0 bs)) is ∙ ap (λ x. spell (commands_from 0 (x ∷ []))) e in
    absurd cc
long_enough bytes a (b ∷ []) is e (spelled, t) =
    let none : a ∷ b ∷ [] ≡ [] = sym is ∙ spelled ∙ ap (λ bs. spell (commands_from 0 bs)) is ∙ ap (λ x. spell (commands_from 0 (x ∷ b ∷ []))) e in
    absurd cc
long_enough bytes a (b ∷ n ∷ rest) is e t = omega arith

-- A text that begins with LF begins with a line feed.
line_feed_read : (b : ℕ) (rest : List ℕ) → b ≡ LF → lines_commands (b ∷ rest) ≡ LineFeed ∷ lines_commands rest
unfolding lines_commands
line_feed_read b rest e = ap (λ x. commands_from 0 (x ∷ rest)) e

pub line_feed_first : (bytes : List ℕ) (b : ℕ) (rest : List ℕ) → bytes ≡ b ∷ rest → b ≡ LF → IsTextBytes bytes
    → (lines_commands bytes ≡ LineFeed ∷ lines_commands rest) × IsTextBytes rest × (length rest < length bytes)
line_feed_first bytes b rest is e (spelled, t) =
    let first : lines_commands bytes ≡ LineFeed ∷ lines_commands rest = ap lines_commands is ∙ line_feed_read b rest e in
    let whole : b ∷ rest ≡ spell (LineFeed ∷ lines_commands rest) = sym is ∙ spelled ∙ ap spell first in
    let same : rest ≡ spell (lines_commands rest) = cc in
    let long = ap length is in
    (first, (same, subst AreOfLines first t), omega (arith, long))

other_read : (b : ℕ) (rest : List ℕ) → (b == ESC) ≡ false → (b == LF) ≡ false → lines_commands (b ∷ rest) ≡ Char b ∷ lines_commands rest
unfolding lines_commands
other_read b rest e f =
    ap (λ t. cond t (commands_from 2 rest) (cond (b == LF) LineFeed (Char b) ∷ commands_from 0 rest)) e
    ∙ ap (λ t. cond t LineFeed (Char b) ∷ commands_from 0 rest) f

-- Any other begins with a character.
pub character_first : (bytes : List ℕ) (b : ℕ) (rest : List ℕ) → bytes ≡ b ∷ rest → IsTrue (is_character b) → IsTextBytes bytes
    → (lines_commands bytes ≡ Char b ∷ lines_commands rest) × IsTextBytes rest × (length rest < length bytes)
character_first bytes b rest is h (spelled, t) =
    let first : lines_commands bytes ≡ Char b ∷ lines_commands rest = ap lines_commands is ∙ other_read b rest (no_escape b h) (no_line_feed b h) in
    let whole : b ∷ rest ≡ spell (Char b ∷ lines_commands rest) = sym is ∙ spelled ∙ ap spell first in
    let same : rest ≡ spell (lines_commands rest) = cc in
    let long = ap length is in
    (first, (same, (subst AreOfLines first t).2), omega (arith, long))

is_other : (b n : ℕ) → b ≢ n → (b == n) ≡ false
is_other b n h = grind (arith, nat_tests)

-- What a text begins with is ESC, LF or a character.
pub character_there : (bytes : List ℕ) (b : ℕ) (rest : List ℕ) → bytes ≡ b ∷ rest → b ≢ ESC → b ≢ LF → IsTextBytes bytes → IsTrue (is_character b)
character_there bytes b rest is e f (spelled, t) =
    let text = subst AreOfLines (ap lines_commands is ∙ other_read b rest (is_other b ESC e) (is_other b LF f)) t in
    in_range b text.0 text.1

pub none_spelled : lines_commands [] ≡ []
unfolding lines_commands
none_spelled = refl
