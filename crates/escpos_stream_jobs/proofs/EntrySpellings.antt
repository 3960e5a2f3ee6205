-- The spelling of an entry of a receipt, and of the first entries.
use Rattle.std.proofs.Common.{◌≡◌, ℕ, ◌+◌, ◌<◌, List, [], ◌∷◌, ◌++◌, length, take, drop, sym, ◌∙◌, ap, add-one, get_or, append-nil}
use Rattle.std.specs.List.{flat_map}
use Rattle.std.proofs.lemmas.Grind.{flat_map-append}
use Rattle.std.proofs.lemmas.List.{take-append-drop}
use Rattle.std.proofs.Math.Seq.{take-suc}
use Rattle.escpos_command.specs.CommandTable.{row, spell}
use Rattle.escpos_command.specs.declared.bytes.TheConstants.{LF}
use Rattle.escpos_command.specs.declared.command.Command.{Command}
use Rattle.escpos_command.specs.declared.command.Command.TheVariants as kind
use Rattle.escpos_receipt.specs.declared.entry.Entry.{Entry}
use Rattle.escpos_receipt.specs.declared.entry.Entry.TheVariants as entry
use Rattle.escpos_receipt.specs.EntryCommands.{commands_in}

-- A line feed follows the text of a line.
pub text_spelled : (e : Entry) (cs : List Command) → e ≡ entry.Text cs → spell (commands_in e) ≡ spell cs
text_spelled e cs is = ap (λ (x : Entry). spell (commands_in x)) is

pub line_spelled : (e : Entry) (cs : List Command) → e ≡ entry.Line cs → spell (commands_in e) ≡ spell cs ++ LF ∷ []
line_spelled e cs is = ap (λ (x : Entry). spell (commands_in x)) is ∙ flat_map-append row cs (kind.LineFeed ∷ [])

-- The bytes of all commands of these entries.
abbrev pub entries_spelled : List Entry → List ℕ
entries_spelled es = spell (flat_map commands_in es)

parted : (some others : List Entry) → entries_spelled (some ++ others) ≡ entries_spelled some ++ entries_spelled others
parted some others = ap spell (flat_map-append commands_in some others) ∙ flat_map-append row (flat_map commands_in some) (flat_map commands_in others)

pub one_more_entry : (es : List Entry) (i : ℕ) (e : Entry) → i < length es → e ≡ get_or es i e
    → entries_spelled (take (i + 1) es) ≡ entries_spelled (take i es) ++ spell (commands_in e)
one_more_entry es i e h is =
    ap entries_spelled (ap (λ n. take n es) (add-one i) ∙ take-suc es i e h ∙ ap (λ v. take i es ++ v ∷ []) (sym is)) ∙ parted (take i es) (e ∷ [])
    ∙ ap (λ v. entries_spelled (take i es) ++ spell v) (append-nil (commands_in e))

pub entries_and_rest : (es : List Entry) (i : ℕ) → entries_spelled es ≡ entries_spelled (take i es) ++ entries_spelled (drop i es)
entries_and_rest es i = ap entries_spelled (sym (take-append-drop i es)) ∙ parted (take i es) (drop i es)
