-- The cells of a receipt's strings read as the strings.
use Rattle.std.proofs.Common.{◌≡◌, ℕ, List, [], ◌∷◌, ◌++◌, Option, None, Some, Ok, Err, map, refl, sym, ◌∙◌, ap, subst, inl, inr}
use Rattle.std.specs.Prelude.{chars, Bool, true, false, cond, option_map, Result}
use Rattle.unicode_normalization.specs.Forms.{nfc}
use Rattle.hex.specs.Hex.{decode_of}
use Rattle.serde_json.specs.Data.{Data}
use Rattle.serde_json.specs.Data as json
use Rattle.std.specs.Str.{bytes_eq}
use Rattle.std.specs.Prelude.{codes}
use Rattle.escpos_command.specs.declared.command.Command.{Command}
use Rattle.escpos_command.specs.declared.bars.Symbology.{Symbology}
use Rattle.escpos_command.specs.declared.bars.Form.TheVariants.{B}
use Rattle.escpos_command.specs.declared.command.Command.TheVariants as kind
use Rattle.escpos_command.specs.CommandTable.{set_to}
use Rattle.escpos_command.specs.declared.setting.SettingKind.TheVariants as sets
use Rattle.escpos_command.specs.declared.command.Command.TheVariants.{Char, LineFeed, Set}
use Rattle.escpos_command.specs.Barcodes.{barcode, is_barcode}
use Rattle.escpos_command.specs.QrCodes.{is_qr_data}
use Rattle.escpos_command.specs.Rasters.{picture, is_raster}
use Rattle.escpos_paper.specs.declared.style.Style.{Style}
use Rattle.escpos_command.specs.Text.{characters}
use Rattle.escpos_paper.specs.Cells.{cell}
use Rattle.escpos_paper.specs.Styles.{style}
use Rattle.escpos_paper.proofs.OneMore.{style-snoc}
use Rattle.escpos_text.specs.declared.encoding.TextFault.{TextFault}
use Rattle.escpos_text.specs.Laws.{read_back}
use Rattle.escpos_text.specs.Reading.{reads}
use Rattle.escpos_text.specs.SpelledTexts.{AreOfText}
use Rattle.escpos_text.specs.Writing.{written}
use Rattle.escpos_text.proofs.TextLaws.{is_read_back, same_text, written-of_text}
use Rattle.escpos_receipt.specs.declared.member.Member.{Member}
use Rattle.escpos_receipt.specs.declared.member.Member.TheVariants as has
use Rattle.escpos_receipt.specs.declared.options.ReceiptOptions.{ReceiptOptions}
use Rattle.escpos_receipt.specs.Describes.{DescribesWith, Follow}
use Rattle.escpos_receipt.specs.Entries.{◌>>=◌, all, bars_of, bytes_of, command_of, commands_or, in_force, columns_in, encoding_for, laid_out, line_ended, lines_of, member_of, nothing, number_in, one, or_fault, qr_commands, qr_of, qr_parts, raster_of, size_and_digits, spacing_in, symbology_and_content, tables_in, text_in, with_line_feed}
use Rattle.escpos_text.specs.declared.encoding.Encoding.{Encoding}
use Rattle.serde_json.specs.Find.{as_str}
use Rattle.escpos_layout.specs.Writing.{lines_written}
use Rattle.escpos_layout.proofs.InRange.{first_line, no_line}
use Rattle.escpos_layout.proofs.Parts.{in_force_after}
use Rattle.escpos_paper.proofs.AtRest.{AreStill, moves}
use Rattle.escpos_receipt.proofs.LaidOut.{Laws, layout_prints, still_both, still_ended, written_lines}
use Rattle.escpos_receipt.specs.ReadBack.{Prints, PrintStrings, PrintsAsWritten, lines_in, string_in}
use Rattle.escpos_paper.specs.Typed.{typed}
use Rattle.escpos_layout.specs.OnPaper.{read_cell}
use Rattle.escpos_receipt.specs.declared.in_force.InForce.{InForce}

-- ## Cells

-- A text's cells read as its commands do by the set and the table that are in force before them.
text_read : (before cs : List Command) → AreOfText cs → map read_cell (typed before cs) ≡ read_back (style before).character_set (style before).table cs
text_read before [] h = refl
text_read before (Char b ∷ cs) h =
    ap (λ l. reads (style before).character_set (style before).table b ∷ l) (text_read (before ++ Char b ∷ []) cs h.2)
    ∙ ap (λ (s : Style). reads (style before).character_set (style before).table b ∷ read_back s.character_set s.table cs) (style-snoc before (Char b))
text_read before (Set (sets.Table, Some n) ∷ cs) h =
    text_read (before ++ Set (sets.Table, Some n) ∷ []) cs h.1 ∙ ap (λ (s : Style). read_back s.character_set s.table cs) (style-snoc before (Set (sets.Table, Some n)))
text_read before (c ∷ cs) h = absurd h

-- A line feed has no cell.
typed_line : (before cs : List Command) → typed before (cs ++ LineFeed ∷ []) ≡ typed before cs
typed_line before [] = refl
typed_line before (c ∷ cs) = ap (λ l. map (cell (style before)) (characters c) ++ l) (typed_line (before ++ c ∷ []) cs)

-- ## Strings

-- What a string is written as.
text_prints : (options : ReceiptOptions) (earlier : List Data) (before cs : List Command) (text : List ℕ)
    → written (encoding_for options earlier before) text ≡ Ok cs → Prints (encoding_for options earlier before) before cs text
text_prints options earlier before cs text is =
    let e = encoding_for options earlier before in
    let same = text_read before cs (written-of_text e text cs is) in
    record {
      written = cs;
      ends = inl refl;
      cells = same;
      reads_back = is_read_back e text cs is;
      exactly = λ none plain. same ∙ same_text e text cs is none plain;
    }

line_prints : (options : ReceiptOptions) (earlier : List Data) (before cs : List Command) (text : List ℕ)
    → written (encoding_for options earlier before) text ≡ Ok cs → Prints (encoding_for options earlier before) before (cs ++ LineFeed ∷ []) text
unfolding text_prints
line_prints options earlier before cs text is =
    let p = text_prints options earlier before cs text is in
    let same = ap (map read_cell) (typed_line before cs) in
    record {
      written = cs;
      ends = inr refl;
      cells = same ∙ p.cells;
      reads_back = p.reads_back;
      exactly = λ none plain. same ∙ p.exactly none plain;
    }

of_text : (r : Result (List Command) TextFault) (part : List Command) → or_fault r ≡ Ok part → r ≡ Ok part
of_text (Ok cs) part h = cc
of_text (Err f) part h = absurd cc

of_line : (r : Result (List Command) TextFault) (part : List Command) → with_line_feed (or_fault r) ≡ Ok part → (cs : List Command) × (r ≡ Ok cs) × (part ≡ cs ++ LineFeed ∷ [])
of_line (Ok cs) part h = (cs, refl, cc)
of_line (Err f) part h = absurd cc

string_prints : (options : ReceiptOptions) (earlier : List Data) (before part : List Command) (m : Option (Member × Data)) (string : List ℕ)
    → commands_or (in_force options earlier before) m ≡ Ok part → string_in m ≡ Some string → Prints (encoding_for options earlier before) before part (nfc (chars string))
string_prints options earlier before part None string means is = absurd cc
string_prints options earlier before part (Some (has.Text, v)) string means is =
    let e = encoding_for options earlier before in
    text_prints options earlier before part (nfc (chars string))
    (of_text (written e (nfc (chars string))) part (ap (text_in e) (sym is) ∙ means))
string_prints options earlier before part (Some (has.Line, v)) string means is =
    let e = encoding_for options earlier before in
    let (cs, written_so, ends) = of_line (written e (nfc (chars string))) part (ap (λ o. with_line_feed (text_in e o)) (sym is) ∙ means) in
    subst (λ l. Prints e before l (nfc (chars string))) (sym ends) (line_prints options earlier before cs (nfc (chars string)) written_so)
string_prints options earlier before part (Some m) string means is = absurd cc

-- ## Entries without a string

-- A command that is made of what may be there has no character and moves nothing, if none that is made so has one or does so.
abbrev IsSilent : Command → Type 0
IsSilent c = (characters c ≡ []) × (moves c ≡ false)

of_some : (x c : Command) → Some x ≡ Some c → IsSilent x → IsSilent c
of_some x c e h =
    let same : x ≡ c = cc in
    subst IsSilent same h

mapped : {A : Type 0} (f : A → Command) → ((a : A) → IsSilent (f a)) → (o : Option A) (c : Command) → option_map f o ≡ Some c → IsSilent c
mapped f h None c e = absurd cc
mapped f h (Some a) c e = of_some (f a) c e (h a)

chained : {A : Type 0} (f : A → Option Command) → ((a : A) (c : Command) → f a ≡ Some c → IsSilent c) → (o : Option A) (c : Command)
    → (o >>= f) ≡ Some c → IsSilent c
chained f h None c e = absurd cc
chained f h (Some a) c e = h a c e

-- One that is there under a condition.
where_true : (b : Bool) (x c : Command) → IsSilent x → cond b (Some x) None ≡ Some c → IsSilent c
where_true true x c h e = of_some x c e h
where_true false x c h e = absurd cc

spacing_silent : (v : Data) (c : Command) → spacing_in v ≡ Some c → IsSilent c
spacing_silent (json.string name) c e = where_true (bytes_eq name (codes "default")) (kind.Set (sets.DefaultSpacing, None)) c (refl, refl) e
spacing_silent v c e = mapped (set_to sets.LineSpacing) (λ _. (refl, refl)) (number_in 0 255 v) c e

bars_silent : (p : Symbology × List ℕ) (c : Command) → bars_of p.0 p.1 ≡ Some c → IsSilent c
bars_silent p c e = where_true (is_barcode (barcode B p.0 p.1)) (kind.Bars (barcode B p.0 p.1)) c (refl, refl) e

raster_silent : (scale width height : ℕ) (dots : List ℕ) (c : Command) → raster_of scale width height dots ≡ Some c → IsSilent c
raster_silent scale width height dots c e =
    where_true (is_raster (picture scale width height dots)) (kind.Raster (picture scale width height dots)) c (refl, refl) e

command_silent : (m : Member) (v : Data) (c : Command) → command_of m v ≡ Some c → IsSilent c
command_silent has.Feed v c e = mapped kind.FeedLines (λ _. (refl, refl)) _ c e
command_silent has.Units v c e = mapped kind.FeedUnits (λ _. (refl, refl)) _ c e
command_silent has.Spacing v c e = spacing_silent v c e
command_silent has.Pulse v c e = mapped kind.Pulse (λ _. (refl, refl)) _ c e
command_silent has.Mode v c e = mapped (set_to sets.Mode) (λ _. (refl, refl)) _ c e
command_silent has.Bold v c e = mapped _ (λ _. (refl, refl)) _ c e
command_silent has.Strike v c e = mapped (set_to sets.DoubleStrike) (λ _. (refl, refl)) _ c e
command_silent has.Reverse v c e = mapped (set_to sets.Reverse) (λ _. (refl, refl)) _ c e
command_silent has.Underline v c e = mapped (set_to sets.Underline) (λ _. (refl, refl)) _ c e
command_silent has.Font v c e = mapped (set_to sets.Font) (λ _. (refl, refl)) _ c e
command_silent has.Table v c e = mapped (set_to sets.Table) (λ _. (refl, refl)) _ c e
command_silent has.CharacterSet v c e = mapped (set_to sets.CharacterSet) (λ _. (refl, refl)) _ c e
command_silent has.Align v c e = mapped (set_to sets.Align) (λ _. (refl, refl)) _ c e
command_silent has.Upside v c e = mapped (set_to sets.UpsideDown) (λ _. (refl, refl)) _ c e
command_silent has.Size v c e = mapped (set_to sets.Size) (λ _. (refl, refl)) _ c e
command_silent has.BarHeight v c e = mapped (set_to sets.BarHeight) (λ _. (refl, refl)) _ c e
command_silent has.BarWidth v c e = mapped (set_to sets.BarWidth) (λ _. (refl, refl)) _ c e
command_silent has.Hri v c e = mapped (set_to sets.HriPlace) (λ _. (refl, refl)) _ c e
command_silent has.HriFont v c e = mapped (set_to sets.HriFont) (λ _. (refl, refl)) _ c e
command_silent has.Bars v c e = chained (λ (p : Symbology × List ℕ). bars_of p.0 p.1) bars_silent (symbology_and_content v) c e
command_silent has.Raster v c e =
    chained (λ (p : ℕ × ℕ × ℕ × List ℕ). bytes_of (decode_of p.3) >>= raster_of p.0 p.1 p.2)
    (λ p d. chained (raster_of p.0 p.1 p.2) (raster_silent p.0 p.1 p.2) (bytes_of (decode_of p.3)) d) (size_and_digits v) c e
command_silent has.Cut v c e = mapped _ (λ _. (refl, refl)) _ c e
command_silent has.FeedCut v c e = mapped kind.Cut (λ _. (refl, refl)) _ c e
command_silent m v c e = absurd cc

-- What such entries give types nothing.
one_typed : (before part : List Command) (o : Option Command) → ((c : Command) → o ≡ Some c → IsSilent c) → one o ≡ Ok part → typed before part ≡ []
one_typed before part None h e = absurd cc
one_typed before part (Some c) h e =
    let same : c ∷ [] ≡ part = cc in
    subst (λ l. typed before l ≡ []) same (ap (λ bs. map (cell (style before)) bs ++ []) (h c refl).0)

code_where : (before part : List Command) (b : Bool) (p : ℕ × ℕ × List ℕ) → all (cond b (Some (qr_commands p.0 p.1 p.2)) None) ≡ Ok part → typed before part ≡ []
code_where before part true p e =
    let same : qr_commands p.0 p.1 p.2 ≡ part = cc in
    subst (λ l. typed before l ≡ []) same refl
code_where before part false p e = absurd cc

code_typed : (before part : List Command) (o : Option (ℕ × ℕ × List ℕ)) → all (o >>= (λ p. qr_of p.0 p.1 p.2)) ≡ Ok part → typed before part ≡ []
code_typed before part None e = absurd cc
code_typed before part (Some p) e = code_where before part (is_qr_data p.2) p e

choice_typed : (before part : List Command) (o : Option (List ℕ)) → nothing o ≡ Ok part → typed before part ≡ []
choice_typed before part None e = absurd cc
choice_typed before part (Some ns) e =
    let same : [] ≡ part = cc in
    subst (λ l. typed before l ≡ []) same refl

no_layout : (f : InForce) (o : Option (List (List ℕ))) (part : List Command) → laid_out f o ≡ Ok part → o ≡ None → ⊥
no_layout f None part means none = cc
no_layout f (Some lines) part means none = cc

nothing_typed : (f : InForce) (before part : List Command) (m : Option (Member × Data)) → commands_or f m ≡ Ok part → string_in m ≡ None
    → lines_in f.line m ≡ None → typed before part ≡ []
nothing_typed f before part None means none plain = absurd cc
nothing_typed f before part (Some (has.Text, v)) means none plain = let bad = ap (text_in f.encoding) (sym none) ∙ means in absurd cc
nothing_typed f before part (Some (has.Line, v)) means none plain = let bad = ap (λ o. with_line_feed (text_in f.encoding o)) (sym none) ∙ means in absurd cc
nothing_typed f before part (Some (has.Pair, v)) means none plain = absurd (no_layout f (lines_of (columns_in f.line) has.Pair v) part means plain)
nothing_typed f before part (Some (has.Row, v)) means none plain = absurd (no_layout f (lines_of (columns_in f.line) has.Row v) part means plain)
nothing_typed f before part (Some (has.Rule, v)) means none plain = absurd (no_layout f (lines_of (columns_in f.line) has.Rule v) part means plain)
nothing_typed f before part (Some (has.Wrap, v)) means none plain = absurd (no_layout f (lines_of (columns_in f.line) has.Wrap v) part means plain)
nothing_typed f before part (Some (has.Qr, v)) means none plain = code_typed before part (qr_parts v) means
nothing_typed f before part (Some (has.Tables, v)) means none plain = choice_typed before part (tables_in v) means
nothing_typed f before part (Some (m, v)) means none plain = one_typed before part (command_of m v) (command_silent m v) means

-- ## No entry moves anything

text_still : (cs : List Command) → AreOfText cs → AreStill cs
text_still [] h = tt
text_still (Char b ∷ cs) h = (refl, text_still cs h.2)
text_still (Set (sets.Table, Some n) ∷ cs) h = (refl, text_still cs h.1)
text_still (c ∷ cs) h = absurd h

text_in_still : (e : Encoding) (o : Option (List ℕ)) (part : List Command) → text_in e o ≡ Ok part → AreStill part
text_in_still e None part means = absurd cc
text_in_still e (Some s) part means =
    let text = nfc (chars s) in
    text_still part (written-of_text e text part (of_text (written e text) part means))

line_in_still : (e : Encoding) (o : Option (List ℕ)) (part : List Command) → with_line_feed (text_in e o) ≡ Ok part → AreStill part
line_in_still e None part means = absurd cc
line_in_still e (Some s) part means =
    let text = nfc (chars s) in
    let (cs, written_so, ends) = of_line (written e text) part means in
    subst AreStill (sym ends) (still_both cs (LineFeed ∷ []) (text_still cs (written-of_text e text cs written_so)) (refl, tt))

lines_still : (e : Encoding) (lines : List (List ℕ)) (cs : List Command) → lines_written e lines ≡ Ok cs → AreStill cs
lines_still e [] cs h = subst AreStill (sym (no_line e cs h)) tt
lines_still e (line ∷ lines) cs h =
    let f = first_line e line lines cs h in
    subst AreStill (sym f.joined)
    (still_both f.text (LineFeed ∷ f.rest) (text_still f.text (written-of_text e line f.text f.text_written))
    (refl, lines_still (in_force_after e f.text) lines f.rest f.rest_written))

layout_still : (f : InForce) (o : Option (List (List ℕ))) (part : List Command) → laid_out f o ≡ Ok part → AreStill part
layout_still f None part means = absurd cc
layout_still f (Some lines) part means =
    let (cs, is, joined) = written_lines f.line.in_line (lines_written f.encoding lines) part means in
    subst AreStill (sym joined) (still_both (line_ended f.line.in_line) cs (still_ended f.line.in_line) (lines_still f.encoding lines cs is))

code_still_where : (part : List Command) (b : Bool) (p : ℕ × ℕ × List ℕ) → all (cond b (Some (qr_commands p.0 p.1 p.2)) None) ≡ Ok part → AreStill part
code_still_where part true p e =
    let same : qr_commands p.0 p.1 p.2 ≡ part = cc in
    subst AreStill same (refl, (refl, (refl, (refl, tt))))
code_still_where part false p e = absurd cc

code_still : (part : List Command) (o : Option (ℕ × ℕ × List ℕ)) → all (o >>= (λ p. qr_of p.0 p.1 p.2)) ≡ Ok part → AreStill part
code_still part None e = absurd cc
code_still part (Some p) e = code_still_where part (is_qr_data p.2) p e

choice_still : (part : List Command) (o : Option (List ℕ)) → nothing o ≡ Ok part → AreStill part
choice_still part None e = absurd cc
choice_still part (Some ns) e =
    let same : [] ≡ part = cc in
    subst AreStill same tt

one_still : (part : List Command) (o : Option Command) → ((c : Command) → o ≡ Some c → IsSilent c) → one o ≡ Ok part → AreStill part
one_still part None h e = absurd cc
one_still part (Some c) h e =
    let same : c ∷ [] ≡ part = cc in
    subst AreStill same ((h c refl).1, tt)

part_still : (f : InForce) (part : List Command) (m : Option (Member × Data)) → commands_or f m ≡ Ok part → AreStill part
part_still f part None means = absurd cc
part_still f part (Some (has.Text, v)) means = text_in_still f.encoding (as_str v) part means
part_still f part (Some (has.Line, v)) means = line_in_still f.encoding (as_str v) part means
part_still f part (Some (has.Pair, v)) means = layout_still f (lines_of (columns_in f.line) has.Pair v) part means
part_still f part (Some (has.Row, v)) means = layout_still f (lines_of (columns_in f.line) has.Row v) part means
part_still f part (Some (has.Rule, v)) means = layout_still f (lines_of (columns_in f.line) has.Rule v) part means
part_still f part (Some (has.Wrap, v)) means = layout_still f (lines_of (columns_in f.line) has.Wrap v) part means
part_still f part (Some (has.Qr, v)) means = code_still part (qr_parts v) means
part_still f part (Some (has.Tables, v)) means = choice_still part (tables_in v) means
part_still f part (Some (m, v)) means = one_still part (command_of m v) (command_silent m v) means

-- ## Entries

follow_print : Laws → (options : ReceiptOptions) (earlier : List Data) (before : List Command) (ds : List Data) (cs : List Command) → AreStill before
    → Follow options earlier before ds cs → PrintStrings options earlier before ds cs
follow_print laws options earlier before [] cs still e = e
follow_print laws options earlier before (d ∷ ds) cs still (part, more, means, joined, rest) = (
  part,
  more,
  joined,
  λ string is. string_prints options earlier before part (member_of d) string means is,
  λ lines is. layout_prints laws options earlier before part (member_of d) lines still means is,
  λ none plain. nothing_typed (in_force options earlier before) before part (member_of d) means none plain,
  follow_print laws options (earlier ++ d ∷ []) (before ++ part) ds more (still_both before part still (part_still (in_force options earlier before) part (member_of d) means)) rest,
)

pub printed_as_written : Laws → (options : ReceiptOptions) (text : List ℕ) (cs : List Command) → DescribesWith options text cs → PrintsAsWritten options text cs
printed_as_written laws options text cs d = (d.entries, d.json, follow_print laws options [] [] d.entries cs tt d.give)
