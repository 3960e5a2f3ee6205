-- The lines of a layout are printed as they are laid out.
use Rattle.std.proofs.Common.{◌≡◌, ◌≤◌, ℕ, List, [], ◌∷◌, ◌++◌, Option, None, Some, Ok, Err, refl, sym, ◌∙◌, ap, subst, append-nil, Bool, true, false, cond, length, arith}
use Rattle.std.specs.Prelude.{◌&&◌, Result, option_map}
use Rattle.std.specs.List.{AllByRecursion}
use Rattle.std.proofs.lemmas.Bool.{leb-true}
use Rattle.serde_json.specs.Data.{Data}
use Rattle.escpos_command.specs.declared.command.Command.{Command}
use Rattle.escpos_command.specs.declared.command.Command.TheVariants.{LineFeed}
use Rattle.escpos_command.specs.Text.{text}
use Rattle.escpos_paper.specs.declared.style.Style.{Style}
use Rattle.escpos_paper.specs.Rows.{area, line, moved}
use Rattle.escpos_paper.proofs.AtRest.{AreStill, still_rest, whole_area}
use Rattle.escpos_paper.specs.Styles.{is_empty, style}
use Rattle.escpos_paper.proofs.OneMore.{style-snoc}
use Rattle.escpos_paper.proofs.Sheets.{empty_line}
use Rattle.escpos_text.specs.declared.encoding.Encoding.{Encoding}
use Rattle.escpos_text.specs.declared.encoding.TextFault.{TextFault}
use Rattle.escpos_layout.specs.declared.row.Field.{Field}
use Rattle.escpos_layout.specs.Columns.{columns_of}
use Rattle.escpos_layout.specs.Layouts.{fields_fit, pair, row, row_width, rule}
use Rattle.escpos_layout.specs.OnPaper.{IsInForce, PrintsLines}
use Rattle.escpos_layout.specs.Sides.{AreNarrow}
use Rattle.escpos_layout.specs.Wrapping.{wrap}
use Rattle.escpos_layout.specs.Writing.{lines_written}
use Rattle.escpos_receipt.specs.declared.member.Member.{Member}
use Rattle.escpos_receipt.specs.declared.member.Member.TheVariants as has
use Rattle.escpos_receipt.specs.declared.options.ReceiptOptions.{ReceiptOptions}
use Rattle.escpos_receipt.specs.Entries.{◌>>=◌, after_line, commands_or, composed_in, encoding_for, in_force, laid_out, line_ended, lines_of, one_character, or_fault, pair_in, row_fields, row_of}
use Rattle.escpos_receipt.specs.ReadBack.{LaysOut, lines_in}
use Rattle.escpos_receipt.specs.Whole.{has_text, is_nonempty}
use Rattle.escpos_receipt.proofs.Following.{line_flag}

-- What escpos_layout says of lines on paper, and of the lines of each layout.
pub record Laws : Type 0 where
  pub printed : (width : ℕ) (before : List Command) (encoding : Encoding) (lines : List (List ℕ)) (commands : List Command)
      → line width before ≡ [] → moved width before ≡ None → IsInForce before encoding
      → AllByRecursion (λ text. length text ≤ columns_of (area width before) (style before)) lines
      → lines_written encoding lines ≡ Ok commands → PrintsLines width before commands encoding lines
  pub wrapped : (columns : ℕ) (text : List ℕ) → AreNarrow columns (wrap columns text)
  pub pairs : (columns : ℕ) (left right : List ℕ) → AreNarrow columns (pair columns left right)
  pub rows : (fields : List Field) → length (row fields) ≡ row_width fields
  pub rules : (columns c : ℕ) → length (rule columns c) ≡ columns

-- ## Lines are narrow

of_some : {X : Type 0} (P : X → Type 0) (x y : X) → Some x ≡ Some y → P x → P y
of_some P x y e h =
    let same : x ≡ y = cc in
    subst P same h

mapped : {A : Type 0} (P : List (List ℕ) → Type 0) (f : A → List (List ℕ)) → ((a : A) → P (f a)) → (o : Option A) (lines : List (List ℕ))
    → option_map f o ≡ Some lines → P lines
mapped P f h None lines e = absurd cc
mapped P f h (Some a) lines e = of_some P (f a) lines e (h a)

and_second : (a b : Bool) → (a && b) ≡ true → b ≡ true
and_second true b e = e
and_second false b e = absurd cc

one_row : Laws → (columns : ℕ) (fields : List Field) (b : Bool) (lines : List (List ℕ)) → (b ≡ true → row_width fields ≤ columns)
    → cond b (Some (row fields ∷ [])) None ≡ Some lines → AreNarrow columns lines
one_row laws columns fields true lines h e =
    let few = h refl in
    let is = laws.rows fields in
    of_some (AreNarrow columns) (row fields ∷ []) lines e (omega (arith, few, is), tt)
one_row laws columns fields false lines h e = absurd cc

row_narrow : Laws → (columns : ℕ) (o : Option (List Field)) (lines : List (List ℕ)) → (o >>= row_of columns) ≡ Some lines → AreNarrow columns lines
row_narrow laws columns None lines e = absurd cc
row_narrow laws columns (Some fields) lines e =
    one_row laws columns fields (fields_fit columns fields) lines (λ fit. leb-true _ _ (and_second _ _ fit)) e

-- The lines of each layout have at most as many characters as a line.
narrow : Laws → (columns : ℕ) (m : Member) (v : Data) (lines : List (List ℕ)) → lines_of columns m v ≡ Some lines → AreNarrow columns lines
narrow laws columns has.Pair v lines e = mapped (AreNarrow columns) (λ p. pair columns p.0 p.1) (λ p. laws.pairs columns p.0 p.1) (pair_in v) lines e
narrow laws columns has.Row v lines e = row_narrow laws columns (row_fields v) lines e
narrow laws columns has.Rule v lines e =
    mapped (AreNarrow columns) (λ c. rule columns c ∷ []) (λ c. let is = laws.rules columns c in (omega (arith, is), tt)) (composed_in v >>= one_character) lines e
narrow laws columns has.Wrap v lines e = mapped (AreNarrow columns) (wrap columns) (laws.wrapped columns) (composed_in v) lines e
narrow laws columns m v lines e = absurd cc

-- ## The line is ended

empty_list : {X : Type 0} (xs : List X) → is_empty xs ≡ true → xs ≡ []
empty_list [] e = refl
empty_list (x ∷ xs) e = absurd cc

empty_where : {X : Type 0} (xs : List X) → is_nonempty xs ≡ false → is_empty xs ≡ true
empty_where [] e = refl
empty_where (x ∷ xs) e = absurd cc

no_text : (cs : List Command) (b : Bool) → has_text cs ≡ b → has_text (cs ++ line_ended b) ≡ false
no_text cs true e = line_flag cs
no_text cs false e = ap has_text (append-nil cs) ∙ e

same_style : (cs : List Command) (b : Bool) → style (cs ++ line_ended b) ≡ style cs
same_style cs true = style-snoc cs LineFeed
same_style cs false = ap style (append-nil cs)

-- No entry moves anything.
pub still_both : (xs ys : List Command) → AreStill xs → AreStill ys → AreStill (xs ++ ys)
still_both [] ys h k = k
still_both (x ∷ xs) ys h k = (h.0, still_both xs ys h.1 k)

pub still_ended : (b : Bool) → AreStill (line_ended b)
still_ended true = (refl, tt)
still_ended false = tt

no_line : (width : ℕ) (cs : List Command) → line width (cs ++ line_ended (has_text cs)) ≡ []
no_line width cs =
    let before = cs ++ line_ended (has_text cs) in
    empty_list (line width before) (empty_line width before ∙ empty_where (text before) (no_text cs (has_text cs) refl))

-- ## Entries

pub written_lines : (b : Bool) (r : Result (List Command) TextFault) (part : List Command) → after_line b (or_fault r) ≡ Ok part
    → (cs : List Command) × (r ≡ Ok cs) × (part ≡ line_ended b ++ cs)
written_lines b (Ok cs) part e =
    let same : line_ended b ++ cs ≡ part = cc in
    (cs, refl, sym same)
written_lines b (Err why) part e = absurd cc

lines_print : Laws → (options : ReceiptOptions) (earlier : List Data) (before part : List Command) (lines : List (List ℕ)) → AreStill before
    → AreNarrow (columns_of options.width (style before)) lines
    → laid_out (in_force options earlier before) (Some lines) ≡ Ok part → LaysOut options before part (encoding_for options earlier before) lines
lines_print laws options earlier before part lines still few means =
    let e = encoding_for options earlier before in
    let start = before ++ line_ended (has_text before) in
    let same = same_style before (has_text before) in
    let at_start = still_both before (line_ended (has_text before)) still (still_ended (has_text before)) in
    let (cs, is, joined) = written_lines (has_text before) (lines_written e lines) part means in
    record {
      commands = cs;
      ended = joined;
      prints = laws.printed options.width start e lines cs (no_line options.width before) (still_rest options.width start at_start).follows
          (record { set = ap (λ (s : Style). s.character_set) (sym same); table = ap (λ (s : Style). s.table) (sym same) })
          (subst (λ a. AllByRecursion (λ text. length text ≤ columns_of a (style start)) lines) (sym (whole_area options.width start at_start))
          (subst (λ (s : Style). AllByRecursion (λ text. length text ≤ columns_of options.width s) lines) (sym same) few)) is;
    }

at_lines : Laws → (options : ReceiptOptions) (earlier : List Data) (before part : List Command) (m : Member) (v : Data) (lines : List (List ℕ)) → AreStill before
    → laid_out (in_force options earlier before) (lines_of (columns_of options.width (style before)) m v) ≡ Ok part
    → lines_of (columns_of options.width (style before)) m v ≡ Some lines
    → LaysOut options before part (encoding_for options earlier before) lines
at_lines laws options earlier before part m v lines still means is =
    lines_print laws options earlier before part lines still (narrow laws _ m v lines is) (ap (laid_out (in_force options earlier before)) (sym is) ∙ means)

pub layout_prints : Laws → (options : ReceiptOptions) (earlier : List Data) (before part : List Command) (m : Option (Member × Data)) (lines : List (List ℕ)) → AreStill before
    → commands_or (in_force options earlier before) m ≡ Ok part → lines_in (in_force options earlier before).line m ≡ Some lines
    → LaysOut options before part (encoding_for options earlier before) lines
layout_prints laws options earlier before part None lines still means is = absurd cc
layout_prints laws options earlier before part (Some (has.Pair, v)) lines still means is = at_lines laws options earlier before part has.Pair v lines still means is
layout_prints laws options earlier before part (Some (has.Row, v)) lines still means is = at_lines laws options earlier before part has.Row v lines still means is
layout_prints laws options earlier before part (Some (has.Rule, v)) lines still means is = at_lines laws options earlier before part has.Rule v lines still means is
layout_prints laws options earlier before part (Some (has.Wrap, v)) lines still means is = at_lines laws options earlier before part has.Wrap v lines still means is
layout_prints laws options earlier before part (Some (m, v)) lines still means is = absurd cc
