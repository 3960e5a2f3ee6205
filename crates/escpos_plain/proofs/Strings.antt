-- The rows of a receipt show its strings.
use Rattle.std.proofs.Common.{◌≡◌, ◌≢◌, ℕ, List, [], ◌∷◌, ◌++◌, Option, None, Some, map, refl, sym, ◌∙◌, ap, subst, append_assoc, append-nil, true, false}
use Rattle.std.specs.Prelude.{chars, flat_map, filter_map, All}
use Rattle.std.specs.List.{cons_option}
use Rattle.std.proofs.lemmas.List.{map-append}
use Rattle.std.proofs.lemmas.List.Elements.{All-nil, All-cons, All-head, All-tail}
use Rattle.std.proofs.Math.Seq.{append_snoc}
use Rattle.unicode_normalization.specs.Forms.{nfc}
use Rattle.serde_json.specs.Data.{Data}
use Rattle.escpos_command.specs.declared.command.Command.{Command}
use Rattle.escpos_command.specs.Text.{characters, text}
use Rattle.escpos_paper.specs.Cells.{cell}
use Rattle.escpos_paper.specs.Rows.{line}
use Rattle.escpos_paper.specs.Printed.{printed}
use Rattle.escpos_paper.specs.Styles.{is_empty, style}
use Rattle.escpos_paper.proofs.Sheets.{empty_line}
use Rattle.escpos_receipt.specs.declared.options.ReceiptOptions.{ReceiptOptions}
use Rattle.escpos_paper.specs.Typed.{typed}
use Rattle.escpos_layout.specs.OnPaper.{read_cell}
use Rattle.escpos_receipt.specs.Entries.{line_state}
use Rattle.escpos_receipt.specs.ReadBack.{PrintStrings, PrintsAsWritten, lines_at, string_of}
use Rattle.escpos_receipt.specs.Whole.{EachMayFollow, Whole, is_forbidden, is_nonempty}
use Rattle.escpos_plain.specs.Rows.{NoInit, NoLayout, ShowsStrings, all_strings, is_layout, is_layout_member, row_cells, unplaced}
use Rattle.escpos_receipt.specs.declared.member.Member.{Member}
use Rattle.escpos_receipt.specs.declared.member.Member.TheVariants as has
use Rattle.escpos_receipt.specs.Entries.{member_of}
use Rattle.escpos_receipt.specs.ReadBack.{lines_in}
use Rattle.escpos_plain.proofs.AllCells.{all_cells}

-- ## Receipts

-- A receipt has no Init.
no_init_from : (before cs : List Command) → EachMayFollow (before ++ cs) → NoInit cs
no_init_from before [] each = tt
no_init_from before (c ∷ cs) each = (
  λ e.
      let allowed = (each before c cs refl).allowed in
      let bad : true ≡ false = ap is_forbidden (sym e) ∙ allowed in
      cc,
  no_init_from (before ++ c ∷ []) cs (subst EachMayFollow (sym (append_snoc before c cs)) each),
)

empty_list : {X : Type 0} (xs : List X) → is_empty xs ≡ true → xs ≡ []
empty_list [] e = refl
empty_list (x ∷ xs) e = absurd cc

is_empty_where : {X : Type 0} (xs : List X) → is_nonempty xs ≡ false → is_empty xs ≡ true
is_empty_where [] e = refl
is_empty_where (x ∷ xs) e = absurd cc

-- It leaves nothing in the line.
no_line : (w : ℕ) (cs : List Command) → Whole cs → line w cs ≡ []
no_line w cs whole = empty_list (line w cs) (empty_line w cs ∙ is_empty_where (text cs) whole.no_text_left)

-- So all that it types stands in rows.
all_in_rows : (w : ℕ) (cs : List Command) → Whole cs → row_cells (printed w cs) ≡ typed [] cs
all_in_rows w cs whole =
    sym (append-nil (row_cells (printed w cs))) ∙ ap (λ l. row_cells (printed w cs) ++ map unplaced l) (sym (no_line w cs whole))
    ∙ all_cells w cs (no_init_from [] cs whole.in_place)

-- ## Entries

all_left : {X : Type 0} (P : X → Type 0) (xs ys : List X) → All P (xs ++ ys) → All P xs
all_left P [] ys h = All-nil P
all_left P (x ∷ xs) ys h = All-cons P x xs (All-head P x (xs ++ ys) h) (all_left P xs ys (All-tail P x (xs ++ ys) h))

all_right : {X : Type 0} (P : X → Type 0) (xs ys : List X) → All P (xs ++ ys) → All P ys
all_right P [] ys h = h
all_right P (x ∷ xs) ys h = all_right P xs ys (All-tail P x (xs ++ ys) h)

typed_both : (before cs ds : List Command) → typed before (cs ++ ds) ≡ typed before cs ++ typed (before ++ cs) ds
typed_both before [] ds = ap (λ b. typed b ds) (sym (append-nil before))
typed_both before (c ∷ cs) ds =
    ap (λ l. map (cell (style before)) (characters c) ++ l) (typed_both (before ++ c ∷ []) cs ds)
    ∙ ap (λ b. map (cell (style before)) (characters c) ++ (typed (before ++ c ∷ []) cs ++ typed b ds)) (append_snoc before c cs)
    ∙ sym (append_assoc (map (cell (style before)) (characters c)) (typed (before ++ c ∷ []) cs) (typed (before ++ c ∷ cs) ds))

-- What the cells that are typed after these commands show.
abbrev showing : List Command → List Command → List (Option ℕ)
showing before cs = map read_cell (typed before cs)

showing_both : (before cs ds : List Command) → showing before (cs ++ ds) ≡ showing before cs ++ showing (before ++ cs) ds
showing_both before cs ds = ap (map read_cell) (typed_both before cs ds) ∙ map-append read_cell (typed before cs) (typed (before ++ cs) ds)

abbrev some_of : List ℕ → List (Option ℕ)
some_of cs = map (λ c. Some c) cs

-- The strings of one entry and of those after it.
abbrev strings_with : Option (List ℕ) → List Data → List ℕ
strings_with string ds = flat_map (λ s. nfc (chars s)) (cons_option string (filter_map string_of ds))

abbrev IsOther : ℕ → Type 0
IsOther c = c ≢ 0xA0

one_entry : (before part more : List Command) (ds : List Data) (string : Option (List ℕ))
    → ((s : List ℕ) → string ≡ Some s → All IsOther (nfc (chars s)) → showing before part ≡ some_of (nfc (chars s)))
    → (string ≡ None → typed before part ≡ [])
    → (All IsOther (all_strings ds) → showing (before ++ part) more ≡ some_of (all_strings ds))
    → All IsOther (strings_with string ds) → showing before (part ++ more) ≡ some_of (strings_with string ds)
one_entry before part more ds None says silent rest plain =
    showing_both before part more ∙ ap (λ l. map read_cell l ++ showing (before ++ part) more) (silent refl) ∙ rest plain
one_entry before part more ds (Some s) says silent rest plain =
    let cs = nfc (chars s) in
    showing_both before part more
    ∙ ap (λ l. l ++ showing (before ++ part) more) (says s refl (all_left IsOther cs (all_strings ds) plain))
    ∙ ap (λ l. some_of cs ++ l) (rest (all_right IsOther cs (all_strings ds) plain))
    ∙ sym (map-append (λ c. Some c) cs (all_strings ds))

-- An entry that isn't a layout has no lines.
no_lines : (options : ReceiptOptions) (before : List Command) (d : Data) → is_layout d ≡ false → lines_at (line_state options before) d ≡ None
no_lines options before d h = without (member_of d) h
  where
    without : (m : Option (Member × Data)) → is_layout_member m ≡ false → lines_in (line_state options before) m ≡ None
    without None h = refl
    without (Some (has.Pair, v)) h = absurd cc
    without (Some (has.Row, v)) h = absurd cc
    without (Some (has.Rule, v)) h = absurd cc
    without (Some (has.Wrap, v)) h = absurd cc
    without (Some (m, v)) h = refl

all_shown : (options : ReceiptOptions) → options.replacement ≡ None → (earlier : List Data) (before : List Command) (ds : List Data) (cs : List Command)
    → PrintStrings options earlier before ds cs → NoLayout ds → All IsOther (all_strings ds) → showing before cs ≡ some_of (all_strings ds)
all_shown options none earlier before [] cs e simple plain = ap (showing before) e
all_shown options none earlier before (d ∷ ds) cs (part, more, joined, says, laid, silent, rest) simple plain =
    ap (showing before) joined
    ∙ one_entry before part more ds (string_of d) (λ s is other. (says s is).exactly none other)
    (λ no_string. silent no_string (no_lines options before d simple.0))
    (all_shown options none (earlier ++ d ∷ []) (before ++ part) ds more rest simple.1) plain

pub shows_strings : (options : ReceiptOptions) (text : List ℕ) (cs : List Command) → PrintsAsWritten options text cs → Whole cs
    → options.replacement ≡ None → (w : ℕ) → ShowsStrings text (printed w cs)
shows_strings options text cs (entries, json, strings) whole none w = (
  entries,
  json,
  λ simple plain. ap (map read_cell) (all_in_rows w cs whole) ∙ all_shown options none [] [] entries cs strings simple plain,
)
