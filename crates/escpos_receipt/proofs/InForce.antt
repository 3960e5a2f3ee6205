-- What is in force after one more entry.
use Rattle.std.proofs.Common.{◌≡◌, ℕ, List, [], ◌∷◌, ◌++◌, Option, None, Some, refl, sym, ◌∙◌, ap, append_assoc, append-nil, Bool, true, false, cond}
use Rattle.std.specs.Prelude.{◌||◌, ◌&&◌, if◌then◌else◌, not, filter_map}
use Rattle.std.specs.List.{cons_option}
use Rattle.std.proofs.lemmas.List.Elements.{filter_map-append}
use Rattle.std.specs.Option.{unwrap_or}
use Rattle.serde_json.specs.Data.{Data}
use Rattle.escpos_command.specs.declared.command.Command.{Command}
use Rattle.escpos_command.specs.Graphics.{StoredPicture, has_its_dots}
use Rattle.escpos_command.specs.Settings.{last_or, sets_graphics, sets_stored, stored, stored_graphics}
use Rattle.escpos_command.specs.Text.{characters, ends_line, is_some, text}
use Rattle.escpos_command.specs.declared.command.Command.TheVariants.{GraphicsPrint, GraphicsStore, Init, QrPrint, QrStore}
use Rattle.escpos_command.proofs.Lines.{text-snoc}
use Rattle.escpos_command.proofs.Settings.{graphics-snoc, stored-snoc}
use Rattle.escpos_receipt.specs.Whole.{has_text, is_nonempty}
use Rattle.escpos_paper.specs.Styles.{power_on, set_after, sets_character_set, sets_table, style, style_after}
use Rattle.escpos_paper.specs.declared.style.Style.{Style}
use Rattle.escpos_paper.proofs.OneMore.{style-snoc}
use Rattle.escpos_text.specs.Choices.{usual_tables}
use Rattle.escpos_receipt.specs.declared.options.ReceiptOptions.{ReceiptOptions}
use Rattle.escpos_receipt.specs.Entries.{at_table, chosen_by, encoding_for, in_force, line_state}
use Rattle.escpos_receipt.specs.EntryCommands.{encoding_after, ends_where, force_after, graphics_after, line_after, line_step, stored_after, value_after}

-- ## Commands

pub table_from : (before cs : List Command) → (style (before ++ cs)).table ≡ value_after sets_table 0 (style before).table cs
table_from before [] = ap (λ l. (style l).table) (append-nil before)
table_from before (c ∷ cs) =
    ap (λ l. (style l).table) (sym (append_assoc before (c ∷ []) cs)) ∙ table_from (before ++ c ∷ []) cs
    ∙ ap (λ (s : Style). value_after sets_table 0 s.table cs) (style-snoc before c)

pub set_from : (before cs : List Command) → (style (before ++ cs)).character_set ≡ value_after sets_character_set 0 (style before).character_set cs
set_from before [] = ap (λ l. (style l).character_set) (append-nil before)
set_from before (c ∷ cs) =
    ap (λ l. (style l).character_set) (sym (append_assoc before (c ∷ []) cs)) ∙ set_from (before ++ c ∷ []) cs
    ∙ ap (λ (s : Style). value_after sets_character_set 0 s.character_set cs) (style-snoc before c)

-- ## Choices

of_option : (start : List ℕ) (o : Option (List ℕ)) → last_or start (cons_option o []) ≡ unwrap_or o start
of_option start None = refl
of_option start (Some ns) = refl

joined : (start : List ℕ) (xs ys : List (List ℕ)) → last_or start (xs ++ ys) ≡ last_or (last_or start xs) ys
joined start [] ys = refl
joined start (x ∷ xs) ys = joined x xs ys

choice_from : (start : List ℕ) (ds : List Data) (d : Data) → last_or start (filter_map chosen_by (ds ++ d ∷ [])) ≡ unwrap_or (chosen_by d) (last_or start (filter_map chosen_by ds))
choice_from start ds d =
    ap (last_or start) (filter_map-append chosen_by ds (d ∷ [])) ∙ joined start (filter_map chosen_by ds) (filter_map chosen_by (d ∷ []))
    ∙ of_option (last_or start (filter_map chosen_by ds)) (chosen_by d)

encoding-snoc : (options : ReceiptOptions) (ds : List Data) (cs : List Command) (d : Data) (part : List Command)
    → encoding_for options (ds ++ d ∷ []) (cs ++ part) ≡ encoding_after (encoding_for options ds cs) d part
encoding-snoc options ds cs d part = cc (set_from cs part, table_from cs part, choice_from usual_tables ds d)

-- ## Lines

flag_of : (e : Bool) (t more : List ℕ) → is_nonempty (cond e [] t ++ more) ≡ (is_nonempty more || is_nonempty t && not e)
flag_of true [] [] = refl
flag_of true [] (y ∷ more) = refl
flag_of true (x ∷ t) [] = refl
flag_of true (x ∷ t) (y ∷ more) = refl
flag_of false [] [] = refl
flag_of false [] (y ∷ more) = refl
flag_of false (x ∷ t) [] = refl
flag_of false (x ∷ t) (y ∷ more) = refl

ends_as : (cs : List Command) (c : Command) → ends_line cs c ≡ ends_where (is_some (stored cs)) (is_some (stored_graphics cs)) c
ends_as cs QrPrint = refl
ends_as cs (GraphicsPrint fn) = refl
ends_as cs c = refl

stored_as : (o : Option (List ℕ)) (c : Command) → is_some (set_after sets_stored None o c) ≡ stored_after (is_some o) c
stored_as o (QrStore bytes) = refl
stored_as o Init = refl
stored_as o c = refl

stored_if : (fits : Bool) (picture : StoredPicture) (o : Option StoredPicture) → is_some (unwrap_or (if fits then Some (Some picture) else None) o) ≡ (fits || is_some o)
stored_if true picture o = refl
stored_if false picture o = refl

graphics_as : (o : Option StoredPicture) (c : Command) → is_some (set_after sets_graphics None o c) ≡ graphics_after (is_some o) c
graphics_as o (GraphicsStore picture) = stored_if (has_its_dots picture) picture o
graphics_as o (GraphicsPrint fn) = refl
graphics_as o Init = refl
graphics_as o c = refl

line_one : (options : ReceiptOptions) (cs : List Command) (c : Command) → line_state options (cs ++ c ∷ []) ≡ line_step (line_state options cs) c
line_one options cs c =
    let s : at_table power_on.table (style (cs ++ c ∷ [])) ≡ at_table power_on.table (style_after (at_table power_on.table (style cs)) c) =
    ap (at_table power_on.table) (style-snoc cs c) in
    let text = ap is_nonempty (text-snoc cs c) ∙ flag_of (ends_line cs c) (text cs) (characters c)
    ∙ ap (λ b. is_nonempty (characters c) || has_text cs && not b) (ends_as cs c) in
    let kept = ap is_some (stored-snoc cs c) ∙ stored_as (stored cs) c in
    let pictures = ap is_some (graphics-snoc cs c) ∙ graphics_as (stored_graphics cs) c in
    cc (s, text, kept, pictures)

line_from : (options : ReceiptOptions) (cs part : List Command) → line_state options (cs ++ part) ≡ line_after (line_state options cs) part
line_from options cs [] = ap (line_state options) (append-nil cs)
line_from options cs (c ∷ part) =
    ap (line_state options) (sym (append_assoc cs (c ∷ []) part)) ∙ line_from options (cs ++ c ∷ []) part
    ∙ ap (λ l. line_after l part) (line_one options cs c)

-- ## Entries

pub in_force-snoc : (options : ReceiptOptions) (ds : List Data) (cs : List Command) (d : Data) (part : List Command)
    → in_force options (ds ++ d ∷ []) (cs ++ part) ≡ force_after (in_force options ds cs) d part
in_force-snoc options ds cs d part = cc (encoding-snoc options ds cs d part, line_from options cs part)
