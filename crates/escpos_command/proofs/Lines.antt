-- The text of the line after one more command, and after commands that come after others: of those, only the data that is
-- stored matters.
use Rattle.std.proofs.Common.{◌≡◌, List, [], ◌∷◌, ◌++◌, refl, sym, ◌∙◌, ap, append_assoc, append-nil, Bool, true, false, cond, None}
use Rattle.std.specs.Prelude.{◌||◌}
use Rattle.std.specs.Option.{unwrap_or}
use Rattle.std.proofs.Math.Seq.{append_snoc}
use Rattle.escpos_command.specs.declared.command.Command.{Command}
use Rattle.escpos_command.specs.declared.command.Command.TheVariants as kind
use Rattle.escpos_command.specs.Settings.{is_init, sets_graphics, stored, stored_graphics, sets_stored}
use Rattle.escpos_command.specs.Text.{text, text_after, ends_line, ends_later, characters, is_some}
use Rattle.escpos_command.proofs.Settings.{graphics-snoc, or_false, or_true, stored-snoc}

or_assoc : (a b c : Bool) → ((a || b) || c) ≡ (a || (b || c))
or_assoc true b c = refl
or_assoc false b c = refl

-- ## One more command

pub ends_later-snoc : (before cs : List Command) (c : Command) → ends_later before (cs ++ c ∷ []) ≡ (ends_later before cs || ends_line (before ++ cs) c)
ends_later-snoc before [] c = or_false (ends_line before c) ∙ ap (λ b. ends_line b c) (sym (append-nil before))
ends_later-snoc before (d ∷ cs) c =
    ap (λ b. ends_line before d || b) (ends_later-snoc (before ++ d ∷ []) cs c)
    ∙ ap (λ bs. ends_line before d || (ends_later (before ++ d ∷ []) cs || ends_line bs c)) (append_snoc before d cs)
    ∙ sym (or_assoc (ends_line before d) (ends_later (before ++ d ∷ []) cs) (ends_line (before ++ d ∷ cs) c))

text_by : (before cs : List Command) (c : Command) (b : Bool) → ends_line (before ++ cs) c ≡ b
    → text_after before (cs ++ c ∷ []) ≡ cond b [] (text_after before cs) ++ characters c
text_by before [] c true h = append-nil (characters c)
text_by before [] c false h = append-nil (characters c)
text_by before (d ∷ cs) c true h =
    let then = before ++ d ∷ [] in
    let here : ends_line (then ++ cs) c ≡ true = ap (λ bs. ends_line bs c) (append_snoc before d cs) ∙ h in
    ap (λ b. cond b [] (characters d) ++ text_after then (cs ++ c ∷ []))
    (ends_later-snoc then cs c ∙ ap (λ b. ends_later then cs || b) here ∙ or_true (ends_later then cs))
    ∙ text_by then cs c true here
text_by before (d ∷ cs) c false h =
    let then = before ++ d ∷ [] in
    let here : ends_line (then ++ cs) c ≡ false = ap (λ bs. ends_line bs c) (append_snoc before d cs) ∙ h in
    ap (λ b. cond b [] (characters d) ++ text_after then (cs ++ c ∷ []))
    (ends_later-snoc then cs c ∙ ap (λ b. ends_later then cs || b) here ∙ or_false (ends_later then cs))
    ∙ ap (λ t. cond (ends_later then cs) [] (characters d) ++ t) (text_by then cs c false here)
    ∙ sym (append_assoc (cond (ends_later then cs) [] (characters d)) (text_after then cs) (characters c))

pub text-snoc : (cs : List Command) (c : Command) → text (cs ++ c ∷ []) ≡ cond (ends_line cs c) [] (text cs) ++ characters c
text-snoc cs c = text_by [] cs c (ends_line cs c) refl

-- ## Commands after others

-- Commands that have stored the same.
pub record StoreTheSame (before other : List Command) : Type 0 where
  pub codes : stored before ≡ stored other
  pub graphics : stored_graphics before ≡ stored_graphics other

one_more_stored : (before other : List Command) (c : Command) → StoreTheSame before other → StoreTheSame (before ++ c ∷ []) (other ++ c ∷ [])
one_more_stored before other c e = record {
  codes = stored-snoc before c ∙ ap (λ s. cond (is_init c) None (unwrap_or (sets_stored c) s)) e.codes ∙ sym (stored-snoc other c);
  graphics = graphics-snoc before c ∙ ap (λ s. cond (is_init c) None (unwrap_or (sets_graphics c) s)) e.graphics ∙ sym (graphics-snoc other c);
}

same_end : (before other : List Command) (c : Command) → StoreTheSame before other → ends_line before c ≡ ends_line other c
same_end before other kind.QrPrint e = ap is_some e.codes
same_end before other (kind.GraphicsPrint fn) e = ap is_some e.graphics
same_end before other c e = refl

same_end_later : (before other cs : List Command) → StoreTheSame before other → ends_later before cs ≡ ends_later other cs
same_end_later before other [] e = refl
same_end_later before other (c ∷ cs) e =
    ap (λ b. b || ends_later (before ++ c ∷ []) cs) (same_end before other c e)
    ∙ ap (λ b. ends_line other c || b) (same_end_later (before ++ c ∷ []) (other ++ c ∷ []) cs (one_more_stored before other c e))

pub same_text : (before other cs : List Command) → StoreTheSame before other → text_after before cs ≡ text_after other cs
same_text before other [] e = refl
same_text before other (c ∷ cs) e =
    let more = one_more_stored before other c e in
    ap (λ b. cond b [] (characters c) ++ text_after (before ++ c ∷ []) cs) (same_end_later (before ++ c ∷ []) (other ++ c ∷ []) cs more)
    ∙ ap (λ t. cond (ends_later (other ++ c ∷ []) cs) [] (characters c) ++ t) (same_text (before ++ c ∷ []) (other ++ c ∷ []) cs more)
