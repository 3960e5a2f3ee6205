-- What a line is like after a text, and what the last byte of a text says of it.
use Rattle.std.proofs.Common.{◌≡◌, ℕ, zero, suc, ◌+◌, ◌-◌, ◌<◌, ◌≤◌, List, [], ◌∷◌, ◌++◌, length, take, refl, sym, ◌∙◌, ap, arith, Bool, true, false, slice_index_or, Some}
use Rattle.std.specs.Prelude.{◌==◌, ◌&&◌, not}
use Rattle.escpos_command.specs.declared.bytes.TheConstants.{LF}
use Rattle.escpos_command.specs.declared.command.Command.{Command}
use Rattle.escpos_command.specs.declared.command.Command.TheVariants.{Char, LineFeed, Set}
use Rattle.escpos_command.specs.declared.setting.SettingKind.TheVariants as sets
use Rattle.escpos_receipt.specs.declared.in_force.LineState.{LineState}
use Rattle.escpos_receipt.specs.EntryCommands.{line_after, line_step}
use Rattle.escpos_receipt.specs.SpelledText.{AreOfLines, IsTextBytes, lines_commands, text_left}
use Rattle.escpos_receipt.proofs.SpelledTexts.{last_byte, nothing_left}

and_false : (a : Bool) → (a && false) ≡ false
and_false true = refl
and_false false = refl

and_true : (a : Bool) → (a && true) ≡ a
and_true true = refl
and_true false = refl

pub text_line : (l : LineState) (ts : List Command) → AreOfLines ts → line_after l ts ≡ record l { in_line = text_left l.in_line ts }
text_line l [] t = refl
text_line l (Char b ∷ ts) (least, most, t) = text_line (record l { in_line = true }) ts t
text_line l (Set (sets.Table, Some n) ∷ ts) (first, t) = ap (λ b. line_after (record l { in_line = b }) ts) (and_true l.in_line) ∙ text_line l ts t
text_line l (LineFeed ∷ ts) t = ap (λ b. line_after (record l { in_line = b }) ts) (and_false l.in_line) ∙ text_line (record l { in_line = false }) ts t
text_line l (c ∷ ts) t = absurd t

line_after_both : (l : LineState) (ts ds : List Command) → line_after l (ts ++ ds) ≡ line_after (line_after l ts) ds
line_after_both l [] ds = refl
line_after_both l (c ∷ ts) ds = line_after_both (line_step l c) ts ds

pub text_then_feed : (l : LineState) (ts : List Command) → AreOfLines ts → line_after l (ts ++ LineFeed ∷ []) ≡ record l { in_line = false }
text_then_feed l ts t =
    line_after_both l ts (LineFeed ∷ []) ∙ ap (λ k. line_after k (LineFeed ∷ [])) (text_line l ts t)
    ∙ ap (λ b. record l { in_line = b }) (and_false (text_left l.in_line ts))

-- ## The last byte

no_bytes : (bytes : List ℕ) → length bytes < 1 → bytes ≡ []
no_bytes [] h = refl
no_bytes (b ∷ bytes) h = absurd (omega (arith, h))

split_last : (bytes : List ℕ) (n : ℕ) → length bytes ≡ n + 1 → bytes ≡ take n bytes ++ slice_index_or bytes n 0 ∷ []
split_last [] n e = absurd (omega (arith, e))
split_last (b ∷ []) zero e = refl
split_last (b ∷ []) (suc n) e = absurd (omega (arith, e))
split_last (b ∷ c ∷ bytes) zero e = absurd (omega (arith, e))
split_last (b ∷ c ∷ bytes) (suc n) e = ap (λ l. b ∷ l) (split_last (c ∷ bytes) n (omega (arith, e)))

pub left_by_none : (in_line : Bool) (bytes : List ℕ) → length bytes < 1 → text_left in_line (lines_commands bytes) ≡ in_line
left_by_none in_line bytes h = nothing_left in_line bytes (no_bytes bytes h)

pub left_by_last : (in_line : Bool) (bytes : List ℕ) → 1 ≤ length bytes → IsTextBytes bytes
    → text_left in_line (lines_commands bytes) ≡ not (slice_index_or bytes (length bytes - 1) 0 == LF)
left_by_last in_line bytes h (spelled, t) = last_byte in_line (lines_commands bytes) _ _ t (sym spelled ∙ split_last bytes (length bytes - 1) (omega (arith, h)))
