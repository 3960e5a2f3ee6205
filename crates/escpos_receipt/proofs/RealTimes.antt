-- What one more command adds to the real-time commands that the bytes of commands hold: nothing, where it holds none itself.
use Rattle.std.proofs.Common.{◌≡◌, inl, inr, ℕ, true, false, List, [], ◌∷◌, ◌++◌, refl, sym, ◌∙◌, subst, append_assoc, append-nil, Some}
use Rattle.std.proofs.lemmas.Grind.{flat_map-append}
use Rattle.escpos_command.specs.declared.command.Command.{Command}
use Rattle.escpos_command.specs.declared.command.Command.TheVariants.{Char, LineFeed, Set}
use Rattle.escpos_command.specs.SettingTable.{table}
use Rattle.escpos_command.specs.declared.setting.SettingKind.TheVariants as sets
use Rattle.escpos_command.specs.CommandTable.{IsCommand, row, spell}
use Rattle.escpos_real_time.specs.RealTime.{HoldsRealTime}
use Rattle.escpos_real_time.specs.Scan.{holds}
use Rattle.escpos_real_time.proofs.Holding.{finds, within}
use Rattle.escpos_real_time.proofs.Starts.{Starts, character_starts, command_starts, escape_starts, held_by_one, line_feed_starts}
use Rattle.escpos_receipt.specs.SpelledText.{AreOfLines}
use Rattle.escpos_receipt.specs.Whole.{HoldNoRealTime}

pub said : (cs : List Command) → (HoldsRealTime (spell cs) → ⊥) → HoldNoRealTime cs
unfolding HoldNoRealTime
said cs none = none

pub none_in : (cs : List Command) → HoldNoRealTime cs → HoldsRealTime (spell cs) → ⊥
unfolding HoldNoRealTime
none_in cs none = none

none_found : (bytes : List ℕ) → holds bytes ≡ false → HoldsRealTime bytes → ⊥
none_found bytes e h = let clash : true ≡ false = sym (finds bytes h) ∙ e in cc

pub none_held : HoldNoRealTime []
none_held = said [] (none_found [] refl)

one_more : (cs : List Command) (c : Command) → Starts (row c) → HoldNoRealTime cs → (HoldsRealTime (row c) → ⊥) → HoldNoRealTime (cs ++ c ∷ [])
one_more cs c s quiet none = said (cs ++ c ∷ []) (λ h. elim (held_by_one cs c s h) [
  | inl before ↦ none_in cs quiet before
  | inr last ↦ none last
])

pub one_more_quiet : (cs : List Command) (c : Command) → IsCommand c → HoldNoRealTime cs → (HoldsRealTime (row c) → ⊥) → HoldNoRealTime (cs ++ c ∷ [])
one_more_quiet cs c is quiet none = one_more cs c (command_starts c is) quiet none

pub line_feed_quiet : (cs : List Command) → HoldNoRealTime cs → HoldNoRealTime (cs ++ LineFeed ∷ [])
line_feed_quiet cs quiet = one_more cs LineFeed line_feed_starts quiet (none_found (row LineFeed) refl)

-- A text holds none.
pub text_quiet : (cs ts : List Command) → AreOfLines ts → HoldNoRealTime cs → HoldNoRealTime (cs ++ ts)
unfolding table
text_quiet cs [] t quiet = subst HoldNoRealTime (sym (append-nil cs)) quiet
text_quiet cs (Char b ∷ ts) (least, most, t) quiet =
    subst HoldNoRealTime (append_assoc cs (Char b ∷ []) ts)
    (text_quiet (cs ++ Char b ∷ []) ts t (one_more cs (Char b) (character_starts b least) quiet (none_found (row (Char b)) refl)))
text_quiet cs (Set (sets.Table, Some n) ∷ ts) (first, t) quiet =
    subst HoldNoRealTime (append_assoc cs (Set (sets.Table, Some n) ∷ []) ts)
    (text_quiet (cs ++ Set (sets.Table, Some n) ∷ []) ts t (one_more cs (Set (sets.Table, Some n)) (escape_starts (0x74 ∷ n ∷ [])) quiet (none_found (row (Set (sets.Table, Some n))) refl)))
text_quiet cs (LineFeed ∷ ts) t quiet =
    subst HoldNoRealTime (append_assoc cs (LineFeed ∷ []) ts) (text_quiet (cs ++ LineFeed ∷ []) ts t (line_feed_quiet cs quiet))
text_quiet cs (c ∷ ts) t quiet = absurd t

-- Commands hold what one of them holds.
pub held_in : (before : List Command) (c : Command) (following : List Command) → HoldsRealTime (row c) → HoldsRealTime (spell (before ++ c ∷ following))
held_in before c following h = subst HoldsRealTime (sym (flat_map-append row before (c ∷ following))) (within (spell before) (row c) (spell following) h)
