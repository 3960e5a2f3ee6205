-- What one more command adds to the codes that a printer leaves out.
use Rattle.std.proofs.Common.{◌≡◌, ◌+◌, ◌<◌, ℕ, List, [], ◌∷◌, ◌++◌, inl, inr, refl, sym, ◌∙◌, ap, subst, append_assoc, append-nil, arith, take, drop, get_or, Bool, true, false, IsTrue, Some}
use Rattle.std.specs.Prelude.{length, not}
use Rattle.std.proofs.lemmas.List.{length-take-le}
use Rattle.escpos_command.specs.declared.command.Command.{Command}
use Rattle.escpos_command.specs.declared.command.Command.TheVariants.{Char, LineFeed, Set}
use Rattle.escpos_command.specs.declared.setting.SettingKind.TheVariants as sets
use Rattle.escpos_command.specs.declared.parameter.choices.Correction.TheVariants.{L}
use Rattle.escpos_command.proofs.Settings.{setting-snoc, stored-snoc}
use Rattle.escpos_paper.specs.Styles.{sets_correction, sets_module_width, sets_qr_size}
use Rattle.escpos_receipt.specs.CodeSteps.{code_settings_after}
use Rattle.escpos_receipt.specs.Printable.{IsFirstLeftOut, IsPrintable, code_settings, is_left_out}
use Rattle.escpos_receipt.specs.SpelledText.{AreOfLines}
use Rattle.escpos_receipt.proofs.Following.{split_snoc}
use Rattle.escpos_receipt.proofs.Prefixes.{split_at}

pub code_settings-snoc : (cs : List Command) (c : Command) → code_settings (cs ++ c ∷ []) ≡ code_settings_after (code_settings cs) c
code_settings-snoc cs c = cc (setting-snoc sets_module_width 3 cs c, setting-snoc sets_qr_size 3 cs c, setting-snoc sets_correction L cs c, stored-snoc cs c)

pub none_printable : (width : ℕ) → IsPrintable width []
none_printable width [] c following e = let bad : [] ≡ c ∷ following = e in cc
none_printable width (b ∷ before) c following e = let bad : [] ≡ b ∷ (before ++ c ∷ following) = e in cc

pub one_more_printable : (width : ℕ) (cs : List Command) (c : Command) → IsPrintable width cs → is_left_out width (code_settings cs) c ≡ false → IsPrintable width (cs ++ c ∷ [])
one_more_printable width cs c each last before d following e = elim (split_snoc cs before c d following e) [
  | inl same ↦ subst (λ b. is_left_out width (code_settings b) d ≡ false) (sym same.0) (subst (λ k. is_left_out width (code_settings cs) k ≡ false) (sym same.1) last)
  | inr within ↦ each before d within.0 within.1
]

-- A text has no code, and sets nothing of codes.
pub text_printable : (width : ℕ) (cs ts : List Command) → AreOfLines ts → IsPrintable width cs → IsPrintable width (cs ++ ts) × (code_settings (cs ++ ts) ≡ code_settings cs)
text_printable width cs [] t each = (subst (IsPrintable width) (sym (append-nil cs)) each, ap code_settings (append-nil cs))
text_printable width cs (Char b ∷ ts) (least, most, t) each =
    let more = text_printable width (cs ++ Char b ∷ []) ts t (one_more_printable width cs (Char b) each refl) in
    let joined = append_assoc cs (Char b ∷ []) ts in
    (subst (IsPrintable width) joined more.0, ap code_settings (sym joined) ∙ more.1 ∙ code_settings-snoc cs (Char b))
text_printable width cs (Set (sets.Table, Some n) ∷ ts) (first, t) each =
    let more = text_printable width (cs ++ Set (sets.Table, Some n) ∷ []) ts t (one_more_printable width cs (Set (sets.Table, Some n)) each refl) in
    let joined = append_assoc cs (Set (sets.Table, Some n) ∷ []) ts in
    (subst (IsPrintable width) joined more.0, ap code_settings (sym joined) ∙ more.1 ∙ code_settings-snoc cs (Set (sets.Table, Some n)))
text_printable width cs (LineFeed ∷ ts) t each =
    let more = text_printable width (cs ++ LineFeed ∷ []) ts t (one_more_printable width cs LineFeed each refl) in
    let joined = append_assoc cs (LineFeed ∷ []) ts in
    (subst (IsPrintable width) joined more.0, ap code_settings (sym joined) ∙ more.1 ∙ code_settings-snoc cs LineFeed)
text_printable width cs (c ∷ ts) t each = absurd t

pub line_printable : (width : ℕ) (cs ts : List Command) → AreOfLines ts → IsPrintable width cs
    → IsPrintable width (cs ++ (ts ++ LineFeed ∷ [])) × (code_settings (cs ++ (ts ++ LineFeed ∷ [])) ≡ code_settings cs)
line_printable width cs ts t each =
    let text = text_printable width cs ts t each in
    let joined = append_assoc cs ts (LineFeed ∷ []) in (
      subst (IsPrintable width) joined (one_more_printable width (cs ++ ts) LineFeed text.0 refl),
      ap code_settings (sym joined) ∙ code_settings-snoc (cs ++ ts) LineFeed ∙ text.1,
    )

pub printed : (left_out : Bool) → not left_out ≡ true → left_out ≡ false
printed true e = sym e
printed false e = refl

pub not_printed : (left_out : Bool) → not left_out ≡ false → left_out ≡ true
not_printed true e = refl
not_printed false e = sym e

-- A command whose code is left out, after others whose codes aren't.
pub left_out_at : (width : ℕ) (cs : List Command) (i : ℕ) (c : Command) → i < length cs → c ≡ get_or cs i c → IsPrintable width (take i cs)
    → IsTrue (is_left_out width (code_settings (take i cs)) c) → IsFirstLeftOut width cs i
left_out_at width cs i c inside is each left_out = record {
  before = take i cs;
  command = c;
  following = drop (i + 1) cs;
  split = split_at cs i c inside is;
  place = length-take-le i cs (omega (arith, inside));
  left_out = left_out;
  earlier = each;
}
