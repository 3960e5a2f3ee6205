-- Worked rows of the profiles, computed from the definitions alone.
use Rattle.std.proofs.Common.{◌≡◌, [], ◌∷◌, refl, true, false, map, Some}
use Rattle.std.specs.Prelude.{◌==◌, filter}
use Rattle.escpos_command.specs.declared.bytes.TheConstants.{ESC, GS}
use Rattle.escpos_command.specs.declared.command.Command.TheVariants as kind
use Rattle.escpos_command.specs.declared.setting.SettingKind.TheVariants as sets
use Rattle.escpos_command.specs.SettingTable.{table, row_prefix}
use Rattle.escpos_command.specs.declared.bars.Symbology.TheVariants.{UpcA, UpcE, Code93, Code128, Gs1Code128}
use Rattle.escpos_command.specs.EarlierProfiles.{cut_since, in_profile, symbology_since}

-- These settings came with the third profile.
letters_since_second : map row_prefix (filter (λ r. r.since == 3) table)
    ≡ (ESC ∷ 0x47 ∷ []) ∷ (ESC ∷ 0x52 ∷ []) ∷ (GS ∷ 0x42 ∷ []) ∷ (GS ∷ 0x62 ∷ []) ∷ (ESC ∷ 0x7B ∷ []) ∷ (ESC ∷ 0x33 ∷ []) ∷ (ESC ∷ 0x32 ∷ []) ∷ []
unfolding table
letters_since_second = refl

-- The second profile had no smoothing, and underlines.
no_smoothing : in_profile 2 (kind.Set (sets.Smoothing, Some 0)) ≡ false
unfolding table
no_smoothing = refl

-- The third profile had it, and no automatic status.
smoothing : in_profile 3 (kind.Set (sets.Smoothing, Some 0)) ≡ true
unfolding table
smoothing = refl

no_automatic_status : in_profile 3 (kind.AutomaticStatus 0) ≡ false
no_automatic_status = refl

-- Tabs, three symbologies and some cuts came with the fourth.
no_tabs : in_profile 3 kind.Tab ≡ false
no_tabs = refl

symbologies : map symbology_since (UpcA ∷ UpcE ∷ Code93 ∷ Code128 ∷ Gs1Code128 ∷ []) ≡ 1 ∷ 4 ∷ 4 ∷ 1 ∷ 4 ∷ []
symbologies = refl

cuts : map cut_since (49 ∷ 66 ∷ 97 ∷ 104 ∷ []) ≡ 1 ∷ 1 ∷ 4 ∷ 4 ∷ []
cuts = refl

underlines : in_profile 2 (kind.Set (sets.Underline, Some 1)) ≡ true
unfolding table
underlines = refl
