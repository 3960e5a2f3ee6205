-- The laws of the earlier profiles, for every number: where the spelling of a command that came later parts from those of the
-- commands that the profile had. A setting adds nothing here, and a form of command a line to `formed`, `witnesses` and `known_to`.
use Rattle.std.proofs.Common.{◌≡◌, ◌<◌, ◌⊎◌, inl, inr, ℕ, zero, suc, ◌+◌, List, [], ◌∷◌, ◌++◌, length, refl, sym, ◌∙◌, ap, subst, append_assoc, append-nil, arith, Bool, true, false, cond, IsTrue, Option, None, Some}
use Rattle.std.specs.Prelude.{◌==◌, ◌&&◌, ◌||◌, nat_le, nat_lt, option_to_list, replicate}
use Rattle.std.specs.List.{list_all, list_any, AllByRecursion}
use Rattle.std.proofs.lemmas.Bool.Decides.{nat_tests}
use Rattle.escpos_command.specs.declared.bytes.TheConstants.{HT, LF, CR, DLE, ESC, GS, EOT}
use Rattle.escpos_command.specs.declared.command.Command.{Command}
use Rattle.escpos_command.specs.declared.command.Command.TheVariants as kind
use Rattle.escpos_command.specs.declared.bars.Form.{Form}
use Rattle.escpos_command.specs.declared.bars.Form.TheVariants.{A, B}
use Rattle.escpos_command.specs.declared.bars.Symbology.{Symbology}
use Rattle.escpos_command.specs.declared.bars.Symbology.TheVariants.{UpcA, UpcE, Ean13, Ean8, Code39, Itf, Codabar, Code93, Code128, Gs1Code128}
use Rattle.escpos_command.specs.declared.setting.Row.{Row}
use Rattle.escpos_command.specs.declared.setting.SettingKind.{SettingKind}
use Rattle.escpos_command.specs.Barcodes.{barcode, barcode_mode, has_form, is_barcode, is_content}
use Rattle.escpos_command.specs.CommandTable.{Spells, IsCommand, row}
use Rattle.escpos_command.specs.Grammar.{Viable}
use Rattle.escpos_command.specs.Parameters.{is_byte, is_character, is_cut, is_feed_cut_mode, is_one_of_two}
use Rattle.escpos_command.specs.Positions.{position_prefix, word_bytes}
use Rattle.escpos_command.specs.declared.parameter.position.PositionKind.{PositionKind}
use Rattle.escpos_command.specs.declared.parameter.position.PositionKind.TheVariants as at
use Rattle.escpos_command.specs.Prefixes.{apart}
use Rattle.escpos_command.specs.Rasters.{picture}
use Rattle.escpos_command.specs.SettingTable.{table, number, row_at, row_for, row_prefix}
use Rattle.escpos_command.specs.declared.graphics.GraphicsForm.{GraphicsForm}
use Rattle.escpos_command.specs.declared.graphics.GraphicsForm.TheVariants.{Short, Long}
use Rattle.escpos_command.specs.Graphics.{graphics_letters}
use Rattle.escpos_command.proofs.GraphicsTree.{picture_of}
use Rattle.escpos_command.specs.EarlierProfiles.{cut_since, symbology_since, prefix_of, prefix_since, since, in_profile, IsNew, prefix, rows}
use Rattle.escpos_command.specs.Profiles.{ViableIn}
use Rattle.escpos_command.proofs.Combinators.{and_left, and_right, same_number, number_itself, at_row}
use Rattle.escpos_command.proofs.Planting.{or_else, or_right}
use Rattle.escpos_command.proofs.PositionTree.{spelled_position}
use Rattle.escpos_command.proofs.Profiles.{Parts, AllPart, some_parameter, some_fits}
use Rattle.escpos_command.proofs.SettingFacts.{is_table}
use Rattle.escpos_command.proofs.SettingRows.{covered, own_row}
use Rattle.escpos_command.proofs.TableTree.{spelled_setting}
use Rattle.escpos_command.proofs.TallRasters.{seven, raster_parts, raster_is_taken}

-- ## Prefixes, and the profile that first had each

abbrev Known : Type 0
Known = List (List ℕ × ℕ)

-- Those of the commands of a form of their own.
abbrev formed : Known
formed =
    (LF ∷ [], 1)
    ∷ (CR ∷ [], 1)
    ∷ (DLE ∷ EOT ∷ [], 1)
    ∷ (ESC ∷ 0x40 ∷ [], 1)
    ∷ (ESC ∷ 0x4A ∷ [], 2)
    ∷ (ESC ∷ 0x64 ∷ [], 1)
    ∷ (ESC ∷ 0x70 ∷ [], 2)
    ∷ (GS ∷ 0x28 ∷ 0x48 ∷ [], 1)
    ∷ (GS ∷ 0x28 ∷ 0x6B ∷ [], 3)
    ∷ (GS ∷ 0x61 ∷ [], 4)
    ∷ (GS ∷ 0x76 ∷ [], 1)
    ∷ (ESC ∷ 0x69 ∷ [], 4)
    ∷ (ESC ∷ 0x6D ∷ [], 4)
    ∷ []

-- Those of positions, tab stops and graphics.
abbrev moving : Known
moving =
    (HT ∷ [], 4)
    ∷ (ESC ∷ 0x24 ∷ [], 4)
    ∷ (ESC ∷ 0x5C ∷ [], 4)
    ∷ (GS ∷ 0x4C ∷ [], 4)
    ∷ (GS ∷ 0x57 ∷ [], 4)
    ∷ (ESC ∷ 0x44 ∷ [], 4)
    ∷ (GS ∷ 0x28 ∷ 0x4C ∷ [], 4)
    ∷ (GS ∷ 0x38 ∷ 0x4C ∷ [], 4)
    ∷ []

abbrev of_rows : List Row → Known
of_rows [] = []
of_rows (r ∷ rs) = (row_prefix r, r.since) ∷ of_rows rs

-- Those of cuts, each with its mode.
abbrev cut_modes : List ℕ
cut_modes = 0 ∷ 1 ∷ 48 ∷ 49 ∷ 65 ∷ 66 ∷ 97 ∷ 98 ∷ 103 ∷ 104 ∷ []

abbrev of_mode : ℕ → List ℕ × ℕ
of_mode m = (GS ∷ 0x56 ∷ m ∷ [], cut_since m)

abbrev of_modes : List ℕ → Known
of_modes [] = []
of_modes (m ∷ ms) = of_mode m ∷ of_modes ms

-- Those of barcodes, each with its mode.
abbrev of_bars : Form → Symbology → List ℕ × ℕ
of_bars form symbology = (GS ∷ 0x6B ∷ barcode_mode form symbology ∷ [], symbology_since symbology)

abbrev barcodes_a : Known
barcodes_a = of_bars A UpcA ∷ of_bars A UpcE ∷ of_bars A Ean13 ∷ of_bars A Ean8 ∷ of_bars A Code39 ∷ of_bars A Itf ∷ of_bars A Codabar ∷ []

abbrev barcodes_b : Known
barcodes_b =
    of_bars B UpcA ∷ of_bars B UpcE ∷ of_bars B Ean13 ∷ of_bars B Ean8 ∷ of_bars B Code39 ∷ of_bars B Itf ∷ of_bars B Codabar ∷ of_bars B Code93
    ∷ of_bars B Code128 ∷ of_bars B Gs1Code128 ∷ []

abbrev barcodes : Known
barcodes = barcodes_a ++ barcodes_b

abbrev others : Known
others = moving ++ (of_modes cut_modes ++ (barcodes ++ of_rows table))

unfoldable pub known : Known
known = formed ++ others

abbrev Has : List ℕ × ℕ → Known → Type 0
Has q [] = ⊥
Has q (o ∷ os) = (o ≡ q) ⊎ Has q os

has_later : (q : List ℕ × ℕ) (os more : Known) → Has q more → Has q (os ++ more)
has_later q [] more h = h
has_later q (o ∷ os) more h = inr (has_later q os more h)

has_earlier : (q : List ℕ × ℕ) (os more : Known) → Has q os → Has q (os ++ more)
has_earlier q [] more h = absurd h
has_earlier q (o ∷ os) more (inl e) = inl e
has_earlier q (o ∷ os) more (inr h) = inr (has_earlier q os more h)

all_has : (test : List ℕ × ℕ → Bool) (os : Known) (q : List ℕ × ℕ) → list_all test os ≡ true → Has q os → test q ≡ true
all_has test [] q h k = absurd k
all_has test (o ∷ os) q h (inl e) = ap test (sym e) ∙ and_left (test o) (list_all test os) h
all_has test (o ∷ os) q h (inr k) = all_has test os q (and_right (test o) (list_all test os) h) k

-- ## One prefix begins no other

abbrev Begins : List ℕ → List ℕ → Type 0
Begins p q = (more : List ℕ) × (q ≡ p ++ more)

parted : (p more : List ℕ) → apart p (p ++ more) ≡ true → ⊥
parted [] more h = absurd cc
parted (b ∷ p) more h = parted p more (or_else (b == b) (apart p (p ++ more)) (number_itself b) h)

parted_too : (p more : List ℕ) → apart (p ++ more) p ≡ true → ⊥
parted_too [] [] h = absurd cc
parted_too [] (b ∷ more) h = absurd cc
parted_too (b ∷ p) more h = parted_too p more (or_else (b == b) (apart (p ++ more) p) (number_itself b) h)

apart_from : (p q : List ℕ) → apart p q ≡ true → Begins p q → ⊥
apart_from p q h (more, e) = parted p more (ap (apart p) (sym e) ∙ h)

apart_from_too : (p q : List ℕ) → apart q p ≡ true → Begins p q → ⊥
apart_from_too p q h (more, e) = parted_too p more (ap (λ v. apart v p) (sym e) ∙ h)

abbrev all_apart : Known → Bool
all_apart [] = true
all_apart (o ∷ os) = list_all (λ q. apart o.0 q.0) os && all_apart os

known_apart : all_apart known ≡ true
unfolding known table
known_apart = refl

one_of : (os : Known) (p q : List ℕ × ℕ) → all_apart os ≡ true → Has p os → Has q os → Begins p.0 q.0 → p ≡ q
one_of [] p q h k l b = absurd k
one_of (o ∷ os) p q h (inl e) (inl f) b = sym e ∙ f
one_of (o ∷ os) p q h (inl e) (inr l) b =
    absurd (apart_from p.0 q.0 (ap (λ v. apart v.0 q.0) (sym e) ∙ all_has (λ x. apart o.0 x.0) os q (and_left (list_all (λ x. apart o.0 x.0) os) (all_apart os) h) l) b)
one_of (o ∷ os) p q h (inr k) (inl f) b =
    absurd (apart_from_too p.0 q.0 (ap (λ v. apart v.0 p.0) (sym f) ∙ all_has (λ x. apart o.0 x.0) os p (and_left (list_all (λ x. apart o.0 x.0) os) (all_apart os) h) k) b)
one_of (o ∷ os) p q h (inr k) (inr l) b = one_of os p q (and_right (list_all (λ x. apart o.0 x.0) os) (all_apart os) h) k l b

-- Each begins with a byte that is no character.
abbrev starts_low : List ℕ → Bool
starts_low [] = false
starts_low (b ∷ p) = nat_lt b 0x20

known_low : list_all (λ q. starts_low q.0) known ≡ true
unfolding known table
known_low = refl

not_low : (b : ℕ) (more : List ℕ) → is_character b ≡ true → starts_low (b ∷ more) ≡ true → ⊥
not_low b more h k = let low : nat_lt b 0x20 ≡ true = k in let clash : true ≡ false = grind (arith, nat_tests, h, low) in cc

-- ## Commands and their prefixes

picture_spelled : (f : GraphicsForm) (across down width height : ℕ) (dots : List ℕ)
    → Begins (graphics_letters f) (row (kind.GraphicsStore (picture_of f across down width height dots)))
picture_spelled Short across down width height dots = (_, refl)
picture_spelled Long across down width height dots = (_, refl)

spelled_on : (c : Command) → Begins (prefix_of c) (row c)
spelled_on (kind.Position p) = (word_bytes p.1, spelled_position p.0 p.1)
spelled_on (kind.Set s) = (option_to_list s.1, spelled_setting s.0 s.1)
spelled_on (kind.GraphicsStore p) = picture_spelled p.head.form p.head.across p.head.down p.head.width p.head.height p.dots
spelled_on _ = (_, refl)

row_known : (rs : List Row) (i : ℕ) → i < length rs → Has (row_prefix (row_at rs i), (row_at rs i).since) (of_rows rs)
row_known [] i h = absurd (omega arith)
row_known (r ∷ rs) zero h = inl refl
row_known (r ∷ rs) (suc i) h = inr (row_known rs i (omega arith))

setting_known : (which : SettingKind) → Has (row_prefix (row_for table which), (row_for table which).since) known
unfolding known
setting_known which =
    has_later _ formed others
    (has_later _ moving (of_modes cut_modes ++ (barcodes ++ of_rows table))
    (has_later _ (of_modes cut_modes) (barcodes ++ of_rows table) (has_later _ barcodes (of_rows table) (row_known table (number which) (covered table is_table which)))))

is_mode : (m : ℕ) (feed : Option ℕ) → is_cut m feed ≡ true → list_any (λ x. m == x) cut_modes ≡ true
is_mode m None h = grind (arith, nat_tests, h)
is_mode m (Some n) h = let mode = and_left (is_feed_cut_mode m) (is_byte n) h in grind (arith, nat_tests, mode)

mode_known : (ms : List ℕ) (m : ℕ) → list_any (λ x. m == x) ms ≡ true → Has (of_mode m) (of_modes ms)
mode_known [] m h = absurd cc
mode_known (x ∷ ms) m h = by_test (m == x) refl (λ k. mode_known ms m k)
  where
    by_test : (v : Bool) → (m == x) ≡ v → (list_any (λ y. m == y) ms ≡ true → Has (of_mode m) (of_modes ms)) → Has (of_mode m) (of_modes (x ∷ ms))
    by_test true e further = inl (ap of_mode (sym (same_number m x e)))
    by_test false e further = inr (further (or_right (m == x) (list_any (λ y. m == y) ms) e h))

moving_known : (q : List ℕ × ℕ) → Has q moving → Has q known
unfolding known
moving_known q h = has_later q formed others (has_earlier q moving (of_modes cut_modes ++ (barcodes ++ of_rows table)) h)

position_known : (which : PositionKind) → Has (position_prefix which, 4) known
position_known at.Absolute = moving_known _ (inr (inl refl))
position_known at.Relative = moving_known _ (inr (inr (inl refl)))
position_known at.LeftMargin = moving_known _ (inr (inr (inr (inl refl))))
position_known at.AreaWidth = moving_known _ (inr (inr (inr (inr (inl refl)))))

graphics_known : (f : GraphicsForm) → Has (graphics_letters f, 4) known
graphics_known Short = moving_known _ (inr (inr (inr (inr (inr (inr (inl refl)))))))
graphics_known Long = moving_known _ (inr (inr (inr (inr (inr (inr (inr (inl refl))))))))

known_a : (s : Symbology) → has_form A s ≡ true → Has (of_bars A s) barcodes_a
known_a UpcA h = inl refl
known_a UpcE h = inr (inl refl)
known_a Ean13 h = inr (inr (inl refl))
known_a Ean8 h = inr (inr (inr (inl refl)))
known_a Code39 h = inr (inr (inr (inr (inl refl))))
known_a Itf h = inr (inr (inr (inr (inr (inl refl)))))
known_a Codabar h = inr (inr (inr (inr (inr (inr (inl refl))))))
known_a Code93 h = absurd cc
known_a Code128 h = absurd cc
known_a Gs1Code128 h = absurd cc

known_b : (s : Symbology) → Has (of_bars B s) barcodes_b
known_b UpcA = inl refl
known_b UpcE = inr (inl refl)
known_b Ean13 = inr (inr (inl refl))
known_b Ean8 = inr (inr (inr (inl refl)))
known_b Code39 = inr (inr (inr (inr (inl refl))))
known_b Itf = inr (inr (inr (inr (inr (inl refl)))))
known_b Codabar = inr (inr (inr (inr (inr (inr (inl refl))))))
known_b Code93 = inr (inr (inr (inr (inr (inr (inr (inl refl)))))))
known_b Code128 = inr (inr (inr (inr (inr (inr (inr (inr (inl refl))))))))
known_b Gs1Code128 = inr (inr (inr (inr (inr (inr (inr (inr (inr (inl refl)))))))))

bars_known : (f : Form) (s : Symbology) → has_form f s ≡ true → Has (of_bars f s) barcodes
bars_known A s h = has_earlier _ barcodes_a barcodes_b (known_a s h)
bars_known B s h = has_later _ barcodes_a barcodes_b (known_b s)

-- The command is a character, or its prefix is known.
known_to : (c : Command) → IsCommand c → Has (prefix_of c, prefix_since c) known ⊎ ((b : ℕ) × (prefix_of c ≡ b ∷ []) × (is_character b ≡ true) × (prefix_since c ≡ 1))
unfolding known
known_to (kind.Char b) h = inr (b, refl, h, refl)
known_to (kind.Set s) h = inl (setting_known s.0)
known_to kind.LineFeed h = inl (has_earlier _ formed others (inl refl))
known_to kind.Return h = inl (has_earlier _ formed others (inr (inl refl)))
known_to (kind.Status n) h = inl (has_earlier _ formed others (inr (inr (inl refl))))
known_to kind.Init h = inl (has_earlier _ formed others (inr (inr (inr (inl refl)))))
known_to (kind.FeedUnits n) h = inl (has_earlier _ formed others (inr (inr (inr (inr (inl refl))))))
known_to (kind.FeedLines n) h = inl (has_earlier _ formed others (inr (inr (inr (inr (inr (inl refl)))))))
known_to (kind.Pulse p) h = inl (has_earlier _ formed others (inr (inr (inr (inr (inr (inr (inl refl))))))))
known_to (kind.Mark id) h = inl (has_earlier _ formed others (inr (inr (inr (inr (inr (inr (inr (inl refl)))))))))
known_to (kind.QrModel n) h = inl (has_earlier _ formed others (inr (inr (inr (inr (inr (inr (inr (inr (inl refl))))))))))
known_to (kind.QrSize n) h = inl (has_earlier _ formed others (inr (inr (inr (inr (inr (inr (inr (inr (inl refl))))))))))
known_to (kind.QrLevel n) h = inl (has_earlier _ formed others (inr (inr (inr (inr (inr (inr (inr (inr (inl refl))))))))))
known_to (kind.QrStore stored) h = inl (has_earlier _ formed others (inr (inr (inr (inr (inr (inr (inr (inr (inl refl))))))))))
known_to kind.QrPrint h = inl (has_earlier _ formed others (inr (inr (inr (inr (inr (inr (inr (inr (inl refl))))))))))
known_to kind.Tab h = inl (moving_known _ (inl refl))
known_to (kind.Position p) h = inl (position_known p.0)
known_to (kind.TabStops columns) h = inl (moving_known _ (inr (inr (inr (inr (inr (inl refl)))))))
known_to (kind.GraphicsStore p) h = inl (graphics_known p.head.form)
known_to (kind.GraphicsPrint fn) h = inl (graphics_known Short)
known_to (kind.Cut c) h =
    inl (has_later _ formed others
    (has_later _ moving (of_modes cut_modes ++ (barcodes ++ of_rows table))
    (has_earlier _ (of_modes cut_modes) (barcodes ++ of_rows table) (mode_known cut_modes c.0 (is_mode c.0 c.1 h)))))
known_to (kind.AutomaticStatus n) h = inl (has_earlier _ formed others (inr (inr (inr (inr (inr (inr (inr (inr (inr (inl refl)))))))))))
known_to (kind.Bars bars) h =
    inl (has_later _ formed others (has_later _ moving (of_modes cut_modes ++ (barcodes ++ of_rows table)) (has_later _ (of_modes cut_modes) (barcodes ++ of_rows table)
    (has_earlier _ barcodes (of_rows table) (bars_known bars.form bars.symbology (and_left (has_form bars.form bars.symbology) (is_content bars.symbology bars.content) h))))))
known_to (kind.Raster raster) h = inl (has_earlier _ formed others (inr (inr (inr (inr (inr (inr (inr (inr (inr (inr (inl refl))))))))))))
known_to (kind.OldCut b) h = inl (has_earlier _ formed others (old_cut_known (b == 0x69) (b == 0x6D) refl refl h))
  where
    old_cut_known : (s t : Bool) → (b == 0x69) ≡ s → (b == 0x6D) ≡ t → (s || t) ≡ true → Has (ESC ∷ b ∷ [], 4) formed
    old_cut_known true t e f o = subst (λ x. Has (ESC ∷ x ∷ [], 4) formed) (sym (same_number b 0x69 e)) (inr (inr (inr (inr (inr (inr (inr (inr (inr (inr (inr (inl refl))))))))))))
    old_cut_known false true e f o = subst (λ x. Has (ESC ∷ x ∷ [], 4) formed) (sym (same_number b 0x6D f)) (inr (inr (inr (inr (inr (inr (inr (inr (inr (inr (inr (inr (inl refl)))))))))))))
    old_cut_known false false e f o = absurd cc

-- Each prefix that is known has a command, which came with it.
abbrev Witness : List ℕ × ℕ → Type 0
Witness q = (c : Command) × IsCommand c × (prefix_of c ≡ q.0) × (since c ≡ q.1)

witnesses : AllByRecursion Witness formed
witnesses = (
  (kind.LineFeed, refl, refl, refl),
  (
    (kind.Return, refl, refl, refl),
    (
      (kind.Status 1, refl, refl, refl),
      (
        (kind.Init, refl, refl, refl),
        (
          (kind.FeedUnits 0, refl, refl, refl),
          (
            (kind.FeedLines 0, refl, refl, refl),
            (
              (kind.Pulse (0, 0, 0), refl, refl, refl),
              (
                (kind.Mark (32 ∷ 32 ∷ 32 ∷ 32 ∷ []), refl, refl, refl),
                (
                  (kind.QrPrint, refl, refl, refl),
                  (
                    (kind.AutomaticStatus 0, refl, refl, refl),
                    (
                      (kind.Raster (picture 0 1 1 (0 ∷ [])), refl, refl, refl),
                      (
                        (kind.OldCut 0x69, refl, refl, refl),
                        (
                          (kind.OldCut 0x6D, refl, refl, refl),
                          tt,
                        ),
                      ),
                    ),
                  ),
                ),
              ),
            ),
          ),
        ),
      ),
    ),
  ),
)

moving_witnesses : AllByRecursion Witness moving
moving_witnesses = (
  (kind.Tab, refl, refl, refl),
  (
    (kind.Position (at.Absolute, 0), refl, refl, refl),
    (
      (kind.Position (at.Relative, 0), refl, refl, refl),
      (
        (kind.Position (at.LeftMargin, 0), refl, refl, refl),
        (
          (kind.Position (at.AreaWidth, 0), refl, refl, refl),
          (
            (kind.TabStops [], refl, refl, refl),
            (
              (kind.GraphicsPrint 2, refl, refl, refl),
              (
                (kind.GraphicsStore (picture_of Long 1 1 1 1 (0 ∷ [])), refl, refl, refl),
                tt,
              ),
            ),
          ),
        ),
      ),
    ),
  ),
)

-- A cut at once, or with a feed.
at_once : (m : ℕ) → is_one_of_two m ≡ true → Witness (of_mode m)
at_once m h = (kind.Cut (m, None), h, refl, refl)

with_feed : (m : ℕ) → is_feed_cut_mode m ≡ true → Witness (of_mode m)
with_feed m h = (kind.Cut (m, Some 0), ap (λ t. t && is_byte 0) h, refl, refl)

mode_witnesses : AllByRecursion Witness (of_modes cut_modes)
mode_witnesses = (
  at_once 0 refl,
  (
    at_once 1 refl,
    (
      at_once 48 refl,
      (
        at_once 49 refl,
        (
          with_feed 65 refl,
          (
            with_feed 66 refl,
            (
              with_feed 97 refl,
              (
                with_feed 98 refl,
                (
                  with_feed 103 refl,
                  (
                    with_feed 104 refl,
                    tt,
                  ),
                ),
              ),
            ),
          ),
        ),
      ),
    ),
  ),
)

-- A barcode with this content.
with_content : (f : Form) (s : Symbology) (content : List ℕ) → is_barcode (barcode f s content) ≡ true → Witness (of_bars f s)
with_content f s content h = (kind.Bars (barcode f s content), h, refl, refl)

abbrev zeros : ℕ → List ℕ
zeros n = replicate n 0x30

bars_witnesses : AllByRecursion Witness barcodes
bars_witnesses = (
  with_content A UpcA (zeros 11) refl,
  (
    with_content A UpcE (zeros 6) refl,
    (
      with_content A Ean13 (zeros 12) refl,
      (
        with_content A Ean8 (zeros 7) refl,
        (
          with_content A Code39 (zeros 1) refl,
          (
            with_content A Itf (zeros 2) refl,
            (
              with_content A Codabar (0x41 ∷ 0x41 ∷ []) refl,
              (
                with_content B UpcA (zeros 11) refl,
                (
                  with_content B UpcE (zeros 6) refl,
                  (
                    with_content B Ean13 (zeros 12) refl,
                    (
                      with_content B Ean8 (zeros 7) refl,
                      (
                        with_content B Code39 (zeros 1) refl,
                        (
                          with_content B Itf (zeros 2) refl,
                          (
                            with_content B Codabar (0x41 ∷ 0x41 ∷ []) refl,
                            (
                              with_content B Code93 (zeros 1) refl,
                              (
                                with_content B Code128 (0x7B ∷ 0x41 ∷ []) refl,
                                (
                                  with_content B Gs1Code128 (zeros 2) refl,
                                  tt,
                                ),
                              ),
                            ),
                          ),
                        ),
                      ),
                    ),
                  ),
                ),
              ),
            ),
          ),
        ),
      ),
    ),
  ),
)

row_witness : (i : ℕ) → i < length table → Witness (row_prefix (row_at table i), (row_at table i).since)
row_witness i h =
    let r = row_at table i in
    let own = own_row table i is_table h in (
      kind.Set (r.kind, some_parameter (row_for table r.kind).values),
      some_fits (row_for table r.kind).values,
      ap row_prefix own,
      ap (λ s. s.since) own,
    )

of_rows_witness : (rs : List Row) (q : List ℕ × ℕ) → ((i : ℕ) → i < length rs → Witness (row_prefix (row_at rs i), (row_at rs i).since)) → Has q (of_rows rs) → Witness q
of_rows_witness [] q w h = absurd h
of_rows_witness (r ∷ rs) q w (inl e) = subst Witness e (w 0 (omega arith))
of_rows_witness (r ∷ rs) q w (inr h) = of_rows_witness rs q (λ i k. w (suc i) (omega arith)) h

formed_witness : (os : Known) (q : List ℕ × ℕ) → AllByRecursion Witness os → Has q os → Witness q
formed_witness [] q w h = absurd h
formed_witness (o ∷ os) q w (inl e) = subst Witness e w.0
formed_witness (o ∷ os) q w (inr h) = formed_witness os q w.1 h

in_either : (q : List ℕ × ℕ) (os more : Known) → Has q (os ++ more) → Has q os ⊎ Has q more
in_either q [] more h = inr h
in_either q (o ∷ os) more (inl e) = inl (inl e)
in_either q (o ∷ os) more (inr h) = elim (in_either q os more h) [
  | inl k ↦ inl (inr k)
  | inr k ↦ inr k
]

witness : (q : List ℕ × ℕ) → Has q known → Witness q
unfolding known
witness q h = elim (in_either q formed others h) [
  | inl k ↦ formed_witness formed q witnesses k
  | inr k ↦ elim (in_either q moving (of_modes cut_modes ++ (barcodes ++ of_rows table)) k) [
    | inl l ↦ formed_witness moving q moving_witnesses l
    | inr l ↦ elim (in_either q (of_modes cut_modes) (barcodes ++ of_rows table) l) [
      | inl m ↦ formed_witness (of_modes cut_modes) q mode_witnesses m
      | inr m ↦ elim (in_either q barcodes (of_rows table) m) [
        | inl n ↦ formed_witness barcodes q bars_witnesses n
        | inr n ↦ of_rows_witness table q row_witness n
      ]
    ]
  ]
]

-- ## What the profile had

abbrev starts : List ℕ → List ℕ → Bool
starts [] p = true
starts (b ∷ w) [] = false
starts (b ∷ w) (c ∷ p) = b == c && starts w p

begins : (w p : List ℕ) → starts w p ≡ true → Begins w p
begins [] p h = (p, refl)
begins (b ∷ w) [] h = absurd cc
begins (b ∷ w) (c ∷ p) h =
    let more = begins w p (and_right (b == c) (starts w p) h) in
    (more.0, ap (λ x. x ∷ p) (sym (same_number b c (and_left (b == c) (starts w p) h))) ∙ ap (λ v. b ∷ v) more.1)

starts_itself : (w more : List ℕ) → starts w (w ++ more) ≡ true
starts_itself [] more = refl
starts_itself (b ∷ w) more = ap (λ v. v && starts w (w ++ more)) (number_itself b) ∙ starts_itself w more

-- Some prefix that the profile had begins so.
abbrev had : ℕ → List ℕ → Known → Bool
had n w os = list_any (λ q. nat_le q.1 n && starts w q.0) os

some_had : (n : ℕ) (w : List ℕ) (os : Known) → had n w os ≡ true → (q : List ℕ × ℕ) × Has q os × (nat_le q.1 n ≡ true) × Begins w q.0
some_had n w [] h = absurd cc
some_had n w (o ∷ os) h = by_test (nat_le o.1 n && starts w o.0) refl (λ k. some_had n w os k)
  where
    by_test : (v : Bool) → (nat_le o.1 n && starts w o.0) ≡ v → (had n w os ≡ true → (q : List ℕ × ℕ) × Has q os × (nat_le q.1 n ≡ true) × Begins w q.0)
        → (q : List ℕ × ℕ) × Has q (o ∷ os) × (nat_le q.1 n ≡ true) × Begins w q.0
    by_test true e further = (o, inl refl, and_left (nat_le o.1 n) (starts w o.0) e, begins w o.0 (and_right (nat_le o.1 n) (starts w o.0) e))
    by_test false e further =
        let k = further (or_right (nat_le o.1 n && starts w o.0) (had n w os) e h) in (k.0, inr k.1, k.2, k.3)

has_had : (n : ℕ) (w : List ℕ) (os : Known) (q : List ℕ × ℕ) → Has q os → nat_le q.1 n ≡ true → Begins w q.0 → had n w os ≡ true
has_had n w [] q h k b = absurd h
has_had n w (o ∷ os) q (inl e) k b =
    let early : nat_le o.1 n ≡ true = ap (λ v. nat_le v.1 n) e ∙ k in
    let begun : starts w o.0 ≡ true = ap (λ v. starts w v.0) e ∙ ap (starts w) b.1 ∙ starts_itself w b.0 in
    ap (λ v. v && starts w o.0 || had n w os) early ∙ ap (λ v. v || had n w os) begun
has_had n w (o ∷ os) q (inr h) k b = later (nat_le o.1 n && starts w o.0) (had n w os) (has_had n w os q h k b)
  where
    later : (u v : Bool) → v ≡ true → (u || v) ≡ true
    later true v e = refl
    later false v e = e

allowed_where_had : (n : ℕ) (w : List ℕ) → had n w known ≡ true → ViableIn (in_profile n) w
allowed_where_had n w h =
    let s = some_had n w known h in
    let c = witness s.0 s.1 in
    let on = spelled_on c.0 in
    let begun = s.3 in (
      c.0,
      begun.0 ++ on.0,
      (
        ap (λ v. nat_le v n) c.3 ∙ s.2,
        subst (λ v. Spells c.0 v) (on.1 ∙ ap (λ v. v ++ on.0) (c.2 ∙ begun.1) ∙ append_assoc w begun.0 on.0) (at_row c.0 c.1),
      ),
    )

-- ## Where a prefix that came later parts from it

-- Of two beginnings of a list one begins the other.
data Order (p w : List ℕ) : Type 0 where
  longer : (more : List ℕ) → p ≡ w ++ more → Order p w
  shorter : (more : List ℕ) → w ≡ p ++ more → Order p w

one_further : (x y : ℕ) (p w : List ℕ) → x ≡ y → Order p w → Order (x ∷ p) (y ∷ w)
one_further x y p w e (longer more h) = longer more (ap (λ v. v ∷ p) e ∙ ap (λ v. y ∷ v) h)
one_further x y p w e (shorter more h) = shorter more (ap (λ v. v ∷ w) (sym e) ∙ ap (λ v. x ∷ v) h)

head_is : (x y : ℕ) (xs ys : List ℕ) → x ∷ xs ≡ y ∷ ys → x ≡ y
head_is x y xs ys e = cc

tail_is : (x y : ℕ) (xs ys : List ℕ) → x ∷ xs ≡ y ∷ ys → xs ≡ ys
tail_is x y xs ys e = cc

order : (p a w b : List ℕ) → p ++ a ≡ w ++ b → Order p w
order [] a w b e = shorter w refl
order (x ∷ p) a [] b e = longer (x ∷ p) refl
order (x ∷ p) a (y ∷ w) b e = one_further x y p w (head_is x y (p ++ a) (w ++ b) e) (order p a w b (tail_is x y (p ++ a) (w ++ b) e))

-- No command of the profile has a prefix that goes on from there.
abbrev NoneGoesOn : ℕ → List ℕ → ℕ → Type 0
NoneGoesOn n before letter = (d : Command) → IsCommand d → IsTrue (in_profile n d) → (others : List ℕ) → prefix_of d ≡ before ++ letter ∷ others → ⊥

prefix_first : (c : Command) → nat_le (prefix_since c) (since c) ≡ true
prefix_first (kind.Raster raster) = by_height (nat_le raster.height 2047)
  where
    by_height : (v : Bool) → nat_le 1 (cond v 1 2) ≡ true
    by_height true = refl
    by_height false = refl
prefix_first (kind.Set s) = grind (arith, nat_tests)
prefix_first (kind.Cut cut) = grind (arith, nat_tests)
prefix_first (kind.Bars bars) = grind (arith, nat_tests)
prefix_first _ = refl

not_both : (s t n : ℕ) → nat_le s t ≡ true → nat_le t n ≡ true → nat_lt n s ≡ true → ⊥
not_both s t n h k l = let clash : true ≡ false = grind (arith, nat_tests, h, k, l) in cc

shorter_had : (n : ℕ) (q : List ℕ × ℕ) (before : List ℕ) (letter : ℕ) (after : List ℕ) → Has q known → nat_lt n q.1 ≡ true → q.0 ≡ before ++ letter ∷ after
    → (d : Command) → IsCommand d → IsTrue (in_profile n d) → (more : List ℕ) → before ++ letter ∷ [] ≡ prefix_of d ++ more → ⊥
shorter_had n q before letter after h later whole d is in_time more e =
    let all : q.0 ≡ prefix_of d ++ (more ++ after) =
    whole ∙ sym (append_assoc before (letter ∷ []) after) ∙ ap (λ v. v ++ after) e ∙ append_assoc (prefix_of d) more after in
    elim (known_to d is) [
      | inl k ↦
          let same = one_of known (prefix_of d, prefix_since d) q known_apart k h (more ++ after, all) in
          not_both (prefix_since d) (since d) n (prefix_first d) in_time (ap (λ v. nat_lt n v.1) same ∙ later)
      | inr k ↦
          not_low k.0 (more ++ after) k.2
          (ap starts_low (sym (all ∙ ap (λ v. v ++ (more ++ after)) k.1)) ∙ all_has (λ o. starts_low o.0) known q known_low h)
    ]

none_there : (n : ℕ) (q : List ℕ × ℕ) (before : List ℕ) (letter : ℕ) (after : List ℕ) → Has q known → nat_lt n q.1 ≡ true → q.0 ≡ before ++ letter ∷ after
    → NoneGoesOn n before letter → ViableIn (in_profile n) (before ++ letter ∷ []) → ⊥
none_there n q before letter after h later whole none v =
    let d = v.0 in
    let more = v.1 in
    let s = v.2.1 in
    let on = spelled_on d in
    elim (order (prefix_of d) on.0 (before ++ letter ∷ []) more (sym on.1 ∙ sym s.in_table)) [
      | longer others e ↦ none d s.in_range v.2.0 others (e ∙ append_assoc before (letter ∷ []) others)
      | shorter others e ↦ shorter_had n q before letter after h later whole d s.in_range v.2.0 others e
    ]

-- The place is found by trying one byte after the other.
record Split (n : ℕ) (p : List ℕ) : Type 0 where
  before : List ℕ
  letter : ℕ
  after : List ℕ
  whole : p ≡ before ++ letter ∷ after
  had_before : had n before known ≡ true
  not_after : had n (before ++ letter ∷ []) known ≡ false

split : (n : ℕ) (before after : List ℕ) → had n before known ≡ true → had n (before ++ after) known ≡ false → Split n (before ++ after)
split n before [] h k = let clash : true ≡ false = sym h ∙ ap (λ v. had n v known) (sym (append-nil before)) ∙ k in absurd cc
split n before (b ∷ after) h k = by_test (had n (before ++ b ∷ []) known) refl (λ e l. split n (before ++ b ∷ []) after e l)
  where
    by_test : (v : Bool) → had n (before ++ b ∷ []) known ≡ v
        → (had n (before ++ b ∷ []) known ≡ true → had n ((before ++ b ∷ []) ++ after) known ≡ false → Split n ((before ++ b ∷ []) ++ after)) → Split n (before ++ b ∷ after)
    by_test false e further = record { before = before; letter = b; after = after; whole = refl; had_before = h; not_after = e }
    by_test true e further =
        subst (Split n) (append_assoc before (b ∷ []) after) (further e (ap (λ v. had n v known) (append_assoc before (b ∷ []) after) ∙ k))

begun_at_all : (n : ℕ) → nat_le 1 n ≡ true → had n [] known ≡ true
unfolding known
begun_at_all n h = has_had n [] (formed ++ others) (LF ∷ [], 1) (has_earlier _ formed others (inl refl)) h (LF ∷ [], refl)

not_true : (b : Bool) → (b ≡ true → ⊥) → b ≡ false
not_true true h = absurd (h refl)
not_true false h = refl

-- No prefix that the profile had begins with one that came later.
later_not_had : (n : ℕ) (q : List ℕ × ℕ) → Has q known → nat_lt n q.1 ≡ true → had n q.0 known ≡ false
later_not_had n q h later =
    not_true (had n q.0 known) (λ e.
    let s = some_had n q.0 known e in
    let same = one_of known q s.0 known_apart h s.1 s.3 in
    not_both q.1 q.1 n (grind (arith, nat_tests)) (ap (λ v. nat_le v.1 n) same ∙ s.2) later)

same_start : (before : List ℕ) (letter : ℕ) (a b : List ℕ) → starts_low (before ++ letter ∷ a) ≡ starts_low (before ++ letter ∷ b)
same_start [] letter a b = refl
same_start (x ∷ before) letter a b = refl

le_through : (s t n : ℕ) → nat_le s t ≡ true → nat_le t n ≡ true → nat_le s n ≡ true
le_through s t n h k = grind (arith, nat_tests, h, k)

none_goes_on : (n : ℕ) (before : List ℕ) (letter : ℕ) (after : List ℕ) → had n (before ++ letter ∷ []) known ≡ false → starts_low (before ++ letter ∷ after) ≡ true → NoneGoesOn n before letter
none_goes_on n before letter after h low d is had_d others e = elim (known_to d is) [
  | inl k ↦
      let clash : true ≡ false =
      sym (has_had n (before ++ letter ∷ []) known (prefix_of d, prefix_since d) k (le_through (prefix_since d) (since d) n (prefix_first d) had_d)
      (others, e ∙ sym (append_assoc before (letter ∷ []) others))) ∙ h in
      cc
  | inr k ↦ not_low k.0 [] k.2 (ap starts_low (sym k.1 ∙ e) ∙ same_start before letter others after ∙ low)
]

-- ## The laws

came_later : (since n : ℕ) → nat_le since n ≡ false → nat_lt n since ≡ true
came_later since n h = grind (arith, nat_tests)

too_early : (n : ℕ) → nat_le 1 n ≡ true → nat_lt n 1 ≡ true → ⊥
too_early n h k = let clash : true ≡ false = grind (arith, nat_tests, h, k) in cc

parts_at_prefix : (n : ℕ) → nat_le 1 n ≡ true → (c : Command) → IsCommand c → nat_lt n (prefix_since c) ≡ true → Parts (in_profile n) (IsNew n) (row c)
parts_at_prefix n h c is later = elim (known_to c is) [
  | inl k ↦
      let s = split n [] (prefix_of c) (begun_at_all n h) (later_not_had n (prefix_of c, prefix_since c) k later) in
      let on = spelled_on c in
      let low : starts_low (s.before ++ s.letter ∷ s.after) ≡ true =
      ap starts_low (sym s.whole) ∙ all_has (λ o. starts_low o.0) known (prefix_of c, prefix_since c) known_low k in
      let none = none_goes_on n s.before s.letter s.after s.not_after low in
      record {
        before = s.before;
        letter = s.letter;
        after = s.after ++ on.0;
        whole = on.1 ∙ ap (λ v. v ++ on.0) s.whole ∙ append_assoc s.before (s.letter ∷ s.after) on.0;
        allowed = allowed_where_had n s.before s.had_before;
        none = none_there n (prefix_of c, prefix_since c) s.before s.letter s.after k later s.whole none;
        new = prefix c is later s.after s.whole none;
      }
  | inr k ↦ absurd (too_early n h (ap (nat_lt n) (sym k.3) ∙ later))
]

-- A raster that a profile lacked has too many rows, and the profile is the first.
only_first : (n : ℕ) → nat_le 1 n ≡ true → nat_le 2 n ≡ false → n ≡ 1
only_first n h k = grind (arith, nat_tests, h, k)

tall_parts : (n scale width height : ℕ) (dots : List ℕ) (v : Bool) → nat_le 1 n ≡ true → nat_le height 2047 ≡ v → nat_le (cond v 1 2) n ≡ false → IsCommand (kind.Raster (picture scale width height dots))
    → Parts (in_profile n) (IsNew n) (row (kind.Raster (picture scale width height dots)))
tall_parts n scale width height dots true h e k is = let clash : true ≡ false = sym h ∙ k in absurd cc
tall_parts n scale width height dots false h e k is =
    subst (λ m. Parts (in_profile m) (IsNew m) (row (kind.Raster (picture scale width height dots)))) (sym (only_first n h k)) (raster_parts scale width height dots e is)

pub parts : (n : ℕ) → nat_le 1 n ≡ true → AllPart (in_profile n) (IsNew n)
parts n h (kind.Raster r) k is = tall_parts n r.scale r.width r.height r.dots (nat_le r.height 2047) h refl k is
parts n h (kind.Set s) k is = parts_at_prefix n h (kind.Set s) is (came_later (row_for table s.0).since n k)
parts n h (kind.Cut cut) k is = parts_at_prefix n h (kind.Cut cut) is (came_later (cut_since cut.0) n k)
parts n h (kind.Bars bars) k is = parts_at_prefix n h (kind.Bars bars) is (came_later (symbology_since bars.symbology) n k)
parts n h c k is = parts_at_prefix n h c is (came_later (prefix_since c) n k)

-- What is new is taken now, and wasn't.
pub new_is_taken : (n : ℕ) → nat_le 1 n ≡ true → (rest : List ℕ) (b : ℕ) → IsNew n rest b → Viable (rest ++ b ∷ []) × (ViableIn (in_profile n) (rest ++ b ∷ []) → ⊥)
unfolding seven
new_is_taken n h rest b (prefix c is later more e none) =
    let on = spelled_on c in (
      (c, more ++ on.0, subst (λ v. Spells c v) (on.1 ∙ ap (λ v. v ++ on.0) e ∙ append_assoc rest (b ∷ more) on.0 ∙ sym (append_assoc rest (b ∷ []) (more ++ on.0))) (at_row c is)),
      elim (known_to c is) [
        | inl k ↦ none_there n (prefix_of c, prefix_since c) rest b more k later e none
        | inr k ↦ absurd (too_early n h (ap (nat_lt n) (sym k.3) ∙ later))
      ],
    )
new_is_taken n h rest b (rows first scale width low a w l e least most) =
    subst (λ m. Viable (rest ++ b ∷ []) × (ViableIn (in_profile m) (rest ++ b ∷ []) → ⊥)) (sym first)
    (subst (λ v. Viable (v ++ b ∷ []) × (ViableIn (in_profile 1) (v ++ b ∷ []) → ⊥)) (sym e) (raster_is_taken scale width low b a w l least most))
