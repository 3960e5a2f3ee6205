-- The commands in the tree: each spelling leads to its command, and the tree is good. A form of command adds a case to `leads`
-- and an entry to `good_forms`; a setting adds nothing.
use Rattle.std.proofs.Common.{◌≡◌, ◌<◌, ℕ, List, [], ◌∷◌, ◌++◌, refl, ◌∙◌, ap, sym, subst, append-nil, cond, arith, Bool, true, false, IsTrue, length}
use Rattle.std.specs.Prelude.{◌==◌, ◌&&◌, ◌||◌, not, nat_lt, Option, None, Some, option_to_list}
use Rattle.std.specs.List.{list_all, AllByRecursion}
use Rattle.std.proofs.lemmas.Bool.Decides.{nat_tests}
use Rattle.escpos_command.specs.declared.bytes.TheConstants.{HT, LF, CR, DLE, ESC, GS, EOT}
use Rattle.escpos_command.specs.declared.command.Command.{Command}
use Rattle.escpos_command.specs.declared.command.Command.TheVariants as kind
use Rattle.escpos_command.specs.declared.setting.Row.{Row}
use Rattle.escpos_command.specs.declared.setting.SettingKind.{SettingKind}
use Rattle.escpos_command.specs.Parameters.{is_character, is_one_of_two, is_status_kind, is_feed_cut_mode, is_byte, is_cut, is_word, is_pulse, is_mark_byte, is_mark_id, is_qr_size, is_qr_level}
use Rattle.escpos_command.specs.SettingTable.{table, fits, row_prefix, number, blank, row_at, row_for, is_setting}
use Rattle.escpos_command.specs.CommandTable.{Spells, IsCommand, row}
use Rattle.escpos_command.specs.declared.parameter.position.PositionKind.{PositionKind}
use Rattle.escpos_command.specs.declared.parameter.position.PositionKind.TheVariants as at
use Rattle.escpos_command.specs.Positions.{position_prefix, word_bytes}
use Rattle.escpos_command.specs.Prefixes.{Forms, apart, part_from, has_form, tree_after, rows_part_from}
use Rattle.escpos_command.specs.Tree.{Tree, leaf, dead, node, walk, planted, all_planted, one, passing, character, cut, mark, position, tab_stops, graphics, long_graphics, pulse, forms, setting_tree, settings, grammar, counted}
use Rattle.escpos_command.proofs.BarcodeTree.{leads_barcode, good_barcodes}
use Rattle.escpos_command.proofs.RasterTree.{leads_raster, good_raster}
use Rattle.escpos_command.proofs.PositionTree.{leads_position, leads_stops, good_position, good_stops, live_stops, spelled_position}
use Rattle.escpos_command.proofs.QrTree.{leads_model, leads_store, good_qr}
use Rattle.escpos_command.proofs.GraphicsTree.{picture_of, leads_long, leads_print, leads_short, good_graphics, good_long_graphics}
use Rattle.escpos_command.specs.declared.graphics.GraphicsForm.{GraphicsForm}
use Rattle.escpos_command.specs.declared.graphics.GraphicsForm.TheVariants.{Short, Long}
use Rattle.escpos_command.specs.Graphics.{is_graphics}
use Rattle.escpos_command.proofs.Walks.{Good, IsLive, walk-nil}
use Rattle.escpos_command.proofs.Combinators.{good_choice, good_passing, good_one, good_these, good_counted, walk-counted, walk-one, live_counted, all_from_all, and_left, and_right, both, same_number, at_row}
use Rattle.escpos_command.proofs.Planting.{all_elsewhere, all_there, all_good}
use Rattle.escpos_command.proofs.SettingRows.{SpellsSettings, all_at, covered, own_kind, own_row, setting_there, settings_elsewhere, to_setting, good_settings}
use Rattle.escpos_command.proofs.SettingFacts.{is_table}

-- ## Where bytes lead

-- Before the first byte there is a choice.
pub at_start : (next : ℕ → Tree) × (grammar ≡ node next)
unfolding grammar all_planted planted
at_start = (_, refl)

-- The prefix of a form leads to its tree.
pub form : (q w : List ℕ) → has_form q forms ≡ true → walk grammar (q ++ w) ≡ walk (tree_after q forms) w
unfolding grammar
form q w h = all_there forms q w (settings table (node character)) refl h

-- The prefix of a setting leads to what may follow it.
pub setting : (which : SettingKind) (w : List ℕ) → walk grammar (row_prefix (row_for table which) ++ w) ≡ walk (setting_tree (row_for table which)) w
unfolding grammar
setting which w =
    all_elsewhere forms (row_prefix (row_for table which)) w (settings table (node character))
    (all_at (λ r. part_from (row_prefix r) forms) table (number which) blank is_table.beside_forms (covered table is_table which))
    ∙ setting_there table (node character) which w is_table

-- Bytes that part from every prefix lead to no more than a character.
pub elsewhere : (q w : List ℕ) → part_from q forms ≡ true → rows_part_from q table ≡ true → walk grammar (q ++ w) ≡ walk (node character) (q ++ w)
unfolding grammar
elsewhere q w h k = all_elsewhere forms q w (settings table (node character)) h ∙ settings_elsewhere table (node character) q w k

-- The prefix begins with a byte that is no character.
abbrev starts_low : List ℕ → Bool
starts_low [] = false
starts_low (b ∷ p) = nat_lt b 0x20

other_byte : (b c : ℕ) → nat_lt b 0x20 ≡ true → is_character c ≡ true → (b == c) ≡ false
other_byte b c h k = grind (arith, nat_tests)

parts_from_character : (p : List ℕ) (c : ℕ) → starts_low p ≡ true → is_character c ≡ true → apart p (c ∷ []) ≡ true
parts_from_character [] c h k = absurd cc
parts_from_character (b ∷ p) c h k = ap (λ v. not v || apart p []) (other_byte b c h k)

forms_part : (forms : Forms) (c : ℕ) → list_all (λ form. starts_low form.0) forms ≡ true → is_character c ≡ true → part_from (c ∷ []) forms ≡ true
forms_part [] c h k = refl
forms_part (form ∷ forms) c h k =
    both _ _ (parts_from_character form.0 c (and_left (starts_low form.0) (list_all (λ other. starts_low other.0) forms) h) k)
    (forms_part forms c (and_right (starts_low form.0) (list_all (λ other. starts_low other.0) forms) h) k)

rows_part : (rows : List Row) (c : ℕ) → list_all (λ r. nat_lt r.first 0x20) rows ≡ true → is_character c ≡ true → rows_part_from (c ∷ []) rows ≡ true
rows_part [] c h k = refl
rows_part (r ∷ rows) c h k =
    both _ _ (parts_from_character (row_prefix r) c (and_left (nat_lt r.first 0x20) (list_all (λ s. nat_lt s.first 0x20) rows) h) k)
    (rows_part rows c (and_right (nat_lt r.first 0x20) (list_all (λ s. nat_lt s.first 0x20) rows) h) k)

-- The same with nothing after the prefix.
pub at_form : (q : List ℕ) → has_form q forms ≡ true → walk grammar q ≡ tree_after q forms
at_form q h = ap (walk grammar) (sym (append-nil q)) ∙ form q [] h ∙ walk-nil (tree_after q forms)

pub at_setting : (which : SettingKind) → walk grammar (row_prefix (row_for table which)) ≡ setting_tree (row_for table which)
at_setting which =
    ap (walk grammar) (sym (append-nil (row_prefix (row_for table which)))) ∙ setting which [] ∙ walk-nil (setting_tree (row_for table which))

pub at_neither : (q : List ℕ) → part_from q forms ≡ true → rows_part_from q table ≡ true → walk grammar q ≡ walk (node character) q
at_neither q h k = ap (walk grammar) (sym (append-nil q)) ∙ elsewhere q [] h k ∙ ap (walk (node character)) (append-nil q)

-- ## Each spelling leads to its command

-- A character begins no command of another kind.
pub leads_character : (b : ℕ) → is_character b ≡ true → walk grammar (b ∷ []) ≡ leaf (kind.Char b)
leads_character b h =
    elsewhere (b ∷ []) [] (forms_part forms b refl h) (rows_part table b is_table.low h)
    ∙ ap (λ v. walk (cond v (leaf (kind.Char b)) dead) []) h

-- A setting's parameter stands after its prefix.
pub spelled_setting : (which : SettingKind) (p : Option ℕ) → row (kind.Set (which, p)) ≡ row_prefix (row_for table which) ++ option_to_list p
spelled_setting which p =
    let spelled = row_prefix (row_for table which) ++ option_to_list p in append-nil (spelled ++ []) ∙ append-nil spelled

leads_setting : (which : SettingKind) (p : Option ℕ) → is_setting table (which, p) ≡ true → walk grammar (row (kind.Set (which, p))) ≡ leaf (kind.Set (which, p))
leads_setting which p h =
    ap (walk grammar) (spelled_setting which p) ∙ setting which (option_to_list p) ∙ to_setting (row_for table which) p h
    ∙ ap (λ k. leaf (kind.Set (k, p))) (own_kind table which is_table)

-- A mode with a feed isn't a mode without one.
feed_mode_apart : (m : ℕ) → is_feed_cut_mode m ≡ true → is_one_of_two m ≡ false
feed_mode_apart m h = grind (arith, nat_tests)

leads_mode : (m : ℕ) → is_one_of_two m ≡ true → cut m ≡ leaf (kind.Cut (m, None))
leads_mode m h = rw h

leads_feed_mode : (m : ℕ) → is_feed_cut_mode m ≡ true → cut m ≡ one is_byte (λ n. kind.Cut (m, Some n))
leads_feed_mode m h = rw (feed_mode_apart m h, h)

leads_cut : (m : ℕ) (feed : Option ℕ) → is_cut m feed ≡ true → walk (cut m) (option_to_list feed) ≡ leaf (kind.Cut (m, feed))
leads_cut m None h = ap (λ t. walk t []) (leads_mode m h)
leads_cut m (Some n) h =
    ap (λ t. walk t (n ∷ [])) (leads_feed_mode m (and_left _ _ h)) ∙ walk-one is_byte (λ x. kind.Cut (m, Some x)) n (and_right _ _ h)

leads_old_cut : (b : ℕ) (s t : Bool) → (b == 0x69) ≡ s → (b == 0x6D) ≡ t → (s || t) ≡ true → walk grammar (row (kind.OldCut b)) ≡ leaf (kind.OldCut b)
leads_old_cut b true t e f o = subst (λ x. walk grammar (row (kind.OldCut x)) ≡ leaf (kind.OldCut x)) (sym (same_number b 0x69 e)) (form (ESC ∷ 0x69 ∷ []) [] refl)
leads_old_cut b false true e f o = subst (λ x. walk grammar (row (kind.OldCut x)) ≡ leaf (kind.OldCut x)) (sym (same_number b 0x6D f)) (form (ESC ∷ 0x6D ∷ []) [] refl)
leads_old_cut b false false e f o = absurd cc

leads_mark : (id : List ℕ) → is_mark_id id ≡ true → walk (counted 4 (λ _. is_mark_byte) kind.Mark []) id ≡ leaf (kind.Mark id)
leads_mark id h =
    walk-counted 4 (λ _. is_mark_byte) kind.Mark [] id (same_number _ _ (and_left _ _ h))
    (all_from_all 0 is_mark_byte id ∙ and_right (length id == 4) _ h)

leads_pulse : (m on off : ℕ) → is_pulse (m, on, off) ≡ true → walk pulse (m ∷ on ∷ off ∷ []) ≡ leaf (kind.Pulse (m, on, off))
leads_pulse m on off h =
    let pin = and_left (is_one_of_two m) (is_byte on) (and_left (is_one_of_two m && is_byte on) (is_byte off) h) in
    let first = and_right (is_one_of_two m) (is_byte on) (and_left (is_one_of_two m && is_byte on) (is_byte off) h) in
    ap (λ v. walk (cond v (passing is_byte (λ on. one is_byte (λ off. kind.Pulse (m, on, off)))) dead) (on ∷ off ∷ [])) pin
    ∙ ap (λ v. walk (cond v (one is_byte (λ off. kind.Pulse (m, on, off))) dead) (off ∷ [])) first
    ∙ walk-one is_byte (λ off. kind.Pulse (m, on, off)) off (and_right (is_one_of_two m && is_byte on) (is_byte off) h)

leads_place : (which : PositionKind) (n : ℕ) → is_word n ≡ true → walk grammar (position_prefix which ++ word_bytes n) ≡ leaf (kind.Position (which, n))
leads_place at.Absolute n h = form (ESC ∷ 0x24 ∷ []) (word_bytes n) refl ∙ leads_position at.Absolute n h
leads_place at.Relative n h = form (ESC ∷ 0x5C ∷ []) (word_bytes n) refl ∙ leads_position at.Relative n h
leads_place at.LeftMargin n h = form (GS ∷ 0x4C ∷ []) (word_bytes n) refl ∙ leads_position at.LeftMargin n h
leads_place at.AreaWidth n h = form (GS ∷ 0x57 ∷ []) (word_bytes n) refl ∙ leads_position at.AreaWidth n h

leads_picture : (f : GraphicsForm) (across down width height : ℕ) (dots : List ℕ) → is_graphics (picture_of f across down width height dots) ≡ true
    → walk grammar (row (kind.GraphicsStore (picture_of f across down width height dots))) ≡ leaf (kind.GraphicsStore (picture_of f across down width height dots))
leads_picture Short across down width height dots h = form (GS ∷ 0x28 ∷ 0x4C ∷ []) _ refl ∙ leads_short across down width height dots h
leads_picture Long across down width height dots h = form (GS ∷ 0x38 ∷ []) _ refl ∙ leads_long across down width height dots h

pub leads : (c : Command) → IsCommand c → walk grammar (row c) ≡ leaf c
leads (kind.Char b) h = leads_character b h
leads kind.Tab h = form (HT ∷ []) [] refl
leads kind.LineFeed h = form (LF ∷ []) [] refl
leads kind.Return h = form (CR ∷ []) [] refl
leads kind.Init h = form (ESC ∷ 0x40 ∷ []) [] refl
leads (kind.Set s) h = leads_setting s.0 s.1 h
leads (kind.FeedLines n) h = form (ESC ∷ 0x64 ∷ []) (n ∷ []) refl ∙ walk-one is_byte kind.FeedLines n h
leads (kind.FeedUnits n) h = form (ESC ∷ 0x4A ∷ []) (n ∷ []) refl ∙ walk-one is_byte kind.FeedUnits n h
leads (kind.Position p) h = ap (walk grammar) (spelled_position p.0 p.1) ∙ leads_place p.0 p.1 h
leads (kind.TabStops columns) h = form (ESC ∷ 0x44 ∷ []) _ refl ∙ leads_stops columns h
leads (kind.Pulse p) h = form (ESC ∷ 0x70 ∷ []) (p.0 ∷ p.1 ∷ p.2 ∷ []) refl ∙ leads_pulse p.0 p.1 p.2 h
leads (kind.Bars bars) h = form (GS ∷ 0x6B ∷ []) _ refl ∙ leads_barcode bars.form bars.symbology bars.content h
leads (kind.Raster r) h = form (GS ∷ 0x76 ∷ []) _ refl ∙ leads_raster r.scale r.width r.height r.dots h
leads (kind.QrModel n) h = form (GS ∷ 0x28 ∷ 0x6B ∷ []) (0x04 ∷ 0x00 ∷ 0x31 ∷ 0x41 ∷ n ∷ 0x00 ∷ []) refl ∙ leads_model n h
leads (kind.QrSize n) h = form (GS ∷ 0x28 ∷ 0x6B ∷ []) (0x03 ∷ 0x00 ∷ 0x31 ∷ 0x43 ∷ n ∷ []) refl ∙ walk-one is_qr_size kind.QrSize n h
leads (kind.QrLevel n) h = form (GS ∷ 0x28 ∷ 0x6B ∷ []) (0x03 ∷ 0x00 ∷ 0x31 ∷ 0x45 ∷ n ∷ []) refl ∙ walk-one is_qr_level kind.QrLevel n h
leads (kind.QrStore stored) h = form (GS ∷ 0x28 ∷ 0x6B ∷ []) _ refl ∙ leads_store stored h
leads kind.QrPrint h = form (GS ∷ 0x28 ∷ 0x6B ∷ []) (0x03 ∷ 0x00 ∷ 0x31 ∷ 0x51 ∷ 0x30 ∷ []) refl
leads (kind.GraphicsStore p) h = leads_picture p.head.form p.head.across p.head.down p.head.width p.head.height p.dots h
leads (kind.GraphicsPrint fn) h = form (GS ∷ 0x28 ∷ 0x4C ∷ []) (0x02 ∷ 0x00 ∷ 0x30 ∷ fn ∷ []) refl ∙ leads_print fn h
leads (kind.Cut c) h =
    form (GS ∷ 0x56 ∷ []) _ refl
    ∙ ap (walk (cut c.0)) (append-nil (option_to_list c.1 ++ []) ∙ append-nil (option_to_list c.1)) ∙ leads_cut c.0 c.1 h
leads (kind.OldCut b) h = leads_old_cut b (b == 0x69) (b == 0x6D) refl refl h
leads (kind.AutomaticStatus n) h = form (GS ∷ 0x61 ∷ []) (n ∷ []) refl ∙ walk-one is_byte kind.AutomaticStatus n h
leads (kind.Status n) h = form (DLE ∷ EOT ∷ []) (n ∷ []) refl ∙ walk-one is_status_kind kind.Status n h
leads (kind.Mark id) h =
    form (GS ∷ 0x28 ∷ 0x48 ∷ []) _ refl
    ∙ ap (walk (counted 4 (λ _. is_mark_byte) kind.Mark [])) (append-nil (id ++ []) ∙ append-nil id) ∙ leads_mark id h

-- ## The tree is good

good_cut : (m : ℕ) → Good (GS ∷ 0x56 ∷ m ∷ []) (cut m)
good_cut m =
    good_choice _ _ _ (is_one_of_two m) (λ h. at_row (kind.Cut (m, None)) h) (λ _.
    good_choice _ _ _ (is_feed_cut_mode m)
    (λ h. good_one (GS ∷ 0x56 ∷ m ∷ []) is_byte (λ n. kind.Cut (m, Some n)) 0 refl (λ n k. at_row (kind.Cut (m, Some n)) (both _ _ h k)))
    (λ _. tt))

-- Four bytes that each pass are an id.
is_id : (id : List ℕ) → length id ≡ 4 → list_all is_mark_byte id ≡ true → IsTrue (is_mark_id id)
is_id id long all = rw (long, all) refl

good_mark : Good (GS ∷ 0x28 ∷ 0x48 ∷ []) mark
good_mark =
    good_these (GS ∷ 0x28 ∷ 0x48 ∷ []) (0x06 ∷ 0x00 ∷ 0x30 ∷ 0x30 ∷ []) (counted 4 (λ _. is_mark_byte) kind.Mark []) (live_counted 4 (λ _. is_mark_byte) kind.Mark [])
    (good_counted 4 (GS ∷ 0x28 ∷ 0x48 ∷ 0x06 ∷ 0x00 ∷ 0x30 ∷ 0x30 ∷ []) (λ _. is_mark_byte) kind.Mark [] (λ _. (32, refl)) (λ id long all.
    subst (λ v. Spells (kind.Mark id) (GS ∷ 0x28 ∷ 0x48 ∷ 0x06 ∷ 0x00 ∷ 0x30 ∷ 0x30 ∷ v)) (append-nil (id ++ []) ∙ append-nil id)
    (at_row (kind.Mark id) (is_id id long (sym (all_from_all 0 is_mark_byte id) ∙ all)))))

good_pulse : Good (ESC ∷ 0x70 ∷ []) pulse
good_pulse =
    good_passing (ESC ∷ 0x70 ∷ []) is_one_of_two _ 0 refl tt (λ m pin.
    good_passing (ESC ∷ 0x70 ∷ m ∷ []) is_byte _ 0 refl tt (λ on first.
    good_one (ESC ∷ 0x70 ∷ m ∷ on ∷ []) is_byte (λ off. kind.Pulse (m, on, off)) 0 refl
    (λ off second. at_row (kind.Pulse (m, on, off)) (both _ _ (both _ _ pin first) second))))

-- Those of positions, tab stops and graphics.
abbrev moving : Forms
moving =
    (HT ∷ [], leaf kind.Tab)
    ∷ (ESC ∷ 0x24 ∷ [], position at.Absolute)
    ∷ (ESC ∷ 0x5C ∷ [], position at.Relative)
    ∷ (GS ∷ 0x4C ∷ [], position at.LeftMargin)
    ∷ (GS ∷ 0x57 ∷ [], position at.AreaWidth)
    ∷ (ESC ∷ 0x44 ∷ [], tab_stops 32 0 [])
    ∷ (GS ∷ 0x28 ∷ 0x4C ∷ [], graphics)
    ∷ (GS ∷ 0x38 ∷ [], long_graphics)
    ∷ []

good_moving : AllByRecursion (λ f. IsLive f.1 × Good f.0 f.1) moving
good_moving = (
  (tt, at_row kind.Tab refl),
  (
    (tt, good_position at.Absolute),
    (
      (tt, good_position at.Relative),
      (
        (tt, good_position at.LeftMargin),
        (
          (tt, good_position at.AreaWidth),
          (
            (live_stops, good_stops),
            (
              (tt, good_graphics),
              (
                (tt, good_long_graphics),
                tt,
              ),
            ),
          ),
        ),
      ),
    ),
  ),
)

-- Each form is live and good at its prefix.
good_forms : AllByRecursion (λ f. IsLive f.1 × Good f.0 f.1) forms
good_forms = (
  (tt, at_row kind.LineFeed refl),
  (
    (tt, at_row kind.Return refl),
    (
      (tt, good_one (DLE ∷ EOT ∷ []) is_status_kind kind.Status 1 refl (λ n h. at_row (kind.Status n) h)),
      (
        (tt, at_row kind.Init refl),
        (
          (tt, good_one (ESC ∷ 0x4A ∷ []) is_byte kind.FeedUnits 0 refl (λ n h. at_row (kind.FeedUnits n) h)),
          (
            (tt, good_one (ESC ∷ 0x64 ∷ []) is_byte kind.FeedLines 0 refl (λ n h. at_row (kind.FeedLines n) h)),
            (
              (tt, good_pulse),
              (
                (tt, good_mark),
                (
                  (tt, good_qr),
                  (
                    (tt, ((0, tt), good_cut)),
                    (
                      (tt, good_one (GS ∷ 0x61 ∷ []) is_byte kind.AutomaticStatus 0 refl (λ n h. at_row (kind.AutomaticStatus n) h)),
                      (
                        (tt, ((65, tt), good_barcodes)),
                        (
                          (tt, good_raster),
                          (
                            (tt, at_row (kind.OldCut 0x69) refl),
                            (
                              (tt, at_row (kind.OldCut 0x6D) refl),
                              good_moving,
                            ),
                          ),
                        ),
                      ),
                    ),
                  ),
                ),
              ),
            ),
          ),
        ),
      ),
    ),
  ),
)

spelled_so : (which : SettingKind) (r : Row) (p : Option ℕ) → row_for table which ≡ r → fits r.values p ≡ true → Spells (kind.Set (which, p)) (row_prefix r ++ option_to_list p)
spelled_so which r p e h = record {
  in_range = ap (λ s. fits s.values p) e ∙ h;
  in_table = ap (λ s. row_prefix s ++ option_to_list p) (sym e) ∙ sym (spelled_setting which p);
}

spells_settings : (i : ℕ) → i < length table → SpellsSettings (row_at table i)
spells_settings i inside p h = spelled_so (row_at table i).kind (row_at table i) p (own_row table i is_table inside) h

good_characters : Good [] (node character)
good_characters = ((0x20, tt), λ b. good_choice (b ∷ []) (leaf (kind.Char b)) dead (is_character b) (λ h. at_row (kind.Char b) h) (λ _. tt))

pub good : Good [] grammar
unfolding grammar
good = all_good forms (settings table (node character)) good_forms (good_settings table (node character) spells_settings good_characters)
