-- What one more command does to the settings and the entries of a list of commands.
use Rattle.std.proofs.Common.{◌≡◌, ℕ, List, [], ◌∷◌, ◌++◌, refl, sym, ◌∙◌, ap, append_assoc, append-nil, Bool, true, false, cond, Option}
use Rattle.std.specs.Prelude.{◌||◌, ◌&&◌, not, map, None, Some, option_to_list}
use Rattle.std.specs.Option.{option_map, unwrap_or}
use Rattle.std.specs.List.{flat_map}
use Rattle.std.proofs.lemmas.Grind.{flat_map-append}
use Rattle.std.proofs.Math.Seq.{append_snoc}
use Rattle.escpos_command.specs.declared.command.Command.{Command}
use Rattle.escpos_command.specs.Text.{text, text_after, ends_line, ends_later, characters}
use Rattle.escpos_paper.specs.declared.style.Style.{Style}
use Rattle.escpos_paper.specs.OverPlaces.{over_places}
use Rattle.escpos_paper.specs.Styles.{acts_at_line_start, bar_style, line_style, qr_style, is_empty, power_on, placing, power_on_settings, settings, stops, stops_at, style, sets_margin, sets_area, sets_stops, sets_turned, usual_stops, sets_qr_model, sets_qr_size, sets_correction, if_it_counts, commands_that_count, sets_alignment, sets_upside_down, sets_spacing, sets_table, sets_font, sets_width, sets_height, sets_bold, sets_underline, sets_strike, sets_reverse, sets_character_set, sets_character_spacing, sets_color, sets_bar_height, sets_module_width, sets_hri_place, sets_hri_font, set_after, style_after}
use Rattle.escpos_command.specs.Settings.{last_or, setting}
use Rattle.escpos_command.proofs.Lines.{ends_later-snoc}
use Rattle.escpos_command.proofs.Settings.{or_false, or_true, setting-snoc}
use Rattle.escpos_paper.specs.Cells.{Move, bytes_of_entry, entries, entries_of, entry_at, go, go_of, move_of, put, put_of}
use Rattle.escpos_paper.specs.Dots.{area_dots}
use Rattle.escpos_paper.specs.Steps.{bar_style_after, line_style_after, placing_after, qr_style_after, set_at_start, settings_after}
use Rattle.escpos_paper.proofs.SettingParts.{same_lines, same_settings}

-- ## Attributes

pub style-snoc : (cs : List Command) (c : Command) → style (cs ++ c ∷ []) ≡ style_after (style cs) c
style-snoc cs c =
    cc (
      setting-snoc sets_table power_on.table cs c,
      setting-snoc sets_font power_on.font cs c,
      setting-snoc sets_width power_on.width cs c,
      setting-snoc sets_height power_on.height cs c,
      setting-snoc sets_bold power_on.bold cs c,
      setting-snoc sets_underline power_on.underline cs c,
      setting-snoc sets_strike power_on.strike cs c,
      setting-snoc sets_reverse power_on.reverse cs c,
      setting-snoc sets_character_set power_on.character_set cs c,
      setting-snoc sets_character_spacing power_on.spacing cs c,
      setting-snoc sets_color power_on.color cs c,
      setting-snoc sets_turned power_on.turned cs c,
    )

-- ## Places

-- What f gives with one more place, where at each place of these lists f then gives what g gives without it.
pub over-snoc-at : {X : Type 0} (f g : List Command → Command → List Command → List X) (before cs whole : List Command) (c : Command) → before ++ cs ≡ whole
    → ((b : List Command) (d : Command) (following : List Command) → b ++ d ∷ following ≡ whole → f b d (following ++ c ∷ []) ≡ g b d following)
    → over_places f before (cs ++ c ∷ []) ≡ over_places g before cs ++ f whole c []
over-snoc-at f g before [] whole c e h = append-nil (f before c []) ∙ ap (λ b. f b c []) (sym (append-nil before) ∙ e)
over-snoc-at f g before (d ∷ cs) whole c e h =
    ap (λ t. t ++ over_places f (before ++ d ∷ []) (cs ++ c ∷ [])) (h before d cs e)
    ∙ ap (λ t. g before d cs ++ t) (over-snoc-at f g (before ++ d ∷ []) cs whole c (append_snoc before d cs ∙ e) h)
    ∙ sym (append_assoc (g before d cs) (over_places g (before ++ d ∷ []) cs) (f whole c []))

-- The same, where that holds at any place.
pub over-snoc : {X : Type 0} (f g : List Command → Command → List Command → List X) (before cs : List Command) (c : Command)
    → ((b : List Command) (d : Command) (following : List Command) → f b d (following ++ c ∷ []) ≡ g b d following)
    → over_places f before (cs ++ c ∷ []) ≡ over_places g before cs ++ f (before ++ cs) c []
over-snoc f g before cs c h = over-snoc-at f g before cs (before ++ cs) c refl (λ b d following here. h b d following)

over-nothing : {X : Type 0} (before cs : List Command) → over_places {X = X} (λ b c following. []) before cs ≡ []
over-nothing before [] = refl
over-nothing before (c ∷ cs) = over-nothing (before ++ c ∷ []) cs

-- ## Entries

-- At a place of the list, what one more command after it does.
at_place : (b : List Command) (d : Command) (following cs : List Command) (c : Command) (ends : Bool) → b ++ d ∷ following ≡ cs → ends_line cs c ≡ ends
    → ends_later (b ++ d ∷ []) (following ++ c ∷ []) ≡ (ends_later (b ++ d ∷ []) following || ends)
at_place b d following cs c ends whole h =
    ends_later-snoc (b ++ d ∷ []) following c
    ∙ ap (λ v. ends_later (b ++ d ∷ []) following || v) (ap (λ bs. ends_line bs c) (append_snoc b d following ∙ whole) ∙ h)

entries_by : (w : ℕ) (cs : List Command) (c : Command) (b : Bool) → ends_line cs c ≡ b
    → entries w (cs ++ c ∷ []) ≡ cond b [] (entries w cs) ++ entries_of w cs c
entries_by w cs c true h =
    over-snoc-at (entry_at w) (λ b d following. []) [] cs cs c refl
    (λ b d following whole. ap (λ v. cond v [] (entries_of w b d)) (at_place b d following cs c true whole h ∙ or_true (ends_later (b ++ d ∷ []) following)))
    ∙ ap (λ t. t ++ entries_of w cs c) (over-nothing [] cs)
entries_by w cs c false h =
    over-snoc-at (entry_at w) (entry_at w) [] cs cs c refl
    (λ b d following whole. ap (λ v. cond v [] (entries_of w b d)) (at_place b d following cs c false whole h ∙ or_false (ends_later (b ++ d ∷ []) following)))

pub entries-snoc : (w : ℕ) (cs : List Command) (c : Command) → entries w (cs ++ c ∷ []) ≡ cond (ends_line cs c) [] (entries w cs) ++ entries_of w cs c
entries-snoc w cs c = entries_by w cs c (ends_line cs c) refl

-- The characters of the entries are the text.
bytes_in_style : (s : Style) (bs : List ℕ) → flat_map bytes_of_entry (map (put s) bs) ≡ bs
bytes_in_style s [] = refl
bytes_in_style s (b ∷ bs) = ap (λ t. b ∷ t) (bytes_in_style s bs)

no_bytes : (area : ℕ) (m : Option Move) → flat_map bytes_of_entry (option_to_list (option_map (go area) m)) ≡ []
no_bytes area None = refl
no_bytes area (Some m) = refl

bytes_of_command : (w : ℕ) (before : List Command) (c : Command) → flat_map bytes_of_entry (entries_of w before c) ≡ characters c
bytes_of_command w before c =
    flat_map-append bytes_of_entry (put_of (style before) c) (go_of w before c)
    ∙ ap (λ t. t ++ flat_map bytes_of_entry (go_of w before c)) (bytes_in_style (style before) (characters c))
    ∙ ap (λ t. characters c ++ t) (no_bytes (area_dots w (placing before)) (move_of (stops before) c)) ∙ append-nil (characters c)

bytes_of_place : (w : ℕ) (before : List Command) (c : Command) (b : Bool) → flat_map bytes_of_entry (cond b [] (entries_of w before c)) ≡ cond b [] (characters c)
bytes_of_place w before c true = refl
bytes_of_place w before c false = bytes_of_command w before c

bytes_from : (w : ℕ) (before cs : List Command) → flat_map bytes_of_entry (over_places (entry_at w) before cs) ≡ text_after before cs
bytes_from w before [] = refl
bytes_from w before (c ∷ cs) =
    flat_map-append bytes_of_entry (entry_at w before c cs) (over_places (entry_at w) (before ++ c ∷ []) cs)
    ∙ ap (λ t. t ++ flat_map bytes_of_entry (over_places (entry_at w) (before ++ c ∷ []) cs)) (bytes_of_place w before c (ends_later (before ++ c ∷ []) cs))
    ∙ ap (λ t. cond (ends_later (before ++ c ∷ []) cs) [] (characters c) ++ t) (bytes_from w (before ++ c ∷ []) cs)

pub bytes_of_entries : (w : ℕ) (cs : List Command) → flat_map bytes_of_entry (entries w cs) ≡ text cs
bytes_of_entries w cs = bytes_from w [] cs

-- ## Settings of lines

-- An attribute that is set only at the beginning of a line.
at_start_by : {X : Type 0} (sets : Command → Option X) (start : X) (cs : List Command) (c : Command) (ignored : Bool)
    → setting sets start (commands_that_count cs ++ cond ignored [] (c ∷ []))
    ≡ cond ignored (setting sets start (commands_that_count cs)) (set_after sets start (setting sets start (commands_that_count cs)) c)
at_start_by sets start cs c true = ap (setting sets start) (append-nil (commands_that_count cs))
at_start_by sets start cs c false = setting-snoc sets start (commands_that_count cs) c

at_start-snoc : {X : Type 0} (sets : Command → Option X) (start : X) (cs : List Command) (c : Command)
    → setting sets start (commands_that_count (cs ++ c ∷ [])) ≡ set_at_start (is_empty (text cs)) sets start (setting sets start (commands_that_count cs)) c
at_start-snoc sets start cs c =
    ap (setting sets start) (over-snoc if_it_counts if_it_counts [] cs c (λ b d following. refl))
    ∙ at_start_by sets start cs c (acts_at_line_start c && not (is_empty (text cs)))

-- Where a line stands.
pub placing-snoc : (cs : List Command) (c : Command) → placing (cs ++ c ∷ []) ≡ placing_after (is_empty (text cs)) (placing cs) c
placing-snoc cs c =
    cc (
      at_start-snoc sets_alignment power_on_settings.lines.alignment.side cs c,
      at_start-snoc sets_margin power_on_settings.lines.alignment.margin cs c,
      at_start-snoc sets_area power_on_settings.lines.alignment.width cs c,
    )

-- ## Tab stops

last_with : {X : Type 0} (start : X) (xs : List X) (o : Option X) → last_or start (xs ++ option_to_list o) ≡ unwrap_or o (last_or start xs)
last_with start [] None = refl
last_with start [] (Some y) = refl
last_with start (x ∷ xs) o = last_with x xs o

pub stops-snoc : (cs : List Command) (c : Command) → stops (cs ++ c ∷ []) ≡ unwrap_or (sets_stops (style cs) c) (stops cs)
stops-snoc cs c =
    ap (last_or usual_stops) (over-snoc stops_at stops_at [] cs c (λ b d following. refl))
    ∙ last_with usual_stops (over_places stops_at [] cs) (sets_stops (style cs) c)

-- ## All settings

bars-snoc : (cs : List Command) (c : Command) → bar_style (cs ++ c ∷ []) ≡ bar_style_after (bar_style cs) c
bars-snoc cs c =
    cc (
      setting-snoc sets_bar_height power_on_settings.bars.height cs c,
      setting-snoc sets_module_width power_on_settings.bars.module_width cs c,
      setting-snoc sets_hri_place power_on_settings.bars.place cs c,
      setting-snoc sets_hri_font power_on_settings.bars.hri_font cs c,
    )

lines-snoc : (cs : List Command) (c : Command) → line_style (cs ++ c ∷ []) ≡ line_style_after (is_empty (text cs)) (line_style cs) c
lines-snoc cs c =
    same_lines (placing-snoc cs c) (at_start-snoc sets_upside_down power_on_settings.lines.upside_down cs c)
    (setting-snoc sets_spacing power_on_settings.lines.spacing cs c)

codes-snoc : (cs : List Command) (c : Command) → qr_style (cs ++ c ∷ []) ≡ qr_style_after (qr_style cs) c
codes-snoc cs c =
    cc (
      setting-snoc sets_qr_model power_on_settings.codes.model cs c,
      setting-snoc sets_qr_size power_on_settings.codes.size cs c,
      setting-snoc sets_correction power_on_settings.codes.correction cs c,
    )

pub settings-snoc : (cs : List Command) (c : Command) → settings (cs ++ c ∷ []) ≡ settings_after (is_empty (text cs)) (settings cs) c
settings-snoc cs c = same_settings (style-snoc cs c) (bars-snoc cs c) (lines-snoc cs c) (codes-snoc cs c)
