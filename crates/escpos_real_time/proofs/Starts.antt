-- The byte that a command begins with.
use Rattle.std.specs.Prelude.{◌==◌, ◌&&◌, not, nat_le}
use Rattle.std.proofs.Common.{◌≡◌, ◌≢◌, ◌≤◌, ◌⊎◌, true, ℕ, IsTrue, List, [], ◌∷◌, ◌++◌, refl, sym, ◌∙◌, ap, subst, append-nil, arith}
use Rattle.std.proofs.lemmas.Bool.Decides.{nat_tests}
use Rattle.std.proofs.lemmas.Grind.{flat_map-append}
use Rattle.escpos_command.specs.declared.bytes.TheConstants.{HT, LF, CR, DLE, ESC, GS}
use Rattle.escpos_command.specs.declared.command.Command.{Command}
use Rattle.escpos_command.specs.declared.command.Command.TheVariants as kind
use Rattle.escpos_command.specs.declared.setting.SettingKind.{SettingKind}
use Rattle.escpos_command.specs.declared.parameter.position.PositionKind.{PositionKind}
use Rattle.escpos_command.specs.declared.parameter.position.PositionKind.TheVariants as position
use Rattle.escpos_command.specs.Positions.{position_prefix, word_bytes}
use Rattle.escpos_command.proofs.PositionTree.{spelled_position}
use Rattle.escpos_command.specs.declared.graphics.GraphicsForm.{GraphicsForm}
use Rattle.escpos_command.specs.declared.graphics.GraphicsForm.TheVariants.{Short, Long}
use Rattle.escpos_command.specs.Graphics.{stored_picture}
use Rattle.escpos_command.specs.CommandTable.{IsCommand, row, spell}
use Rattle.escpos_command.specs.SettingTable.{table, number, blank, row_for}
use Rattle.escpos_command.proofs.SettingFacts.{is_table, firsts}
use Rattle.escpos_command.proofs.SettingRows.{all_at, covered}
use Rattle.escpos_command.specs.Parameters.{is_character}
use Rattle.escpos_real_time.specs.RealTime.{HoldsRealTime}
use Rattle.escpos_real_time.proofs.Holding.{IsStart, held_by_part}

-- The bytes begin with one that no real-time command has after its first.
pub record Starts (bytes : List ℕ) : Type 0 where
  pub first : ℕ
  pub others : List ℕ
  pub split : bytes ≡ first ∷ others
  pub is_start : IsStart first

starts : (b : ℕ) (bytes : List ℕ) → IsStart b → Starts (b ∷ bytes)
starts b bytes s = record { first = b; others = bytes; split = refl; is_start = s }

start : (b : ℕ) → 9 ≤ b → b ≢ 20 → IsStart b
start b large other = (large, other)

character_start : (b : ℕ) → IsTrue (is_character b) → IsStart b
character_start b h =
    let large : 32 ≤ b = search (arith, nat_tests) in
    (omega (arith, large), λ e. omega (arith, large, e))

esc : IsStart ESC
esc = (omega arith, λ e. omega (arith, e))

gs : IsStart GS
gs = (omega arith, λ e. omega (arith, e))

pub character_starts : (b : ℕ) → 32 ≤ b → Starts (b ∷ [])
character_starts b large = starts b [] (omega (arith, large), λ e. omega (arith, large, e))

pub line_feed_starts : Starts (row kind.LineFeed)
line_feed_starts = starts LF [] (omega arith, λ e. omega (arith, e))

pub escape_starts : (bytes : List ℕ) → Starts (ESC ∷ bytes)
escape_starts bytes = starts ESC bytes esc

is_start : (b : ℕ) → (nat_le 9 b && not (b == 20)) ≡ true → IsStart b
is_start b h =
    let large : 9 ≤ b = grind (arith, nat_tests, h) in
    let other : b ≢ 20 = grind (arith, nat_tests, h) in
    (large, other)

first_is_start : (which : SettingKind) → IsStart (row_for table which).first
first_is_start which = is_start (row_for table which).first (all_at (λ r. nat_le 9 r.first && not (r.first == 20)) table (number which) blank firsts (covered table is_table which))

position_starts : (which : PositionKind) (more : List ℕ) → Starts (position_prefix which ++ more)
position_starts position.Absolute more = starts ESC _ esc
position_starts position.Relative more = starts ESC _ esc
position_starts position.LeftMargin more = starts GS _ gs
position_starts position.AreaWidth more = starts GS _ gs

graphics_start : (form : GraphicsForm) (across down width height : ℕ) (dots : List ℕ)
    → Starts (row (kind.GraphicsStore (stored_picture (record { form = form; across = across; down = down; width = width; height = height }) dots)))
graphics_start Short across down width height dots = starts GS _ gs
graphics_start Long across down width height dots = starts GS _ gs

pub command_starts : (c : Command) → IsCommand c → Starts (row c)
command_starts (kind.Char b) h = starts b _ (character_start b h)
command_starts kind.Tab h = starts HT _ (omega arith, λ e. omega (arith, e))
command_starts kind.LineFeed h = starts LF _ (omega arith, λ e. omega (arith, e))
command_starts kind.Return h = starts CR _ (omega arith, λ e. omega (arith, e))
command_starts kind.Init h = starts ESC _ esc
command_starts (kind.Set s) h = starts (row_for table s.0).first _ (first_is_start s.0)
command_starts (kind.FeedLines n) h = starts ESC _ esc
command_starts (kind.FeedUnits n) h = starts ESC _ esc
command_starts (kind.Position p) h = subst Starts (sym (spelled_position p.0 p.1)) (position_starts p.0 (word_bytes p.1))
command_starts (kind.TabStops columns) h = starts ESC _ esc
command_starts (kind.Pulse pulse) h = starts ESC _ esc
command_starts (kind.Bars bars) h = starts GS _ gs
command_starts (kind.Raster raster) h = starts GS _ gs
command_starts (kind.GraphicsStore p) h = graphics_start p.head.form p.head.across p.head.down p.head.width p.head.height p.dots
command_starts (kind.GraphicsPrint fn) h = starts GS _ gs
command_starts (kind.QrModel n) h = starts GS _ gs
command_starts (kind.QrSize n) h = starts GS _ gs
command_starts (kind.QrLevel n) h = starts GS _ gs
command_starts (kind.QrStore stored) h = starts GS _ gs
command_starts kind.QrPrint h = starts GS _ gs
command_starts (kind.Cut cut) h = starts GS _ gs
command_starts (kind.OldCut b) h = starts ESC _ esc
command_starts (kind.AutomaticStatus n) h = starts GS _ gs
command_starts (kind.Status n) h = starts DLE _ (omega arith, λ e. omega (arith, e))
command_starts (kind.Mark id) h = starts GS _ gs

by_start : (some bytes : List ℕ) → Starts bytes → HoldsRealTime (some ++ bytes) → HoldsRealTime some ⊎ HoldsRealTime bytes
by_start some bytes s h =
    subst (λ l. HoldsRealTime some ⊎ HoldsRealTime l) (sym s.split) (held_by_part some s.first s.others s.is_start (subst (λ l. HoldsRealTime (some ++ l)) s.split h))

pub spelled-snoc : (cs : List Command) (c : Command) → spell (cs ++ c ∷ []) ≡ spell cs ++ row c
spelled-snoc cs c = flat_map-append row cs (c ∷ []) ∙ ap (λ l. spell cs ++ l) (append-nil (row c))

pub held_by_one : (cs : List Command) (c : Command) → Starts (row c) → HoldsRealTime (spell (cs ++ c ∷ [])) → HoldsRealTime (spell cs) ⊎ HoldsRealTime (row c)
held_by_one cs c s h = by_start (spell cs) (row c) s (subst HoldsRealTime (spelled-snoc cs c) h)
