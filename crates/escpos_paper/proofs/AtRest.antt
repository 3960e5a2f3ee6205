-- Commands that move nothing: the printing area stays the whole line, and each character follows the one before it.
use Rattle.std.proofs.Common.{◌≡◌, ℕ, List, [], ◌∷◌, ◌++◌, refl, sym, ◌∙◌, ap, subst, append-nil, arith, Bool, true, false, cond, None}
use Rattle.std.specs.Prelude.{◌-◌}
use Rattle.std.specs.List.{AllByRecursion}
use Rattle.std.proofs.Math.Seq.{append_snoc}
use Rattle.escpos_command.specs.declared.command.Command.{Command}
use Rattle.escpos_command.specs.declared.command.Command.TheVariants as kind
use Rattle.escpos_command.specs.declared.setting.SettingKind.TheVariants as sets
use Rattle.escpos_command.specs.Text.{is_some, text}
use Rattle.escpos_paper.specs.declared.style.Placing.{Placing}
use Rattle.escpos_paper.specs.declared.style.Settings.{Settings}
use Rattle.escpos_paper.specs.Cells.{Placed, nothing_placed}
use Rattle.escpos_paper.specs.Dots.{lesser_width}
use Rattle.escpos_paper.specs.Rows.{area, moved, placed}
use Rattle.escpos_paper.specs.SecondPaper.{IsWholeLine}
use Rattle.escpos_paper.specs.Steps.{line_after, placing_after}
use Rattle.escpos_paper.specs.Storage.{Storage, storage}
use Rattle.escpos_paper.specs.Styles.{is_empty, placing, settings, stops}
use Rattle.escpos_paper.proofs.OneMore.{placing-snoc}
use Rattle.escpos_paper.proofs.Sheets.{placed-snoc}

-- The commands that move the place of the next character, or the printing area.
abbrev pub moves : Command → Bool
moves kind.Tab = true
moves (kind.Position p) = true
moves _ = false

abbrev pub AreStill : List Command → Type 0
AreStill cs = AllByRecursion (λ c. moves c ≡ false) cs

pub record IsAtRest (w : ℕ) (cs : List Command) : Type 0 where
  pub whole : IsWholeLine (placing cs)
  pub follows : moved w cs ≡ None

whole_after : (e : Bool) (p : Placing) (c : Command) → moves c ≡ false → IsWholeLine p → IsWholeLine (placing_after e p c)
whole_after e p (kind.Position q) k h = absurd cc
whole_after e p kind.Init k h = (refl, refl)
whole_after true p (kind.Set (sets.Align, q)) k h = (h.0, h.1)
whole_after true p (kind.Set (sets.UpsideDown, q)) k h = (h.0, h.1)
whole_after false p (kind.Set (sets.Align, q)) k h = (h.0, h.1)
whole_after false p (kind.Set (sets.UpsideDown, q)) k h = (h.0, h.1)
whole_after true p c k h = (h.0, h.1)
whole_after false p c k h = (h.0, h.1)

follows_at_print : (there : Bool) (p : Placed) → p.moved ≡ None → (cond there nothing_placed p).moved ≡ None
follows_at_print false p h = h
follows_at_print true p h = refl

follows_after : (w : ℕ) (s : Settings) (ns : List ℕ) (now : Storage) (p : Placed) (c : Command) → moves c ≡ false → p.moved ≡ None
    → (line_after w s ns now p c).moved ≡ None
follows_after w s ns now p (kind.Char b) k h = refl
follows_after w s ns now p kind.LineFeed k h = refl
follows_after w s ns now p (kind.FeedLines n) k h = refl
follows_after w s ns now p (kind.FeedUnits n) k h = refl
follows_after w s ns now p kind.Init k h = refl
follows_after w s ns now p (kind.Bars bars) k h = refl
follows_after w s ns now p (kind.Raster raster) k h = refl
follows_after w s ns now p (kind.Cut how) k h = refl
follows_after w s ns now p (kind.OldCut b) k h = refl
follows_after w s ns now p kind.QrPrint k h = follows_at_print (is_some now.codes) p h
follows_after w s ns now p (kind.GraphicsPrint fn) k h = follows_at_print (is_some now.graphics) p h
follows_after w s ns now p kind.Tab k h = absurd cc
follows_after w s ns now p (kind.Position q) k h = absurd cc
follows_after w s ns now p c k h = h

one_more : (w : ℕ) (cs : List Command) (c : Command) → moves c ≡ false → IsAtRest w cs → IsAtRest w (cs ++ c ∷ [])
one_more w cs c k h = record {
  whole = subst IsWholeLine (sym (placing-snoc cs c)) (whole_after (is_empty (text cs)) (placing cs) c k h.whole);
  follows = ap (λ (p : Placed). p.moved) (placed-snoc w cs c) ∙ follows_after w (settings cs) (stops cs) (storage cs) (placed w cs) c k h.follows;
}

rest_from : (w : ℕ) (before cs : List Command) → AreStill cs → IsAtRest w before → IsAtRest w (before ++ cs)
rest_from w before [] k h = subst (IsAtRest w) (sym (append-nil before)) h
rest_from w before (c ∷ cs) k h = subst (IsAtRest w) (append_snoc before c cs) (rest_from w (before ++ c ∷ []) cs k.1 (one_more w before c k.0 h))

pub still_rest : (w : ℕ) (cs : List Command) → AreStill cs → IsAtRest w cs
still_rest w cs k = rest_from w [] cs k (record { whole = (refl, refl); follows = refl })

all_of : (w : ℕ) → w - 0 ≡ w
all_of w = omega arith

-- The printing area is the whole line.
pub whole_area : (w : ℕ) (cs : List Command) → AreStill cs → area w cs ≡ w
whole_area w cs k =
    let r = still_rest w cs k in
    ap (λ m. lesser_width (placing cs).width (w - m)) r.whole.0 ∙ ap (λ n. lesser_width n (w - 0)) r.whole.1 ∙ all_of w
