use Rattle.std.proofs.Common.{◌≡◌, ℕ, ◌≤◌, ◌++◌, map, length, take, inl, inr, arith, sym, ◌∙◌, ap, length-take, Bool, true, false, None}
use Rattle.std.proofs.lemmas.Bool.{cases_lt}
use Rattle.escpos_paper.proofs.Fits.{wider_fits}
use Rattle.escpos_paper.proofs.TextSteps.{placed_step, text_steps_in}
use Rattle.escpos_command.specs.declared.line_width.TheConstants.{MOST_LINE_DOTS}
use Rattle.escpos_paper.specs.Cells.{cell}
use Rattle.escpos_paper.specs.Steps.{sheet_on}
use Rattle.escpos_paper.proofs.paper.Paper.put_text.Goals as goal

-- At least one character fits after `make_room`.
some_room : (room : ℕ) (fit : Bool) → fit ≡ true → (room ≡ 0 → fit ≡ false) → 1 ≤ room
some_room room fit there none = elim (cases_lt 0 room) [
  | inl some ↦ some
  | inr no_room ↦ absurd (let no : true ≡ false = sym there ∙ none (omega arith) in cc)
]

pub extend-requires-clause-room : goal.extend-requires-clause-room
extend-requires-clause-room c =
    let room = some_room c.room_for-room.result _ (c.make_room.ensures.fits 0) (λ none. c.room_for-room.ensures.none none 0) in
    let text = take c.min-count.result c.args.text.now in
    let long : length text ≡ c.min-count.result = omega (arith, length-take c.min-count.result c.args.text.now, c.min-count.ensures) in
    let some : 1 ≤ length text = omega (arith, long, room, c.requires.some, c.min-count.ensures) in
    wider_fits c.area-area.result MOST_LINE_DOTS (c.make_room.new.line.cells ++ map (cell c.args.self.now.settings.text) text) c.area-area.ensures.within
    (c.room_for-room.ensures.fit text some (omega (arith, long, c.min-count.ensures)))

pub returns-clause-count : goal.returns-clause-count
returns-clause-count c =
    let room = some_room c.room_for-room.result _ (c.make_room.ensures.fits 0) (λ none. c.room_for-room.ensures.none none 0) in (
      omega (arith, room, c.requires.some, c.min-count.ensures),
      omega (arith, c.min-count.ensures),
    )

pub returns-clause-sheet : goal.returns-clause-sheet
returns-clause-sheet c =
    let count = returns-clause-count c in
    let sheet = sheet_on c.args.self.now in
    let old = c.args.self.now.line.cells in
    let text = take c.min-count.result c.args.text.now in
    let long : length text ≡ c.min-count.result = omega (arith, length-take c.min-count.result c.args.text.now, count.1) in
    let before : sheet.line ≡ record { cells = old; moved = None } = ap (λ m. record { cells = old; moved = m }) (c.follows.ensures c.if-not-follows.false) in
    ap (λ line. record sheet { items = c.make_room.new.items.items; line = line }) c.extend.ensures
    ∙ text_steps_in sheet c.area-area.result old c.make_room.new.items.items c.make_room.new.line.cells text c.area-area.ensures.value before (omega (arith, long, count.0))
    c.make_room.ensures.printed c.make_room.ensures.left (c.room_for-room.ensures.fit text (omega (arith, long, count.0)) (omega (arith, long, c.min-count.ensures)))

pub extend-requires-clause-some : goal.extend-requires-clause-some
extend-requires-clause-some c =
    let room = some_room c.room_for-room.result _ (c.make_room.ensures.fits 0) (λ none. c.room_for-room.ensures.none none 0) in
    omega (arith, room, length-take c.min-count.result c.args.text.now, c.requires.some, c.min-count.ensures)

pub returns-then-not-follows-clause-sheet : goal.returns-then-not-follows-clause-sheet
returns-then-not-follows-clause-sheet c =
    placed_step (sheet_on c.args.self.now) c.area-area.result c.args.text.now c.cell-cell.result c.put_cell.new.items.items c.put_cell.new.line
    c.area-area.ensures.value c.requires.some c.cell-cell.ensures c.put_cell.ensures.printed c.put_cell.ensures.left
