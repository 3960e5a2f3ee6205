-- What carrying out a command leaves, in the pieces that a page has it in.
use Rattle.std.proofs.Common.{◌≡◌, List, [], ◌∷◌, ◌++◌, refl, ap, sym, ◌∙◌, subst, append_assoc, append-nil}
use Rattle.escpos_paper.specs.declared.item.Item.{Item}
use Rattle.escpos_paper.specs.Cells.{Placed}
use Rattle.escpos_paper.specs.declared.paper.Paper.{Paper}
use Rattle.escpos_paper.specs.declared.style.Settings.{Settings}
use Rattle.std.specs.Prelude.{ℕ}
use Rattle.escpos_command.specs.declared.command.Command.{Command}
use Rattle.escpos_command.specs.CommandTable.{IsCommand, AreCommands}
use Rattle.escpos_paper.specs.Page.{Sheet}
use Rattle.escpos_paper.specs.Storage.{Storage}
use Rattle.escpos_paper.specs.Torn.{below}
use Rattle.escpos_paper.specs.Steps.{step_prints, sheet_after, sheet_after_all, sheet_on, storage_on}
use Rattle.escpos_paper.proofs.Sheets.{sheet_of, sheet_step}
use Rattle.escpos_paper.proofs.Widths.{IsWidth, height_in_range, width_in_range}

-- The style of any sheet that commands leave has a width and a height that can be printed.
pub width_of : (w : ℕ) (sheet : Sheet) (kept : List Item) (cs : List Command) → sheet ≡ sheet_of w kept cs → IsWidth sheet.settings.text.width
width_of w sheet kept cs is = subst (λ (t : Sheet). IsWidth t.settings.text.width) (sym is) (width_in_range cs)

pub height_of : (w : ℕ) (sheet : Sheet) (kept : List Item) (cs : List Command) → sheet ≡ sheet_of w kept cs → IsWidth sheet.settings.text.height
height_of w sheet kept cs is = subst (λ (t : Sheet). IsWidth t.settings.text.height) (sym is) (height_in_range cs)

-- Commands in range, and one more.
pub one_more : (cs : List Command) (c : Command) → AreCommands cs → IsCommand c → AreCommands (cs ++ c ∷ [])
one_more [] c h k = (k, tt)
one_more (d ∷ cs) c h k = (h.0, one_more cs c h.1 k)

-- The sheet of a paper that has these parts.
pub sheet_made : (paper : Paper) (width : ℕ) (items : List Item) (settings : Settings) (kept_data : Storage) (stops : List ℕ) (line : Placed)
    → paper.line_width ≡ width → paper.items.items ≡ items → paper.settings ≡ settings → storage_on paper ≡ kept_data → paper.stops ≡ stops → paper.line ≡ line
    → sheet_on paper ≡ record { line_dots = width; items = items; settings = settings; storage = kept_data; stops = stops; line = line }
sheet_made paper width items settings kept_data stops line e p q r s v = cc

-- A step is the same below any items.
pub step_below : (gone : List Item) (sheet : Sheet) (c : Command) → below gone (sheet_after sheet c) ≡ sheet_after (below gone sheet) c
step_below gone sheet c =
    let above = append_assoc gone sheet.items (step_prints sheet.line_dots sheet.settings sheet.storage sheet.line c) in
    cc above

-- ## Several commands, one after another

-- So steps from the sheet of some commands lead to the sheet of all.
pub sheet_steps : (w : ℕ) (old new : Sheet) (kept : List Item) (cs ds : List Command)
    → new ≡ sheet_after_all old ds → old ≡ sheet_of w kept cs → new ≡ sheet_of w kept (cs ++ ds)
unfolding sheet_after_all
sheet_steps w old new kept cs [] e is = e ∙ is ∙ ap (sheet_of w kept) (sym (append-nil cs))
sheet_steps w old new kept cs (d ∷ ds) e is =
    sheet_steps w (sheet_after old d) new kept (cs ++ d ∷ []) ds e (sheet_step w old (sheet_after old d) kept cs d refl is)
    ∙ ap (sheet_of w kept) (append_assoc cs (d ∷ []) ds)

pub steps_below : (gone : List Item) (sheet : Sheet) (ds : List Command) → below gone (sheet_after_all sheet ds) ≡ sheet_after_all (below gone sheet) ds
unfolding sheet_after_all
steps_below gone sheet [] = refl
steps_below gone sheet (d ∷ ds) = steps_below gone (sheet_after sheet d) ds ∙ ap (λ s. sheet_after_all s ds) (step_below gone sheet d)
