-- An item is drawn the same wherever it stands.
use Rattle.std.proofs.Common.{◌≡◌, ℕ, ◌+◌, ◌*◌, List, [], ◌++◌, sym, arith, append_assoc, append-nil, Bool, Option, None, Some}
use Rattle.std.specs.Prelude.{codes, decimal, sum, length, true}
use Rattle.escpos_command.specs.declared.bars.Symbology.{Symbology}
use Rattle.escpos_paper.specs.declared.style.Placing.{Placing}
use Rattle.escpos_command.specs.declared.parameter.choices.Scale.{Scale}
use Rattle.escpos_paper.specs.declared.cell.Cell.{Cell}
use Rattle.escpos_paper.specs.declared.item.Item.TheVariants.{Row, Bars, Raster, Qr, Cut}
use Rattle.escpos_paper.specs.declared.style.BarStyle.{BarStyle}
use Rattle.escpos_paper.specs.Cells.{reach_of}
use Rattle.escpos_barcode.specs.Drawn.{drawn, with_added}
use Rattle.escpos_barcode.specs.Shown.{shown}
use Rattle.escpos_picture.specs.Numbers.{quarters}
use Rattle.escpos_picture.specs.Places.{tallest, indent, across, moved, whole_line}
use Rattle.escpos_picture.specs.Rows.{runs, runs_drawing, characters_text}
use Rattle.escpos_picture.specs.Spans.{line_text}
use Rattle.escpos_picture.specs.Rasters.{rows_of, rows_text}
use Rattle.escpos_command.specs.declared.parameter.choices.Correction.{Correction}
use Rattle.escpos_picture.specs.declared.qr.TheConstants.{BOX_HEIGHT}
use Rattle.escpos_picture.specs.QrSides.{qr_side}
use Rattle.escpos_picture.specs.QrItems.{qr_group, qr_frame, qr_text, qr_start}
use Rattle.escpos_picture.specs.BarItems.{bars_group, bars_frame, bars_end, label_above, bar_spans, bars_top, box_frame, box_text, bars_or_box}
use Rattle.escpos_picture.specs.Groups.{base_line, row_start, row_turn, scale_text, raster_start, drawing_at, cut_place, cut_line}
use Rattle.escpos_picture.specs.Moves.{MovesDown}
use Rattle.escpos_picture.specs.declared.pen.TheConstants.{MARGIN}

placed_is : (opening : List ℕ) (x down more place : ℕ) → place ≡ 4 * MARGIN + down + more
    → opening ++ (decimal (MARGIN + x) ++ codes "," ++ quarters place)
    ≡ (opening ++ decimal (MARGIN + x) ++ codes ",") ++ quarters (4 * MARGIN + down + more) ++ []
placed_is opening x down more place is = rw (is, append-nil) simp append_assoc

-- The place of a group
placed : (opening : List ℕ) (x more : ℕ) → MovesDown more (λ down. opening ++ moved x (down + more))
placed opening x more = record {
  before = opening ++ decimal (MARGIN + x) ++ codes ",";
  after = [];
  is = λ down. placed_is opening x down more (4 * MARGIN + (down + more)) (omega arith);
}

placed_here : (opening : List ℕ) (x : ℕ) → MovesDown 0 (λ down. opening ++ moved x down)
placed_here opening x = record {
  before = opening ++ decimal (MARGIN + x) ++ codes ",";
  after = [];
  is = λ down. placed_is opening x down 0 (4 * MARGIN + down) (omega arith);
}

-- A text that goes on after a part that moves
further : (more : ℕ) (text : ℕ → List ℕ) (rest : List ℕ) → MovesDown more text → MovesDown more (λ down. text down ++ rest)
further more text rest moves = record {
  before = moves.before;
  after = moves.after ++ rest;
  is = λ down. rw (moves.is down) simp append_assoc;
}

pub rows_move : (line_dots : ℕ) (align : Placing) (upside_down : Bool) (cells : List Cell)
    → MovesDown (base_line upside_down (tallest cells)) (λ down. drawing_at line_dots down (Row align upside_down cells))
rows_move line_dots align upside_down cells =
    let more = base_line upside_down (tallest cells) in
    further more _ (codes "</g>\n") (further more _ (runs_drawing 0 (runs cells)) (further more _ (row_turn upside_down)
    (placed (codes "<g class=\"row\" transform=\"translate(") (row_start line_dots align upside_down (reach_of cells)) more)))

bars_group_moves : (line_dots : ℕ) (align : Placing) (width : ℕ) → MovesDown 0 (λ down. bars_group line_dots down align width)
unfolding bars_group
bars_group_moves line_dots align width =
    further 0 _ (codes ")\">\n") (placed_here (codes "<g class=\"bars\" transform=\"translate(") (indent line_dots align width))

bars_or_box_moves : (line_dots : ℕ) (align : Placing) (style : BarStyle) (text content : List ℕ) (o : Option (List ℕ))
    → MovesDown 0 (λ down. bars_or_box line_dots down align style text content o)
bars_or_box_moves line_dots align style text content None =
    further 0 _ (codes "</text></svg>\n</g>\n") (further 0 _ (characters_text 0 0 content)
    (further 0 _ (box_text line_dots (bars_top style) style.height (length content)) (further 0 _ (box_frame line_dots (bars_top style) style.height) (bars_group_moves line_dots whole_line line_dots))))
bars_or_box_moves line_dots align style text content (Some widths) =
    further 0 _ (bars_end style (sum widths) text) (further 0 _ (line_text 0 (bar_spans true widths))
    (further 0 _ (bars_frame style (sum widths)) (further 0 _ (label_above style (sum widths) text) (bars_group_moves line_dots align (sum widths)))))

pub bars_move : (line_dots : ℕ) (align : Placing) (symbology : Symbology) (style : BarStyle) (content : List ℕ) (added : Option ℕ)
    → MovesDown 0 (λ down. drawing_at line_dots down (Bars align symbology style.height style.module_width style.place style.hri_font content added))
bars_move line_dots align symbology style content added =
    bars_or_box_moves line_dots align style (shown symbology (with_added content added)) (with_added content added)
    (drawn line_dots symbology style.module_width (with_added content added))

raster_start_moves : (line_dots : ℕ) (align : Placing) (scale : Scale) (x : ℕ) → MovesDown 0 (λ down. raster_start line_dots down align scale x)
unfolding raster_start
raster_start_moves line_dots align scale x =
    further 0 _ (scale_text scale) (placed_here (codes "<g class=\"raster\" transform=\"translate(") (indent line_dots align (8 * x * across scale)))

pub rasters_move : (line_dots : ℕ) (align : Placing) (scale : Scale) (x y : ℕ) (dots : List ℕ) → MovesDown 0 (λ down. drawing_at line_dots down (Raster align scale x y dots))
rasters_move line_dots align scale x y dots =
    further 0 _ (codes "</g></g>\n") (further 0 _ (rows_text 0 (rows_of x y dots)) (raster_start_moves line_dots align scale x))

qr_group_moves : (line_dots : ℕ) (align : Placing) (width : ℕ) → MovesDown 0 (λ down. qr_group line_dots down align width)
unfolding qr_group
qr_group_moves line_dots align width =
    further 0 _ (codes ")\">\n") (placed_here (codes "<g class=\"qr\" transform=\"translate(") (indent line_dots align width))

qr_start_moves : (line_dots : ℕ) (align : Placing) (side : Option ℕ) (count : ℕ) → MovesDown 0 (λ down. qr_start line_dots down align side count)
qr_start_moves line_dots align None count =
    further 0 _ (box_text line_dots 0 BOX_HEIGHT count) (further 0 _ (box_frame line_dots 0 BOX_HEIGHT) (qr_group_moves line_dots whole_line line_dots))
qr_start_moves line_dots align (Some side) count =
    further 0 _ (qr_text side count) (further 0 _ (qr_frame side) (qr_group_moves line_dots align side))

pub qr_codes_move : (line_dots : ℕ) (align : Placing) (model size : ℕ) (level : Correction) (content : List ℕ)
    → MovesDown 0 (λ down. drawing_at line_dots down (Qr align model size level content))
qr_codes_move line_dots align model size level content =
    further 0 _ (codes "</text></svg>\n</g>\n") (further 0 _ (characters_text 0 0 content) (qr_start_moves line_dots align (qr_side line_dots size level content) (length content)))

pub cuts_move : (line_dots : ℕ) (partial : Bool) (feed : Option ℕ) → MovesDown (cut_place feed) (λ down. drawing_at line_dots down (Cut partial feed))
cuts_move line_dots partial feed =
    let line = cut_line line_dots partial in
    further (cut_place feed) _ (codes "\"/></g>\n") (further (cut_place feed) _ line (further (cut_place feed)
    (λ down. codes "<g class=\"cut\" transform=\"translate(0," ++ quarters (4 * MARGIN + down + cut_place feed))
    (codes ")\"><circle cx=\"8\" cy=\"6\" r=\"4\"/><circle cx=\"8\" cy=\"18\" r=\"4\"/><path d=\"M11 9L28 18M11 15L28 6\"/><path class=\"dashes\" d=\"")
    (record { before = codes "<g class=\"cut\" transform=\"translate(0,"; after = []; is = λ down. sym (append-nil _) })))
