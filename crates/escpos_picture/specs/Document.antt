-- The whole document, on paper whose lines have so many dots.
use Rattle.std.specs.Prelude.{ℕ, ◌+◌, ◌*◌, Bool, not, List, ◌++◌, codes, decimal, if◌then◌else◌}
use Rattle.escpos_paper.specs.declared.item.Item.{Item}
use Rattle.escpos_paper.specs.Styles.{is_empty}
use Rattle.escpos_picture.specs.Numbers.{quarters}
use Rattle.escpos_picture.specs.Places.{top, place_after_all}
use Rattle.escpos_picture.specs.Groups.{drawings}
use Rattle.escpos_picture.specs.declared.pen.TheConstants.{MARGIN}

-- The width of the paper: that of a line, and the margins on both sides of it.
abbrev pub paper_width : ℕ → ℕ
paper_width line_dots = line_dots + 2 * MARGIN

-- The height of the paper, in quarters of a dot: what its items take, and the margins above and below them.
abbrev pub paper_height : ℕ → ℕ
paper_height down = 8 * MARGIN + down

-- A line under the paper takes 40 dots more.
abbrev pub document_height : ℕ → Bool → ℕ
document_height down has_last = if has_last then paper_height down + 160 else paper_height down

-- How the classes of items and texts look.
unfoldable pub style_sheet : ℕ → List ℕ
style_sheet line_dots =
    codes "<style type=\"text/css\">\n.paper{fill:#fff}\ntext{font-family:\"DejaVu Sans Mono\",Menlo,Consolas,monospace;font-size:20px;white-space:pre}\n"
    ++ codes ".B{font-size:15px}\n.bold{font-weight:bold}\n.white{fill:#fff}\n.second{fill:#c00}\n.middle{text-anchor:middle}\n.bars path,.raster path{stroke:#000;shape-rendering:crispEdges}\n"
    ++ codes ".raster{clip-path:url(#line)}\n.box,.cut circle,.cut path{fill:none;stroke:#000;stroke-width:2}\n.dashes{stroke-dasharray:8 6}\n.last{fill:#a00}\n</style>\n"
    ++ codes "<clipPath id=\"line\"><path d=\"M0 0h" ++ decimal line_dots ++ codes "v8190H0z\"/></clipPath>\n"

unfoldable pub root_tag : ℕ → ℕ → List ℕ
root_tag width height =
    codes "<svg xmlns=\"http://www.w3.org/2000/svg\" version=\"1.1\" width=\"" ++ decimal width ++ codes "\" height=\"" ++ quarters height
    ++ codes "\" viewBox=\"0 0 " ++ decimal width ++ codes " " ++ quarters height ++ codes "\" xml:space=\"preserve\">\n"

unfoldable pub paper_tag : ℕ → ℕ → List ℕ
paper_tag width height = codes "<rect class=\"paper\" width=\"" ++ decimal width ++ codes "\" height=\"" ++ quarters height ++ codes "\"/>\n"

-- All that comes before the items, where the place after them is this many quarters of a dot under the top of the first.
unfoldable pub head : ℕ → ℕ → Bool → List ℕ
head line_dots down has_last = root_tag (paper_width line_dots) (document_height down has_last) ++ style_sheet line_dots ++ paper_tag (paper_width line_dots) (paper_height down)

-- The last line, 26 dots under the paper.
unfoldable pub last_tag : ℕ → List ℕ
last_tag down = codes "<text class=\"last\" x=\"32\" y=\"" ++ quarters (paper_height down + 104) ++ codes "\">"

-- All that comes after the items.
abbrev pub foot : ℕ → List ℕ → List ℕ
foot down last = if is_empty last then codes "</svg>\n" else last_tag down ++ last ++ codes "</text>\n</svg>\n"

-- The picture of these items, with a line under the paper, if there is one.
abbrev pub picture_text : ℕ → List Item → List ℕ → List ℕ
picture_text line_dots items last =
    head line_dots (place_after_all (top line_dots) items).down (not (is_empty last)) ++ drawings (top line_dots) items ++ foot (place_after_all (top line_dots) items).down last
