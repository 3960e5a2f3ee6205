-- What `render` prints, in lines of a width in dots: the paper as text, and a last line only where not all bytes are read.
use Rattle.std.specs.Prelude.{ℕ, ◌==◌, Bool, List, [], flat_map, if◌then◌else◌, refl}
use Rattle.escpos_paper.specs.declared.item.Item.{Item}
use Rattle.escpos_paper.specs.Printed.{printed}
use Rattle.escpos_paper.specs.ItemsText.{item_text}
use Rattle.escpos_passed.specs.Tokens.{commands_of}
use Rattle.escpos_plain.specs.PlainText.{plain_text}
use Rattle.escpos_job_parts.specs.declared.form.Form.{Form}
use Rattle.escpos_job_parts.specs.Lines.{end_line}
use Rattle.escpos_job_parts.specs.Ending.{JobEnd}
use Rattle.escpos_stream_jobs.specs.Report.{Shape, Runs, passed_text}

-- The last line of the listing, where a half command is left.
abbrev pub half_line : ℕ → ℕ → List ℕ
half_line count half = if half == 0 then [] else end_line count half

-- The paper, where an item has this line.
abbrev pub text_shape : (Item → List ℕ) → ℕ → Shape
text_shape text width = record { gives = λ ts. flat_map text (printed width (commands_of ts)); closing = passed_text; last = half_line; starts_empty = refl }

abbrev pub paper_shape : ℕ → Shape
paper_shape width = text_shape item_text width

abbrev pub plain_shape : ℕ → Shape
plain_shape width = text_shape plain_text width

-- What `render` does with its input, a stream in this form, where it passes over commands or not.
abbrev pub Renders : Form → Bool → ℕ → JobEnd → List ℕ → Type 0
Renders form pass width o input = Runs (paper_shape width) form pass o input

-- What `render_text` does with its input, a stream in this form.
abbrev pub RendersText : Form → Bool → ℕ → JobEnd → List ℕ → Type 0
RendersText form pass width o input = Runs (plain_shape width) form pass o input
