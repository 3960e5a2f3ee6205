-- What `draw` prints, in lines of a width in dots: the paper as a picture, with the last line of the listing under it where not all bytes are read.
use Rattle.std.specs.Prelude.{ℕ, ◌≡◌, ◌⊎◌, ◌==◌, not, Bool, List, [], ◌++◌, length, take, codes, decimal, if◌then◌else◌}
use Rattle.escpos_command.specs.declared.fault.FaultReason.{FaultReason}
use Rattle.escpos_passed.specs.Tokens.{Token, passed_count, commands_of, ReadsWith, FaultWith}
use Rattle.escpos_paper.specs.Printed.{printed}
use Rattle.escpos_paper.specs.Styles.{is_empty}
use Rattle.escpos_picture.specs.Places.{top, place_after_all}
use Rattle.escpos_picture.specs.Groups.{drawings}
use Rattle.escpos_picture.specs.Document.{head, picture_text}
use Rattle.escpos_job_parts.specs.declared.form.Form.{Form}
use Rattle.escpos_job_parts.specs.Lines.{fault_line}
use Rattle.escpos_job_parts.specs.Ending.{JobEnd, memory_line}
use Rattle.escpos_job_parts.specs.LastText.{last_text}
use Rattle.escpos_stream_jobs.specs.declared.draw.Under.{Under}
use Rattle.escpos_stream_jobs.specs.Render.{half_line}
use Rattle.escpos_stream_jobs.specs.Report.{ReportsAs, RunsAs}

-- The words on commands that were passed over, where it is some.
abbrev pub some_words : ℕ → List ℕ
some_words n = codes "passed " ++ decimal n ++ codes ": the paper may differ\n"

abbrev pub passed_words : ℕ → List ℕ
passed_words n = if n == 0 then [] else some_words n

-- The words, and the last line.
abbrev pub under_text : Under → List ℕ
under_text under = passed_words under.passed ++ last_text under.last

-- The tokens of a byte list, and what stands under the paper: on those that are passed over, and the last line, which is nothing where
-- all is read.
abbrev pub IsOutcome : Bool → List ℕ → List Token → List ℕ → Type 0
IsOutcome pass bytes ts last =
    ((rest : List ℕ) × ReadsWith pass bytes ts rest × (last ≡ passed_words (passed_count ts) ++ half_line (length bytes) (length rest)))
    ⊎ ((place : ℕ) × (why : FaultReason) × FaultWith pass bytes ts place why × (last ≡ passed_words (passed_count ts) ++ fault_line place why))

-- The picture of a byte list. There is one, since a byte list has exactly one reading or one fault.
abbrev pub IsPicture : ℕ → Bool → List ℕ → List ℕ → Type 0
IsPicture width pass bytes text = (ts : List Token) × (last : List ℕ) × IsOutcome pass bytes ts last × (text ≡ picture_text width (printed width (commands_of ts)) last)

-- What is printed where an allocation fails: only the line that says so; or the head of the picture and the items that the
-- commands of some prefix of the bytes print, and then that line.
abbrev pub IsShortPicture : ℕ → Bool → List ℕ → List ℕ → Type 0
IsShortPicture width pass bytes text =
    (text ≡ memory_line)
    ⊎ ((all : List Token) × (last : List ℕ) × IsOutcome pass bytes all last × (k : ℕ) × (ts : List Token) × (rest : List ℕ) × ReadsWith pass (take k bytes) ts rest
    × (text ≡ head width (place_after_all (top width) (printed width (commands_of all))).down (not (is_empty last)) ++ drawings (top width) (printed width (commands_of ts)) ++ memory_line))

abbrev pub Draws : ℕ → Bool → JobEnd → List ℕ → Type 0
Draws width pass o bytes = ReportsAs pass (IsPicture width pass) (IsShortPicture width pass) o bytes

-- What `draw` does with its input, a stream in this form, where it passes over commands or not.
abbrev pub DrawsInput : Form → Bool → ℕ → JobEnd → List ℕ → Type 0
DrawsInput form pass width o input = RunsAs (Draws width pass) form o input
