-- What `play` prints: the effect of each line of its script, then the paper and how many receipts are recorded.
--
-- There are two kinds of lines: those of the script, which are text, and the line between a host and a printer, which is what
-- things happen to. Here the former are told of by texts, and the latter is a `LineView`.
use Rattle.std.specs.Prelude.{ℕ, ◌≡◌, ◌≢◌, ◌+◌, ◌<◌, ◌≤◌, ◌⊎◌, List, [], ◌∷◌, ◌++◌, length, None, false, codes}
use Rattle.std.specs.List.{flat_map}
use Rattle.escpos_command.specs.declared.line_width.TheConstants.{USUAL_LINE_DOTS}
use Rattle.escpos_host.specs.Machine.{Down}
use Rattle.escpos_receipt.specs.declared.json.JsonFault.{JsonFault}
use Rattle.escpos_link.specs.EventTable.{IsRefused}
use Rattle.escpos_link.specs.Line.{LineView}
use Rattle.escpos_link.specs.Stands.{Stands}
use Rattle.escpos_link.specs.Steps.{Happens}
use Rattle.escpos_link.specs.declared.event.Event.{Event}
use Rattle.escpos_link.specs.declared.event.Note.{Note}
use Rattle.escpos_link.specs.declared.event.Refused.{Refused}
use Rattle.escpos_link.specs.declared.event.Refusal.TheVariants as refusal
use Rattle.escpos_paper.specs.ItemsText.{items_text}
use Rattle.escpos_paper.specs.Page.{SheetIs}
use Rattle.escpos_job_parts.specs.declared.input.TheConstants.{INPUT_LIMIT}
use Rattle.escpos_job_parts.specs.declared.status.Status.TheVariants as status
use Rattle.escpos_job_parts.specs.Ending.{JobEnd, Puts, RefusesInput, memory_line}
use Rattle.escpos_job_parts.specs.Refusal.{refusal_line}
use Rattle.escpos_script.specs.ScriptLines.{AfterLines}
use Rattle.escpos_script.specs.ScriptOutput.{records_line, refused_line, event_line, unreadable_line}

-- Nothing has happened to the line yet: the printer is online and prints lines of 512 dots, and the host's first mark has the
-- number 0.
pub record IsNew (l : LineView) : Type 0 where
  pub host : l.host ≡ record { phase = Down; out = []; half = []; next = 0; heard = 0; records = []; left = [] }
  pub sheet : SheetIs USUAL_LINE_DOTS l.printer.sheet [] []
  pub half : l.printer.half ≡ []
  pub waiting : l.printer.waiting ≡ []
  pub condition : l.printer.condition ≡ record { cover_open = false; near_end = false; paper_end = false }
  pub ended : l.ended ≡ []
  pub live : l.live ≡ None
  pub coming : l.coming ≡ []

-- An event happened, by the event table, and the text is its effect.
abbrev pub TellsEvent : LineView → List ℕ → LineView → Type 0
TellsEvent before text after = (event : Event) × (note : Note) × Happens event before note after × (text ≡ event_line note)

-- An event was refused, for a reason that the event table gives, and the text says which. Out of memory is none of these: it
-- ends the script.
abbrev pub TellsRefusal : LineView → List ℕ → LineView → Type 0
TellsRefusal before text after =
    (event : Event) × (refused : Refused) × IsRefused event before refused after × (refused.why ≢ refusal.Memory) × (text ≡ refused_line refused.why)

-- The text says why a text isn't a receipt.
abbrev pub TellsNoReceipt : List ℕ → Type 0
TellsNoReceipt text = (fault : JsonFault) × (text ≡ codes "receipt " ++ refusal_line fault)

-- The effect of a line of the script, and the text that reports it. Where a text isn't a receipt nothing happens.
abbrev pub IsTold : LineView → List ℕ → LineView → Type 0
IsTold before text after = TellsEvent before text after ⊎ (TellsRefusal before text after ⊎ ((after ≡ before) × TellsNoReceipt text))

-- The same for lines of the script, one after another.
abbrev pub AreTold : LineView → List (List ℕ) → LineView → Type 0
AreTold before [] after = after ≡ before
AreTold before (text ∷ texts) after = (next : LineView) × IsTold before text next × AreTold next texts after

abbrev pub joined : List (List ℕ) → List ℕ
joined texts = flat_map (λ text. text) texts

-- The closing part: the paper as text, and how many receipts are recorded.
abbrev pub closing_text : LineView → List ℕ
closing_text l = codes "paper\n" ++ items_text l.printer.sheet.items ++ records_line (length l.host.records)

-- A script was played on a new line as far as so many of its lines, each of which has its text, to where this is left of it;
-- then this last text follows, and what is left of the line is shown. The receipts that are counted stand on the paper that is
-- shown.
pub record Closes (o : JobEnd) (script rest last : List ℕ) (count : ℕ) : Type 0 where
  pub start : LineView
  pub texts : List (List ℕ)
  pub line : LineView
  pub new : IsNew start
  pub read : AfterLines count script rest
  pub each : length texts ≡ count
  pub told : AreTold start texts line
  pub stand : Stands USUAL_LINE_DOTS line.host.records line.printer.sheet.items
  pub out : Puts o (joined texts ++ last ++ closing_text line)

-- A script was played on a new line up to a line for which there was no memory.
pub record IsCutOff (o : JobEnd) (script : List ℕ) : Type 0 where
  pub start : LineView
  pub texts : List (List ℕ)
  pub line : LineView
  pub rest : List ℕ
  pub new : IsNew start
  pub read : AfterLines (length texts) script rest
  pub some : rest ≢ []
  pub told : AreTold start texts line
  pub out : Puts o (joined texts ++ memory_line)

-- What is done with a script: all of its lines are played; or those before one that can't be read, whose number, counted from 1,
-- the last text has; or, out of memory, it is cut off, or wasn't begun.
pub record PlaysScript (o : JobEnd) (script : List ℕ) : Type 0 where
  pub good : o.status ≡ status.Good → (count : ℕ) × Closes o script [] [] count
  pub refused : o.status ≡ status.Refused → (count : ℕ) × (rest : List ℕ) × (rest ≢ []) × Closes o script rest (unreadable_line (count + 1)) count
  pub memory : o.status ≡ status.Memory → IsCutOff o script ⊎ Puts o memory_line

-- What `play` does with its input: too long, or a script.
pub record Plays (o : JobEnd) (input : List ℕ) : Type 0 where
  pub too_long : INPUT_LIMIT < length input → RefusesInput o (codes "refused input\n")
  pub short : length input ≤ INPUT_LIMIT → PlaysScript o input
