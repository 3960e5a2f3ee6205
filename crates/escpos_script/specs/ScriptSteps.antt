-- How the lines of a script go, one after another.
-- For private clauses, invariants and proofs alone: no public clause names these.
use Rattle.std.specs.Prelude.{ℕ, ◌≡◌, ◌≢◌, ◌+◌, List, [], ◌++◌, length, Result, Ok, Err, ⊤}
use Rattle.escpos_link.specs.Line.{LineView}
use Rattle.escpos_script.specs.declared.play.ScriptEnd.{ScriptEnd}
use Rattle.escpos_script.specs.declared.play.ScriptEnd.TheVariants as end
use Rattle.escpos_script.specs.Play.{AreTold, IsTold, joined}
use Rattle.escpos_script.specs.ScriptLines.{AfterLines}
use Rattle.escpos_script.specs.ScriptOutput.{unreadable_line}

-- How the line of this number goes: its text is printed; or it can't be read, and nothing happens; or there is no memory for it, and
-- no text.
abbrev pub LineGoes : Result ⊤ ScriptEnd → ℕ → LineView → List ℕ → LineView → Type 0
LineGoes (Ok done) number before text after = IsTold before text after
LineGoes (Err end.Unreadable) number before text after = (after ≡ before) × (text ≡ unreadable_line number)
LineGoes (Err end.Memory) number before text after = text ≡ []
LineGoes (Err end.Device) number before text after = ⊥

-- How a script ends after so many lines whose texts are printed, where this is left of it: with no line more, or with the next.
abbrev pub ScriptEnds : Result ⊤ ScriptEnd → ℕ → List ℕ → List ℕ → LineView → List ℕ → LineView → Type 0
ScriptEnds (Ok done) count to_read rest line last after = (last ≡ []) × (after ≡ line) × (to_read ≡ rest)
ScriptEnds (Err why) count to_read rest line last after = LineGoes (Err why) (count + 1) line last after × (to_read ≢ [])

-- How the lines of a script go, of which this is the rest to come: the texts of some are printed, one after another, and then it ends.
pub record LinesGo (ended : Result ⊤ ScriptEnd) (script rest : List ℕ) (before : LineView) (text : List ℕ) (after : LineView) : Type 0 where
  pub texts : List (List ℕ)
  pub to_read : List ℕ
  pub line : LineView
  pub last : List ℕ
  pub read : AfterLines (length texts) script to_read
  pub told : AreTold before texts line
  pub ends : ScriptEnds ended (length texts) to_read rest line last after
  pub whole : text ≡ joined texts ++ last
