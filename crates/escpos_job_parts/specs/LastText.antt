-- The text of the last line, by its value in the code. Only private clauses, invariants and proofs use this definition.
use Rattle.std.specs.Prelude.{ℕ, List, []}
use Rattle.escpos_job_parts.specs.declared.lines.Last.{Last}
use Rattle.escpos_job_parts.specs.declared.lines.Last.TheVariants.{Nothing, End, Fault, Memory}
use Rattle.escpos_job_parts.specs.Ending.{memory_line}
use Rattle.escpos_job_parts.specs.Lines.{end_line, fault_line}

-- The last line of a text.
abbrev pub last_text : Last → List ℕ
last_text Nothing = []
last_text (End count half) = end_line count half
last_text (Fault place why) = fault_line place why
last_text Memory = memory_line
