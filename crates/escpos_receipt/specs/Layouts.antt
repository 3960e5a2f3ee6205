-- What is written of a layout. Only private clauses and proofs use these definitions.
use Rattle.std.specs.Prelude.{ℕ, ◌≡◌, ◌≢◌, List, Option, Some, None, Err}
use Rattle.escpos_text.specs.declared.encoding.Encoding.{Encoding}
use Rattle.escpos_layout.specs.Writing.{WritesLines, lines_written}
use Rattle.escpos_receipt.specs.declared.entry.EntryFault.{EntryFault}
use Rattle.escpos_receipt.specs.declared.entry.EntryFault.TheVariants.{BadShape, Memory}
use Rattle.escpos_receipt.specs.Entries.{or_fault}

-- The lines of a layout, if it has some, were written after some bytes.
abbrev pub IsLaidOut : Option (List (List ℕ)) → Encoding → List ℕ → List ℕ → Encoding → Type 0
IsLaidOut found before bytes more after = (lines : List (List ℕ)) × (found ≡ Some lines) × WritesLines before lines bytes more after

-- Why they weren't, unless an allocation failed: there is no layout, or the lines are refused.
abbrev pub IsRefusal : Option (List (List ℕ)) → Encoding → EntryFault → Type 0
IsRefusal None before fault = fault ≡ BadShape
IsRefusal (Some lines) before fault = or_fault (lines_written before lines) ≡ Err fault

abbrev pub IsNoLayout : Option (List (List ℕ)) → Encoding → EntryFault → Type 0
IsNoLayout found before fault = fault ≢ Memory → IsRefusal found before fault
