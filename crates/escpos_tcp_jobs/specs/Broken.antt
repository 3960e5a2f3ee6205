-- Why a link of both ends broke, as it is printed, and the exit status. Only private clauses, invariants and proofs use
-- these definitions.
use Rattle.std.specs.Prelude.{ℕ, Bool, true, false, if◌then◌else◌, List, [], ◌∷◌, ◌++◌, codes}
use Rattle.escpos_command.specs.declared.bytes.TheConstants.{LF}
use Rattle.escpos_host.specs.Refusals.{fault_name}
use Rattle.escpos_printer.specs.declared.serve.LinkEnd.TheVariants as ended
use Rattle.escpos_printer.specs.LinkEnds.{end_name}
use Rattle.escpos_tcp_jobs.specs.declared.loop_link.Broken.{Broken}
use Rattle.escpos_tcp_jobs.specs.declared.loop_link.Broken.TheVariants.{Host, Printer}
use Rattle.escpos_job_parts.specs.declared.status.Status.{Status}
use Rattle.escpos_job_parts.specs.declared.status.Status.TheVariants.{Device, Memory}
use Rattle.escpos_job_parts.specs.Ending.{memory_line}
use Rattle.escpos_tcp_jobs.specs.Send.{is_memory_fault}

-- The host's reason, or the end of the printer's link.
abbrev pub name_of : Broken → List ℕ
name_of (Host why) = fault_name why
name_of (Printer end) = end_name end

abbrev pub is_memory : Broken → Bool
is_memory (Host why) = is_memory_fault why
is_memory (Printer ended.Memory) = true
is_memory (Printer end) = false

abbrev pub broken_line : Broken → List ℕ
broken_line broken = if is_memory broken then memory_line else codes "not recorded " ++ name_of broken ++ LF ∷ []

abbrev pub broken_status : Broken → Status
broken_status broken = if is_memory broken then Memory else Device
