-- `of` is a recast: a handle owns what the slot owned.
use Rattle.escpos_c.proofs.Steps.{id⊢}
use Rattle.escpos_c.proofs.Recast.{recast}
use Rattle.escpos_c.proofs.printer_core.PrinterCore.TheLaws.{the_row_laws}
use Rattle.escpos_c.proofs.slot.Slot.TheLaws.{lowers}
use Rattle.escpos_c.specs.contracts.printer_core.PrinterCore as printer
use Rattle.escpos_c.specs.contracts.slot.Slot as slot
use Rattle.escpos_c.specs.contracts.printer_handle.PrinterHandle as handle
use Rattle.escpos_c.specs.contracts.printer_handle.PrinterHandle.of as f
use Rattle.escpos_c.proofs.printer_handle.PrinterHandle.of.Statement.{statement}
use Rattle.escpos_c.proofs.printer_handle.PrinterHandle.of.Code as code

pub of_spec : {M : Type 1} → statement M
of_spec 𝓤 𝓛 𝓜 𝓡 wired =
    recast (slot.the_row printer.the_row) handle.the_row (λ s. s.at) (λ s. record { at = s.at; value = s.value }) (λ h. h.value) 𝓤 𝓛 𝓜 𝓡
    (λ s. tt) (λ s w. tt) (lowers printer.the_row the_row_laws).val_is (λ s vs. id⊢ 𝓤 _) _ _ f.Key.name (code.unfolded 𝓤 𝓛.H 𝓜 𝓡 wired)
