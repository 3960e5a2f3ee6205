-- `of` is a recast: a handle owns what the slot owned.
use Rattle.escpos_c.proofs.Steps.{id⊢}
use Rattle.escpos_c.proofs.Recast.{recast}
use Rattle.escpos_c.proofs.till_core.TillCore.TheLaws.{the_row_laws}
use Rattle.escpos_c.proofs.slot.Slot.TheLaws.{lowers}
use Rattle.escpos_c.specs.contracts.till_core.TillCore as till
use Rattle.escpos_c.specs.contracts.slot.Slot as slot
use Rattle.escpos_c.specs.contracts.till_handle.TillHandle as handle
use Rattle.escpos_c.specs.contracts.till_handle.TillHandle.of as f
use Rattle.escpos_c.proofs.till_handle.TillHandle.of.Statement.{statement}
use Rattle.escpos_c.proofs.till_handle.TillHandle.of.Code as code

pub of_spec : {M : Type 1} → statement M
of_spec 𝓤 𝓛 𝓜 𝓡 wired =
    recast (slot.the_row till.the_row) handle.the_row (λ s. s.at) (λ s. record { at = s.at; value = s.value }) (λ h. h.value) 𝓤 𝓛 𝓜 𝓡
    (λ s. tt) (λ s w. tt) (lowers till.the_row the_row_laws).val_is (λ s vs. id⊢ 𝓤 _) _ _ f.Key.name (code.unfolded 𝓤 𝓛.H 𝓜 𝓡 wired)
