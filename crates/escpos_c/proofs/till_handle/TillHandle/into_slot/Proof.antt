-- `into_slot` is a recast: a slot owns what the handle owned.
use Rattle.escpos_c.proofs.Steps.{id⊢}
use Rattle.escpos_c.proofs.Recast.{recast}
use Rattle.escpos_c.proofs.till_handle.TillHandle.TheLaws.{lowers}
use Rattle.escpos_c.specs.contracts.till_core.TillCore as till
use Rattle.escpos_c.specs.contracts.slot.Slot as slot
use Rattle.escpos_c.specs.contracts.till_handle.TillHandle as handle
use Rattle.escpos_c.specs.contracts.till_handle.TillHandle.into_slot as f
use Rattle.escpos_c.proofs.till_handle.TillHandle.into_slot.Statement.{statement}
use Rattle.escpos_c.proofs.till_handle.TillHandle.into_slot.Code as code

pub into_slot_spec : {M : Type 1} → statement M
into_slot_spec 𝓤 𝓛 𝓜 𝓡 wired =
    recast handle.the_row (slot.the_row till.the_row) (λ h. h.at) (λ h. record { at = h.at; value = h.value }) (λ s. s.value) 𝓤 𝓛 𝓜 𝓡
    (λ h. tt) (λ h w. tt) lowers.val_is (λ h vs. id⊢ 𝓤 _) _ _ f.Key.name (code.unfolded 𝓤 𝓛.H 𝓜 𝓡 wired)
