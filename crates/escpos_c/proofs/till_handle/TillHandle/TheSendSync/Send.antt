-- A handle owns nothing but a box of a core, and a core may go to any thread.
use denote.Param.Send.{IsSend, AllSend, owning_send, struct_send, sendable}
use denote.Struct.Owning.{shape, fields, to}
use denote.Struct.Struct.{exits_of}
use Rattle.escpos_c.proofs.Crosses.{quiet, slot_keyless}
use Rattle.escpos_c.specs.contracts.till_core.TillCore as core
use Rattle.escpos_c.proofs.till_core.TillCore.TheSendSync as crosses
use Rattle.escpos_c.specs.contracts.till_handle.TillHandle as handle

pub send : IsSend handle.the_row
send =
    let O = handle.the_type in let all : AllSend (fields O) = (search sendable, tt) in
    owning_send O all (λ h. slot_keyless core.the_row crosses.the_send h.at h.value) (λ k. quiet (to O) (exits_of k (fields O)) ((struct_send (shape O) all).leaving k))
