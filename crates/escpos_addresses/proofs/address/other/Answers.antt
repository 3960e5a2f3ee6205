use Rattle.std.proofs.Common.{◌∙◌, Some, ap, sym}
use Rattle.escpos_addresses.specs.Address.{is_device_text}
use Rattle.escpos_addresses.proofs.Addresses.{only_device, only_named}
use Rattle.escpos_addresses.proofs.address.other.Goals as goal

pub returns-then-is_device_text-clause-taken : goal.returns-then-is_device_text-clause-taken
returns-then-is_device_text-clause-taken c = λ address none h.
    let is = sym (c.is_device_text.ensures ∙ ap is_device_text c.as_bytes.ensures.value) ∙ c.if-is_device_text.true in
    let only = only_device c.args.text.now address none is h in
    c.device.ensures.taken only.0 ∙ ap Some only.1

pub returns-else-is_device_text-clause-taken : goal.returns-else-is_device_text-clause-taken
returns-else-is_device_text-clause-taken c = λ address none h.
    let is = sym (c.is_device_text.ensures ∙ ap is_device_text c.as_bytes.ensures.value) ∙ c.if-is_device_text.false in
    let only = only_named c.args.text.now address none is h in
    c.named.ensures.taken only.0 only.1 only.2 ∙ ap Some only.3
