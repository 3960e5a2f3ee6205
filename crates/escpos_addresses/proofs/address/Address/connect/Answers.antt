-- The link of a device file is by its ends.
use Rattle.std.proofs.Common.{sym, subst}
use Rattle.escpos_addresses.specs.PrinterLinks.{Suits}
use Rattle.escpos_addresses.proofs.address.Address.connect.Goals as goal

pub returns-in_ok-device-in-Device : goal.returns-in_ok-device-in-Device
returns-in_ok-device-in-Device g c =
    subst (λ a. Suits a c.by_device.result) (sym c.in-Device.is) (c.in_ok-device-in-Device.device, c.by_device.ensures.reader, c.by_device.ensures.writer)
