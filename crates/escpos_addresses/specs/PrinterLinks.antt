-- What kind of link an address gives.
use Rattle.std.specs.Prelude.{◌≡◌}
use Rattle.std.specs.declared.net.tcp.TcpStream.{TcpStream}
use Rattle.escpos_addresses.specs.declared.address.Address.{Address}
use Rattle.escpos_addresses.specs.declared.address.Address.TheVariants as address
use Rattle.escpos_addresses.specs.declared.device_file.DeviceFile.{DeviceFile}
use Rattle.escpos_addresses.specs.declared.printer_link.LinkReader.TheVariants as reader
use Rattle.escpos_addresses.specs.declared.printer_link.LinkWriter.TheVariants as writer
use Rattle.escpos_addresses.specs.declared.printer_link.PrinterLink.{PrinterLink}

-- Both of its ways go over TCP.
abbrev pub IsOverTcp : PrinterLink → Type 0
IsOverTcp link = (coming going : TcpStream) × (link.reader ≡ reader.Tcp coming) × (link.writer ≡ writer.Tcp going)

-- Both are those of a device file.
abbrev pub IsOverDevice : PrinterLink → Type 0
IsOverDevice link = (file : DeviceFile) × (link.reader ≡ reader.Device file.reading) × (link.writer ≡ writer.Device file.writing)

-- The address is that of a device file.
abbrev pub IsByDevice : Address → Type 0
IsByDevice (address.Device name) = Unit {0}
IsByDevice a = ⊥

-- A link by a device file where the address is that of one, and otherwise over TCP.
abbrev pub Suits : Address → PrinterLink → Type 0
Suits (address.Device name) link = IsOverDevice link
Suits a link = IsOverTcp link
