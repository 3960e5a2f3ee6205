-- The bytes that an input gives, and why it gives none, by the errors of the layers below.
use Rattle.std.specs.Prelude.{ℕ, List, Result, Ok}
use Rattle.hex.specs.Hex.{decode_of}
use Rattle.hex.specs.declared.error.FromHexError.{FromHexError}
use Rattle.escpos_io.specs.declared.reading.ReadError.{ReadError}
use Rattle.escpos_io.specs.declared.reading.ReadError.TheVariants as reading
use Rattle.escpos_job_parts.specs.declared.form.Form.{Form}
use Rattle.escpos_job_parts.specs.declared.form.Form.TheVariants.{Hexadecimal, Raw}
use Rattle.escpos_job_parts.specs.declared.input.InputFault.{InputFault}
use Rattle.escpos_job_parts.specs.declared.input.InputFault.TheVariants as input
use Rattle.escpos_job_parts.specs.Hexadecimal.{digits_of}

abbrev pub fault_of_reading : ReadError → InputFault
fault_of_reading reading.TooLong = input.TooLong
fault_of_reading reading.Failed = input.Device
fault_of_reading reading.Memory = input.Memory

-- The bytes of the stream that an input gives in this form: those that it writes in hexadecimal, with blanks anywhere, or its own.
abbrev pub stream_of : Form → List ℕ → Result (List ℕ) FromHexError
stream_of Hexadecimal input = decode_of (digits_of input)
stream_of Raw input = Ok input
