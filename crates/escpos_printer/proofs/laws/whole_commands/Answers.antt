use Rattle.escpos_printer.proofs.Spelled.{spelled_stream}
use Rattle.escpos_printer.proofs.laws.whole_commands.Goals as goal

pub returns : goal.returns
returns c = spelled_stream (record {
  cut = c.joined_readings.ensures.cut;
  one_reading = c.one_reading.ensures.one_reading;
  first_fault = c.joined_readings.ensures.first_fault;
  not_both = c.one_reading.ensures.not_both;
})
