use Rattle.escpos_command.specs.Meanings.{all_but_drawer}
use Rattle.escpos_link.proofs.WayKept.{Laws}
use Rattle.escpos_link.proofs.Trusting.{answered_resumed, leaves_trusted, none_bad, resumed_from_trusted, resumed_trusted, stands, still, trusted}
use Rattle.escpos_link.proofs.Taking.{taken_trusted}
use Rattle.escpos_link.specs.Resumed.{resumed, resumed_from}
use Rattle.escpos_link.proofs.laws.trust.Goals as goal

pub returns : goal.returns
returns c =
    let laws : Laws = record {
      readings = record {
        read_or_refused = c.one_reading.ensures.read_or_refused;
        one_reading = c.one_reading.ensures.one_reading;
        not_both = c.one_reading.ensures.not_both;
        reading = c.joined_readings.ensures.reading;
        fault = c.joined_readings.ensures.fault;
        first_fault = c.joined_readings.ensures.first_fault;
        cut = c.joined_readings.ensures.cut;
        resynchronisation = c.resynchronisation.ensures;
        reporting = λ half q more cs rest left begun is reads. c.reporting.ensures half q more all_but_drawer cs rest left (λ e. cc) begun is reads;
      };
      numbers = record { ids = c.counted_marks.ensures.ids; apart = c.counted_marks.ensures.apart };
      paper = record { init = c.initialisation.ensures; grows = c.paper_grows.ensures };
      answers = record { no_prefix = c.answers.ensures.no_prefix; joined = c.answers.ensures.joined; cut = c.answers.ensures.cut };
    } in
    record {
      stands = λ l t. stands l.printer.sheet.line_dots laws.paper l t;
      kept = λ e l after n fits sound i happened t. still l after (trusted l.printer.sheet.line_dots laws e l after n fits sound i happened t);
      leaves = λ e l after sound i leaves t. still l after (leaves_trusted l.printer.sheet.line_dots laws e l after sound i leaves t);
      resumes = λ l f count least t. still l (resumed l f count) (resumed_trusted l.printer.sheet.line_dots laws l f count least t);
      resumes_from = λ l f count heard least less t.
          still l (resumed_from l f count heard) (resumed_from_trusted l.printer.sheet.line_dots laws l f count heard least less t);
      resumes_answered = λ l f count heard none within t.
          still l (resumed_from l f count heard) (answered_resumed l.printer.sheet.line_dots laws l f count heard none within t);
      taken = λ h w t. taken_trusted h w t;
      in_turn = λ e l after n i t happened consumed at. none_bad l.printer.sheet.line_dots laws e l after n consumed at i t happened;
    }
