use Rattle.escpos_command.specs.Meanings.{all_but_drawer}
use Rattle.escpos_link.proofs.PromisedEvents.{late_stands, leaves_promised, idle_promised, off_promised, promised, recorded_trusted, made_promised, only_promised, still_promised}
use Rattle.escpos_link.proofs.Trusting.{leaves_trusted, trusted}
use Rattle.escpos_link.proofs.WayKept.{Laws}
use Rattle.escpos_link.proofs.laws.promise.Goals as goal

pub returns : goal.returns
returns c =
    let laws : Laws = record {
      readings = record {
        read_or_refused = c.one_reading.ensures.read_or_refused;
        one_reading = c.one_reading.ensures.one_reading;
        not_both = c.one_reading.ensures.not_both;
        reading = c.joined_readings.ensures.reading;
        fault = c.joined_readings.ensures.fault;
        first_fault = c.joined_readings.ensures.first_fault;
        cut = c.joined_readings.ensures.cut;
        resynchronisation = c.resynchronisation.ensures;
        reporting = λ half q more cs rest left begun is reads. c.reporting.ensures half q more all_but_drawer cs rest left (λ e. cc) begun is reads;
      };
      numbers = record { ids = c.counted_marks.ensures.ids; apart = c.counted_marks.ensures.apart };
      paper = record { init = c.initialisation.ensures; grows = c.paper_grows.ensures };
      answers = record { no_prefix = c.answers.ensures.no_prefix; joined = c.answers.ensures.joined; cut = c.answers.ensures.cut };
    } in
    record {
      made = λ l rs p n t least near mark. made_promised l.printer.sheet.line_dots laws l rs p n t.on_way least near mark;
      in_flight = λ l p t is. only_promised l.printer.sheet.line_dots laws l p t.on_way is;
      stays = λ e l after n rs p fits sound i happened t other w.
          still_promised l after rs p (trusted l.printer.sheet.line_dots laws e l after n fits sound i happened t).on_way
          (promised l.printer.sheet.line_dots laws e l after n rs p fits sound i happened t other w);
      off = λ l host rs p none w. off_promised l.printer.sheet.line_dots l rs p host none w;
      leaves = λ e l after rs p sound i leaves t w.
          still_promised l after rs p (leaves_trusted l.printer.sheet.line_dots laws e l after sound i leaves t).on_way
          (leaves_promised l.printer.sheet.line_dots laws e l after rs p sound i leaves t w);
      idle = λ h w rs p is_down i t promise. idle_promised h w rs p is_down i t.on_way promise;
      late = λ l after k consumed id rs p i t happened mark w. late_stands laws l after k consumed id rs p i t happened mark w;
      recorded = λ l records t none s. recorded_trusted l records t none s;
    }
