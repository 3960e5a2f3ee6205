use Rattle.std.proofs.Common.{◌≤◌, arith, refl, take, drop, length, length-take, length-drop, length-append}
use Rattle.escpos_command.proofs.Readings.{joined}
use Rattle.escpos_printer.proofs.Serving.{serves_cut, reading_none, reading_on, serves_piece, not_between, pulled_front, pulled_length}
use Rattle.escpos_printer.proofs.serve.serve_link.Goals as goal

pub returns-in-Err-clause-served : goal.returns-in-Err-clause-served
returns-in-Err-clause-served g c =
    rw c.all_taken.ensures (
    serves_cut c.args.printer.now c.put_answers.new.printer _ _ _ c.args.max_bytes c.in-Err.written c.is_sound.ensures.rest c.is_sound.ensures.room c.in-Err.ensures.some
    (record { sheet = c.in-Err.ensures.same.0; half = c.in-Err.ensures.same.1; condition = c.in-Err.ensures.same.2; automatic = c.in-Err.ensures.same.3 }))

pub loop-read-init : goal.loop-read-init
loop-read-init g c = record {
  reading =
      reading_none c.args.printer.now c.put_answers.new.printer _ _ _ c.in-Ok.count c.is_sound.ensures.rest c.is_sound.ensures.room c.in-Ok.ensures.all
      (record { sheet = c.in-Ok.ensures.same.0; half = c.in-Ok.ensures.same.1; condition = c.in-Ok.ensures.same.2; automatic = c.in-Ok.ensures.same.3 });
  most = refl;
  within = omega arith;
  few = c.in-Ok.ensures.few;
  room = refl;
  pulls = omega arith;
  reader_well = λ h. h;
  writer_well = c.in-Ok.ensures.not_failed;
}

pub returns-in-Some-clause-served : goal.returns-in-Some-clause-served
returns-in-Some-clause-served g c =
    let fits = c.in-Ok-pull.ensures.within in
    let kept = c.pull.auto.piece in
    let asked = c.min-asked.ensures in
    let within : c.in-Ok-pull.count ≤ length c.pull.new.piece = omega (arith, fits, kept) in
    serves_piece joined c.args.printer.now c.loop-read.printer c.serve_piece-carried.new.printer (take c.in-Ok-pull.count c.pull.new.piece) _ _ _ _ _ _
    c.args.max_bytes c.loop-read.read c.loop-read.written c.in-Ok-pull.count c.serve_piece-carried.result c.in-Some.end c.loop-read.invariant.reading c.in-Ok-pull.ensures.bytes
    (pulled_length c.in-Ok-pull.count c.pull.new.piece within)
    (let few = c.loop-read.invariant.within in let short = length-take c.min-asked.result c.loop-read.piece in omega (arith, fits, asked, few, short))
    (rw (pulled_front c.in-Ok-pull.count c.pull.new.piece _ within) at c.serve_piece-carried.ensures.carried)
    c.in-Some.is (not_between c.serve_piece-carried.result.end c.in-Some.end c.serve_piece-carried.ensures.end c.in-Some.is).too_long
    (not_between c.serve_piece-carried.result.end c.in-Some.end c.serve_piece-carried.ensures.end c.in-Some.is).ended
    (not_between c.serve_piece-carried.result.end c.in-Some.end c.serve_piece-carried.ensures.end c.in-Some.is).read_fault

pub returns-in-Some-clause-ended : goal.returns-in-Some-clause-ended
returns-in-Some-clause-ended g c = λ e. absurd ((not_between c.serve_piece-carried.result.end c.in-Some.end c.serve_piece-carried.ensures.end c.in-Some.is).ended e)

pub returns-in-Some-clause-read_fault : goal.returns-in-Some-clause-read_fault
returns-in-Some-clause-read_fault g c = λ e. absurd ((not_between c.serve_piece-carried.result.end c.in-Some.end c.serve_piece-carried.ensures.end c.in-Some.is).read_fault e)

pub loop-read-preserved : goal.loop-read-preserved
loop-read-preserved g c =
    let fits = c.in-Ok-pull.ensures.within in
    let kept = c.pull.auto.piece in
    let asked = c.min-asked.ensures in
    let room = c.loop-read.invariant.room in
    let short = length-take c.min-asked.result c.loop-read.piece in
    let within : c.in-Ok-pull.count ≤ length c.pull.new.piece = omega (arith, fits, kept) in
    let few = c.loop-read.invariant.few in
    let more = c.serve_piece-carried.ensures.few in
    let carried = rw (pulled_front c.in-Ok-pull.count c.pull.new.piece _ within) at c.serve_piece-carried.ensures.carried in
    let taken = carried.within in
    let count = pulled_length c.in-Ok-pull.count c.pull.new.piece within in
    record {
      reading =
          reading_on joined c.args.printer.now c.loop-read.printer c.serve_piece-carried.new.printer (take c.in-Ok-pull.count c.pull.new.piece) _ _ _ _ _ _
          c.loop-read.read c.loop-read.written c.in-Ok-pull.count c.serve_piece-carried.result c.loop-read.invariant.reading c.in-Ok-pull.ensures.bytes count carried c.in_default.is;
      most = refl;
      within = let before = c.loop-read.invariant.within in omega (arith, fits, asked, before, short);
      few = let some = c.if-count-eq0.false in grind (arith, few, more, taken, count, some);
      room =
          let left = length-drop c.min-asked.result c.loop-read.piece in
          let both = length-append c.pull.new.piece (drop c.min-asked.result c.loop-read.piece) in omega (arith, kept, asked, room, short, left, both);
      pulls = let some = c.if-count-eq0.false in let counted = c.in-Ok-pull.ensures.counted in let before = c.loop-read.invariant.pulls in grind (arith, some, counted, before);
      reader_well = λ well bad. let h = c.in-Ok-pull.ensures.failed.0 bad in absurd cc;
      writer_well = λ well. c.serve_piece-carried.ensures.not_failed (c.loop-read.invariant.writer_well well) (λ e. c.in_default.not-Some _ e);
    }
