-- The requests go out, and four status bytes come.
use Rattle.std.proofs.Common.{◌<◌, [], ◌∷◌, arith}
use Rattle.escpos_tcp_jobs.proofs.PrinterStatusLemmas.{all_told, begun, no_further, none_told, one_more, passed_on, sink_says}
use Rattle.escpos_tcp_jobs.proofs.printer_status.ask_status.Goals as goal

pub returns-in-Err-clause-fails : goal.returns-in-Err-clause-fails
returns-in-Err-clause-fails g c =
    begun c.of_writer.result (g.A.ByteOut.timed_out c.put_all.new.writer) _ _ _ _ c.in-Err.field-0.written c.in-Err.ensures.fewer c.in-Err.ensures.some c.of_writer.ensures.timed_out
    c.of_writer.ensures.other

pub returns-in-Err-clause-cause : goal.returns-in-Err-clause-cause
returns-in-Err-clause-cause g c =
    sink_says c.of_writer.result _ _ _ _ (g.A.ByteOut.timed_out c.put_all.new.writer) c.in-Err.ensures.failed c.of_writer.ensures.timed_out c.of_writer.ensures.other

pub returns-in_err-next_status-clause-fails : goal.returns-in_err-next_status-clause-fails
returns-in_err-next_status-clause-fails g c =
    let told = none_told (g.R.ByteIn.to_come c.args.reader.now) in
    let few : 0 < 4 = omega arith in
    passed_on _ c.from_residual.result c.in_err-next_status.field-0.0 c.from_residual.ensures.1
    (no_further _ _ _ _ _ _ _ [] c.in_default.ensures.all told few c.in_err-next_status.ensures.fails)

pub returns-in_err-next_status-2-clause-fails : goal.returns-in_err-next_status-2-clause-fails
returns-in_err-next_status-2-clause-fails g c =
    let first = one_more _ _ _ [] c.in_ok-next_status.field-0 (none_told (g.R.ByteIn.to_come c.args.reader.now)) c.in_ok-next_status.ensures.told in
    let few : 1 < 4 = omega arith in
    passed_on _ c.from_residual-in_err-next_status-2.result c.in_err-next_status-2.field-0.0 c.from_residual-in_err-next_status-2.ensures.1
    (no_further _ _ _ _ _ _ _ (c.in_ok-next_status.field-0 ∷ []) c.in_default.ensures.all first few c.in_err-next_status-2.ensures.fails)

pub returns-in_err-next_status-3-clause-fails : goal.returns-in_err-next_status-3-clause-fails
returns-in_err-next_status-3-clause-fails g c =
    let first = one_more _ _ _ [] c.in_ok-next_status.field-0 (none_told (g.R.ByteIn.to_come c.args.reader.now)) c.in_ok-next_status.ensures.told in
    let second = one_more _ _ _ (c.in_ok-next_status.field-0 ∷ []) c.in_ok-next_status-2.field-0 first c.in_ok-next_status-2.ensures.told in
    let few : 2 < 4 = omega arith in
    passed_on _ c.from_residual-in_err-next_status-3.result c.in_err-next_status-3.field-0.0 c.from_residual-in_err-next_status-3.ensures.1
    (no_further _ _ _ _ _ _ _ (c.in_ok-next_status.field-0 ∷ c.in_ok-next_status-2.field-0 ∷ []) c.in_default.ensures.all second few c.in_err-next_status-3.ensures.fails)

pub returns-in_err-next_status-4-clause-fails : goal.returns-in_err-next_status-4-clause-fails
returns-in_err-next_status-4-clause-fails g c =
    let first = one_more _ _ _ [] c.in_ok-next_status.field-0 (none_told (g.R.ByteIn.to_come c.args.reader.now)) c.in_ok-next_status.ensures.told in
    let second = one_more _ _ _ (c.in_ok-next_status.field-0 ∷ []) c.in_ok-next_status-2.field-0 first c.in_ok-next_status-2.ensures.told in
    let third = one_more _ _ _ (c.in_ok-next_status.field-0 ∷ c.in_ok-next_status-2.field-0 ∷ []) c.in_ok-next_status-3.field-0 second c.in_ok-next_status-3.ensures.told in
    let few : 3 < 4 = omega arith in
    passed_on _ c.from_residual-in_err-next_status-4.result c.in_err-next_status-4.field-0.0 c.from_residual-in_err-next_status-4.ensures.1
    (no_further _ _ _ _ _ _ _ (c.in_ok-next_status.field-0 ∷ c.in_ok-next_status-2.field-0 ∷ c.in_ok-next_status-3.field-0 ∷ []) c.in_default.ensures.all third few c.in_err-next_status-4.ensures.fails)

pub returns-clause-told : goal.returns-clause-told
returns-clause-told g c =
    all_told _ _ _ _ _ _ _ _ _ c.in_ok-next_status.ensures.told c.in_ok-next_status-2.ensures.told c.in_ok-next_status-3.ensures.told c.in_ok-next_status-4.ensures.told
