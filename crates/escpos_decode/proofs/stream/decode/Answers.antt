use Rattle.std.proofs.lemmas.Result.{IfOk-weaker}
use Rattle.escpos_decode.proofs.RoundTrip.{again, spelled_again}
use Rattle.escpos_command.proofs.Readings.{never_both, one_reading}
use Rattle.escpos_decode.proofs.stream.decode.Goals as goal

pub returns-clause-encoded : goal.returns-clause-encoded
returns-clause-encoded c =
    IfOk-weaker c.decode_pieces.result _ _ (λ decoded ends. again one_reading never_both _ decoded.end decoded.commands.items ends) c.decode_pieces.ensures

pub returns-clause-spelled_again : goal.returns-clause-spelled_again
returns-clause-spelled_again c =
    IfOk-weaker c.decode_pieces.result _ _ (λ decoded ends. spelled_again _ decoded.end decoded.commands.items ends) c.decode_pieces.ensures
