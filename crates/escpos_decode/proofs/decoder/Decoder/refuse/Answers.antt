-- The half command is what leads to the state and the content after it.
use Rattle.std.proofs.Common.{◌≡◌, ◌∙◌, ◌+◌, ◌++◌, ap, arith, length, length-append}
use Rattle.escpos_command.specs.Places.{reason_after}
use Rattle.escpos_decode.specs.State.{prefix_of}
use Rattle.escpos_decode.specs.declared.decoder.DecodeFault.TheVariants.{Fault}
use Rattle.escpos_decode.proofs.decoder.Decoder.refuse.Goals as goal

pub returns-clause-fault : goal.returns-clause-fault
returns-clause-fault c =
    let long : c.prefix_len.result + c.len.result ≡ length c.args.self.now =
    omega (arith, c.prefix_len.ensures, c.len.ensures, length-append (prefix_of c.self.inside.state) c.self.inside.content.items, ap length c.self.view_is) in
    ap (λ n. Fault n c.reason-why.result) long
    ∙ ap (Fault (length c.args.self.now)) (c.reason-why.ensures ∙ ap reason_after (ap (λ v. prefix_of c.self.inside.state ++ v) c.as_slice.ensures.value ∙ c.self.view_is))
