use Rattle.std.proofs.Common.{◌++◌, ◌∙◌, ap, sym}
use Rattle.escpos_decode.specs.State.{has_content, prefix_of}
use Rattle.escpos_decode.proofs.TextRuns.{text_on}
use Rattle.escpos_decode.proofs.decoder.Decoder.characters.Goals as goal

pub returns-in-Start-clause-stream : goal.returns-in-Start-clause-stream
returns-in-Start-clause-stream c =
    let content = c.self.inside.content.items in
    let none = sym c.self.view_is ∙ ap (λ p. prefix_of p ++ content) c.in-Start.is ∙ c.self.invariant.0.empty (ap has_content c.in-Start.is) in
    text_on c.args.bytes.now _ c.leading_characters.result c.leading_characters.ensures.characters none
