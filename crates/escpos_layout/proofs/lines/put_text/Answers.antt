use Rattle.escpos_layout.proofs.Parts.{text_ends}
use Rattle.escpos_layout.proofs.lines.put_text.Goals as goal

pub returns : goal.returns
returns c =
    let call = c.write_characters in
    text_ends c.args.encoding.now call.new.encoding c.args.text.now c.args.out.now.items call.new.out.items call.result
    call.ensures.written call.ensures.refused call.ensures.kept call.ensures.still_in_force
