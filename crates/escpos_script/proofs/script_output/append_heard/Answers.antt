use Rattle.std.proofs.Common.{◌++◌, ◌∙◌, sym, ap, append_assoc, codes}
use Rattle.escpos_job_parts.specs.Lines.{byte_value}
use Rattle.escpos_script.specs.ScriptOutput.{heard_text}
use Rattle.escpos_script.proofs.script_output.append_heard.Goals as goal

pub returns-in-Status-clause-kept : goal.returns-in-Status-clause-kept
returns-in-Status-clause-kept c =
    let value = byte_value c.in-Status.byte in
    c.append_byte.ensures.kept ∙ ap (λ v. v ++ value) c.extend-in-Status.ensures.kept ∙ append_assoc c.args.gather.now.kept (codes "status") value
    ∙ ap (λ e. c.args.gather.now.kept ++ heard_text e) (sym c.in-Status.is)
