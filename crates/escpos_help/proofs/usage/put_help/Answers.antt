use Rattle.std.proofs.Common.{subst}
use Rattle.std.specs.Io.KnownBytes.{Appends}
use Rattle.std.proofs.KnownBytes.{Appends-trans}
use Rattle.escpos_help.specs.declared.texts.TheConstants.{HELP_END, HELP_START}
use Rattle.escpos_help.proofs.usage.put_help.Goals as goal

pub returns-clause-all : goal.returns-clause-all
returns-clause-all g c =
    let start : Appends (g.W.ByteOut.written c.args.output.now) (g.W.ByteOut.written c.put_all.new.writer) HELP_START.now =
    subst (λ v. Appends (g.W.ByteOut.written c.args.output.now) (g.W.ByteOut.written c.put_all.new.writer) v) c.as_bytes.ensures.value c.in_ok-put_all.ensures.all in
    let end : Appends (g.W.ByteOut.written c.put_settings.new.output) (g.W.ByteOut.written c.put_all-2.new.writer) HELP_END.now =
    subst (λ v. Appends (g.W.ByteOut.written c.put_settings.new.output) (g.W.ByteOut.written c.put_all-2.new.writer) v) c.as_bytes-2.ensures.value c.in_ok-put_all-2.ensures.all in
    Appends-trans _ _ _ _ _ start (Appends-trans _ _ _ _ _ c.in_ok-put_settings.ensures.all end)
