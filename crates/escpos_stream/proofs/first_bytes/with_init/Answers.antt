-- One ESC @ more changes nothing.
use Rattle.std.proofs.Common.{◌≡◌, [], ◌∷◌, ◌++◌, sym, ◌∙◌, ap, subst}
use Rattle.escpos_command.specs.declared.bytes.TheConstants.{ESC}
use Rattle.escpos_stream.specs.Streams.{StreamGives}
use Rattle.escpos_stream.proofs.Opening.{gives_further}
use Rattle.escpos_stream.proofs.first_bytes.with_init.Goals as goal

pub returns-clause-same : goal.returns-clause-same
returns-clause-same c = λ commands gives.
    (let bytes : c.extend_from_slice-2.new.self.items ≡ ESC ∷ 0x40 ∷ c.args.bytes.items = (
    c.in_ok-extend_from_slice-2.ensures.items
    ∙ ap (λ v. c.extend_from_slice.new.self.items ++ v) c.deref-2.ensures.value
    ∙ ap (λ v. v ++ c.args.bytes.items) (c.in_ok-extend_from_slice.ensures.items ∙ ap (λ v. v ++ ESC ∷ 0x40 ∷ []) c.in_ok-stream.ensures.items)
    ) in
    subst (λ b. StreamGives b commands) (sym bytes) (gives_further c.args.bytes.items commands gives))
