use Rattle.std.proofs.Common.{◌≡◌, ◌∙◌, Some, true, false, ap, sym, subst}
use Rattle.std.specs.declared.net.socket_addr.SocketAddr.TheVariants.{V4, V6}
use Rattle.std.specs.Net.Grammar.{IsSocketText}
use Rattle.escpos_addresses.proofs.Addresses.{has_port, only_numeric}
use Rattle.escpos_addresses.proofs.address.Address.of_text.Goals as goal

pub returns-then-has_port-clause-taken : goal.returns-then-has_port-clause-taken
returns-then-has_port-clause-taken c = λ address h. ap Some (only_numeric c.args.text.now (V4 c.in-Ok-V4.address) address (subst (IsSocketText c.args.text.now) c.in-Ok-V4.field-0-is c.in-Ok-V4.ensures.value) h)

pub returns-else-has_port-clause-taken : goal.returns-else-has_port-clause-taken
returns-else-has_port-clause-taken c = λ address h.
    let has = has_port c.args.text.now c.in-Ok-V4.address address (subst (IsSocketText c.args.text.now) c.in-Ok-V4.field-0-is c.in-Ok-V4.ensures.value) h in
    let bad : false ≡ true = sym c.if-has_port.false ∙ c.has_port.ensures.1 has in
    absurd cc

pub returns-in-Ok-V6-clause-taken : goal.returns-in-Ok-V6-clause-taken
returns-in-Ok-V6-clause-taken c = λ address h. ap Some (only_numeric c.args.text.now (V6 c.in-Ok-V6.address) address (subst (IsSocketText c.args.text.now) c.in-Ok-V6.field-0-is c.in-Ok-V6.ensures.value) h)

pub returns-in-Err-clause-taken : goal.returns-in-Err-clause-taken
returns-in-Err-clause-taken c = λ address h. c.other.ensures.taken address c.in-Err.ensures.value h
