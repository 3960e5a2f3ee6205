use Rattle.std.proofs.Common.{ℕ, List, ◌≡◌, ◌-◌, length, take, ◌++◌, ◌∷◌, [], Ok, Err, ap, drop, refl, sym, ◌∙◌}
use Rattle.std.specs.Prelude.{flat_map}
use Rattle.std.proofs.lemmas.List.{take_rest}
use Rattle.escpos_command.specs.declared.bytes.TheConstants.{LF}
use Rattle.escpos_io.proofs.Giving.{given_in_turn, given_in_the_front, given_appended}
use Rattle.escpos_job_parts.specs.Lines.{byte_value}
use Rattle.escpos_passed.specs.Names.{named}
use Rattle.escpos_stream_jobs.specs.Check.{passed_front}
use Rattle.escpos_stream_jobs.proofs.passed_line.put_passed_line.Goals as goal

pub returns-in_err-room : goal.returns-in_err-room
returns-in_err-room g c =
    given_in_the_front c.from_residual.result c.in_err-room.field-0.0 _ _ _ [] _ _ c.from_residual.ensures.1 c.in_err-room.ensures.given refl

-- The bytes after those that the name stands for.
values_of : (bytes : List ℕ) (n m : ℕ) → n ≡ m → flat_map byte_value (take (length bytes - n) (drop n bytes)) ≡ flat_map byte_value (drop m bytes)
values_of bytes n m e = ap (flat_map byte_value) (take_rest bytes n ∙ ap (λ k. drop k bytes) e)

whole_line : (front values shown : List ℕ) → values ≡ shown → front ++ shown ++ LF ∷ [] ≡ (front ++ values) ++ LF ∷ []
whole_line front values shown e = ap (λ v. (front ++ v) ++ LF ∷ []) (sym e)

pub returns-in_err-put_values : goal.returns-in_err-put_values
returns-in_err-put_values g c =
    let front = passed_front c.args.place c.args.row.now in
    let bytes = c.args.bytes.now in
    let values = flat_map byte_value (take (length bytes - c.named.result) (drop c.named.result bytes)) in
    let roomed = given_in_turn (Ok tt) _ _ _ _ _ _ _ _ _ [] front front c.in_ok-room.ensures.given
    (given_appended _ _ _ _ front c.append_front.ensures.kept c.append_front.ensures.same_count) refl in
    let stopped = given_in_turn (Err c.in_err-put_values.field-0.0) _ _ _ _ _ _ _ _ _ front values (front ++ values) roomed c.in_err-put_values.ensures refl in
    given_in_the_front c.from_residual-in_err-put_values.result c.in_err-put_values.field-0.0 _ _ _ (front ++ values) (LF ∷ []) _
    c.from_residual-in_err-put_values.ensures.1 stopped (whole_line front values (flat_map byte_value (drop (named c.args.row.now.prefix) bytes)) (values_of bytes c.named.result (named c.args.row.now.prefix) c.named.ensures))

pub returns : goal.returns
returns g c =
    let front = passed_front c.args.place c.args.row.now in
    let bytes = c.args.bytes.now in
    let values = flat_map byte_value (take (length bytes - c.named.result) (drop c.named.result bytes)) in
    let roomed = given_in_turn (Ok tt) _ _ _ _ _ _ _ _ _ [] front front c.in_ok-room.ensures.given
    (given_appended _ _ _ _ front c.append_front.ensures.kept c.append_front.ensures.same_count) refl in
    let second = given_in_turn (Ok tt) _ _ _ _ _ _ _ _ _ front values (front ++ values) roomed c.in_ok-put_values.ensures refl in
    given_in_turn c.put.result _ _ _ _ _ _ _ _ _ (front ++ values) (LF ∷ []) _ second c.put.ensures.given
    (whole_line front values (flat_map byte_value (drop (named c.args.row.now.prefix) bytes)) (values_of bytes c.named.result (named c.args.row.now.prefix) c.named.ensures))
