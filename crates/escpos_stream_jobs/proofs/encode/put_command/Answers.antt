-- The digits of the parts are given one after another; if a part failed, they are a prefix of all.
use Rattle.std.proofs.Common.{◌≡◌, ◌∙◌, ◌++◌, Ok, Err, refl, ap}
use Rattle.escpos_command.specs.CommandTable.{row, entry_of}
use Rattle.escpos_stream_jobs.proofs.Spellings.{row_of_parts}
use Rattle.escpos_io.proofs.Giving.{given_in_the_front, given_in_turn}
use Rattle.escpos_stream_jobs.proofs.encode.put_command.Goals as goal

pub returns-in_err-put : goal.returns-in_err-put
returns-in_err-put g c =
    let f = c.parts-parts.result.prefix.now in
    let p = (entry_of c.args.command.now).parameters in
    let d = (entry_of c.args.command.now).content in
    let l = (entry_of c.args.command.now).suffix in
    let device = c.in_err-put.field-0.0 in
    let joined = g.F.ByteForm.joined in
    let two = given_in_the_front (Err device) device _ _ _ (g.F.ByteForm.of f) (g.F.ByteForm.of p) (g.F.ByteForm.of (f ++ p)) refl c.in_err-put.ensures
    (joined f p) in
    let three = given_in_the_front (Err device) device _ _ _ (g.F.ByteForm.of (f ++ p)) (g.F.ByteForm.of d) (g.F.ByteForm.of (f ++ p ++ d)) refl two (joined (f ++ p) d) in
    let whole : row c.args.command.now ≡ f ++ p ++ d ++ l = row_of_parts c.args.command.now f p d l _ _ _ _ refl c.parts-parts.ensures.prefix refl refl refl in
    given_in_the_front c.from_residual.result device _ _ _ (g.F.ByteForm.of (f ++ p ++ d)) (g.F.ByteForm.of l) _ c.from_residual.ensures.1 three
    (ap g.F.ByteForm.of whole ∙ joined (f ++ p ++ d) l)

pub returns-in_err-put-2 : goal.returns-in_err-put-2
returns-in_err-put-2 g c =
    let f = c.parts-parts.result.prefix.now in
    let p = c.as_slice.result.now in
    let d = (entry_of c.args.command.now).content in
    let l = (entry_of c.args.command.now).suffix in
    let device = c.in_err-put-2.field-0.0 in
    let joined = g.F.ByteForm.joined in
    let two = given_in_turn (Err device) _ _ _ _ _ _ _ _ _ (g.F.ByteForm.of f) (g.F.ByteForm.of p) (g.F.ByteForm.of (f ++ p)) c.in_ok-put.ensures
    c.in_err-put-2.ensures (joined f p) in
    let three = given_in_the_front (Err device) device _ _ _ (g.F.ByteForm.of (f ++ p)) (g.F.ByteForm.of d) (g.F.ByteForm.of (f ++ p ++ d)) refl two (joined (f ++ p) d) in
    let whole : row c.args.command.now ≡ f ++ p ++ d ++ l = row_of_parts c.args.command.now f p d l _ _ _ _ refl c.parts-parts.ensures.prefix
    (c.as_slice.ensures.value ∙ c.parts-parts.ensures.parameters) refl refl in
    given_in_the_front c.from_residual-in_err-put-2.result device _ _ _ (g.F.ByteForm.of (f ++ p ++ d)) (g.F.ByteForm.of l) _
    c.from_residual-in_err-put-2.ensures.1 three (ap g.F.ByteForm.of whole ∙ joined (f ++ p ++ d) l)

pub returns-in_err-put-3 : goal.returns-in_err-put-3
returns-in_err-put-3 g c =
    let f = c.parts-parts.result.prefix.now in
    let p = c.as_slice.result.now in
    let d = c.parts-parts.result.content.now in
    let l = (entry_of c.args.command.now).suffix in
    let device = c.in_err-put-3.field-0.0 in
    let joined = g.F.ByteForm.joined in
    let two = given_in_turn (Ok tt) _ _ _ _ _ _ _ _ _ (g.F.ByteForm.of f) (g.F.ByteForm.of p) (g.F.ByteForm.of (f ++ p)) c.in_ok-put.ensures
    c.in_ok-put-2.ensures (joined f p) in
    let three = given_in_turn (Err device) _ _ _ _ _ _ _ _ _ (g.F.ByteForm.of (f ++ p)) (g.F.ByteForm.of d) (g.F.ByteForm.of (f ++ p ++ d)) two
    c.in_err-put-3.ensures (joined (f ++ p) d) in
    let whole : row c.args.command.now ≡ f ++ p ++ d ++ l = row_of_parts c.args.command.now f p d l _ _ _ _ refl c.parts-parts.ensures.prefix
    (c.as_slice.ensures.value ∙ c.parts-parts.ensures.parameters) c.parts-parts.ensures.content refl in
    given_in_the_front c.from_residual-in_err-put-3.result device _ _ _ (g.F.ByteForm.of (f ++ p ++ d)) (g.F.ByteForm.of l) _
    c.from_residual-in_err-put-3.ensures.1 three (ap g.F.ByteForm.of whole ∙ joined (f ++ p ++ d) l)

pub returns : goal.returns
returns g c =
    let f = c.parts-parts.result.prefix.now in
    let p = c.as_slice.result.now in
    let d = c.parts-parts.result.content.now in
    let l = c.parts-parts.result.suffix.now in
    let joined = g.F.ByteForm.joined in
    let two = given_in_turn (Ok tt) _ _ _ _ _ _ _ _ _ (g.F.ByteForm.of f) (g.F.ByteForm.of p) (g.F.ByteForm.of (f ++ p)) c.in_ok-put.ensures
    c.in_ok-put-2.ensures (joined f p) in
    let three = given_in_turn (Ok tt) _ _ _ _ _ _ _ _ _ (g.F.ByteForm.of (f ++ p)) (g.F.ByteForm.of d) (g.F.ByteForm.of (f ++ p ++ d)) two
    c.in_ok-put-3.ensures (joined (f ++ p) d) in
    let whole : row c.args.command.now ≡ f ++ p ++ d ++ l = row_of_parts c.args.command.now f p d l _ _ _ _ refl c.parts-parts.ensures.prefix
    (c.as_slice.ensures.value ∙ c.parts-parts.ensures.parameters) c.parts-parts.ensures.content c.parts-parts.ensures.suffix in
    given_in_turn c.put-4.result _ _ _ _ _ _ _ _ _ (g.F.ByteForm.of (f ++ p ++ d)) (g.F.ByteForm.of l) _ three c.put-4.ensures
    (ap g.F.ByteForm.of whole ∙ joined (f ++ p ++ d) l)
