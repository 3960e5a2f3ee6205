-- A row with a text is the entry that has this text.
use Rattle.std.proofs.Common.{rules, ◌≡◌, ◌+◌, length}
use Rattle.std.proofs.lemmas.Result.{IfOk-weaker}
use Rattle.sqlite.specs.declared.types.Value.TheVariants.{Blob as Bytes}
use Rattle.sqlite.specs.Order.{column}
use Rattle.escpos_store.proofs.RowLemmas.{row_of_found}
use Rattle.escpos_store.proofs.row.entry_of.Goals as goal

pub returns-in-Ok-Blob-clause-entry : goal.returns-in-Ok-Blob-clause-entry
returns-in-Ok-Blob-clause-entry c =
    let read = c.in-Some-Some-Some-Some in
    let count : length c.args.row.now ≡ 5 = search rules in
    let id : read.id ≡ 1 + c.args.before = search rules in
    let content : column c.args.row.now 4 ≡ Bytes c.in-Ok-Blob.bytes.now = search rules in
    IfOk-weaker c.entry_with_content.result _ _ (λ found h. row_of_found c.args.row.now read.id read.kind read.number read.next (1 + c.args.before) (Bytes c.in-Ok-Blob.bytes.now) found count
    read.ensures.number read.ensures'.number read.ensures''.number read.ensures'''.number content id h) c.entry_with_content.ensures.entry
