-- So far each that is kept is listed.
use Rattle.std.proofs.Common.{ℕ, ◌+◌, ◌<◌, ◌⊎◌, List, length, take}
use Rattle.escpos_till.specs.declared.renewing.TheConstants.{KEYS_KEPT}
use Rattle.escpos_till.specs.Keyed.{ListsKey}
use Rattle.escpos_till.proofs.renewing.has_kept_keys.Given as goal

abbrev pub invariant-loop-place : goal.invariant-loop-place
invariant-loop-place l = (key : List ℕ) (number : ℕ) → ListsKey (take l.place l.book.keys.items) key number
    → (l.last < number) ⊎ (l.book.earlier + length l.book.states.items < number + KEYS_KEPT) → ListsKey l.found.items key number
