-- What a slot owns says the same to every thread, if its value may go to any.
use Rattle.std.specs.Prelude.{Option, Some, None}
use base.Fraction.{full_share}
use base.Shift.{Keyless}
use denote.Exit.{Exit, unchanged, leaves, hidden, under}
use denote.Memory.{lone}
use denote.Param.Send.{IsSend, Quiet, part_keyless}
use denote.RattleType.{RattleType}
use denote.RawPtr.{Ptr, block_ptr, null_ptr, lies_at}
use mir.Raw.{raw}
use Rattle.libc.specs.Heap.{chunk-Keyless}
use Rattle.escpos_c.specs.Owned.{slot_owns}

pub quiet : {D X : Type 0} (to : D → X) (e : Exit X) → Quiet e → Quiet (hidden (under to e))
quiet to unchanged q = λ x w. tt
quiet to (leaves L l S s r₀) q = λ d. q (to d)

lies : (R : RattleType) → IsSend R → (p : Ptr) (x : R.Denot) → Keyless (lies_at R full_share p x)
lies R s (block_ptr b o) x = part_keyless R s full_share x b o
lies R s null_ptr x = tt

pub slot_keyless : (R : RattleType) → IsSend R → (p : Ptr) (value : Option R.Denot) → Keyless (slot_owns R p value)
slot_keyless R s p None = tt
slot_keyless R s p (Some x) = (lies R s p x, chunk-Keyless (raw (lone R.mir)) p)
