-- What a slot owns: at no value nothing, and its pointer is null; else a box from the C heap.
use Rattle.std.specs.Prelude.{Option, Some, None}
use base.Fml.{Fml, feq}
use denote.RattleType.{RattleType}
use denote.RawPtr.{Ptr, null_ptr}
use Rattle.std.specs.Box.Ownership.{box_owns}
use Rattle.libc.specs.Heap.{chunk}

abbrev pub slot_owns : (R : RattleType) → Ptr → Option R.Denot → Fml
slot_owns R p None = feq Ptr p null_ptr
slot_owns R p (Some x) = box_owns chunk R p x
