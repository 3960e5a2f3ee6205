-- What a call does with what a handle holds, from what the handle held and holds.
use Rattle.std.proofs.Common.{◌≡◌, Option, Some, subst, sym}
use Rattle.escpos_c.specs.Handles.{OnHandle}

-- It held this value, and holds that one.
pub on_handle : {X : Type 0} (value after : Option X) (old new : X) (held : X → X → Type 0) (empty : Type 0)
    → value ≡ Some old → after ≡ Some new → held old new → OnHandle value after held empty
on_handle value after old new held empty was is done =
    subst (λ v. OnHandle v after held empty) (sym was) (subst (λ v. OnHandle (Some old) v held empty) (sym is) done)
