-- What holds where a call has succeeded.
use Rattle.std.proofs.Common.{◌≡◌, Result, Ok, Err, OnOk, false}
use Rattle.std.specs.Prelude.{is_err}

-- The call has succeeded.
pub succeeded : {T E : Type 0} {P : Type 0} (r : Result T E) → false ≡ is_err r → OnOk r P → P
succeeded (Ok x) e h = h
succeeded (Err d) e h = absurd cc

-- What three facts of a success give.
pub on_success : {T E : Type 0} {P Q R S : Type 0} (r : Result T E) → OnOk r P → OnOk r Q → OnOk r R → (P → Q → R → S) → OnOk r S
on_success (Ok x) p q r so = so p q r
on_success (Err d) p q r so = tt
