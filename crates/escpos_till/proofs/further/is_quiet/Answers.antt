use Rattle.std.proofs.Common.{ℕ, ◌≡◌, ◌≢◌, Bool, true, false, not, IsTrue, List, [], ◌∷◌, refl}
use Rattle.escpos_till.proofs.further.is_quiet.Goals as goal

-- Where there would be something, it would be said.
nothing : (b : Bool) (out : List ℕ) → IsTrue (not b) → (out ≢ [] → IsTrue b) → out ≡ []
nothing b [] is has = refl
nothing true (x ∷ out) is has = absurd (let bad : IsTrue false = is in cc)
nothing false (x ∷ out) is has = absurd (let bad : IsTrue false = has (λ b. cc b) in cc)

pub returns : goal.returns
returns c = λ is. nothing c.has_out.result c.args.host.now.out is c.has_out.ensures.1
