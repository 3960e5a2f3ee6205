-- One byte of each part of the tree of the command table.
use Rattle.std.proofs.Common.{◌≡◌, ◌<◌, ℕ, ◌+◌, ◌-◌, List, [], ◌∷◌, ◌++◌, length, refl, sym, ap, ◌∙◌, arith, zero, suc, cond, Bool, true, false}
use Rattle.std.specs.Prelude.{◌==◌, ◌&&◌, nat_lt}
use Rattle.std.proofs.lemmas.Bool.Decides.{nat_tests}
use Rattle.escpos_command.specs.declared.command.Command.{Command}
use Rattle.escpos_command.specs.Parameters.{is_byte}
use Rattle.escpos_command.specs.Tree.{dead, leaf, these, counted, closed, stopped, ending, rising}
use Rattle.escpos_decode.specs.State.{step}

one_less : (n : ℕ) → suc n - 1 ≡ n
one_less n = omega arith

some_left : (n : ℕ) → nat_lt 0 (suc n) ≡ true
some_left n = grind (arith, nat_tests)

pub counted_step : (n : ℕ) (test : ℕ → ℕ → Bool) (make : List ℕ → Command) (read : List ℕ) (b : ℕ) → 0 < n
    → step (counted n test make read) b ≡ cond (test (length read) b) (counted (n - 1) test make (read ++ b ∷ [])) dead
unfolding counted
counted_step zero test make read b h = absurd (omega arith)
counted_step (suc n) test make read b h = ap (λ m. cond (test (length read) b) (counted m test make (read ++ b ∷ [])) dead) (sym (one_less n))

pub closed_step : (n : ℕ) (test : ℕ → Bool) (whole : List ℕ → Bool) (make : List ℕ → Command) (read : List ℕ) (b : ℕ)
    → step (closed n test whole make read) b
    ≡ cond (b == 0) (ending whole make read) (cond (nat_lt 0 n && test b) (closed (n - 1) test whole make (read ++ b ∷ [])) dead)
unfolding closed
closed_step zero test whole make read b = refl
closed_step (suc n) test whole make read b =
    ap (λ m. cond (b == 0) (ending whole make read) (cond (test b) (closed m test whole make (read ++ b ∷ [])) dead)) (sym (one_less n))
    ∙ ap (λ v. cond (b == 0) (ending whole make read) (cond (v && test b) (closed (suc n - 1) test whole make (read ++ b ∷ [])) dead)) (sym (some_left n))

pub stopped_step : (n : ℕ) (test stops : ℕ → Bool) (make : List ℕ → Command) (read : List ℕ) (b : ℕ)
    → step (stopped n test stops make read) b
    ≡ cond (stops b) (these (0x00 ∷ []) (leaf (make (read ++ b ∷ [])))) (cond (nat_lt 0 n && test b) (stopped (n - 1) test stops make (read ++ b ∷ [])) dead)
unfolding stopped
stopped_step zero test stops make read b = refl
stopped_step (suc n) test stops make read b =
    ap (λ m. cond (stops b) (these (0x00 ∷ []) (leaf (make (read ++ b ∷ [])))) (cond (test b) (stopped m test stops make (read ++ b ∷ [])) dead)) (sym (one_less n))
    ∙ ap (λ v. cond (stops b) (these (0x00 ∷ []) (leaf (make (read ++ b ∷ [])))) (cond (v && test b) (stopped (suc n - 1) test stops make (read ++ b ∷ [])) dead)) (sym (some_left n))

-- ## Counted bytes

pub counted_goes : (n : ℕ) (test : ℕ → ℕ → Bool) (make : List ℕ → Command) (read : List ℕ) (b : ℕ) → 0 < n → test (length read) b ≡ true
    → step (counted n test make read) b ≡ counted (n - 1) test make (read ++ b ∷ [])
counted_goes n test make read b h e =
    counted_step n test make read b h ∙ ap (λ v. cond v (counted (n - 1) test make (read ++ b ∷ [])) dead) e

pub counted_last : (n : ℕ) (test : ℕ → ℕ → Bool) (make : List ℕ → Command) (read : List ℕ) (b : ℕ) → n ≡ 1 → test (length read) b ≡ true
    → step (counted n test make read) b ≡ leaf (make (read ++ b ∷ []))
unfolding counted
counted_last n test make read b h e =
    ap (λ m. step (counted m test make read) b) h ∙ ap (λ v. cond v (leaf (make (read ++ b ∷ []))) dead) e

pub counted_stops : (n : ℕ) (test : ℕ → ℕ → Bool) (make : List ℕ → Command) (read : List ℕ) (b : ℕ) → 0 < n → test (length read) b ≡ false
    → step (counted n test make read) b ≡ dead
counted_stops n test make read b h e =
    counted_step n test make read b h ∙ ap (λ v. cond v (counted (n - 1) test make (read ++ b ∷ [])) dead) e

-- ## Bytes closed by 00

pub closed_ends : (n : ℕ) (test : ℕ → Bool) (whole : List ℕ → Bool) (make : List ℕ → Command) (read : List ℕ) (b : ℕ) → b ≡ 0 → whole read ≡ true
    → step (closed n test whole make read) b ≡ leaf (make read)
closed_ends n test whole make read b z e =
    closed_step n test whole make read b
    ∙ ap (λ m. cond (m == 0) (ending whole make read) (cond (nat_lt 0 n && test b) (closed (n - 1) test whole make (read ++ b ∷ [])) dead)) z
    ∙ ap (λ v. cond v (leaf (make read)) dead) e

pub closed_refuses : (n : ℕ) (test : ℕ → Bool) (whole : List ℕ → Bool) (make : List ℕ → Command) (read : List ℕ) (b : ℕ) → b ≡ 0 → whole read ≡ false
    → step (closed n test whole make read) b ≡ dead
closed_refuses n test whole make read b z e =
    closed_step n test whole make read b
    ∙ ap (λ m. cond (m == 0) (ending whole make read) (cond (nat_lt 0 n && test b) (closed (n - 1) test whole make (read ++ b ∷ [])) dead)) z
    ∙ ap (λ v. cond v (leaf (make read)) dead) e

pub closed_goes : (n : ℕ) (test : ℕ → Bool) (whole : List ℕ → Bool) (make : List ℕ → Command) (read : List ℕ) (b : ℕ) → (b == 0) ≡ false → (nat_lt 0 n && test b) ≡ true
    → step (closed n test whole make read) b ≡ closed (n - 1) test whole make (read ++ b ∷ [])
closed_goes n test whole make read b z e =
    closed_step n test whole make read b
    ∙ ap (λ v. cond v (ending whole make read) (cond (nat_lt 0 n && test b) (closed (n - 1) test whole make (read ++ b ∷ [])) dead)) z
    ∙ ap (λ v. cond v (closed (n - 1) test whole make (read ++ b ∷ [])) dead) e

pub closed_stops : (n : ℕ) (test : ℕ → Bool) (whole : List ℕ → Bool) (make : List ℕ → Command) (read : List ℕ) (b : ℕ) → (b == 0) ≡ false → (nat_lt 0 n && test b) ≡ false
    → step (closed n test whole make read) b ≡ dead
closed_stops n test whole make read b z e =
    closed_step n test whole make read b
    ∙ ap (λ v. cond v (ending whole make read) (cond (nat_lt 0 n && test b) (closed (n - 1) test whole make (read ++ b ∷ [])) dead)) z
    ∙ ap (λ v. cond v (closed (n - 1) test whole make (read ++ b ∷ [])) dead) e

-- ## Bytes up to one that stops them

pub stopped_ends : (n : ℕ) (test stops : ℕ → Bool) (make : List ℕ → Command) (read : List ℕ) (b : ℕ) → stops b ≡ true
    → step (stopped n test stops make read) b ≡ these (0x00 ∷ []) (leaf (make (read ++ b ∷ [])))
stopped_ends n test stops make read b e =
    stopped_step n test stops make read b
    ∙ ap (λ v. cond v (these (0x00 ∷ []) (leaf (make (read ++ b ∷ [])))) (cond (nat_lt 0 n && test b) (stopped (n - 1) test stops make (read ++ b ∷ [])) dead)) e

pub stopped_goes : (n : ℕ) (test stops : ℕ → Bool) (make : List ℕ → Command) (read : List ℕ) (b : ℕ) → stops b ≡ false → (nat_lt 0 n && test b) ≡ true
    → step (stopped n test stops make read) b ≡ stopped (n - 1) test stops make (read ++ b ∷ [])
stopped_goes n test stops make read b z e =
    stopped_step n test stops make read b
    ∙ ap (λ v. cond v (these (0x00 ∷ []) (leaf (make (read ++ b ∷ [])))) (cond (nat_lt 0 n && test b) (stopped (n - 1) test stops make (read ++ b ∷ [])) dead)) z
    ∙ ap (λ v. cond v (stopped (n - 1) test stops make (read ++ b ∷ [])) dead) e

pub stopped_stops : (n : ℕ) (test stops : ℕ → Bool) (make : List ℕ → Command) (read : List ℕ) (b : ℕ) → stops b ≡ false → (nat_lt 0 n && test b) ≡ false
    → step (stopped n test stops make read) b ≡ dead
stopped_stops n test stops make read b z e =
    stopped_step n test stops make read b
    ∙ ap (λ v. cond v (these (0x00 ∷ []) (leaf (make (read ++ b ∷ [])))) (cond (nat_lt 0 n && test b) (stopped (n - 1) test stops make (read ++ b ∷ [])) dead)) z
    ∙ ap (λ v. cond v (stopped (n - 1) test stops make (read ++ b ∷ [])) dead) e

-- ## Bytes that rise, closed by 00

rising_step : (n before : ℕ) (make : List ℕ → Command) (read : List ℕ) (b : ℕ)
    → step (rising n before make read) b
    ≡ cond (b == 0) (leaf (make read)) (cond (nat_lt 0 n && (nat_lt before b && is_byte b)) (rising (n - 1) b make (read ++ b ∷ [])) dead)
unfolding rising
rising_step zero before make read b = refl
rising_step (suc n) before make read b =
    ap (λ m. cond (b == 0) (leaf (make read)) (cond (nat_lt before b && is_byte b) (rising m b make (read ++ b ∷ [])) dead)) (sym (one_less n))
    ∙ ap (λ v. cond (b == 0) (leaf (make read)) (cond (v && (nat_lt before b && is_byte b)) (rising (suc n - 1) b make (read ++ b ∷ [])) dead)) (sym (some_left n))

pub rising_ends : (n before : ℕ) (make : List ℕ → Command) (read : List ℕ) (b : ℕ) → b ≡ 0 → step (rising n before make read) b ≡ leaf (make read)
rising_ends n before make read b z =
    rising_step n before make read b
    ∙ ap (λ m. cond (m == 0) (leaf (make read)) (cond (nat_lt 0 n && (nat_lt before b && is_byte b)) (rising (n - 1) b make (read ++ b ∷ [])) dead)) z

rising_on : (n before : ℕ) (make : List ℕ → Command) (read : List ℕ) (b : ℕ) (v : Bool) → b < 256 → (b == 0) ≡ false → (nat_lt 0 n && nat_lt before b) ≡ v
    → step (rising n before make read) b ≡ cond v (rising (n - 1) b make (read ++ b ∷ [])) dead
rising_on n before make read b v small z e =
    let byte : is_byte b ≡ true = grind (arith, nat_tests) in
    rising_step n before make read b
    ∙ ap (λ u. cond u (leaf (make read)) (cond (nat_lt 0 n && (nat_lt before b && is_byte b)) (rising (n - 1) b make (read ++ b ∷ [])) dead)) z
    ∙ ap (λ u. cond (nat_lt 0 n && (nat_lt before b && u)) (rising (n - 1) b make (read ++ b ∷ [])) dead) byte
    ∙ ap (λ u. cond (nat_lt 0 n && u) (rising (n - 1) b make (read ++ b ∷ [])) dead) (and_true (nat_lt before b))
    ∙ ap (λ u. cond u (rising (n - 1) b make (read ++ b ∷ [])) dead) e
  where
    and_true : (u : Bool) → (u && true) ≡ u
    and_true true = refl
    and_true false = refl

pub rising_goes : (n before : ℕ) (make : List ℕ → Command) (read : List ℕ) (b : ℕ) → b < 256 → (b == 0) ≡ false → (nat_lt 0 n && nat_lt before b) ≡ true
    → step (rising n before make read) b ≡ rising (n - 1) b make (read ++ b ∷ [])
rising_goes n before make read b small z e = rising_on n before make read b true small z e

pub rising_stops : (n before : ℕ) (make : List ℕ → Command) (read : List ℕ) (b : ℕ) → b < 256 → (b == 0) ≡ false → (nat_lt 0 n && nat_lt before b) ≡ false
    → step (rising n before make read) b ≡ dead
rising_stops n before make read b small z e = rising_on n before make read b false small z e

-- ## Tests and counts

pub byte_passes : (b : ℕ) → b < 256 → is_byte b ≡ true
byte_passes b h = grind (arith, nat_tests)

pub not_zero : (b : ℕ) → (b ≡ 0 → ⊥) → (b == 0) ≡ false
not_zero b h = grind (arith, nat_tests)

pub some_are_left : (n : ℕ) → 0 < n → (n ≡ 1 → ⊥) → nat_lt 0 (n - 1) ≡ true
some_are_left n h k = grind (arith, nat_tests)

pub one_fewer : (n : ℕ) → 0 < n → n ≡ n - 1 + 1
one_fewer n h = omega arith

pub both_pass : (a b : Bool) → a ≡ true → b ≡ true → (a && b) ≡ true
both_pass a b h k = rw (h, k) refl
