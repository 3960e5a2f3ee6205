-- What begins some bytes: a command that is passed over, the start of one, or none.
use Rattle.std.specs.Prelude.{ℕ, ◌≡◌, ◌≢◌, ◌<◌, ◌≤◌, List, [], ◌++◌, length, take}
use Rattle.escpos_passed.specs.declared.finding.Found.{Found}
use Rattle.escpos_passed.specs.declared.finding.Found.TheVariants as found
use Rattle.escpos_passed.specs.declared.finding.Tried.{Tried}
use Rattle.escpos_passed.specs.declared.finding.Tried.TheVariants as tried
use Rattle.escpos_passed.specs.declared.finding.After.{After}
use Rattle.escpos_passed.specs.declared.finding.After.TheVariants as after
use Rattle.escpos_passed.specs.declared.table.Row.{Row}
use Rattle.escpos_passed.specs.Table.{table, row_at, IsPassedBy, IsPartBy}

-- No command of this row begins the bytes, and they are the start of none.
pub record IsNone (r : Row) (bs : List ℕ) : Type 0 where
  pub not_passed : (some more : List ℕ) → bs ≡ some ++ more → IsPassedBy r some → ⊥
  pub no_part : IsPartBy r bs → ⊥

abbrev pub IsTried : Tried → Row → List ℕ → Type 0
IsTried (tried.Whole n) r bs = (n ≤ length bs) × IsPassedBy r (take n bs)
IsTried tried.Part r bs = IsPartBy r bs
IsTried tried.Nothing r bs = IsNone r bs

abbrev pub IsFoundIn : Found → List Row → List ℕ → Type 0
IsFoundIn (found.Whole r n) rows bs = (i : ℕ) × (i < length rows) × (r ≡ row_at rows i) × (n ≤ length bs) × IsPassedBy r (take n bs)
IsFoundIn found.Part rows bs = (i : ℕ) × (i < length rows) × IsPartBy (row_at rows i) bs
IsFoundIn found.Nothing rows bs = (i : ℕ) → i < length rows → IsNone (row_at rows i) bs

abbrev pub IsFound : Found → List ℕ → Type 0
IsFound f bs = IsFoundIn f table bs

-- What stands after wanted bytes.
abbrev pub IsAfter : After → List ℕ → List ℕ → Type 0
IsAfter (after.Rest rest) wanted bs = bs ≡ wanted ++ rest.now
IsAfter after.Start wanted bs = (more : List ℕ) × (more ≢ []) × (wanted ≡ bs ++ more)
IsAfter after.Other wanted bs = (x y : List ℕ) → bs ++ x ≡ wanted ++ y → ⊥
