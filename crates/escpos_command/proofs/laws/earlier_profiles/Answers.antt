use Rattle.std.proofs.Common.{◌≡◌, ◌≤◌, ℕ, true, arith}
use Rattle.std.specs.Prelude.{nat_le}
use Rattle.std.proofs.lemmas.Bool.Decides.{nat_tests}
use Rattle.escpos_command.specs.EarlierProfiles.{in_profile, IsNew}
use Rattle.escpos_command.proofs.EarlierProfiles.{new_is_taken, parts}
use Rattle.escpos_command.proofs.Profiles.{read, read_or_refused, refused}
use Rattle.escpos_command.proofs.laws.earlier_profiles.Goals as goal

from_one : (n : ℕ) → 1 ≤ n → nat_le 1 n ≡ true
from_one n h = grind (arith, nat_tests, h)

pub returns-clause-read_or_refused : goal.returns-clause-read_or_refused
returns-clause-read_or_refused c = λ n h. read_or_refused (in_profile n) (IsNew n) (parts n (from_one n h))

pub returns-clause-read : goal.returns-clause-read
returns-clause-read c = λ n. read (in_profile n)

pub returns-clause-refused : goal.returns-clause-refused
returns-clause-refused c = λ n h. refused (in_profile n) (IsNew n) (parts n (from_one n h))

pub returns-clause-new : goal.returns-clause-new
returns-clause-new c = λ n h. new_is_taken n (from_one n h)
