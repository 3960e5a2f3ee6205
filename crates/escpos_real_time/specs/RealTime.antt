-- Real-time commands: a printer carries them out as soon as their bytes have come, wherever these stand. (Reference: DLE EOT,
-- DLE ENQ, DLE DC4.)
use Rattle.std.specs.Prelude.{ℕ, ◌≡◌, ◌==◌, ◌&&◌, ◌||◌, nat_le, Bool, IsTrue, List, ◌∷◌, ◌++◌}
use Rattle.escpos_command.specs.declared.bytes.TheConstants.{DLE, EOT}
use Rattle.escpos_real_time.specs.declared.scan.TheConstants.{ENQ, DC4}

-- DLE EOT asks for a status, DLE ENQ goes on after an error, and DLE DC4 opens the cash drawer, switches the printer off, or
-- drops what is waiting. These are the first three bytes of each.
abbrev pub is_real_time : ℕ → ℕ → ℕ → Bool
is_real_time first second third =
    first == DLE
    && (second == EOT && (nat_le 1 third && nat_le third 8) || second == ENQ && nat_le third 2
    || second == DC4 && (nat_le 1 third && nat_le third 3 || nat_le 6 third && nat_le third 8))

-- Somewhere in the bytes stands a real-time command.
pub record HoldsRealTime (bytes : List ℕ) : Type 0 where
  pub before : List ℕ
  pub first : ℕ
  pub second : ℕ
  pub third : ℕ
  pub following : List ℕ
  pub split : bytes ≡ before ++ first ∷ second ∷ third ∷ following
  pub real_time : IsTrue (is_real_time first second third)
