-- What a call that puts bytes does with a sink.
use Rattle.std.specs.Prelude.{ℕ, Bool, List, Option, Result, OnOk, IfErr, IsTrue, ⊤}
use Rattle.std.specs.Io.KnownBytes.{Appends}
use Rattle.escpos_io.specs.declared.putting.Device.{Device}
use Rattle.escpos_io.specs.Gather.{StopsIn}

-- A sink before and after a call: the bytes that it has taken, where it can name them, and whether it has failed.
pub record Passage : Type 0 where
  pub before : Option (List ℕ)
  pub after : Option (List ℕ)
  pub had_failed : Bool
  pub has_failed : Bool

abbrev pub passage : Option (List ℕ) → Option (List ℕ) → Bool → Bool → Passage
passage before after had_failed has_failed = record { before = before; after = after; had_failed = had_failed; has_failed = has_failed }

-- Either all of these bytes went out, and the sink has not failed unless it had before; or it has failed, and
-- exactly the first `written` of them went out, and not all.
pub record IsPut (result : Result ⊤ Device) (sink : Passage) (bytes : List ℕ) : Type 0 where
  pub ok : OnOk result (Appends sink.before sink.after bytes)
  pub err : IfErr result (λ device. StopsIn sink.before sink.after bytes device.written)
  pub failed : IfErr result (λ device. IsTrue sink.has_failed)
  pub not_failed : OnOk result (¬ IsTrue sink.had_failed → ¬ IsTrue sink.has_failed)
