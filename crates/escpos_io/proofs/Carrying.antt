-- Bytes that are given to a gather and go out in steps.
use Rattle.std.proofs.Common.{◌≡◌, ℕ, ◌+◌, ◌-◌, ◌<◌, ◌≤◌, ◌^◌, min, List, [], ◌++◌, length, take, sym, ◌∙◌, ap, arith, append_assoc, append-nil, length-append, Option}
use Rattle.std.specs.Io.KnownBytes.{Appends}
use Rattle.std.proofs.KnownBytes.{Appends-nil, Appends-trans}
use Rattle.std.proofs.Math.Seq.{take-append-add}
use Rattle.std.proofs.lemmas.List.{take-append-le}
use Rattle.escpos_io.specs.Gather.{Gathered, Carries, StopsIn}

-- the greatest number that is counted
abbrev most : ℕ
most = 2 ^ 128 - 1

pub carries_nothing : (gather : Gathered) → gather.kept ≡ [] → gather.written ≡ 0 → (sink : Option (List ℕ)) → Carries sink sink gather []
carries_nothing gather e n sink = record { out = []; appended = Appends-nil sink; counted = n; whole = sym e }

-- Bytes are appended to those that are kept back.
pub carries_appended : (first sink : Option (List ℕ)) (old new : Gathered) (total bytes : List ℕ) → Carries first sink old total
    → new.kept ≡ old.kept ++ bytes → new.written ≡ old.written → Carries first sink new (total ++ bytes)
carries_appended first sink old new total bytes w k n = record {
  out = w.out;
  appended = w.appended;
  counted = n ∙ w.counted;
  whole = ap (λ v. v ++ bytes) w.whole ∙ append_assoc w.out old.kept bytes ∙ ap (λ v. w.out ++ v) (sym k);
}

-- The sink takes all that was given.
pub carries_out : (first now next : Option (List ℕ)) (old : Gathered) (total : List ℕ) → Appends now next old.kept
    → Carries first now old total → Appends first next total
carries_out first now next old total out w = rw w.whole (Appends-trans first now next w.out old.kept w.appended out)

-- A count that has stopped at the greatest number stays there.
count_on : (taken new n m : ℕ) → taken ≡ min n most → new ≡ min (taken + m) most → new ≡ min (n + m) most
count_on taken new n m e f = omega (arith, e, f)

-- All that was given is out, and nothing is kept back.
pub carries_flushed : (first now next : Option (List ℕ)) (old new : Gathered) (total : List ℕ) → Appends now next old.kept → new.kept ≡ []
    → new.written ≡ min (old.written + length old.kept) most → Carries first now old total → Carries first next new total
carries_flushed first now next old new total out e n w = record {
  out = total;
  appended = carries_out first now next old total out w;
  counted = rw (w.whole, length-append) (count_on old.written new.written (length w.out) (length old.kept) w.counted n);
  whole = sym (append-nil total) ∙ ap (λ v. total ++ v) (sym e);
}

-- The sink takes bytes where nothing is kept back.
pub carries_past : (first now next : Option (List ℕ)) (old new : Gathered) (total bytes : List ℕ) → old.kept ≡ [] → new.kept ≡ []
    → new.written ≡ min (old.written + length bytes) most → Appends now next bytes → Carries first now old total → Carries first next new (total ++ bytes)
carries_past first now next old new total bytes e k n out w = record {
  out = w.out ++ bytes;
  appended = Appends-trans first now next w.out bytes w.appended out;
  counted = rw length-append (count_on old.written new.written (length w.out) (length bytes) w.counted n);
  whole = ap (λ v. v ++ bytes) (w.whole ∙ ap (λ v. w.out ++ v) e ∙ append-nil w.out) ∙ sym (append-nil (w.out ++ bytes)) ∙ ap (λ v. (w.out ++ bytes) ++ v) (sym k);
}

-- A stop within a prefix is a stop within the whole.
pub stops_in_front : (sink_old sink_new : Option (List ℕ)) (front more : List ℕ) (written : ℕ) → StopsIn sink_old sink_new front written
    → StopsIn sink_old sink_new (front ++ more) written
stops_in_front sink_old sink_new front more written s =
    let few = s.fewer in
    let within : written ≤ length front = omega arith in
    record {
      front = rw (take-append-le written front more within) s.front;
      fewer = omega (arith, few, length-append front more);
    }

-- The sink stops within the bytes that follow those that it took.
stops_after : (first now next : Option (List ℕ)) (out bytes : List ℕ) (count : ℕ) → Appends first now out → count < length bytes
    → Appends now next (take count bytes) → StopsIn first next (out ++ bytes) (length out + count)
stops_after first now next out bytes count taken few front = record {
  front = rw (take-append-add out bytes count) (Appends-trans first now next out (take count bytes) taken front);
  fewer = omega (arith, few, length-append out bytes);
}

-- A count below the greatest is exact.
exact_count : (taken written count : ℕ) (out bytes more : List ℕ) → taken ≡ min (length out) most → written ≡ min (taken + count) most
    → count < length bytes → length (out ++ bytes ++ more) < 2 ^ 128 → length out + count ≡ written
exact_count taken written count out bytes more n w few short =
    let long = length-append (out ++ bytes) more in
    let front = length-append out bytes in
    omega (arith, n, w, few, short, long, front)

-- The sink stops within the bytes that are kept back.
pub stops_in_kept : (first now next : Option (List ℕ)) (old : Gathered) (total more : List ℕ) (count written : ℕ) → count < length old.kept
    → Appends now next (take count old.kept) → written ≡ min (old.written + count) most → Carries first now old total → length (total ++ more) < 2 ^ 128
    → StopsIn first next (total ++ more) written
stops_in_kept first now next old total more count written few front n w short =
    let same : length w.out + count ≡ written = exact_count old.written written count w.out old.kept more w.counted n few (rw w.whole at short) in
    rw (w.whole, sym same)
    (stops_in_front first next (w.out ++ old.kept) more (length w.out + count) (stops_after first now next w.out old.kept count w.appended few front))

-- The sink stops within bytes that follow all that was given.
pub stops_past : (first now next : Option (List ℕ)) (old : Gathered) (total bytes more : List ℕ) (count written : ℕ) → old.kept ≡ []
    → count < length bytes → Appends now next (take count bytes) → written ≡ min (old.written + count) most → Carries first now old total
    → length (total ++ bytes ++ more) < 2 ^ 128 → StopsIn first next (total ++ bytes ++ more) written
stops_past first now next old total bytes more count written e few front n w short =
    let whole : total ≡ w.out = w.whole ∙ ap (λ v. w.out ++ v) e ∙ append-nil w.out in
    let same : length w.out + count ≡ written = exact_count old.written written count w.out bytes more w.counted n few (rw whole at short) in
    rw (whole, sym same)
    (stops_in_front first next (w.out ++ bytes) more (length w.out + count) (stops_after first now next w.out bytes count w.appended few front))
