-- What a `Gather` does with the bytes that it is given.
use Rattle.std.specs.Prelude.{ℕ, ◌≡◌, ◌<◌, ◌-◌, ◌^◌, min, List, ◌++◌, length, take, Option}
use Rattle.std.specs.Io.KnownBytes.{Appends}

-- The model of a `Gather`: the bytes that it keeps back, and how many the sink has taken, up to the greatest u128.
pub record Gathered : Type 0 where
  pub kept : List ℕ
  pub written : ℕ

-- Since the sink stood at `first`, the gather was given the bytes `total`: the sink took a prefix of them, and the
-- rest is kept back.
pub record Carries (first sink : Option (List ℕ)) (gather : Gathered) (total : List ℕ) : Type 0 where
  pub out : List ℕ
  pub appended : Appends first sink out
  pub counted : gather.written ≡ min (length out) (2 ^ 128 - 1)
  pub whole : total ≡ out ++ gather.kept

-- The sink stopped within these bytes: it took exactly the first `written` of them, and not all.
pub record StopsIn (sink_old sink_new : Option (List ℕ)) (bytes : List ℕ) (written : ℕ) : Type 0 where
  pub front : Appends sink_old sink_new (take written bytes)
  pub fewer : written < length bytes
