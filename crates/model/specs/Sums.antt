-- Counts, ratios, and pairs on a circle.
--   raised        a count that becomes so many more
--   raised_at     the counts after the one at a place does
--   compared      how many comparisons differ after one more
--   rounded_up    a ratio rounded up
--   circle_pair   the pairs on a circle of modules
-- Assumes nothing: these are definitions.
use Rattle.std.specs.Prelude.{ℕ, ◌+◌, ◌-◌, ◌/◌, ◌%◌, ◌^◌, Bool, List, set, cond, eqb, min}
use Rattle.std.specs.Int.{div_ceil}
use Rattle.std.specs.List.{slice_index_or}

-- so many more, and no more than 32 bits hold
abbrev pub raised : ℕ → ℕ → ℕ
raised count more = min (count + more) (2 ^ 32 - 1)

-- the count at place i is so many more, where there is one
abbrev pub raised_at : List ℕ → ℕ → ℕ → List ℕ
raised_at counts i more = set counts i (raised (slice_index_or counts i 0) more)

-- one more comparison differs, unless its two sides are the same
abbrev pub compared : ℕ → Bool → ℕ
compared differ same = raised differ (cond same 0 1)

-- p over q, rounded up; 0 where q is 0
abbrev pub rounded_up : ℕ → ℕ → ℕ
rounded_up p q = cond (eqb q 0) 0 (div_ceil p q)

-- pair i: a module, and the one that stands i / many + 1 behind it; sums leave 32 bits
abbrev pub circle_pair : ℕ → ℕ → ℕ → ℕ × ℕ
circle_pair i first many = (first + i % many, first + ((i + 1) % 2 ^ 32 + i / many) % 2 ^ 32 % many)
