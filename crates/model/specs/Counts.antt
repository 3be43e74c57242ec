-- A list as a plain model: a map from pairs of modules to stop counts.
--   record_of   the record of a pair and its count
--   litter_at   a record that no list holds
--   key         two modules, the smaller first
--   count_of    the count that the model holds
--   Changed     the model after a pair's count is set, or taken out
--   record_at   the record of a pair that the model holds
--   written     a list after records were written to it
-- Assumes nothing: these are definitions.
use Rattle.std.specs.Prelude.{ℕ, ◌+◌, ◌%◌, Option, List, [], ◌∷◌, set, cond, ltb, min, max}
use Rattle.std.specs.BTreeMap.{get, Updates}
use Rattle.std.specs.Option.{unwrap_or}
use Rattle.std.specs.declared.cmp.Ordering.{Ordering}
use Rattle.std.specs.Ordering.{nat_cmp, ordering_then}
use Rattle.records.specs.declared.Pair.{Pair}
use Rattle.model.specs.declared.Stops.{Stops}

-- a number of 16 bits; 65,535 for one that has more
abbrev pub half : ℕ → ℕ
half x = cond (ltb x 65536) x 65535

-- the record of two modules and a count
abbrev pub record_of : ℕ → ℕ → ℕ → Pair
record_of a b w = record { a = half a; b = half b; w = half w }

-- record j of a list of records that no list holds: its modules are from 60,000 on, its counts from this one on
abbrev pub litter_at : ℕ → ℕ → Pair
litter_at count j = record { a = (j + 60000) % 65536; b = (j + 60000) % 65536; w = (j + count) % 65536 }

-- two modules, the smaller first
abbrev pub key : ℕ → ℕ → ℕ × ℕ
key a b = (min a b, max a b)

-- the order of two pairs: by the first module, then by the second
abbrev pub pair_cmp : ℕ × ℕ → ℕ × ℕ → Ordering
pair_cmp p q = ordering_then (nat_cmp p.0 q.0) (nat_cmp p.1 q.1)

-- the pair's count; 0 where it is not held
abbrev pub count_of : Stops → ℕ → ℕ → ℕ
count_of s a b = unwrap_or (get pair_cmp s.counts (key a b)) 0

-- the pair has this count afterwards, or none, and all others have what they had
abbrev pub Changed : Stops → Stops → ℕ → ℕ → Option ℕ → Type 0
Changed before after a b w = Updates pair_cmp before.counts after.counts (key a b) w

-- the record of a pair that the model holds
abbrev pub record_at : (ℕ × ℕ) × ℕ → Pair
record_at e = record_of e.0.0 e.0.1 e.1

-- a list after records were written to it from place i on, as many as it has room for
unfoldable pub written : ℕ → List Pair → List Pair → List Pair
written i [] ps = ps
written i (r ∷ rs) ps = written (i + 1) rs (set ps i r)
