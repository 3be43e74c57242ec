-- Lines that name different pairs, none of which is held yet.
--   Fresh, fresh_all                     such lines; those of a file, before the first is read
--   fresh_ends, fresh_new, fresh_more    the first of them, and the others once its pair is held
--   held_after                           what is held once they are read
-- Assumes nothing.
use mathlib.Core.Path.{◌≡◌}
use mathlib.Core.Bool.{true, false}
use mathlib.Core.List.{List, [], ◌∷◌}
use Prim.Native.Nat.{ℕ, ◌+◌, ◌≤◌, ◌<◌}
use native.Mathlib.Omega.{arith}
use Rattle.theory.specs.Basics.{all, mark}
use Rattle.theory.specs.Lists.{Pair}
use Rattle.theory.proofs.Tests.{tests}
use Rattle.pairs.specs.Held.{is_held, insert_pair, smaller_first_pair, stops_of}
use Rattle.pairs.proofs.Order.{same_refl}
use Rattle.pairfile.specs.Promise.{times_named, names_two, Different}
use Rattle.pairfile.proofs.Names.{stops_mark, mark_same}
use Rattle.pairfile.proofs.ReadsEvery.{line_two}

-- lines of two different modules each, no pair on two of them, and none held
pub record Fresh (n : ℕ) (ls held : List Pair) : Type 0 where
  pub two : all (names_two n) ls ≡ true
  pub once : (r : Pair) → times_named r ls + mark (is_held r held) ≤ 1

-- the lines of a file, before the first is read
pub fresh_all : (n : ℕ) (ls : List Pair) → all (names_two n) ls ≡ true → Different ls → Fresh n ls []
unfolding Different is_held mark
fresh_all n ls two once = record { two = two; once = λ r. omega (arith, once r) }

-- the first of them
module _ (n : ℕ) (l : Pair) (ls held : List Pair) (f : Fresh n (l ∷ ls) held) where
  pub fresh_ends : (l.a < n) × (l.b < n) × (l.a ≡ l.b → ⊥)
  unfolding all
  fresh_ends = line_two n l (simp tests at f.two).0

  pub fresh_new : is_held (smaller_first_pair l.a l.b) held ≡ false
  unfolding times_named mark
  fresh_new =
      let p = smaller_first_pair l.a l.b in
      mark_same (is_held p held) false (omega (arith, rw same_refl at (f.once p)))

  -- the others, once its pair is held, with any count
  pub fresh_more : (w : ℕ) → Fresh n ls (insert_pair (stops_of l.a l.b w) held)
  unfolding all times_named
  fresh_more w =
      record {
        two = (simp tests at f.two).1;
        once = λ r. omega (arith, f.once r, stops_mark r l.a l.b w held fresh_new);
      }

-- what is held once they are read
unfoldable pub held_after : (ls held : List Pair) → List Pair
held_after [] held = held
held_after (l ∷ ls) held = held_after ls (insert_pair (stops_of l.a l.b l.w) held)
