-- Document 02, item 2: a line with a module twice is a typing fault, so 5 comes before 4 in add, remove and both readers. Only the answers for a module of
-- number N or more paired with itself change, from 4 to 5. A DIMACS `e 0 0` becomes 5 too.
--   FiveElseFour        5 for a module paired with itself, else 4 where a module is unknown
--   four_first            the old order of the two: 4 before 5
--   unknown_twice         a module of number N or more, in a DIMACS file 0 or above N, paired with itself
--   From4To5           the numbers that an old order and a new one give
--   OnlyTwiceChanges    which numbers change, whatever other causes an order has
-- The theorem is only_twice_changes (proofs/Twice.antt); of add, remove and a line of either file: crate kandurzo (specs/Twice.antt).
-- Assumes nothing: these are definitions.
use Rattle.std.specs.Prelude.{◌≡◌, Bool, true, false, ◌&&◌, not, List, [], ◌∷◌, ◌++◌, ℕ}
use Rattle.theory.specs.Basics.{all}
use Rattle.theory.specs.Refusals.{Cause, cause, refusal, unmet}
use Rattle.pairs.specs.Causes.{is_module, module_unknown, self_paired, pair_causes}

-- 5 for a module paired with itself, be it one of the n or not; 4 for two different modules, at least one of which is none of the n
pub record FiveElseFour (lowest n a b number : ℕ) : Type 0 where
  pub twice : a ≡ b → number ≡ 5
  pub unknown : (a ≡ b → ⊥) → module_unknown lowest n a b ≡ true → number ≡ 4

-- document 01's order of the two; pair_causes has the new one
unfoldable pub four_first : (lowest n a b : ℕ) → List Cause
four_first lowest n a b = cause 4 (module_unknown lowest n a b) ∷ cause 5 (self_paired a b) ∷ []

-- a module that is none of the n is paired with itself: of number N or more; in a DIMACS file, 0 or above N
unfoldable pub unknown_twice : (lowest n a b : ℕ) → Bool
unknown_twice lowest n a b = self_paired a b && not (is_module lowest n a)

-- the number by an old order and the one by a new order: 4 and 5 where the answer changes, else the same
pub record From4To5 (changes : Bool) (old new : ℕ) : Type 0 where
  pub changed : changes ≡ true → (old ≡ 4) × (new ≡ 5)
  pub same : changes ≡ false → new ≡ old

-- ONLY THE ANSWERS FOR A MODULE OF NUMBER N OR MORE PAIRED WITH ITSELF CHANGE, FROM 4 TO 5 (in a DIMACS file, of number 0 or above N): in every order of
-- refusal, whatever causes stand earlier and later; where an earlier one is met nothing changes
unfoldable pub OnlyTwiceChanges : Type 0
OnlyTwiceChanges =
    (lowest n a b : ℕ) (earlier later : List Cause) →
    From4To5 (all unmet earlier && unknown_twice lowest n a b)
    (refusal (earlier ++ (four_first lowest n a b ++ later)))
    (refusal (earlier ++ (pair_causes lowest n a b ++ later)))
