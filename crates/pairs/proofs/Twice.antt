-- Which numbers change with 5 before 4 (document 02, item 2).
--   Gives                 two modules are refused by a number, whatever causes stand later
--   five_else_four        a module paired with itself gives 5, else an unknown one 4
--   either_order          two causes in either order
--   both_met              which modules meet both
--   only_twice_changes    whatever causes stand earlier and later
-- Assumes nothing.
use mathlib.Core.Path.{◌≡◌, refl, sym}
use mathlib.Core.Bool.{Bool, true, false, ◌&&◌}
use mathlib.Core.List.{List, [], ◌∷◌, ◌++◌}
use Prim.Native.Nat.{ℕ, suc}
use lib.Dec.{eqb}
use borrow.Author.Tests.{eqb-true, eq-eqb, ne_eqb}
use Rattle.theory.specs.Basics.{all}
use Rattle.theory.specs.Refusals.{Cause, cause, refusal, unmet}
use Rattle.theory.proofs.Tests.{no, by_test}
use Rattle.pairs.specs.Causes.{is_module, module_unknown, self_paired, pair_causes}
use Rattle.pairs.specs.Twice.{FiveElseFour, four_first, unknown_twice, From4To5, OnlyTwiceChanges}

-- two modules are refused by the number k + 1, whatever causes stand later
abbrev pub Gives : (lowest n a b k : ℕ) → Type 0
Gives lowest n a b k = (later : List Cause) → refusal (pair_causes lowest n a b ++ later) ≡ suc k

-- a module paired with itself gives 5, else an unknown one 4, whatever stands later
pub five_else_four : (lowest n a b : ℕ) (later : List Cause) → FiveElseFour lowest n a b (refusal (pair_causes lowest n a b ++ later))
unfolding pair_causes self_paired cause refusal
five_else_four lowest n a b later = record { twice = λ e. rw (eq-eqb a b e); unknown = λ d u. rw (ne_eqb a b d, u) }

-- two causes in either order: the numbers differ where both are met
either_order : (unknown twice : Bool) (later : List Cause) →
    From4To5 (twice && unknown) (refusal (cause 4 unknown ∷ cause 5 twice ∷ later)) (refusal (cause 5 twice ∷ cause 4 unknown ∷ later))
unfolding cause refusal
either_order true true later = record { changed = λ e. (refl, refl); same = λ e. no (sym e) }
either_order true false later = record { changed = λ e. no e; same = λ e. refl }
either_order false true later = record { changed = λ e. no e; same = λ e. refl }
either_order false false later = record { changed = λ e. no e; same = λ e. refl }

-- both are met by a module that is none of the n, paired with itself
both_met : (lowest n a b : ℕ) → unknown_twice lowest n a b ≡ (self_paired a b && module_unknown lowest n a b)
unfolding unknown_twice module_unknown self_paired
both_met lowest n a b =
    by_test (eqb a b) (λ t. rw (t, sym (eqb-true a b t)) (by_test (is_module lowest n a) (λ u. rw u) (λ u. rw u))) (λ t. rw t)

pub only_twice_changes : OnlyTwiceChanges
unfolding OnlyTwiceChanges all unmet refusal four_first pair_causes
only_twice_changes lowest n a b [] later = rw (both_met lowest n a b) (either_order (module_unknown lowest n a b) (self_paired a b) later)
only_twice_changes lowest n a b (c ∷ cs) later =
    by_test c.met
    (λ t. rw t (record { changed = λ e. no e; same = λ e. refl }))
    (λ t. rw t (only_twice_changes lowest n a b cs later))
