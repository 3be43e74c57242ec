-- The number that an argument spells, by the number that has been found in front.
--   argument_none, argument_more, argument_alone   no number, one with bytes behind it, one alone
-- Assumes nothing.
use mathlib.Core.Path.{◌≡◌, refl}
use mathlib.Core.Bool.{cond}
use mathlib.Core.List.{List}
use Prim.Native.Nat.{ℕ}
use borrow.Author.Tests.{eq-eqb, ne_eqb}
use lib.Dec.{eqb}
use lib.ListN.{length}
use Rattle.std.specs.Prelude.{Some, None}
use Rattle.lines.specs.Numbers.{number_of}
use Rattle.lines.specs.Outcomes.{refused, taken}
use Rattle.texts.specs.Arguments.{alone, argument_number, number_due}

-- no number stands there
pub argument_none : (bytes : List ℕ) → number_of 4 bytes ≡ None → number_due (argument_number bytes) ≡ refused 110
unfolding argument_number alone number_due
argument_none bytes e = rw e refl

module _ (bytes : List ℕ) {v : ℕ} {left : List ℕ} (e : number_of 4 bytes ≡ Some (record { value = v; rest = left })) where
  found : argument_number bytes ≡ cond (eqb (length left) 0) (Some v) None
  unfolding argument_number alone
  found = rw e refl

  -- one with bytes behind it
  pub argument_more : (length left ≡ 0 → ⊥) → number_due (argument_number bytes) ≡ refused 110
  unfolding number_due
  argument_more h = rw (found, ne_eqb (length left) 0 h) refl

  -- one alone
  pub argument_alone : length left ≡ 0 → number_due (argument_number bytes) ≡ taken v
  unfolding number_due
  argument_alone h = rw (found, eq-eqb (length left) 0 h) refl
