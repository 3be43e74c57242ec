-- What follows where a line is not refused, and by which numbers it is.
--   refused_not_taken, taken_same    an outcome is one thing
--   bind_taken, judged_taken         both steps have been taken
--   LinePassed, line_passed          a line has its form, and none of its causes is met
--   Given, given_taken, given_refused, given_bind, given_judge, given_line    the refusal numbers, step by step, by any test of them
-- Assumes nothing.
use mathlib.Core.Path.{◌≡◌, refl, sym}
use mathlib.Core.Bool.{Bool, true}
use mathlib.Core.List.{List, [], ◌∷◌}
use Rattle.std.proofs.Common.{Option, None, Some}
use Prim.Native.Nat.{ℕ, zero, suc}
use native.Mathlib.Omega.{arith}
use Rattle.theory.specs.Basics.{all}
use Rattle.theory.specs.Refusals.{Cause, refusal}
use Rattle.theory.proofs.Tests.{tests, by_test}
use Rattle.lines.specs.Lines.{Line, line_of}
use Rattle.lines.specs.Outcomes.{Outcome, refused, taken, ◌>>=◌, ◌>>◌, passed, judge, line_or, line_due}

-- what is refused is not taken
pub refused_not_taken : {A : Type 0} {k : ℕ} {a : A} → refused k ≡ taken a → ⊥
refused_not_taken e = let z : ◌≡◌ {A = ℕ} 0 1 = cc in omega arith

-- one thing is taken
pub taken_same : {A : Type 0} {a b : A} → taken a ≡ taken b → a ≡ b
taken_same e = cc

-- what is taken by two steps is taken by each
pub bind_taken : {A B : Type 0} (o : Outcome A) (f : A → Outcome B) (b : B) → ◌>>=◌ o f ≡ taken b → (a : A) × (o ≡ taken a) × (f a ≡ taken b)
unfolding ◌>>=◌
bind_taken (refused k) f b e = absurd (refused_not_taken e)
bind_taken (taken a) f b e = (a, refl, e)

-- and what is taken behind causes that are judged is taken where none is met
pub judged_taken : {A : Type 0} (cs : List Cause) (a b : A) → (do
  judge cs
  taken a) ≡ taken b → (refusal cs ≡ 0) × (a ≡ b)
unfolding judge passed ◌>>◌
judged_taken {A} cs a b e = go (refusal cs) refl e
  where
    go : (k : ℕ) → refusal cs ≡ k → ◌>>◌ (passed k) (taken a) ≡ taken b → (refusal cs ≡ 0) × (a ≡ b)
    go zero d h = (d, taken_same h)
    go (suc k) d h = absurd (refused_not_taken h)

-- a line of its form, none of whose causes is met
pub record LinePassed {B : Type 0} (d : ℕ) (form bs : List ℕ) (cs : Line → List Cause) (f : Line → Outcome B) (b : B) : Type 0 where
  pub line : Line
  pub found : line_of d form bs ≡ Some line
  pub unmet : refusal (cs line) ≡ 0
  pub then : f line ≡ taken b

module _ {B : Type 0} (number d : ℕ) (form bs : List ℕ) (cs : Line → List Cause) where
  -- a line that is taken has its form, and none of its causes is met
  pub line_passed : (f : Line → Outcome B) (b : B) → (do l ← line_due number d form bs; judge (cs l); f l) ≡ taken b → LinePassed d form bs cs f b
  unfolding line_due line_or judge passed ◌>>=◌ ◌>>◌
  line_passed f b e = of_line (line_of d form bs) refl e
    where
      of_causes : (l : Line) → line_of d form bs ≡ Some l → (k : ℕ) → refusal (cs l) ≡ k → ◌>>◌ (passed k) (f l) ≡ taken b → LinePassed d form bs cs f b
      of_causes l g zero u h = record { line = l; found = g; unmet = u; then = h }
      of_causes l g (suc k) u h = absurd (refused_not_taken h)

      of_line : (o : Option Line) → line_of d form bs ≡ o → (do l ← line_or number o; judge (cs l); f l) ≡ taken b → LinePassed d form bs cs f b
      of_line None g h = absurd (refused_not_taken h)
      of_line (Some l) g h = of_causes l g (refusal (cs l)) refl h

-- a refusal number passes a test
pub record Given {A : Type 0} (ok : ℕ → Bool) (o : Outcome A) : Type 0 where
  pub by : (k : ℕ) → o ≡ refused k → ok k ≡ true

-- the first cause that is met
given_refusal : (ok : ℕ → Bool) (cs : List Cause) → all (λ c. ok c.number) cs ≡ true → (k : ℕ) → refusal cs ≡ suc k → ok (suc k) ≡ true
unfolding refusal all
given_refusal ok [] e k h = absurd (omega arith)
given_refusal ok (c ∷ cs) e k h =
    let e' = simp tests at e in
    by_test c.met (λ t. let d : c.number ≡ suc k = rw t at h in rw d at e'.0) (λ t. given_refusal ok cs e'.1 k (rw t at h))

module _ {ok : ℕ → Bool} where
  -- what is taken has no number
  pub given_taken : {A : Type 0} (a : A) → Given ok (taken a)
  given_taken a = record { by = λ k e. absurd (refused_not_taken (sym e)) }

  -- a number
  pub given_refused : {A : Type 0} (j : ℕ) → ok j ≡ true → Given {A = A} ok (refused j)
  given_refused j h = record { by = λ k e. let d : j ≡ k = cc in rw d at h }

  -- one step after another
  pub given_bind : {A B : Type 0} (o : Outcome A) (f : A → Outcome B) → Given ok o → ((a : A) → Given ok (f a)) → Given ok (◌>>=◌ o f)
  unfolding ◌>>=◌
  given_bind (refused j) f h n = given_refused j (h.by j refl)
  given_bind (taken a) f h n = n a

  -- causes
  pub given_judge : {B : Type 0} (cs : List Cause) (o : Outcome B) → all (λ c. ok c.number) cs ≡ true → Given ok o → Given ok (do judge cs; o)
  unfolding judge passed ◌>>◌
  given_judge cs o h n = go (refusal cs) refl
    where
      go : (j : ℕ) → refusal cs ≡ j → Given ok (◌>>◌ (passed j) o)
      go zero d = n
      go (suc j) d = given_refused (suc j) (given_refusal ok cs h j d)

  -- a line of its form
  pub given_line : (number d : ℕ) (form bs : List ℕ) → ok number ≡ true → Given ok (line_due number d form bs)
  unfolding line_due line_or
  given_line number d form bs h = go (line_of d form bs)
    where
      go : (o : Option Line) → Given ok (line_or number o)
      go None = given_refused number h
      go (Some l) = given_taken l
