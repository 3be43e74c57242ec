-- 13, 12, 20, and what comes after them: t says that head and list agree, s that a buffer is short, z that the list has no pair, k the number after 20.
--   number               the number that is given
--   past_twenty          where it is not 20, document 03's order gives it
--   twenty_where         where 20 is given
-- Assumes nothing.
use mathlib.Core.Path.{◌≡◌, refl, sym, ◌∙◌}
use mathlib.Core.Bool.{Bool, true, false, not, cond}
use mathlib.Core.Logic.{◌↔◌}
use Prim.Native.Nat.{ℕ, ◌<◌}
use native.Mathlib.Omega.{arith}

abbrev pub number : (t s z : Bool) → (k : ℕ) → ℕ
number t s z k = cond (not t) 13 (cond s 12 (cond z 20 k))

pub past_twenty : (t s z : Bool) (k : ℕ) → (number t s z k ≡ 20 → ⊥) → number t s z k ≡ number t s false k
past_twenty true true z k n = refl
past_twenty true false true k n = absurd (n refl)
past_twenty true false false k n = refl
past_twenty false s z k n = refl

-- 20 is given exactly where there is no pair and document 03 gives neither 13 nor 12: n is the number given, f document 03's, m the M
module _ (t s z : Bool) {k n f m : ℕ} (is : n ≡ number t s z k) (former : f ≡ number t s false k) (low : k < 10) (none : t ≡ true → (z ≡ true) ↔ (m ≡ 0)) where
  twenty_open : (t s z : Bool) → number t s z k ≡ 20 → (t ≡ true) × (s ≡ false) × (z ≡ true)
  twenty_open true true z e = absurd (omega (arith, e))
  twenty_open true false true e = (refl, refl, refl)
  twenty_open true false false e = absurd (omega (arith, e, low))
  twenty_open false s z e = absurd (omega (arith, e))

  neither : (t s : Bool) → (number t s false k ≡ 13 → ⊥) → (number t s false k ≡ 12 → ⊥) → (t ≡ true) × (s ≡ false)
  neither true true a b = absurd (b refl)
  neither true false a b = (refl, refl)
  neither false s a b = absurd (a refl)

  pub twenty_where : (n ≡ 20) ↔ ((m ≡ 0) × (f ≡ 13 → ⊥) × (f ≡ 12 → ⊥))
  twenty_where = (
    λ e.
        let o = twenty_open t s z (sym is ∙ e) in
        let f_is : f ≡ k = former ∙ rw (o.0, o.1) refl in
        ((none o.0).0 o.2, λ x. omega (arith, x, f_is, low), λ x. omega (arith, x, f_is, low)),
    λ e.
        let o = neither t s (λ x. e.1 (former ∙ x)) (λ x. e.2 (former ∙ x)) in
        is ∙ rw (o.0, o.1, (none o.0).1 e.0) refl,
  )
