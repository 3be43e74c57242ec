-- Core numbers and places, entry by entry.
--   numbered_next    of the first i modules of an order
-- Assumes nothing.
use mathlib.Core.Path.{◌≡◌, refl, ◌∙◌}
use mathlib.Core.Bool.{Bool, true, false}
use mathlib.Core.List.{List}
use Prim.Native.Nat.{ℕ, suc, ◌+◌, ◌<◌}
use native.Mathlib.Omega.{arith}
use lib.Dec.{eqb}
use lib.ListN.{length, get_or, set, length-set}
use lib.Seq.{get_or-set_same, get_or-set_other}
use borrow.Author.Tests.{eqb-true, eqb-false}
use Rattle.theory.specs.Basics.{greatest}
use Rattle.slots.specs.Buffers.{entry}
use Rattle.peel.specs.Steps.{Numberable, Numbered}

-- the modules of an order are different, so writing at one leaves the others alone
write_next : (n i : ℕ) (order xs : List ℕ) (f : ℕ → ℕ) (x : ℕ) → i < n → get_or order i 0 < length xs →
    ((j : ℕ) → j < n → get_or order j 0 ≡ get_or order i 0 → j ≡ i) → x ≡ f i →
    ((j : ℕ) → j < i → get_or xs (get_or order j 0) 0 ≡ f j) → (j : ℕ) → j < i + 1 → get_or (set xs (get_or order i 0) x) (get_or order j 0) 0 ≡ f j
write_next n i order xs f x h room apart e all j l = go (eqb j i) refl
  where
    go : (t : Bool) → eqb j i ≡ t → get_or (set xs (get_or order i 0) x) (get_or order j 0) 0 ≡ f j
    go true w = let same : j ≡ i = eqb-true j i w in rw same (get_or-set_same xs (get_or order i 0) x 0 room ∙ e)
    go false w =
        let ne : j ≡ i → ⊥ = eqb-false j i w in
        get_or-set_other xs (get_or order i 0) (get_or order j 0) x 0 (λ y. ne (apart j (omega arith) y)) ∙ all j (omega arith)

module _ (order finals cores place : List ℕ) (b : Numberable order finals cores place) (i : ℕ) (h : i < length order)
    (cores' place' : List ℕ) (d : Numbered i order finals cores place cores' place') where
  pub numbered_next : (v top : ℕ) → v ≡ get_or order i 0 → top ≡ greatest (suc i) (entry finals) →
      Numbered (i + 1) order finals cores place (set cores' v top) (set place' v i)
  numbered_next v top at e =
      let low : get_or order i 0 < length order = b.below i h in
      rw at
      (record {
        cores_long = length-set cores' (get_or order i 0) top ∙ d.cores_long;
        place_long = length-set place' (get_or order i 0) i ∙ d.place_long;
        cores_are =
            write_next (length order) i order cores' (λ j. greatest (suc j) (entry finals)) top h (omega (arith, d.cores_long, b.cores_long))
            (λ j l. b.apart j i l h) e d.cores_are;
        places_are =
            write_next (length order) i order place' (λ j. j) i h (omega (arith, d.place_long, b.place_long)) (λ j l. b.apart j i l h) refl
            d.places_are;
        cores_rest = λ u l. get_or-set_other cores' (get_or order i 0) u top 0 (λ w. omega arith) ∙ d.cores_rest u l;
        places_rest = λ u l. get_or-set_other place' (get_or order i 0) u i 0 (λ w. omega arith) ∙ d.places_rest u l;
      })
