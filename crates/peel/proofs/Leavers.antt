-- The leaving order, place by place.
--   leaver_below              who stands at place i is a module
--   leaver_out, leavers_apart    it does not come back: so no module stands at two places
--   leaving_entries           the order as a table
--   place_of_leaver           the place of the leaver at place i is i
--   remainder_by_place        a module is in a remainder exactly if it leaves later
-- Assumes nothing.
use mathlib.Core.Path.{◌≡◌, refl, sym, ap, ◌∙◌}
use mathlib.Core.Bool.{Bool, true, false}
use mathlib.Core.List.{List, [], ◌∷◌}
use Prim.Native.Nat.{ℕ, zero, suc, ◌<◌}
use native.Mathlib.Omega.{arith}
use lib.Dec.{leb}
use lib.ListN.{length, get_or, set}
use lib.Seq.{ext_get_or}
use borrow.Author.Tests.{leb-true, leb-false, eq-eqb, ne_eqb}
use Rattle.theory.specs.Basics.{table}
use Rattle.theory.specs.Lists.{Pairs}
use Rattle.theory.specs.Groups.{is_in}
use Rattle.theory.specs.Leaving.{leaving, left_behind, remainder}
use Rattle.theory.specs.Promise.{LeaverFewest, LeavingSteps, LeavingEveryone}
use Rattle.theory.proofs.Tests.{no, fails}
use Rattle.theory.proofs.Tables.{length_table, table_at}
use Rattle.theory.proofs.Groups.{leaver_gone, none_comes}
use Rattle.theory.proofs.Leaving.{leaver_fewest, leaving_steps, leaving_everyone}
use Rattle.theory.proofs.Remainders.{leaver_at, leaver_in, remainder_sub}
use Rattle.peel.specs.Places.{index_of}
use Rattle.slots.specs.Buffers.{entry}

module _ (g : Pairs) where
  pub leaver_below : (i : ℕ) → i < g.n → get_or (leaving g) i 0 < g.n
  unfolding LeaverFewest
  leaver_below i l = (leaver_fewest g (remainder g i) (get_or (leaving g) i 0) (leaver_at g i l)).0

  -- who has left does not come back
  pub leaver_out : (i j : ℕ) → j < i → is_in (remainder g i) (get_or (leaving g) j 0) ≡ false
  unfolding remainder left_behind
  leaver_out zero j l = absurd (omega arith)
  leaver_out (suc i) j l = go (leb i j) refl (leaver_out i j)
    where
      go : (t : Bool) → leb i j ≡ t → (j < i → is_in (remainder g i) (get_or (leaving g) j 0) ≡ false) →
          is_in (set (remainder g i) (get_or (leaving g) i 0) 0) (get_or (leaving g) j 0) ≡ false
      go true e ih =
          let same : j ≡ i = omega (arith, leb-true i j e) in
          rw same (leaver_gone (remainder g i) (get_or (leaving g) i 0))
      go false e ih =
          fails (is_in (set (remainder g i) (get_or (leaving g) i 0) 0) (get_or (leaving g) j 0))
          (λ y. no (sym (ih (leb-false i j e)) ∙ none_comes (remainder g i) (get_or (leaving g) i 0) (get_or (leaving g) j 0) y))

  -- so no module stands at two places
  later_apart : (i j : ℕ) → j < i → i < g.n → get_or (leaving g) j 0 ≡ get_or (leaving g) i 0 → ⊥
  later_apart i j l h e =
      let out : is_in (remainder g i) (get_or (leaving g) i 0) ≡ false = rw e at (leaver_out i j l) in
      no (sym out ∙ leaver_in g i h)

  pub leavers_apart : (i j : ℕ) → i < g.n → j < g.n → get_or (leaving g) i 0 ≡ get_or (leaving g) j 0 → i ≡ j
  leavers_apart i j h k e = go (leb i j) (leb j i) refl refl
    where
      go : (s t : Bool) → leb i j ≡ s → leb j i ≡ t → i ≡ j
      go true true x y = omega (arith, leb-true i j x, leb-true j i y)
      go true false x y = absurd (later_apart j i (leb-false j i y) k e)
      go false t x y = absurd (later_apart i j (leb-false i j x) h (sym e))

  pub leaving_entries : table g.n (entry (leaving g)) ≡ leaving g
  unfolding entry LeavingSteps
  leaving_entries =
      ext_get_or 0 (table g.n (entry (leaving g))) (leaving g) (length_table g.n (entry (leaving g)) ∙ sym (leaving_steps g).0)
      (λ i l. table_at g.n (entry (leaving g)) i 0 (omega (arith, length_table g.n (entry (leaving g)))))

-- the place of an entry that stands nowhere before
place_first : (xs : List ℕ) (i : ℕ) → i < length xs → ((j : ℕ) → j < i → get_or xs j 0 ≡ get_or xs i 0 → ⊥) → index_of xs (get_or xs i 0) ≡ i
unfolding index_of
place_first [] i h apart = absurd (omega arith)
place_first (x ∷ xs) zero h apart = rw (eq-eqb x x refl)
place_first (x ∷ xs) (suc i) h apart =
    rw (ne_eqb x (get_or xs i 0) (apart 0 (omega arith)))
    (ap suc (place_first xs i (omega arith) (λ j l. apart (suc j) (omega arith))))

pub place_of_leaver : (g : Pairs) (i : ℕ) → i < g.n → index_of (leaving g) (get_or (leaving g) i 0) ≡ i
unfolding LeavingSteps
place_of_leaver g i l = place_first (leaving g) i (omega (arith, (leaving_steps g).0)) (λ j k. later_apart g i j k l)

-- a module is in a remainder exactly if it leaves later
pub remainder_by_place : (g : Pairs) (i v : ℕ) → v < g.n → is_in (remainder g i) v ≡ leb i (index_of (leaving g) v)
unfolding LeavingEveryone
remainder_by_place g i v h =
    let e = leaving_everyone g v h in
    let at : index_of (leaving g) v ≡ e.0 = rw e.2 at (place_of_leaver g e.0 e.1) in
    rw at (go e (leb i e.0) refl)
  where
    go : (e : (j : ℕ) × (j < g.n) × (get_or (leaving g) j 0 ≡ v) × (is_in (remainder g j) v ≡ true)) → (t : Bool) → leb i e.0 ≡ t →
        is_in (remainder g i) v ≡ leb i e.0
    go e true w = remainder_sub g i e.0 (leb-true i e.0 w) v e.3 ∙ sym w
    go e false w = (rw e.2 at (leaver_out g i e.0 (leb-false i e.0 w))) ∙ sym w
