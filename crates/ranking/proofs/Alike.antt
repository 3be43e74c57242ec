-- Two walks agree on modules that two rankings have alike.
--   rising_same    lists that rise by the same numbers and have the same elements are one list
--   Same           two rankings have a module alike
--   same_walk      where two rankings have the modules of a kind alike, their walks have these in the same order
-- Assumes nothing.
use mathlib.Core.Path.{◌≡◌, refl, sym, ap, ◌∙◌}
use mathlib.Core.Bool.{Bool, true}
use mathlib.Core.List.{List, [], ◌∷◌}
use mathlib.Core.Logic.{◌⊎◌, inl, inr, ⊎_elim}
use Prim.Native.Nat.{ℕ, zero, suc, ◌<◌}
use native.Mathlib.Omega.{arith}
use lib.ListN.{length, get_or}
use Rattle.std.specs.Prelude.{AllPairs, Contains, filter}
use Rattle.std.proofs.lemmas.Bool.{cond_both}
use Rattle.std.proofs.lemmas.List.{get_or_default}
use Rattle.std.proofs.lemmas.List.Elements.{All-contains, All-filter, All-contains_itself, All-from_get_or, filter_passes}
use Rattle.std.proofs.lemmas.List.Kept.{AllPairs-filter}
use Rattle.theory.proofs.Tests.{no}
use Rattle.ranking.specs.Ranking.{key, has, carries, WalksInOrder}

-- ---- elements

held_first : (x : ℕ) (xs : List ℕ) → Contains (x ∷ xs) x
held_first x xs = (0, omega arith, refl)

held_later : (x : ℕ) (xs : List ℕ) (u : ℕ) → Contains xs u → Contains (x ∷ xs) u
held_later x xs u c = (suc c.0, omega (arith, c.1), c.2)

held_at : (x : ℕ) (xs : List ℕ) (u k : ℕ) → k < length (x ∷ xs) → get_or (x ∷ xs) k u ≡ u → (x ≡ u) ⊎ Contains xs u
held_at x xs u zero l e = inl e
held_at x xs u (suc k) l e = inr (k, omega arith, e)

held : (x : ℕ) (xs : List ℕ) (u : ℕ) → Contains (x ∷ xs) u → (x ≡ u) ⊎ Contains xs u
held x xs u c = held_at x xs u c.0 c.1 c.2

-- what a filter keeps
module _ (p : ℕ → Bool) where
  kept_from : (xs : List ℕ) (u : ℕ) → Contains (filter p xs) u → (p u ≡ true) × Contains xs u
  kept_from xs u c = (
    All-contains (λ x. p x ≡ true) (filter p xs) u (filter_passes p xs) c,
    All-contains (Contains xs) (filter p xs) u (All-filter p (Contains xs) xs (All-contains_itself xs)) c,
  )

  kept_in : (xs : List ℕ) (u : ℕ) → p u ≡ true → Contains xs u → Contains (filter p xs) u
  kept_in [] u e c = c
  kept_in (x ∷ xs) u e c =
      cond_both (p x) (x ∷ filter p xs) (filter p xs) (λ zs. Contains zs u)
      (λ t. ⊎_elim (λ same. rw same (held_first u (filter p xs))) (λ d. held_later x (filter p xs) u (kept_in xs u e d)) (held x xs u c))
      (λ t. ⊎_elim (λ same. no (sym t ∙ ap p same ∙ e)) (λ d. kept_in xs u e d) (held x xs u c))

-- ---- lists that rise

module _ (f : ℕ → ℕ) where
  abbrev Rises : List ℕ → Type 0
  Rises = AllPairs (λ u v. f u < f v)

  above : (x : ℕ) (xs : List ℕ) (u : ℕ) → Rises (x ∷ xs) → Contains xs u → f x < f u
  above x xs u r c = let up : f x < f (get_or xs c.0 u) = r 0 (suc c.0) u (omega arith) (omega (arith, c.1)) in rw c.2 at up

  rest : (x : ℕ) (xs : List ℕ) → Rises (x ∷ xs) → Rises xs
  rest x xs r i j d l h = r (suc i) (suc j) d (omega arith) (omega arith)

  -- the first of each list is an element of the other, so neither is above the other
  same_first : (x y : ℕ) (xs ys : List ℕ) → Rises (x ∷ xs) → Rises (y ∷ ys) → Contains (y ∷ ys) x → Contains (x ∷ xs) y → x ≡ y
  same_first x y xs ys r s c d =
      ⊎_elim (λ e. sym e)
      (λ later. ⊎_elim (λ e. e) (λ also. absurd (omega (arith, above y ys x s later, above x xs y r also))) (held x xs y d))
      (held y ys x c)

  later_too : (x y : ℕ) (xs ys : List ℕ) → x ≡ y → Rises (x ∷ xs) → ((u : ℕ) → Contains (x ∷ xs) u → Contains (y ∷ ys) u) → (u : ℕ) →
      Contains xs u → Contains ys u
  later_too x y xs ys same r to u c =
      ⊎_elim (λ e. absurd (omega (arith, above x xs u r c, ap f (same ∙ e)))) (λ d. d) (held y ys u (to u (held_later x xs u c)))

  pub rising_same : (xs ys : List ℕ) → Rises xs → Rises ys → ((u : ℕ) → Contains xs u → Contains ys u) → ((u : ℕ) → Contains ys u → Contains xs u) →
      xs ≡ ys
  rising_same [] [] r s to back = refl
  rising_same [] (y ∷ ys) r s to back = let c = back y (held_first y ys) in absurd (omega (arith, c.1))
  rising_same (x ∷ xs) [] r s to back = let c = to x (held_first x xs) in absurd (omega (arith, c.1))
  rising_same (x ∷ xs) (y ∷ ys) r s to back =
      let same = same_first x y xs ys r s (to x (held_first x xs)) (back y (held_first y ys)) in
      let after : xs ≡ ys =
      rising_same xs ys (rest x xs r) (rest y ys s) (later_too x y xs ys same r to) (later_too y x ys xs (sym same) s back) in
      cc

-- ---- walks

-- what a walk rises by
rank : (keys : List ℕ) (u : ℕ) → ℕ
rank keys u = key (carries keys u) u

-- two rankings have a module alike: it is present in both and carries as much, or in neither
pub record Same (keys keys' : List ℕ) (u : ℕ) : Type 0 where
  pub present : has keys' u ≡ has keys u
  pub carried : has keys u ≡ true → carries keys' u ≡ carries keys u

same_back : {keys keys' : List ℕ} {u : ℕ} → Same keys keys' u → Same keys' keys u
same_back a = record { present = sym a.present; carried = λ h. sym (a.carried (sym a.present ∙ h)) }

walk_rises : {keys xs : List ℕ} → WalksInOrder keys xs → Rises (rank keys) xs
unfolding rank
walk_rises {xs} a i j d l h = rw (get_or_default xs i d 0 (omega arith), get_or_default xs j d 0 h) (a.rises i j l h)

walk_there : {keys xs : List ℕ} → WalksInOrder keys xs → (u : ℕ) → Contains xs u → has keys u ≡ true
walk_there {keys} {xs} a u c = All-contains (λ v. has keys v ≡ true) xs u (All-from_get_or (λ v. has keys v ≡ true) xs 0 a.each) c

walk_all : {keys xs : List ℕ} → WalksInOrder keys xs → (u : ℕ) → has keys u ≡ true → Contains xs u
walk_all {xs} a u h = let w = a.all u h in (w.0, w.1.0, get_or_default xs w.0 u 0 w.1.0 ∙ w.1.1)

-- what passes in one walk is in the other
kept_too : {keys keys' xs ys : List ℕ} (p : ℕ → Bool) → ((u : ℕ) → p u ≡ true → Same keys keys' u) → WalksInOrder keys xs →
    WalksInOrder keys' ys → (u : ℕ) → Contains (filter p xs) u → Contains (filter p ys) u
kept_too {xs} {ys} p alike a b u c =
    let k = kept_from p xs u c in
    kept_in p ys u k.0 (walk_all b u ((alike u k.0).present ∙ walk_there a u k.1))

pub same_walk : {keys keys' xs ys : List ℕ} (p : ℕ → Bool) → ((u : ℕ) → p u ≡ true → Same keys keys' u) → WalksInOrder keys xs →
    WalksInOrder keys' ys → filter p xs ≡ filter p ys
unfolding rank
same_walk {keys} {keys'} {xs} {ys} p alike a b =
    rising_same (rank keys') (filter p xs) (filter p ys)
    (λ i j d l h. omega (arith, rises i j d l h, level i d (omega arith), level j d h))
    (AllPairs-filter (λ u v. rank keys' u < rank keys' v) p ys (walk_rises b))
    (kept_too p alike a b)
    (kept_too p (λ u e. same_back (alike u e)) b a)
  where
    rises : Rises (rank keys) (filter p xs)
    rises = AllPairs-filter (λ u v. rank keys u < rank keys v) p xs (walk_rises a)

    -- what passes has one rank in both
    level : (i d : ℕ) → i < length (filter p xs) → rank keys (get_or (filter p xs) i d) ≡ rank keys' (get_or (filter p xs) i d)
    level i d l =
        let v = get_or (filter p xs) i d in
        let there : has keys v ≡ true = walk_there a v (kept_from p xs v (i, l, get_or_default (filter p xs) i v d l)).1 in
        ap (λ (k : ℕ). key k v) (sym ((alike v (filter_passes p xs i d l)).carried there))
