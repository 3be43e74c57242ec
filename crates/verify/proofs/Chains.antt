-- What the chains over bytes, shares and loads compute.
--   bytes_all                 whether all bytes are 0 or 1
--   shares_all, zip_small     whether no share is above its pair's units, which fit 32 bits
--   fold_load                 the greatest of the loads
-- Assumes nothing.
use mathlib.Core.Path.{◌≡◌, refl, ap, ◌∙◌}
use mathlib.Core.List.{List, [], ◌∷◌}
use Prim.Native.Nat.{ℕ, zero, suc, ◌*◌, ◌≤◌, ◌<◌, max}
use native.Mathlib.Omega.{arith}
use lib.Dec.{leb}
use lib.ListN.{length, get_or, take}
use lib.Seq.{length-take-le, get_or-take}
use Rattle.std.specs.List.{list_all, zip, fold}
use Rattle.std.proofs.lemmas.List.{get_or_default}
use Rattle.std.proofs.lemmas.Slice.Zip.{length-zip, get_or-zip}
use Rattle.theory.specs.Basics.{table, greatest}
use Rattle.theory.specs.Lists.{Pair}
use Rattle.theory.specs.Groups.{bytes_good}
use Rattle.theory.specs.Splits.{units, shares_good, load, greatest_load}
use Rattle.theory.specs.Words.{word_pair, pairs_in, list_in, HeldWords}
use Rattle.theory.proofs.Tables.{greatest_ext}
use Rattle.verify.proofs.Bounds.{units_small}

-- each byte in turn
pub bytes_all : (s : List ℕ) → list_all (λ x. leb x 1) s ≡ bytes_good s
unfolding bytes_good
bytes_all [] = refl
bytes_all (x ∷ xs) = rw (bytes_all xs)

-- ---- shares

-- the test of each pair in turn is that of all
shares_table : (q m : ℕ) (f : ℕ → Pair) (ws xs : List ℕ) → m ≤ length ws → length xs ≡ m → ((j : ℕ) → (f j).w ≡ get_or ws j 0) →
    list_all (λ p. leb p.1 (p.0 * q)) (zip (take m ws) xs) ≡ shares_good q (table m f) xs
unfolding shares_good table units
shares_table q zero f ws [] h l e = refl
shares_table q zero f ws (x ∷ xs) h l e = absurd (omega arith)
shares_table q (suc m) f [] xs h l e = absurd (omega arith)
shares_table q (suc m) f (w ∷ ws) [] h l e = absurd (omega arith)
shares_table q (suc m) f (w ∷ ws) (x ∷ xs) h l e =
    rw (e 0, shares_table q m (λ i. f (suc i)) ws xs (omega arith) (omega arith) (λ j. e (suc j)))

module _ (n m : ℕ) (es ws : List ℕ) (held : HeldWords n m es ws) (q : ℕ) (xs : List ℕ) (all : length xs ≡ m) where
  -- a weight beside each share
  abbrev pub beside : List (ℕ × ℕ)
  beside = zip (take m ws) xs

  -- whether each share is at most its pair's units
  pub shares_all : list_all (λ p. leb p.1 (p.0 * q)) beside ≡ shares_good q (list_in n m es ws).pairs xs
  unfolding list_in pairs_in word_pair
  shares_all = shares_table q m (word_pair es ws) ws xs held.weights_long all (λ j. refl)

  -- and those fit 32 bits
  pub zip_small : (k : ℕ) (p : ℕ × ℕ) → q ≤ 512 → k < length beside → p ≡ get_or beside k p → p.0 * q ≤ 512000
  zip_small k p small h e =
      let few = length-take-le m ws held.weights_long in
      let both = length-zip (take m ws) xs in
      let z = ap (λ (x : ℕ × ℕ). x.0) (e ∙ get_or-zip (take m ws) xs k p (omega arith) (omega arith)) in
      let w = get_or-take m ws k p.0 (omega arith) ∙ get_or_default ws k p.0 0 (omega (arith, held.weights_long)) in
      rw (z ∙ w) (units_small n m es ws held q k small (omega arith))

-- ---- loads

-- the greatest of a and all entries
fold_from : (a : ℕ) (xs : List ℕ) → fold max a xs ≡ max a (greatest (length xs) (λ i. get_or xs i 0))
unfolding greatest
fold_from a [] = omega arith
fold_from a (x ∷ xs) = omega (arith, fold_from (max a x) xs)

-- the greatest entry of a buffer that has the loads
pub fold_load : (n m : ℕ) (es ws : List ℕ) (q : ℕ) (xs ls : List ℕ) → n ≤ length ls → ((v : ℕ) → get_or ls v 0 ≡ load (list_in n m es ws) q xs v) →
    fold max 0 (take n ls) ≡ greatest_load (list_in n m es ws) q xs
unfolding greatest_load list_in
fold_load n m es ws q xs ls long are =
    let ys = take n ls in
    let f = λ (i : ℕ). get_or ys i 0 in
    let top : fold max 0 ys ≡ greatest (length ys) f = omega (arith, fold_from 0 ys) in
    top ∙ ap (λ (k : ℕ). greatest k f) (length-take-le n ls long)
    ∙ greatest_ext n f (load (list_in n m es ws) q xs) (λ v h. get_or-take n ls v 0 h ∙ are v)
