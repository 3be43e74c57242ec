-- Stops more and stops less of a pair, in words.
--   laid_count                                     a count stored
--   raise_asks                                     what raise asks, where lookup has found the place
--   length_raised, raised_drop, raised_pairs       raise: the words past the list stay, and the list has so many stops more of that pair
--   length_lowered, lowered_drop, lowered_pairs    lower: the same with less
-- Assumes nothing.
use mathlib.Core.Path.{◌≡◌, sym, ap, ◌∙◌}
use mathlib.Core.Bool.{true, false}
use mathlib.Core.Logic.{◌≢◌}
use mathlib.Core.List.{List}
use Prim.Native.Nat.{ℕ, ◌+◌, ◌*◌, ◌-◌, ◌≤◌, ◌<◌}
use native.Mathlib.Omega.{arith}
use lib.Dec.{leb, eqb}
use lib.ListN.{length, get_or, set, drop, length-set}
use lib.Seq.{get_or-set_same, get_or-set_other, drop-set-lt, ext_get_or}
use borrow.Author.Tests.{eqb-true, eqb-false}
use Rattle.theory.specs.Lists.{Pair, pair}
use Rattle.theory.specs.Words.{laid_pairs}
use Rattle.theory.proofs.Words.{length_laid, laid_at}
use Rattle.theory.proofs.Tests.{by_test}
use Rattle.pairs.specs.Held.{is_held, weight_of, place_of, heavier, lighter, raise_pair, lower_pair}
use Rattle.pairs.specs.Located.{RisingWords, Place, located}
use Rattle.pairs.specs.Counts.{count_at, set_count, Raisable, raised, pairs_raised, lowered, pairs_lowered}
use Rattle.pairs.proofs.Words.{place_within, place_held, length_insert, insert_drop, laid_inserted, length_delete, delete_drop, laid_deleted}
use Rattle.pairs.proofs.Places.{lower_cut, lower_set, raise_set, raise_new, weight_at}

-- a count stored at a place
pub laid_count : (m : ℕ) (ws : List ℕ) (i v : ℕ) → m ≤ 4096 → 12288 ≤ length ws → i < m →
    laid_pairs m (set_count i v ws) ≡ set (laid_pairs m ws) i (record { a = get_or ws (2 * i) 0; b = get_or ws (2 * i + 1) 0; w = v })
unfolding set_count
laid_count m ws i v few long h =
    let q : Pair = record { a = get_or ws (2 * i) 0; b = get_or ws (2 * i + 1) 0; w = v } in
    ext_get_or (pair 0 0) (laid_pairs m (set ws (8192 + i) v)) (set (laid_pairs m ws) i q)
    (length_laid m (set ws (8192 + i) v) ∙ sym (length-set (laid_pairs m ws) i q ∙ length_laid m ws))
    (λ j k.
    let k' : j < m = omega (arith, length_laid m (set ws (8192 + i) v)) in
    laid_at m (set ws (8192 + i) v) j (pair 0 0) k'
    ∙ rw (get_or-set_other ws (8192 + i) (2 * j) v 0 (omega arith), get_or-set_other ws (8192 + i) (2 * j + 1) v 0 (omega arith))
    (by_test (eqb j i)
    (λ t.
    let e : j ≡ i = eqb-true j i t in
    rw (e, get_or-set_same ws (8192 + i) v 0 (omega arith), get_or-set_same (laid_pairs m ws) i q (pair 0 0) (omega (arith, length_laid m ws))))
    (λ t.
    let e : j ≢ i = eqb-false j i t in
    rw (get_or-set_other ws (8192 + i) (8192 + j) v 0 (omega arith), get_or-set_other (laid_pairs m ws) i j q (pair 0 0) e)
    (sym (laid_at m ws j (pair 0 0) k')))))

-- ---- stops more

-- where lookup has found the place: a held pair's raised count has to fit a word, and a new pair needs room
pub raise_asks : (m : ℕ) (place : Place) (p : Pair) (ws : List ℕ) → RisingWords m ws → place ≡ located p (laid_pairs m ws) →
    (place.held ≡ true → weight_of p (laid_pairs m ws) + p.w < 4294967296) → (place.held ≡ false → m < 4096) → Raisable m place p.w ws
unfolding located count_at
raise_asks m place p ws r found fit room =
    let ps = laid_pairs m ws in
    let at : place.at ≡ place_of p ps = ap (λ (x : Place). x.at) found in
    let held : place.held ≡ true → is_held p ps ≡ true = λ t. sym (ap (λ (x : Place). x.held) found) ∙ t in
    record {
      few = r.few;
      long = r.long;
      within = omega (arith, at, place_within m p ws);
      held = λ t.
          let there = place_held m p ws (held t) in
          let q = ap (λ (x : Pair). x.w) (laid_at m ws (place_of p ps) (pair 0 0) there) in
          (omega (arith, at, there), rw at (omega (arith, fit t, weight_at p ps (pair 0 0) r.rises (held t), q)));
      new = room;
    }

module _ (m : ℕ) (place : Place) (p : Pair) (ws : List ℕ) (h : Raisable m place p.w ws) where
  pub length_raised : length (raised m place p ws) ≡ length ws
  unfolding raised set_count
  length_raised =
      by_test place.held
      (λ t. rw t (length-set ws (8192 + place.at) (count_at place.at ws + p.w)))
      (λ t. rw t (length_insert m place.at p ws h.within (h.new t) h.long))

  -- the words past the list stay
  pub raised_drop : (k : ℕ) → 8192 + m + 1 ≤ k → drop k (raised m place p ws) ≡ drop k ws
  unfolding raised set_count
  raised_drop k l =
      by_test place.held
      (λ t. rw t (drop-set-lt k ws (8192 + place.at) (count_at place.at ws + p.w) (omega (arith, h.within))))
      (λ t. rw t (insert_drop m place.at p ws h.within (h.new t) h.long k l))

  -- where lookup has found the place: the list with p's stops more
  pub raised_pairs : RisingWords m ws → place ≡ located p (laid_pairs m ws) →
      laid_pairs (pairs_raised m place) (raised m place p ws) ≡ raise_pair p (laid_pairs m ws)
  unfolding raised pairs_raised located count_at heavier
  raised_pairs r found =
      let ps = laid_pairs m ws in
      let i = place.at in
      let at : i ≡ place_of p ps = ap (λ (x : Place). x.at) found in
      let is : place.held ≡ is_held p ps = ap (λ (x : Place). x.held) found in
      by_test place.held
      (λ t.
      let there = (h.held t).0 in
      let q = laid_at m ws i (pair 0 0) there in
      rw t (laid_count m ws i (count_at i ws + p.w) h.few h.long there
      ∙ ap (λ (x : Pair). set ps i x) (ap (heavier p.w) (sym q))
      ∙ rw at (sym (raise_set p ps (pair 0 0) r.rises (sym is ∙ t)))))
      (λ t. rw (t, at) (laid_inserted m p ws (h.new t) h.long ∙ sym (raise_new p ps (sym is ∙ t))))

-- ---- stops less

module _ (m at w : ℕ) (ws : List ℕ) (there : at < m) (few : m ≤ 4096) (long : 12288 ≤ length ws) where
  -- as many words are left
  pub length_lowered : length (lowered m at w ws) ≡ length ws
  unfolding lowered set_count
  length_lowered =
      by_test (leb (count_at at ws) w)
      (λ t. rw t (length_delete m at ws there few long))
      (λ t. rw t (length-set ws (8192 + at) (count_at at ws - w)))

  -- the words past the list stay
  pub lowered_drop : (k : ℕ) → 8192 + m ≤ k → drop k (lowered m at w ws) ≡ drop k ws
  unfolding lowered set_count
  lowered_drop k l =
      by_test (leb (count_at at ws) w)
      (λ t. rw t (delete_drop m at ws there few long k l))
      (λ t. rw t (drop-set-lt k ws (8192 + at) (count_at at ws - w) (omega arith)))

-- at the place of a held pair: the list with its stops less
pub lowered_pairs : (m : ℕ) (p : Pair) (ws : List ℕ) → RisingWords m ws → is_held p (laid_pairs m ws) ≡ true →
    let at = place_of p (laid_pairs m ws) in
    laid_pairs (pairs_lowered m at p.w ws) (lowered m at p.w ws) ≡ lower_pair p (laid_pairs m ws)
unfolding lowered pairs_lowered count_at lighter
lowered_pairs m p ws r held =
    let ps = laid_pairs m ws in
    let i = place_of p ps in
    let there : i < m = place_held m p ws held in
    let q = laid_at m ws i (pair 0 0) there in
    let c : (get_or ps i (pair 0 0)).w ≡ get_or ws (8192 + i) 0 = ap (λ (x : Pair). x.w) q in
    by_test (leb (get_or ws (8192 + i) 0) p.w)
    (λ t. rw t (laid_deleted m p ws r held ∙ sym (lower_cut p ps (pair 0 0) r.rises held (rw c t))))
    (λ t. rw t (laid_count m ws i (get_or ws (8192 + i) 0 - p.w) r.few r.long there
    ∙ ap (λ (x : Pair). set ps i x) (ap (lighter p.w) (sym q))
    ∙ sym (lower_set p ps (pair 0 0) r.rises held (rw c t))))
