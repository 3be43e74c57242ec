-- Laws of lists that lie in words.
--   length_pairs_in, pairs_in_at, pairs_ext      the pairs of two slices
--   length_laid, laid_at                         the pairs of one buffer
--   holds_few, holds_held, cut_list, cut_held    a buffer that holds a list, and the slices cut out of it
--   length_put, put_below, put_in, put_past, put_drop    a buffer with new entries
-- Assumes nothing.
use mathlib.Core.Path.{◌≡◌, sym, ap, ◌∙◌}
use mathlib.Core.Bool.{true}
use mathlib.Core.List.{List, ◌++◌, append_assoc}
use Prim.Native.Nat.{ℕ, ◌+◌, ◌*◌, ◌-◌, ◌≤◌, ◌<◌}
use native.Mathlib.Omega.{arith}
use lib.ListN.{length, get_or, take, drop, length-drop, length-append, get_or-append}
use lib.Seq.{length-take-le, get_or-take, get_or-drop, get_or-append-add, drop-drop, drop-append-add}
use Rattle.theory.specs.Lists.{Pair, is_list}
use Rattle.theory.specs.Words.{word_pair, pairs_in, list_in, HeldWords, counts_of, laid_pairs, laid_list, HoldsList, put_at}
use Rattle.theory.proofs.Tables.{length_table, table_at, table_ext}
use Rattle.theory.proofs.Lists.{listed}

-- ---- the pairs of two slices

pub length_pairs_in : (m : ℕ) (es ws : List ℕ) → length (pairs_in m es ws) ≡ m
unfolding pairs_in
length_pairs_in m es ws = length_table m (word_pair es ws)

pub pairs_in_at : (m : ℕ) (es ws : List ℕ) (j : ℕ) (d : Pair) → j < m → get_or (pairs_in m es ws) j d ≡ word_pair es ws j
unfolding pairs_in
pairs_in_at m es ws j d h = table_at m (word_pair es ws) j d h

-- the same ends and the same weights make the same pairs
pub pairs_ext : (m : ℕ) (es ws fs vs : List ℕ) → ((k : ℕ) → k < 2 * m → get_or es k 0 ≡ get_or fs k 0) → ((j : ℕ) → j < m → get_or ws j 0 ≡ get_or vs j 0) →
    pairs_in m es ws ≡ pairs_in m fs vs
unfolding pairs_in
pairs_ext m es ws fs vs e w =
    table_ext m (word_pair es ws) (word_pair fs vs)
    (λ j l. unfold word_pair in cc (e (2 * j) (omega arith), e (2 * j + 1) (omega arith), w j l))

-- ---- the pairs of one buffer

pub length_laid : (m : ℕ) (ws : List ℕ) → length (laid_pairs m ws) ≡ m
unfolding laid_pairs
length_laid m ws = length_pairs_in m ws (counts_of ws)

pub laid_at : (m : ℕ) (ws : List ℕ) (j : ℕ) (d : Pair) → j < m →
    get_or (laid_pairs m ws) j d ≡ record { a = get_or ws (2 * j) 0; b = get_or ws (2 * j + 1) 0; w = get_or ws (8192 + j) 0 }
unfolding laid_pairs counts_of word_pair
laid_at m ws j d h =
    pairs_in_at m ws (drop 8192 ws) j d h ∙ ap (λ (x : ℕ). record { a = get_or ws (2 * j) 0; b = get_or ws (2 * j + 1) 0; w = x }) (get_or-drop 8192 ws j 0)

-- ---- a buffer that holds a list

pub holds_few : (n m : ℕ) (ws : List ℕ) → is_list (laid_list n m ws) ≡ true → (n ≤ 512) × (m ≤ 4096)
unfolding laid_list
holds_few n m ws e = let l = listed (laid_list n m ws) e in (l.few, omega (arith, l.short, length_laid m ws))

-- its two parts hold that list, as they lie
pub holds_held : (n m : ℕ) (ws : List ℕ) → HoldsList n m ws → HeldWords n m ws (counts_of ws)
unfolding laid_list list_in laid_pairs counts_of
holds_held n m ws h =
    record {
      listed = h.listed;
      ends_long = omega (arith, h.long, holds_few n m ws h.listed);
      weights_long = omega (arith, h.long, holds_few n m ws h.listed, length-drop 8192 ws);
    }

-- and cut out
module _ (n m : ℕ) (ws : List ℕ) where
  pub cut_list : list_in n m (take (2 * m - 0) ws) (take (8192 + m - 8192) (drop 8192 ws)) ≡ laid_list n m ws
  unfolding list_in laid_list laid_pairs counts_of
  cut_list =
      ap (λ (qs : List Pair). record { n = n; pairs = qs })
      (pairs_ext m (take (2 * m - 0) ws) (take (8192 + m - 8192) (drop 8192 ws)) ws (drop 8192 ws)
      (λ k l. get_or-take (2 * m - 0) ws k 0 (omega arith)) (λ j l. get_or-take (8192 + m - 8192) (drop 8192 ws) j 0 (omega arith)))

  pub cut_held : HoldsList n m ws → HeldWords n m (take (2 * m - 0) ws) (take (8192 + m - 8192) (drop 8192 ws))
  cut_held h =
      let few = (holds_few n m ws h.listed).1 in
      let ends = length-take-le (2 * m - 0) ws (omega (arith, h.long)) in
      let weights = length-take-le (8192 + m - 8192) (drop 8192 ws) (omega (arith, h.long, length-drop 8192 ws)) in
      record { listed = rw cut_list h.listed; ends_long = omega (arith, ends); weights_long = omega (arith, weights) }

-- ---- new entries in a buffer

module _ (i : ℕ) (new old : List ℕ) (room : i + length new ≤ length old) where
  front : length (take i old) ≡ i
  front = length-take-le i old (omega arith)

  pub length_put : length (put_at i new old) ≡ length old
  unfolding put_at
  length_put =
      length-append (take i old) _
      ∙ omega (arith, front, length-append new (drop (i + length new) old), length-drop (i + length new) old)

  pub put_below : (k : ℕ) → k < i → get_or (put_at i new old) k 0 ≡ get_or old k 0
  unfolding put_at
  put_below k l = get_or-append (take i old) _ 0 k (omega (arith, front)) ∙ get_or-take i old k 0 l

  pub put_in : (k : ℕ) → k < length new → get_or (put_at i new old) (i + k) 0 ≡ get_or new k 0
  unfolding put_at
  put_in k l =
      ap (λ (n : ℕ). get_or (take i old ++ (new ++ drop (i + length new) old)) (n + k) 0) (sym front)
      ∙ get_or-append-add (take i old) (new ++ drop (i + length new) old) k 0
      ∙ get_or-append new (drop (i + length new) old) 0 k l

  -- from where the new ones end the buffer is as it was
  pub put_drop : (k : ℕ) → i + length new ≤ k → drop k (put_at i new old) ≡ drop k old
  unfolding put_at
  put_drop k l =
      let d : ℕ = k - (i + length new) in
      let at : k ≡ length (take i old ++ new) + d = omega (arith, front, length-append (take i old) new) in
      let back : i + length new + d ≡ k = omega arith in
      ap (λ (xs : List ℕ). drop k xs) (sym (append_assoc (take i old) new (drop (i + length new) old)))
      ∙ ap (λ (n : ℕ). drop n ((take i old ++ new) ++ drop (i + length new) old)) at
      ∙ drop-append-add (take i old ++ new) (drop (i + length new) old) d
      ∙ drop-drop d (i + length new) old
      ∙ ap (λ (n : ℕ). drop n old) back

  pub put_past : (k : ℕ) → i + length new ≤ k → get_or (put_at i new old) k 0 ≡ get_or old k 0
  put_past k l =
      let same : k + 0 ≡ k = omega arith in
      ap (λ (n : ℕ). get_or (put_at i new old) n 0) (sym same) ∙ sym (get_or-drop k (put_at i new old) 0 0)
      ∙ ap (λ (xs : List ℕ). get_or xs 0 0) (put_drop k l) ∙ get_or-drop k old 0 0 ∙ ap (λ (n : ℕ). get_or old n 0) same
