-- A list's pairs laid into words.
--   ends_count, ends_within, words_count    how many ends there are, and that the words have room for them
--   ends_room                               the counts have room behind the ends
--   lays_pairs, lays_past, lays_none        the words hold the list; past its pairs they are as they were, all of them where it has no pair
-- Assumes nothing.
use Rattle.std.proofs.Common.{◌≡◌, refl, ap, ◌∙◌, ℕ, ◌+◌, ◌*◌, ◌-◌, ◌≤◌, ◌<◌, List, [], ◌++◌, length, take, drop, arith}
use borrow.Rule.Slice.PartMut.{put_mid}
use lib.ListN.{get_or, length-append, length-drop, take-append-drop}
use lib.Seq.{length-take-le, get_or-take, get_or-drop, drop-drop}
use Rattle.theory.specs.Lists.{Pair}
use Rattle.theory.specs.Words.{list_in, HeldWords, counts_of, laid_pairs, laid_list, put_at}
use Rattle.theory.proofs.Lists.{listed}
use Rattle.theory.proofs.Words.{length_pairs_in, pairs_ext, length_put, put_below, put_in, put_past, put_drop}
use Rattle.pairfile.specs.Answers.{SamePast}

module _ (n m : ℕ) (es ws old : List ℕ) (h : HeldWords n m es ws) (long : 12288 ≤ length old) where
  abbrev ends : List ℕ
  ends = take (2 * m) es

  abbrev weights : List ℕ
  weights = take m ws

  abbrev before : List ℕ
  before = put_at 0 ends old

  abbrev after : List ℕ
  after = put_at 8192 weights before

  few : m ≤ 4096
  unfolding list_in
  few = omega (arith, (listed (list_in n m es ws) h.listed).short, length_pairs_in m es ws)

  pub ends_count : length ends ≡ 2 * m
  ends_count = length-take-le (2 * m) es h.ends_long

  weights_count : length weights ≡ m
  weights_count = length-take-le m ws h.weights_long

  -- the words have room for them
  pub ends_within : 2 * m ≤ length old
  ends_within = omega (arith, few, long)

  pub words_count : length (take (2 * m) old) ≡ 2 * m
  words_count = length-take-le (2 * m) old ends_within

  room : 0 + length ends ≤ length old
  room = omega (arith, ends_count, few, long)

  room_behind : 8192 + length weights ≤ length before
  room_behind = omega (arith, weights_count, few, long, length_put 0 ends old room)

  first : ends ++ drop (2 * m) old ≡ before
  unfolding put_at
  first = ap (λ (k : ℕ). ends ++ drop k old) (omega (arith, ends_count))

  laid_as : put_mid 8192 (8192 + m - 8192) (ends ++ drop (2 * m) old) weights ≡ after
  unfolding put_at
  laid_as =
      rw first
      (ap (λ (xs : List ℕ). take 8192 before ++ (weights ++ xs))
      (drop-drop (8192 + m - 8192) 8192 before ∙ ap (λ (k : ℕ). drop k before) (omega (arith, weights_count))))

  end_in : (k : ℕ) → k < 2 * m → get_or before k 0 ≡ get_or es k 0
  end_in k l =
      let at : k ≡ 0 + k = omega arith in
      ap (λ (i : ℕ). get_or before i 0) at ∙ put_in 0 ends old room k (omega (arith, ends_count)) ∙ get_or-take (2 * m) es k 0 l

  laid : laid_list n m after ≡ list_in n m es ws
  unfolding laid_list laid_pairs counts_of list_in
  laid =
      ap (λ (ps : List Pair). record { n = n; pairs = ps })
      (pairs_ext m after (drop 8192 after) es ws
      (λ k l. put_below 8192 weights before room_behind k (omega (arith, few)) ∙ end_in k l)
      (λ j l. get_or-drop 8192 after j 0 ∙ put_in 8192 weights before room_behind j (omega (arith, weights_count)) ∙ get_or-take m ws j 0 l))

  past : SamePast m old after
  past = record {
    between = λ t l h. put_below 8192 weights before room_behind t h ∙ put_past 0 ends old room t (omega (arith, ends_count, l));
    beyond = put_drop 8192 weights before room_behind (8192 + m) (omega (arith, weights_count))
        ∙ put_drop 0 ends old room (8192 + m) (omega (arith, ends_count, few));
  }

  -- the ends xs and the weights ys as they have been copied
  module _ {xs ys : List ℕ} (x : xs ≡ ends) (y : ys ≡ weights) where
    abbrev words : List ℕ
    words = put_mid 8192 (8192 + m - 8192) (xs ++ drop (2 * m) old) ys

    same : words ≡ after
    same = rw (x, y) laid_as

    pub ends_room : 8192 + m ≤ length (xs ++ drop (2 * m) old)
    ends_room = rw x (omega (arith, length-append ends (drop (2 * m) old), length-drop (2 * m) old, ends_count, few, long))

    pub lays_pairs : laid_list n m words ≡ list_in n m es ws
    lays_pairs = rw same laid

    pub lays_past : SamePast m old words
    lays_past = rw same past

    pub lays_none : m ≡ 0 → words ≡ old
    unfolding put_at
    lays_none z =
        let no_ends : ends ≡ [] = rw z refl in
        let no_weights : weights ≡ [] = rw z refl in
        same ∙ rw (no_ends, no_weights) (take-append-drop 8192 old)
