-- How marks follow the words, and how the word above follows them. Callers use marked_low.
--   bit_some                 a number that has a bit is not 0
--   blank, none_marked, none_whole    words of 0 mark nothing
--   marked_set, whole_set    a word is written: its bit says of number b what is marked, others stay, and the word above follows
--   with_bit, without_bit    a bit is set, or cleared where a test holds
--   inserted, removed        what the two functions leave
--   top_marked, marked_low   the word above has a bit for every number that is marked, and that is below 4,096
--   first_word, first_mark   the word's number, by the lowest bit above, and the least number that is marked
-- Assumes nothing.
use Rattle.std.proofs.Common.{◌≡◌, refl, sym, ap, ◌∙◌, inl, inr, Bool, true, false, arith}
use Rattle.std.proofs.Common.{ℕ, ◌+◌, ◌*◌, ◌-◌, ◌/◌, ◌%◌, ◌^◌, ◌<◌, ◌≤◌, List, length, replicate, get_or, set, bit_and, bit_or, w64}
use mathlib.Core.Bool.{cond, not, ◌&&◌, ◌||◌, and-true, and-false, or-true, or-false}
use lib.Dec.{eqb, ltb}
use lib.ListN.{length-set}
use lib.Seq.{get_or-set_same, get_or-set_other}
use mir.Val.{bool_byte}
use borrow.Author.Tests.{eqb-true, ltb-true, eq-eqb, lt-ltb}
use Rattle.std.specs.Int.{bit_at, trailing_zeros}
use Rattle.std.proofs.lemmas.Bool.{cases_eq, cases_lt, ne_eqb, false_from_ne_true}
use Rattle.std.proofs.lemmas.List.{get_or_past, get_or-replicate}
use Rattle.std.proofs.lemmas.Nat.{and_le_l}
use Rattle.std.proofs.lemmas.Nat.Bits.{bit_at-zero, bit_at-lt, bit_at_and, bit_at_ones, bit_at-trailing_zeros}
use Rattle.std.proofs.lemmas.Nat.Bits.{bit_at_set_same, bit_at_set_other, bit_at_clear_same, bit_at_clear_other}
use Rattle.theory.proofs.Tests.{no}
use Rattle.marks.specs.Marks.{marked, SomeMarked, First, Whole}

pub bit_some : (w i : ℕ) → bit_at w i ≡ 1 → 0 < w
bit_some w i e =
    elim (cases_eq w 0) [
      | inl none ↦ absurd (omega (arith, bit_at-zero i, rw none at e))
      | inr some ↦ omega arith
    ]

-- ---- none is marked

abbrev pub blank : List ℕ
blank = replicate 64 0

blank_word : (t : ℕ) → get_or blank t 0 ≡ 0
blank_word t =
    elim (cases_lt t 64) [
      | inl in_words ↦ get_or-replicate {A = ℕ} 64 t 0 0 in_words
      | inr past ↦ get_or_past blank t 0 past
    ]

pub none_marked : (b : ℕ) → marked blank b ≡ false
unfolding marked
none_marked b = rw (blank_word (b / 64), bit_at-zero (b % 64)) refl

pub none_whole : Whole blank 0
none_whole = record { long = refl; tops = λ t h. rw (blank_word t, bit_at-zero t) refl }

-- ---- a word is written

-- word b / 64 becomes x
module _ (words : List ℕ) (b x : ℕ) (low : b < 4096) (long : length words ≡ 64) where
  -- v is what x says of number b; its other bits are those that were there
  pub marked_set : (v : Bool) → eqb (bit_at x (b % 64)) 1 ≡ v →
      ((i : ℕ) → i < 64 → (i ≡ b % 64 → ⊥) → bit_at x i ≡ bit_at (get_or words (b / 64) 0) i) → (c : ℕ) →
      marked (set words (b / 64) x) c ≡ cond (eqb c b) v (marked words c)
  unfolding marked
  marked_set v here kept c =
      elim (cases_eq c b) [
        | inl same ↦ rw (eq-eqb c b same, same, get_or-set_same words (b / 64) x 0 (omega arith)) here
        | inr apart ↦
            rw (ne_eqb c b apart)
            (elim (cases_eq (c / 64) (b / 64)) [
              | inl word ↦ rw (word, get_or-set_same words (b / 64) x 0 (omega arith), kept (c % 64) (omega arith) (λ e. apart (omega arith))) refl
              | inr other ↦ rw (get_or-set_other words (b / 64) (c / 64) x 0 other) refl
            ])
      ]

  -- y is the word above, renewed
  pub whole_set : (top y : ℕ) → Whole words top → eqb (bit_at y (b / 64)) 1 ≡ ltb 0 x →
      ((t : ℕ) → t < 64 → (t ≡ b / 64 → ⊥) → bit_at y t ≡ bit_at top t) → Whole (set words (b / 64) x) y
  whole_set top y whole here kept = record {
    long = length-set words (b / 64) x ∙ long;
    tops = λ t h.
        elim (cases_eq t (b / 64)) [
          | inl same ↦ rw (same, get_or-set_same words (b / 64) x 0 (omega arith)) here
          | inr other ↦ rw (kept t h other, get_or-set_other words (b / 64) t x 0 other) (whole.tops t h)
        ];
  }

-- ---- a bit is set or cleared, as the functions do it

abbrev pub with_bit : (n k : ℕ) → ℕ
with_bit n k = bit_or n (1 * 2 ^ k % 18446744073709551616)

-- where t holds, by a step of 0 or 1
abbrev pub without_bit : (t : Bool) (n k : ℕ) → ℕ
without_bit t n k = bit_and n (18446744073709551615 - bool_byte t * 2 ^ k % 18446744073709551616)

module _ (n k : ℕ) (low : k < 64) where
  without_other : (t : Bool) (i : ℕ) → i < 64 → (t ≡ true → i ≡ k → ⊥) → bit_at (without_bit t n k) i ≡ bit_at n i
  without_other true i h apart = bit_at_clear_other w64 n k low i h (apart refl)
  without_other false i h apart =
      let all : 18446744073709551615 - bool_byte false * 2 ^ k % 18446744073709551616 ≡ 18446744073709551615 = omega arith in
      rw (all, bit_at_and n 18446744073709551615 i) (omega (arith, bit_at_ones 64 i h, bit_at-lt n i))

  -- x is what is left of word w, whose bit above is k
  without_same : (w x : ℕ) → x ≤ w → eqb (bit_at n k) 1 ≡ ltb 0 w → eqb (bit_at (without_bit (eqb x 0) n k) k) 1 ≡ ltb 0 x
  without_same w x less was =
      elim (cases_eq x 0) [
        | inl none ↦ rw none (ap (λ (y : ℕ). eqb y 1) (bit_at_clear_same w64 n k low))
        | inr some ↦
            rw (ne_eqb x 0 some, without_other false k low (λ e. no e))
            (was ∙ lt-ltb 0 w (omega arith) ∙ sym (lt-ltb 0 x (omega arith)))
      ]

-- ---- insert and remove

or_choice : (m t : Bool) → cond t true m ≡ (m || t)
or_choice m true = sym (or-true m)
or_choice m false = sym (or-false m)

and_choice : (m t : Bool) → cond t false m ≡ (m && not t)
and_choice m true = sym (and-false m)
and_choice m false = sym (and-true m)

module _ (words : List ℕ) (top b : ℕ) (whole : Whole words top) (low : b < 4096) where
  pub inserted :
      let new = set words (b / 64) (with_bit (get_or words (b / 64) 0) (b % 64)) in
      Whole new (with_bit top (b / 64)) × ((c : ℕ) → marked new c ≡ (marked words c || eqb c b))
  inserted =
      let w = get_or words (b / 64) 0 in
      let k : b / 64 < 64 = omega arith in
      let l : b % 64 < 64 = omega arith in
      let bit : bit_at (with_bit w (b % 64)) (b % 64) ≡ 1 = bit_at_set_same w64 w (b % 64) l in (
        whole_set words b _ low whole.long top _ whole
            (eq-eqb _ 1 (bit_at_set_same w64 top (b / 64) k) ∙ sym (lt-ltb 0 _ (bit_some _ (b % 64) bit)))
            (λ t h. bit_at_set_other w64 top (b / 64) k t),
        λ c.
            marked_set words b _ low whole.long true (eq-eqb _ 1 bit) (λ i h. bit_at_set_other w64 w (b % 64) l i) c
            ∙ or_choice (marked words c) (eqb c b),
      )

  pub removed :
      let left = without_bit true (get_or words (b / 64) 0) (b % 64) in
      let new = set words (b / 64) left in
      Whole new (without_bit (eqb left 0) top (b / 64)) × ((c : ℕ) → marked new c ≡ (marked words c && not (eqb c b)))
  removed =
      let w = get_or words (b / 64) 0 in
      let k : b / 64 < 64 = omega arith in
      let l : b % 64 < 64 = omega arith in (
        whole_set words b _ low whole.long top _ whole
            (without_same top (b / 64) k w _ (and_le_l w _) (whole.tops (b / 64) k))
            (λ t h ne. without_other top (b / 64) k _ t h (λ e. ne)),
        λ c.
            marked_set words b _ low whole.long false (ap (λ (y : ℕ). eqb y 1) (bit_at_clear_same w64 w (b % 64) l))
            (bit_at_clear_other w64 w (b % 64) l) c
            ∙ and_choice (marked words c) (eqb c b),
      )

-- ---- the least number

module _ (words : List ℕ) (top : ℕ) (whole : Whole words top) where
  -- the word of a number that is marked has its bit above
  pub top_marked : (b : ℕ) → marked words b ≡ true → (b / 64 < 64) × (bit_at top (b / 64) ≡ 1)
  unfolding marked
  top_marked b e =
      let word = bit_some (get_or words (b / 64) 0) (b % 64) (eqb-true _ 1 e) in
      elim (cases_lt (b / 64) 64) [
        | inl in_words ↦ (in_words, eqb-true _ 1 (whole.tops (b / 64) in_words ∙ lt-ltb 0 _ word))
        | inr past ↦ absurd (omega (arith, word, get_or_past words (b / 64) 0 (omega (arith, whole.long))))
      ]

  pub marked_low : (b : ℕ) → marked words b ≡ true → b < 4096
  marked_low b e = omega (arith, (top_marked b e).0)

  module _ (some : SomeMarked words) (fits : top < 2 ^ 64) where
    lowest_top :
        (trailing_zeros w64 top < 64)
        × (bit_at top (trailing_zeros w64 top) ≡ 1)
        × ((t : ℕ) → t < trailing_zeros w64 top → bit_at top t ≡ 0)
    unfolding SomeMarked
    lowest_top = bit_at-trailing_zeros w64 top (bit_some top _ (top_marked some.0 some.1).1) fits

    pub first_word : trailing_zeros w64 top < 64
    first_word = lowest_top.0

    pub first_mark : get_or words (trailing_zeros w64 top) 0 < 2 ^ 64 →
        First words (64 * trailing_zeros w64 top + trailing_zeros w64 (get_or words (trailing_zeros w64 top) 0))
    unfolding marked
    first_mark word_fits =
        let t = trailing_zeros w64 top in
        let word = get_or words t 0 in
        let lowest = bit_at-trailing_zeros w64 word (ltb-true 0 word (sym (whole.tops t lowest_top.0) ∙ eq-eqb _ 1 lowest_top.1)) word_fits in
        let at : (64 * t + trailing_zeros w64 word) / 64 ≡ t = omega (arith, lowest.0) in
        let index : (64 * t + trailing_zeros w64 word) % 64 ≡ trailing_zeros w64 word = omega (arith, lowest.0) in
        record {
          there = rw (at, index) (eq-eqb _ 1 lowest.1);
          below = λ c h.
              false_from_ne_true _
              (λ e.
              elim (cases_lt (c / 64) t) [
                | inl before ↦ omega (arith, lowest_top.2 (c / 64) before, (top_marked c e).1)
                | inr here ↦
                    let same : c / 64 ≡ t = omega (arith, lowest.0) in
                    omega (arith, lowest.2 (c % 64) (omega arith), rw same at (eqb-true _ 1 e))
              ]);
        }
