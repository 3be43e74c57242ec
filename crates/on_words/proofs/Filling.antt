-- The front of a buffer written anew, and the work buffer after a call.
--   zeros_front                         zeros in front
--   front_more, front_all               entries put in front one by one
--   put_front                           a text put at the start of a buffer stands in front
--   zeros_length                        16,384 zeros
--   work_zeros, left_open, left_turned    what `work_left` says of a number that is neither 12 nor 13, of 0, and of 20
--   left_group                          and of a list's own, 20 or 0
--   cleared_past                        buffers that are the same past some of the 16,384 words are cleared to the same
-- Assumes nothing.
use mathlib.Core.Path.{◌≡◌, refl, sym, ap, ◌∙◌}
use mathlib.Core.List.{List, [], ◌∷◌, ◌++◌}
use Prim.Native.Nat.{ℕ, zero, suc, ◌+◌, ◌-◌, ◌≤◌, ◌<◌}
use native.Mathlib.Omega.{arith}
use native.Mathlib.Nat.{zero-add}
use native.Mathlib.Numerals.{add-one}
use lib.ListN.{length, get_or, set, take, drop, replicate, length-replicate}
use lib.Seq.{drop-drop, length-take-le, take-length}
use lib.Dec.{eqb}
use borrow.Author.Tests.{eqb-true, eqb-false, ne_eqb}
use Rattle.theory.specs.Pairless.{group_number}
use Rattle.theory.proofs.Pairless.{zero_or_twenty}
use Rattle.theory.proofs.Tests.{by_test}
use Rattle.lines.specs.Putting.{put}
use Rattle.on_words.specs.Buffers.{in_front, work_words, cleared, work_left}

-- zeros in front
pub zeros_front : (k : ℕ) (w new : List ℕ) → k ≤ length w → new ≡ replicate (length (take k w)) 0 → new ++ drop k w ≡ in_front (replicate k 0) w
unfolding in_front
zeros_front k w new room e = rw (e, length-take-le k w room, length-replicate {A = ℕ} k 0)

-- entries in front, one more of them
front_next : (xs old : List ℕ) (i : ℕ) → i < length xs → length xs ≤ length old →
    set (take i xs ++ drop i old) i (get_or xs i 0) ≡ take (suc i) xs ++ drop (suc i) old
front_next [] old i l r = absurd (omega (arith, l))
front_next (x ∷ xs) [] i l r = absurd (omega (arith, r))
front_next (x ∷ xs) (y ∷ ys) zero l r = refl
front_next (x ∷ xs) (y ∷ ys) (suc i) l r = ap (λ (zs : List ℕ). x ∷ zs) (front_next xs ys i (omega (arith, l)) (omega (arith, r)))

pub front_more : (xs old : List ℕ) (i : ℕ) → i < length xs → length xs ≤ length old →
    set (take i xs ++ drop i old) i (get_or xs i 0) ≡ take (i + 1) xs ++ drop (i + 1) old
front_more xs old i l r = rw (add-one i) (front_next xs old i l r)

-- all of them
pub front_all : (xs old : List ℕ) (i : ℕ) → i ≡ length xs → take i xs ++ drop i old ≡ in_front xs old
unfolding in_front
front_all xs old i e = rw (e, take-length xs)

-- a text put at the start of a buffer stands in front
pub put_front : (bytes out : List ℕ) → put out 0 bytes ≡ in_front bytes out
unfolding put in_front
put_front bytes out = rw zero-add

-- ---- the work buffer after a call

zeros_length : length (replicate {A = ℕ} work_words 0) ≡ 16384
unfolding work_words
zeros_length = length-replicate {A = ℕ} 16384 0

-- a number that is neither 12 nor 13 leaves zeros
pub work_zeros : (k : ℕ) (w : List ℕ) → (k ≡ 12 → ⊥) → (k ≡ 13 → ⊥) → work_left k w ≡ cleared w
unfolding work_left
work_zeros k w a b = rw (ne_eqb k 12 a, ne_eqb k 13 b)

-- so does 0
pub left_open : {k : ℕ} (w : List ℕ) → k ≡ 0 → work_left k w ≡ cleared w
left_open {k} w z = work_zeros k w (λ e. omega (arith, z, e)) (λ e. omega (arith, z, e))

-- and 20
pub left_turned : {k : ℕ} (w : List ℕ) → k ≡ 20 → work_left k w ≡ cleared w
left_turned {k} w t = work_zeros k w (λ e. omega (arith, t, e)) (λ e. omega (arith, t, e))

-- which are the numbers of a list
pub left_group : (m : ℕ) {k : ℕ} (w : List ℕ) → k ≡ group_number m → work_left k w ≡ cleared w
left_group m {k} w n =
    by_test (eqb k 0) (λ z. left_open w (eqb-true k 0 z)) (λ s. left_turned w (zero_or_twenty m (sym n) (eqb-false k 0 s)))

-- from word k on the same, k among the first 16,384: cleared, they are the same
pub cleared_past : (k : ℕ) (v w : List ℕ) → k ≤ 16384 → drop k v ≡ drop k w → cleared v ≡ cleared w
unfolding cleared in_front
cleared_past k v w l e =
    let far : k + (16384 - k) ≡ length (replicate {A = ℕ} work_words 0) = omega (arith, zeros_length) in
    ap (λ (xs : List ℕ). replicate work_words 0 ++ xs)
    (ap (λ (i : ℕ). drop i v) (sym far) ∙ sym (drop-drop (16384 - k) k v) ∙ ap (drop (16384 - k)) e ∙ drop-drop (16384 - k) k w
    ∙ ap (λ (i : ℕ). drop i w) far)
