-- What loads have above p.
--   excess_moved      after d has moved from u to c, whose load it does not bring above p
-- Assumes nothing.
use Rattle.std.proofs.Common.{◌≡◌, ℕ, ◌+◌, ◌-◌, ◌<◌, ◌≤◌, List, length, get_or, set, sym, ap, ◌∙◌, arith, length-set, get_or-set_other, get_or-set_same}
use Rattle.slots.specs.Slots.{moved}
use Rattle.slots.proofs.Totals.{total_one}
use Rattle.chains.specs.Search.{excess}

excess_set : (n p v x : ℕ) (load : List ℕ) → v < n → v < length load → excess n p (set load v x) + (get_or load v 0 - p) ≡ excess n p load + (x - p)
unfolding excess
excess_set n p v x load l h =
    total_one n v (λ u. get_or (set load v x) u 0 - p) (λ u. get_or load u 0 - p) l
    (λ j b ne. ap (λ (z : ℕ). z - p) (get_or-set_other load v j x 0 ne))
    ∙ ap (λ (z : ℕ). excess n p load + (z - p)) (get_or-set_same load v x 0 h)

pub excess_moved : (n p u c d : ℕ) (load : List ℕ) → u < n → c < n → n ≤ length load → (u ≡ c → ⊥) → get_or load c 0 + d ≤ p →
    excess n p (moved load u c d) + (get_or load u 0 - p) ≡ excess n p load + (get_or load u 0 - d - p)
unfolding moved
excess_moved n p u c d load lu lc l ne h =
    let one = set load u (get_or load u 0 - d) in
    let e : get_or one c 0 ≡ get_or load c 0 = get_or-set_other load u c (get_or load u 0 - d) 0 (λ z. ne (sym z)) in
    omega (
      arith,
      excess_set n p u (get_or load u 0 - d) load lu (omega arith),
      excess_set n p c (get_or one c 0 + d) one lc (omega (arith, length-set load u (get_or load u 0 - d))),
    )
