-- Degrees and joint weights by the words of the pairs.
--   degree_ends                the degree among all modules: what the pairs weigh at a module
--   adjacency_degrees          the degrees that `slots::Adjacency` adds up
--   joint_row                  what joins two modules, by the neighbours of one
--   apart_joined               nothing, where no pair joins them
-- Assumes nothing.
use mathlib.Core.Path.{◌≡◌, refl, sym, ◌∙◌}
use mathlib.Core.Bool.{Bool, true, false, ◌&&◌, ◌||◌, cond}
use mathlib.Core.List.{List, [], ◌∷◌}
use mathlib.Core.Logic.{⊎_elim}
use Prim.Native.Nat.{ℕ, zero, suc, ◌+◌, ◌*◌, ◌/◌, ◌<◌}
use native.Mathlib.Omega.{arith}
use lib.Dec.{eqb}
use lib.ListN.{get_or}
use borrow.Author.Tests.{eqb-true, eq-eqb, ne_eqb}
use Rattle.theory.specs.Basics.{table}
use Rattle.theory.specs.Lists.{Pair, is_list}
use Rattle.theory.specs.Groups.{everyone}
use Rattle.theory.specs.Leaving.{joins, degree_of, degree}
use Rattle.theory.specs.Words.{word_pair, pairs_in, list_in, HeldWords}
use Rattle.theory.proofs.Tests.{no, or_fails}
use Rattle.theory.proofs.Groups.{in_everyone}
use Rattle.theory.proofs.Peeling.{joint}
use Rattle.lists.specs.declared.list.List.{List as HeldList}
use Rattle.lists.specs.Listed.{listed}
use Rattle.slots.specs.Slots.{mate, total}
use Rattle.slots.specs.Neighbours.{neighbours_of}
use Rattle.slots.specs.Rows.{first_end, second_end, weight_at, row}
use Rattle.slots.proofs.Totals.{total_ext, total_first, total_pairs}
use Rattle.slots.proofs.Choice.{eq_or_ne}
use Rattle.slots.proofs.Mates.{mate_even, mate_odd}
use Rattle.slots.proofs.Words.{good_pair}
use Rattle.peel.specs.Steps.{joined, Degrees}
use Rattle.peel.specs.Turns.{are_joined_by, are_joined}

-- ---- sums over pairs

-- what a pair adds to the degree of v, and to what joins u and v
pair_degree : (s : List ℕ) (v : ℕ) → Pair → ℕ
pair_degree s v p = cond (joins s v p) p.w 0

pair_joint : (u v : ℕ) → Pair → ℕ
pair_joint u v p = cond ((eqb p.a u && eqb p.b v) || (eqb p.b u && eqb p.a v)) p.w 0

degree_total : (m : ℕ) (f : ℕ → Pair) (s : List ℕ) (v : ℕ) → degree_of (table m f) s v ≡ total m (λ j. pair_degree s v (f j))
unfolding degree_of table pair_degree total
degree_total zero f s v = refl
degree_total (suc m) f s v =
    omega (arith, degree_total m (λ j. f (suc j)) s v, total_first m (λ j. pair_degree s v (f j)))

joint_total : (m : ℕ) (f : ℕ → Pair) (u v : ℕ) → joint (table m f) u v ≡ total m (λ j. pair_joint u v (f j))
unfolding joint table pair_joint total
joint_total zero f u v = refl
joint_total (suc m) f u v =
    omega (arith, joint_total m (λ j. f (suc j)) u v, total_first m (λ j. pair_joint u v (f j)))

-- ---- neighbours

eqb_sym : (a b : ℕ) → eqb a b ≡ eqb b a
eqb_sym a b = ⊎_elim (λ (e : a ≡ b). rw e refl) (λ ne. rw (ne_eqb a b ne, ne_eqb b a (λ e. ne (sym e))) refl) (eq_or_ne a b)

-- what slot s counts from its module v to u
slot_to : (ends weights : List ℕ) (v u s : ℕ) → ℕ
slot_to es ws v u s = cond (eqb (get_or es s 0) v) (cond (eqb u (get_or es (mate s) 0)) (get_or ws (s / 2) 0) 0) 0

joined_row : (ends weights : List ℕ) (v u k : ℕ) → joined (row ends weights v k) u ≡ total k (slot_to ends weights v u)
unfolding joined row total slot_to
joined_row es ws v u zero = refl
joined_row es ws v u (suc k) =
    ⊎_elim
    (λ (e : get_or es k 0 ≡ v). rw (eq-eqb (get_or es k 0) v e) (omega (arith, joined_row es ws v u k)))
    (λ ne. rw (ne_eqb (get_or es k 0) v ne) (omega (arith, joined_row es ws v u k)))
    (eq_or_ne (get_or es k 0) v)

-- ---- one pair, by its two ends

degree_pair : (ea eb ia ib : Bool) (w : ℕ) → (ea ≡ true → eb ≡ true → ⊥) → ia ≡ true → ib ≡ true →
    cond ((ea && ib) || (eb && ia)) w 0 ≡ cond ea w 0 + cond eb w 0
degree_pair true true ia ib w n f h = absurd (n refl refl)
degree_pair true false ia true w n f h = omega arith
degree_pair true false ia false w n f h = no h
degree_pair false true true ib w n f h = omega arith
degree_pair false true false ib w n f h = no f
degree_pair false false ia ib w n f h = omega arith

joint_pair : (au bv bu av : Bool) (w : ℕ) → (au ≡ true → bu ≡ true → ⊥) →
    cond ((au && bv) || (bu && av)) w 0 ≡ cond av (cond bu w 0) 0 + cond bv (cond au w 0) 0
joint_pair true bv true av w n = absurd (n refl refl)
joint_pair true true false true w n = omega arith
joint_pair true true false false w n = omega arith
joint_pair true false false true w n = omega arith
joint_pair true false false false w n = omega arith
joint_pair false true true true w n = omega arith
joint_pair false true true false w n = omega arith
joint_pair false true false true w n = omega arith
joint_pair false true false false w n = omega arith
joint_pair false false true true w n = omega arith
joint_pair false false true false w n = omega arith
joint_pair false false false true w n = omega arith
joint_pair false false false false w n = omega arith

module _ (n m : ℕ) (ends weights : List ℕ) (h : is_list (list_in n m ends weights) ≡ true) where
  -- the ends of pair j are different
  differ : (j : ℕ) → j < m → (x : ℕ) → eqb (get_or ends (2 * j) 0) x ≡ true → eqb (get_or ends (2 * j + 1) 0) x ≡ true → ⊥
  differ j l x e f =
      omega (arith, (good_pair n m ends weights h j l).first, eqb-true (get_or ends (2 * j) 0) x e, eqb-true (get_or ends (2 * j + 1) 0) x f)

  degree_two : (v j : ℕ) → j < m →
      pair_degree (everyone (list_in n m ends weights)) v (word_pair ends weights j)
      ≡ cond (eqb (first_end ends j) v) (get_or weights j 0) 0 + cond (eqb (second_end ends j) v) (get_or weights j 0) 0
  unfolding pair_degree joins word_pair list_in first_end second_end
  degree_two v j l =
      let a : ℕ = get_or ends (2 * j) 0 in
      let b : ℕ = get_or ends (2 * j + 1) 0 in
      let g = good_pair n m ends weights h j l in
      degree_pair (eqb a v) (eqb b v) _ _ (get_or weights j 0) (differ j l v)
      (in_everyone (list_in n m ends weights) a (omega (arith, g.below, g.first))) (in_everyone (list_in n m ends weights) b g.below)

  joint_two : (u v j : ℕ) → j < m →
      pair_joint u v (word_pair ends weights j) ≡ slot_to ends weights v u (2 * j) + slot_to ends weights v u (2 * j + 1)
  unfolding pair_joint slot_to word_pair
  joint_two u v j l =
      let a : ℕ = get_or ends (2 * j) 0 in
      let b : ℕ = get_or ends (2 * j + 1) 0 in
      let e : 2 * j / 2 ≡ j = omega arith in
      let f : (2 * j + 1) / 2 ≡ j = omega arith in
      rw (mate_even, mate_odd, e, f, eqb_sym u b, eqb_sym u a)
      (joint_pair (eqb a u) (eqb b v) (eqb b u) (eqb a v) (get_or weights j 0) (differ j l u))

  -- the degree of v among all modules
  pub degree_ends : (v : ℕ) → degree (list_in n m ends weights) (everyone (list_in n m ends weights)) v ≡ weight_at ends weights m v
  unfolding degree weight_at list_in pairs_in
  degree_ends v =
      degree_total m (word_pair ends weights) (everyone (list_in n m ends weights)) v
      ∙ total_ext m _ _ (degree_two v)

  -- what joins u and v
  pub joint_row : (u v : ℕ) → joint (pairs_in m ends weights) u v ≡ joined (row ends weights v (2 * m)) u
  unfolding pairs_in
  joint_row u v =
      joint_total m (word_pair ends weights) u v
      ∙ total_ext m _ _ (joint_two u v)
      ∙ sym (total_pairs m (slot_to ends weights v u))
      ∙ sym (joined_row ends weights v u (2 * m))

pub adjacency_degrees : {n m : ℕ} {ends weights : List ℕ} (degrees : List ℕ) → HeldWords n m ends weights →
    ((v : ℕ) → v < n → get_or degrees v 0 ≡ weight_at ends weights m v) → Degrees (list_in n m ends weights) degrees
unfolding Degrees list_in
adjacency_degrees {n} {m} {ends} {weights} degrees h d v l = d v l ∙ sym (degree_ends n m ends weights h.listed v)

-- ---- modules that no pair joins

none_joint : (av bu au bv : Bool) (w : ℕ) → ((av && bu) || (au && bv)) ≡ false → cond ((au && bv) || (bu && av)) w 0 ≡ 0
none_joint true true au bv w e = no (sym e)
none_joint av bu true true w e = no (sym (or_fails (av && bu) true e).1)
none_joint true false true false w e = omega arith
none_joint true false false bv w e = omega arith
none_joint false true true false w e = omega arith
none_joint false true false bv w e = omega arith
none_joint false false true false w e = omega arith
none_joint false false false bv w e = omega arith

apart_joint : (ps : List Pair) (v u : ℕ) → are_joined_by ps v u ≡ false → joint ps u v ≡ 0
unfolding are_joined_by joint
apart_joint [] v u e = refl
apart_joint (p ∷ ps) v u e =
    let f = or_fails ((eqb p.a v && eqb p.b u) || (eqb p.a u && eqb p.b v)) (are_joined_by ps v u) e in
    omega (arith, none_joint (eqb p.a v) (eqb p.b u) (eqb p.a u) (eqb p.b v) p.w f.0, apart_joint ps v u f.1)

pub apart_joined : (l : HeldList) (v u : ℕ) → are_joined (listed l) v u ≡ false → joined (neighbours_of l v) u ≡ 0
unfolding are_joined list_in
apart_joined l v u e =
    sym (joint_row l.n l.m l.ends.now l.weights.now l.held.listed u v) ∙ apart_joint (listed l).pairs v u e
