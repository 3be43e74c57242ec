-- The orders of refusal of add and remove, a step at a time.
--   First, first_none, none_first                       the number of 13, 5 and 4, which come first in both; what holds where it is 0, and back
--   add_13, add_first, add_18, add_room                 13; 13, 5 and 4; 18; 19 and 11
--   Unmet, add_none, add_taken                          what holds where add gives none, and back
--   remove_13, remove_first, remove_14, remove_taken    13; 13, 5 and 4; 14, none
--   remove_none                                         what holds where remove gives none
-- Assumes nothing.
use mathlib.Core.Path.{◌≡◌, sym, ◌∙◌}
use mathlib.Core.Bool.{Bool, true, false, ◌&&◌, not}
use mathlib.Core.List.{List, [], ◌∷◌, ◌++◌}
use Prim.Native.Nat.{ℕ}
use borrow.Author.Tests.{not-false}
use Rattle.theory.specs.Lists.{Pair, Pairs}
use Rattle.theory.specs.Refusals.{Cause, cause, refusal}
use Rattle.theory.proofs.Refusals.{refusal_met, refusal_passed, refusal_none}
use Rattle.theory.proofs.Tests.{by_test}
use Rattle.pairs.specs.Held.{is_held, smaller_first_pair}
use Rattle.pairs.specs.Causes.{pair_causes, count_causes, count_passes, add_causes, remove_causes}
use Rattle.pairs.proofs.Causes.{refusal_first, refusal_split, pair_then, count_then}

module _ (d : Bool) (n a b : ℕ) where
  abbrev pub First : ℕ
  First = refusal (cause 13 d ∷ pair_causes 0 n a b)

  pub first_none : First ≡ 0 → (d ≡ false) × (refusal (pair_causes 0 n a b) ≡ 0)
  first_none e = refusal_none 12 d (pair_causes 0 n a b) e

  pub none_first : d ≡ false → refusal (pair_causes 0 n a b) ≡ 0 → First ≡ 0
  none_first e h = refusal_passed 13 d (pair_causes 0 n a b) e ∙ h

  -- these stand first
  order_first : (rest : List Cause) → (First ≡ 0 → ⊥) → refusal (cause 13 d ∷ (pair_causes 0 n a b ++ rest)) ≡ First
  order_first rest h = refusal_first (cause 13 d ∷ pair_causes 0 n a b) rest h

  -- then the others
  order_rest : (rest : List Cause) → First ≡ 0 → refusal (cause 13 d ∷ (pair_causes 0 n a b ++ rest)) ≡ refusal rest
  order_rest rest e = let x = first_none e in refusal_passed 13 d (pair_causes 0 n a b ++ rest) x.0 ∙ pair_then 0 n a b x.1 rest

-- causes in a row, none of which is met
none_of_two : (n a b : ℕ) (ds : List Cause) → refusal (pair_causes 0 n a b ++ ds) ≡ 0 → (refusal (pair_causes 0 n a b) ≡ 0) × (refusal ds ≡ 0)
none_of_two n a b ds e = let z = refusal_split (pair_causes 0 n a b) ds e in (z, sym (pair_then 0 n a b z ds) ∙ e)

module _ (d : Bool) (g : Pairs) (full : Bool) (a b w : ℕ) where
  abbrev its_pair : Pair
  its_pair = smaller_first_pair a b

  pub add_13 : d ≡ true → refusal (add_causes d g full a b w) ≡ 13
  unfolding add_causes
  add_13 e = refusal_met 13 d _ e

  pub add_first : (First d g.n a b ≡ 0 → ⊥) → refusal (add_causes d g full a b w) ≡ First d g.n a b
  unfolding add_causes
  add_first h = order_first d g.n a b _ h

  pub add_18 : First d g.n a b ≡ 0 → (refusal (count_causes w) ≡ 0 → ⊥) → refusal (add_causes d g full a b w) ≡ refusal (count_causes w)
  unfolding add_causes
  add_18 e h = order_rest d g.n a b _ e ∙ refusal_first (count_causes w) _ h

  -- then 19 and 11
  pub add_room : First d g.n a b ≡ 0 → refusal (count_causes w) ≡ 0 →
      refusal (add_causes d g full a b w)
      ≡ refusal (cause 19 (count_passes its_pair w g.pairs) ∷ cause 11 (not (is_held its_pair g.pairs) && full) ∷ [])
  unfolding add_causes
  add_room e c = order_rest d g.n a b _ e ∙ count_then w c _

  -- none of them
  pub record Unmet : Type 0 where
    pub agreed : d ≡ false
    pub modules : refusal (pair_causes 0 g.n a b) ≡ 0
    pub stops : refusal (count_causes w) ≡ 0
    pub within : count_passes its_pair w g.pairs ≡ false
    pub room : is_held its_pair g.pairs ≡ false → full ≡ false

  pub add_taken : Unmet → refusal (add_causes d g full a b w) ≡ 0
  unfolding refusal cause
  add_taken x =
      add_room (none_first d g.n a b x.agreed x.modules) x.stops
      ∙ rw x.within (by_test (is_held its_pair g.pairs) (λ h. rw h) (λ h. rw (h, x.room h)))

  pub add_none : refusal (add_causes d g full a b w) ≡ 0 → Unmet
  unfolding add_causes
  add_none e =
      let x = refusal_none 12 _ _ e in
      let y = none_of_two g.n a b _ x.1 in
      let c = refusal_split (count_causes w) _ y.1 in
      let z = refusal_none 18 _ _ (sym (count_then w c _) ∙ y.1) in
      record { agreed = x.0; modules = y.0; stops = c; within = z.0; room = λ h. rw h at (refusal_none 10 _ _ z.1).0 }

module _ (d : Bool) (g : Pairs) (a b : ℕ) where
  pub remove_13 : d ≡ true → refusal (remove_causes d g a b) ≡ 13
  unfolding remove_causes
  remove_13 e = refusal_met 13 d _ e

  pub remove_first : (First d g.n a b ≡ 0 → ⊥) → refusal (remove_causes d g a b) ≡ First d g.n a b
  unfolding remove_causes
  remove_first h = order_first d g.n a b _ h

  pub remove_14 : First d g.n a b ≡ 0 → is_held (smaller_first_pair a b) g.pairs ≡ false →
      refusal (remove_causes d g a b) ≡ 14
  unfolding remove_causes refusal cause
  remove_14 e t = order_rest d g.n a b _ e ∙ rw t

  pub remove_taken : First d g.n a b ≡ 0 → is_held (smaller_first_pair a b) g.pairs ≡ true →
      refusal (remove_causes d g a b) ≡ 0
  unfolding remove_causes refusal cause
  remove_taken e t = order_rest d g.n a b _ e ∙ rw t

  pub remove_none : refusal (remove_causes d g a b) ≡ 0 → (d ≡ false) × (is_held (smaller_first_pair a b) g.pairs ≡ true)
  unfolding remove_causes
  remove_none e =
      let x = refusal_none 12 _ _ e in
      let y = none_of_two g.n a b _ x.1 in
      (x.0, not-false _ (refusal_none 13 _ _ y.1).0)
