-- General laws of lists.
--   all_weaker, all_at         a test of every element of a list
--   drop_more, drop_at_word    lists that agree from i on agree further on, and word by word
-- Assumes nothing.
use mathlib.Core.Path.{◌≡◌, refl, sym, ap, ◌∙◌}
use mathlib.Core.Bool.{Bool, true}
use mathlib.Core.List.{List, [], ◌∷◌}
use Prim.Native.Nat.{ℕ, zero, suc, ◌+◌, ◌-◌, ◌≤◌, ◌<◌}
use native.Mathlib.Omega.{arith}
use lib.ListN.{length, get_or, drop}
use lib.Seq.{get_or-drop, drop-drop}
use Rattle.theory.specs.Basics.{all}
use Rattle.theory.proofs.Tests.{tests}

-- what every element passes, every element passes by a weaker test
pub all_weaker : {A : Type 0} (f h : A → Bool) → ((x : A) → f x ≡ true → h x ≡ true) → (xs : List A) → all f xs ≡ true → all h xs ≡ true
unfolding all
all_weaker f h w [] e = refl
all_weaker f h w (x ∷ xs) e =
    let e' = simp tests at e in
    simp tests (w x e'.0, all_weaker f h w xs e'.1)

-- and so does the element at each index
pub all_at : {A : Type 0} (f : A → Bool) (xs : List A) (i : ℕ) (d : A) → all f xs ≡ true → i < length xs → f (get_or xs i d) ≡ true
unfolding all
all_at f [] i d e h = absurd (omega arith)
all_at f (x ∷ xs) zero d e h = (simp tests at e).0
all_at f (x ∷ xs) (suc i) d e h = all_at f xs i d (simp tests at e).1 (omega arith)

-- lists that agree from i on agree from j on
pub drop_more : {A : Type 0} (i j : ℕ) (xs ys : List A) → i ≤ j → drop i xs ≡ drop i ys → drop j xs ≡ drop j ys
drop_more {A} i j xs ys h e =
    let d : i + (j - i) ≡ j = omega arith in
    let at_j : (zs : List A) → drop j zs ≡ drop (j - i) (drop i zs) =
    λ zs. ap (λ (t : ℕ). drop t zs) (sym d) ∙ sym (drop-drop (j - i) i zs) in
    at_j xs ∙ ap (drop (j - i)) e ∙ sym (at_j ys)

-- and at j
pub drop_at_word : (i j : ℕ) (xs ys : List ℕ) → i ≤ j → drop i xs ≡ drop i ys → get_or xs j 0 ≡ get_or ys j 0
drop_at_word i j xs ys h e =
    let d : i + (j - i) ≡ j = omega arith in
    let at_j : (zs : List ℕ) → get_or zs j 0 ≡ get_or (drop i zs) (j - i) 0 =
    λ zs. ap (λ (t : ℕ). get_or zs t 0) (sym d) ∙ sym (get_or-drop i zs (j - i) 0) in
    at_j xs ∙ ap (λ (l : List ℕ). get_or l (j - i) 0) e ∙ sym (at_j ys)
