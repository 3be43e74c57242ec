-- Groups: members, sizes, unions, and inside counts. (Ratios are in Densest.)
--   in_lt, in_everyone, size_everyone, everyone_group     members are modules; all modules
--   Bits, group_bits, size_pos                  the byte lists of length n; a group is one, and not empty
--   member_there                                a set that is not empty has a member
--   Sub, sub_within, within_both, within_size   one group in another
--   in_leave, size_leave, good_leave            a member leaves
--   union_group, shared_group, size_union       union and intersection are groups
--   size_in, inside_none                        a set with a member is not empty; the empty set holds no pair
--   supermodular                                inside (s ∪ t) + inside (s ∩ t) ≥ inside s + inside t
-- Assumes nothing.
use mathlib.Core.Path.{◌≡◌, refl, sym, ap, ◌∙◌}
use mathlib.Core.Bool.{Bool, true, false, ◌&&◌, ◌||◌, not, cond, and-true, and-false}
use mathlib.Core.List.{List, [], ◌∷◌}
use Prim.Native.Nat.{ℕ, zero, suc, ◌+◌, ◌≤◌, ◌<◌, max, min}
use native.Mathlib.Omega.{arith}
use lib.Dec.{eqb, eqb-zero-suc, eqb-suc-zero, eqb-suc-suc}
use lib.ListN.{length, get_or, set, replicate, length-replicate}
use borrow.Author.Tests.{eqb-true, eq-eqb, ne_eqb}
use Rattle.theory.specs.Lists.{Pairs, Pair, is_list}
use Rattle.theory.specs.Groups.{is_in, size, bytes_good, is_group, everyone, holds_pair, inside_of, within, union, shared}
use Rattle.theory.proofs.Tests.{tests, no}
use Rattle.theory.proofs.Sums.{byte_le}
use Rattle.theory.proofs.Lists.{listed}

-- ---- members

pub in_lt : (s : List ℕ) (m : ℕ) → is_in s m ≡ true → m < length s
unfolding is_in
in_lt [] m e = no e
in_lt (x ∷ xs) zero e = omega arith
in_lt (x ∷ xs) (suc m) e = omega (arith, in_lt xs m e)

-- the byte lists of length n
abbrev pub Bits : (n : ℕ) → List ℕ → Type 0
Bits n t = (length t ≡ n) × (bytes_good t ≡ true)

pub group_bits : (g : Pairs) (s : List ℕ) → is_group g s ≡ true → Bits g.n s
unfolding is_group
group_bits g s h = let h' = simp tests at h in (h'.0, h'.1.0)

pub size_pos : (g : Pairs) (s : List ℕ) → is_group g s ≡ true → 0 < size s
unfolding is_group
size_pos g s h = omega (arith, simp tests at h)

pub bits_group : (g : Pairs) (s : List ℕ) → Bits g.n s → 0 < size s → is_group g s ≡ true
unfolding is_group
bits_group g s b h = simp tests (b.0, (b.1, h))

in_ones : (n m : ℕ) → m < n → is_in (replicate n 1) m ≡ true
unfolding is_in
in_ones zero m h = absurd (omega arith)
in_ones (suc n) zero h = refl
in_ones (suc n) (suc m) h = in_ones n m (omega arith)

good_ones : (n : ℕ) → bytes_good (replicate n 1) ≡ true
unfolding bytes_good
good_ones zero = refl
good_ones (suc n) = good_ones n

size_ones : (n : ℕ) → size (replicate n 1) ≡ n
unfolding size
size_ones zero = refl
size_ones (suc n) = omega (arith, size_ones n)

pub length_everyone : (g : Pairs) → length (everyone g) ≡ g.n
unfolding everyone
length_everyone g = length-replicate g.n 1

pub in_everyone : (g : Pairs) (m : ℕ) → m < g.n → is_in (everyone g) m ≡ true
unfolding everyone
in_everyone g m h = in_ones g.n m h

pub size_everyone : (g : Pairs) → size (everyone g) ≡ g.n
unfolding everyone
size_everyone g = size_ones g.n

pub everyone_bits : (g : Pairs) → Bits g.n (everyone g)
unfolding everyone
everyone_bits g = (length-replicate g.n 1, good_ones g.n)

-- all modules are a group
pub everyone_group : (g : Pairs) → is_list g ≡ true → is_group g (everyone g) ≡ true
everyone_group g l = bits_group g (everyone g) (everyone_bits g) (omega (arith, size_everyone g, (listed g l).some))

-- a set that is not empty has a member
pub member_there : (s : List ℕ) → bytes_good s ≡ true → 0 < size s → (m : ℕ) × (is_in s m ≡ true)
unfolding bytes_good size is_in
member_there [] b h = absurd (omega arith)
member_there (zero ∷ xs) b h = let r = member_there xs (simp tests at b).1 (omega arith) in (suc r.0, r.1)
member_there (suc zero ∷ xs) b h = (0, refl)
member_there (suc (suc x) ∷ xs) b h = absurd (omega (arith, (simp tests at b).0))

-- ---- one group in another

-- each member of s is one of t
abbrev pub Sub : (s t : List ℕ) → Type 0
Sub s t = (m : ℕ) → is_in s m ≡ true → is_in t m ≡ true

pub sub_within : (s t : List ℕ) → length s ≡ length t → bytes_good s ≡ true → Sub s t → within s t ≡ true
unfolding within bytes_good is_in
sub_within [] t l b h = refl
sub_within (x ∷ xs) [] l b h = absurd (omega arith)
sub_within (x ∷ xs) (y ∷ ys) l b h =
    let b' = simp tests at b in
    simp tests (first x y b'.0 (h 0), sub_within xs ys (omega arith) b'.1 (λ m. h (suc m)))
  where
    first : (x y : ℕ) → x ≤ 1 → (eqb x 1 ≡ true → eqb y 1 ≡ true) → x ≤ y
    first zero y l f = omega arith
    first (suc zero) y l f = omega (arith, eqb-true y 1 (f refl))
    first (suc (suc x)) y l f = absurd (omega arith)

-- `within` is a partial order
pub within_both : (s t : List ℕ) → within s t ≡ true → within t s ≡ true → s ≡ t
unfolding within
within_both [] [] e d = refl
within_both [] (y ∷ ys) e d = no d
within_both (x ∷ xs) [] e d = no e
within_both (x ∷ xs) (y ∷ ys) e d =
    let e' = simp tests at e in
    let d' = simp tests at d in
    let h : x ≡ y = omega arith in
    cc (h, within_both xs ys e'.1 d'.1)

pub within_size : (s t : List ℕ) → within s t ≡ true → size s ≤ size t
unfolding within size
within_size [] t e = omega arith
within_size (x ∷ xs) [] e = no e
within_size (x ∷ xs) (y ∷ ys) e = let e' = simp tests at e in omega (arith, within_size xs ys e'.1)

-- a group in another that is no larger is that group
pub within_same : (s t : List ℕ) → length s ≡ length t → within s t ≡ true → size t ≤ size s → s ≡ t
unfolding within size
within_same [] [] l e h = refl
within_same [] (y ∷ ys) l e h = absurd (omega arith)
within_same (x ∷ xs) [] l e h = no e
within_same (x ∷ xs) (y ∷ ys) l e h =
    let e' = simp tests at e in
    let w : size xs ≤ size ys = within_size xs ys e'.1 in
    let x=y : x ≡ y = omega arith in
    cc (x=y, within_same xs ys (omega arith) e'.1 (omega arith))

-- ---- a member leaves

pub in_leave : (s : List ℕ) (m a : ℕ) → is_in (set s m 0) a ≡ (is_in s a && not (eqb a m))
unfolding is_in
in_leave [] m a = refl
in_leave (x ∷ xs) zero zero = simp and-false
in_leave (x ∷ xs) zero (suc a) = simp (eqb-suc-zero, and-true)
in_leave (x ∷ xs) (suc m) zero = simp (eqb-zero-suc, and-true)
in_leave (x ∷ xs) (suc m) (suc a) = simp eqb-suc-suc (in_leave xs m a)

-- the leaver is gone, the others are still there, and nobody has come
pub leaver_gone : (s : List ℕ) (m : ℕ) → is_in (set s m 0) m ≡ false
leaver_gone s m = in_leave s m m ∙ rw (eq-eqb m m refl) (and-false (is_in s m))

pub others_stay : (s : List ℕ) (m u : ℕ) → (u ≡ m → ⊥) → is_in s u ≡ true → is_in (set s m 0) u ≡ true
others_stay s m u ne i = in_leave s m u ∙ rw (i, ne_eqb u m ne)

pub none_comes : (s : List ℕ) (m : ℕ) → Sub (set s m 0) s
none_comes s m u e = (simp tests at (sym (in_leave s m u) ∙ e)).0

pub size_leave : (s : List ℕ) (m : ℕ) → is_in s m ≡ true → size (set s m 0) + 1 ≡ size s
unfolding size is_in
size_leave [] m e = no e
size_leave (x ∷ xs) zero e = omega (arith, eqb-true x 1 e)
size_leave (x ∷ xs) (suc m) e = omega (arith, size_leave xs m e)

pub good_leave : (s : List ℕ) (m : ℕ) → bytes_good s ≡ true → bytes_good (set s m 0) ≡ true
unfolding bytes_good
good_leave [] m e = refl
good_leave (x ∷ xs) zero e = let e' = simp tests at e in e'.1
good_leave (x ∷ xs) (suc m) e = let e' = simp tests at e in simp tests (e'.0, good_leave xs m e'.1)

-- ---- unions and intersections

pub union_at : (s t : List ℕ) (m : ℕ) → get_or (union s t) m 0 ≡ max (get_or s m 0) (get_or t m 0)
unfolding union
union_at [] t m = omega arith
union_at (x ∷ xs) [] m = omega arith
union_at (x ∷ xs) (y ∷ ys) zero = refl
union_at (x ∷ xs) (y ∷ ys) (suc m) = union_at xs ys m

pub shared_at : (s t : List ℕ) (m : ℕ) → get_or (shared s t) m 0 ≡ min (get_or s m 0) (get_or t m 0)
unfolding shared
shared_at [] t m = omega arith
shared_at (x ∷ xs) [] m = omega arith
shared_at (x ∷ xs) (y ∷ ys) zero = refl
shared_at (x ∷ xs) (y ∷ ys) (suc m) = shared_at xs ys m

pub size_union : (s t : List ℕ) → size (union s t) + size (shared s t) ≡ size s + size t
unfolding union shared size
size_union [] t = omega arith
size_union (x ∷ xs) [] = omega arith
size_union (x ∷ xs) (y ∷ ys) = omega (arith, size_union xs ys)

size_le_union : (s t : List ℕ) → size s ≤ size (union s t)
unfolding union size
size_le_union [] t = omega arith
size_le_union (x ∷ xs) [] = omega arith
size_le_union (x ∷ xs) (y ∷ ys) = omega (arith, size_le_union xs ys)

-- a union that is no larger adds nothing
pub within_union : (s t : List ℕ) → length s ≡ length t → size (union s t) ≤ size s → within t s ≡ true
unfolding union size within
within_union [] [] e h = refl
within_union [] (y ∷ ys) e h = absurd (omega arith)
within_union (x ∷ xs) [] e h = refl
within_union (x ∷ xs) (y ∷ ys) e h =
    simp tests (omega (arith, size_le_union xs ys), within_union xs ys (omega arith) (omega (arith, size_le_union xs ys)))

pub union_bits : (n : ℕ) (s t : List ℕ) → Bits n s → Bits n t → Bits n (union s t)
unfolding union bytes_good
union_bits n s t b c = (long s t (b.0 ∙ sym c.0) ∙ b.0, good s t b.1 c.1)
  where
    long : (s t : List ℕ) → length s ≡ length t → length (union s t) ≡ length s
    long [] t e = sym e
    long (x ∷ xs) [] e = refl
    long (x ∷ xs) (y ∷ ys) e = ap suc (long xs ys (omega arith))

    good : (s t : List ℕ) → bytes_good s ≡ true → bytes_good t ≡ true → bytes_good (union s t) ≡ true
    good [] t e d = d
    good (x ∷ xs) [] e d = e
    good (x ∷ xs) (y ∷ ys) e d =
        let e' = simp tests at e in
        let d' = simp tests at d in
        simp tests (omega arith, good xs ys e'.1 d'.1)

pub shared_bits : (n : ℕ) (s t : List ℕ) → Bits n s → Bits n t → Bits n (shared s t)
unfolding shared bytes_good
shared_bits n s t b c = (long s t (b.0 ∙ sym c.0) ∙ b.0, good s t b.1 c.1)
  where
    long : (s t : List ℕ) → length s ≡ length t → length (shared s t) ≡ length s
    long [] t e = refl
    long (x ∷ xs) [] e = sym e
    long (x ∷ xs) (y ∷ ys) e = ap suc (long xs ys (omega arith))

    good : (s t : List ℕ) → bytes_good s ≡ true → bytes_good t ≡ true → bytes_good (shared s t) ≡ true
    good [] t e d = refl
    good (x ∷ xs) [] e d = refl
    good (x ∷ xs) (y ∷ ys) e d =
        let e' = simp tests at e in
        let d' = simp tests at d in
        simp tests (omega arith, good xs ys e'.1 d'.1)

-- the greater and the lesser of two bytes, as tests
max_bit : (x y : ℕ) → x ≤ 1 → y ≤ 1 → eqb (max x y) 1 ≡ (eqb x 1 || eqb y 1)
max_bit zero zero h k = refl
max_bit zero (suc zero) h k = refl
max_bit (suc zero) zero h k = refl
max_bit (suc zero) (suc zero) h k = refl
max_bit zero (suc (suc y)) h k = absurd (omega arith)
max_bit (suc zero) (suc (suc y)) h k = absurd (omega arith)
max_bit (suc (suc x)) y h k = absurd (omega arith)

min_bit : (x y : ℕ) → x ≤ 1 → y ≤ 1 → eqb (min x y) 1 ≡ (eqb x 1 && eqb y 1)
min_bit zero zero h k = refl
min_bit zero (suc zero) h k = refl
min_bit (suc zero) zero h k = refl
min_bit (suc zero) (suc zero) h k = refl
min_bit zero (suc (suc y)) h k = absurd (omega arith)
min_bit (suc zero) (suc (suc y)) h k = absurd (omega arith)
min_bit (suc (suc x)) y h k = absurd (omega arith)

pub in_union : (s t : List ℕ) (m : ℕ) → bytes_good s ≡ true → bytes_good t ≡ true → is_in (union s t) m ≡ (is_in s m || is_in t m)
unfolding is_in
in_union s t m e d = rw (union_at s t m) (max_bit (get_or s m 0) (get_or t m 0) (byte_le s m e) (byte_le t m d))

pub in_shared : (s t : List ℕ) (m : ℕ) → bytes_good s ≡ true → bytes_good t ≡ true → is_in (shared s t) m ≡ (is_in s m && is_in t m)
unfolding is_in
in_shared s t m e d = rw (shared_at s t m) (min_bit (get_or s m 0) (get_or t m 0) (byte_le s m e) (byte_le t m d))

pub union_group : (g : Pairs) (s t : List ℕ) → is_group g s ≡ true → is_group g t ≡ true → is_group g (union s t) ≡ true
union_group g s t h k =
    bits_group g (union s t) (union_bits g.n s t (group_bits g s h) (group_bits g t k)) (omega (arith, size_le_union s t, size_pos g s h))

pub shared_group : (g : Pairs) (s t : List ℕ) → is_group g s ≡ true → is_group g t ≡ true → 0 < size (shared s t) → is_group g (shared s t) ≡ true
shared_group g s t h k = bits_group g (shared s t) (shared_bits g.n s t (group_bits g s h) (group_bits g t k))

-- ---- inside counts

-- one pair, by which of its ends are in s (u, v) and in t (x, y)
super_pair : (u v x y : Bool) (w : ℕ) →
    cond (u && v) w 0 + cond (x && y) w 0 ≤ cond ((u || x) && (v || y)) w 0 + cond ((u && x) && (v && y)) w 0
super_pair true true true true w = omega arith
super_pair true true true false w = omega arith
super_pair true true false y w = omega arith
super_pair true false true true w = omega arith
super_pair true false true false w = omega arith
super_pair true false false y w = omega arith
super_pair false true true true w = omega arith
super_pair false true true false w = omega arith
super_pair false true false y w = omega arith
super_pair false false true true w = omega arith
super_pair false false true false w = omega arith
super_pair false false false y w = omega arith

-- inside counts are supermodular: union and intersection hold together at least what the two groups hold
pub supermodular : (ps : List Pair) (s t : List ℕ) → bytes_good s ≡ true → bytes_good t ≡ true →
    inside_of ps s + inside_of ps t ≤ inside_of ps (union s t) + inside_of ps (shared s t)
unfolding inside_of holds_pair
supermodular [] s t e d = omega arith
supermodular (p ∷ ps) s t e d =
    simp (in_union, in_shared, e, d)
    (omega (arith, super_pair (is_in s p.a) (is_in s p.b) (is_in t p.a) (is_in t p.b) p.w, supermodular ps s t e d))

byte_le_size : (s : List ℕ) (m : ℕ) → get_or s m 0 ≤ size s
unfolding size
byte_le_size [] m = omega arith
byte_le_size (x ∷ xs) zero = omega arith
byte_le_size (x ∷ xs) (suc m) = omega (arith, byte_le_size xs m)

-- a set with a member is not empty
pub size_in : (s : List ℕ) (m : ℕ) → is_in s m ≡ true → 0 < size s
unfolding is_in
size_in s m e = omega (arith, byte_le_size s m, eqb-true (get_or s m 0) 1 e)

none_in : (s : List ℕ) (m : ℕ) → size s ≡ 0 → is_in s m ≡ false
unfolding is_in
none_in s m e = go (get_or s m 0) (omega (arith, byte_le_size s m))
  where
    go : (x : ℕ) → x ≡ 0 → eqb x 1 ≡ false
    go zero h = refl
    go (suc x) h = absurd (omega arith)

-- the empty set holds no pair
pub inside_none : (ps : List Pair) (s : List ℕ) → size s ≡ 0 → inside_of ps s ≡ 0
unfolding inside_of holds_pair
inside_none [] s e = refl
inside_none (p ∷ ps) s e = simp (none_in, e) (omega (arith, inside_none ps s e))
