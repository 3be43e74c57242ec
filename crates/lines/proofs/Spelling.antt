-- A number and its digits: what is spelled is read, and what is read was spelled so.
--   spell_enough, spelled_short    room for more digits than a number has changes nothing
--   spell_one, spelled_one, spelled_more    one digit, and those of a tenth before the last
--   some_digits, no_digits, spelled_parts, spelled_three    the digits of a thousandth, if it has any, and the last three behind them
--   digits_append       digits in front of what is no digit
--   value_append        digits after digits
--   spell_digits, spell_length, spell_first, spell_value    the digits of a number
--   number_spelled      a number that is spelled is read
--   spell_on            digits after a number
--   some_same, none_not_some    what is found is one thing
--   number_of_spelled   a number that is read was spelled so
-- Assumes nothing.
use mathlib.Core.Path.{◌≡◌, refl, ap, ◌∙◌}
use mathlib.Core.Bool.{Bool, true, false, ◌||◌, not}
use mathlib.Core.Logic.{◌≢◌}
use mathlib.Core.List.{List, [], ◌∷◌, ◌++◌, append_assoc, append-nil}
use Rattle.std.proofs.Common.{None, Some}
use Prim.Native.Nat.{ℕ, zero, suc, ◌+◌, ◌*◌, ◌-◌, ◌/◌, ◌%◌, ◌^◌, ◌≤◌, ◌<◌}
use native.Mathlib.Nat.{pow-succ', pow-le-pow_right, add-zero}
use native.Mathlib.Omega.{arith}
use borrow.Author.Tests.{ltb-true, ltb-false, lt-ltb, le-ltb, eqb-true, eqb-false, ne_eqb}
use lib.Dec.{ltb, eqb}
use lib.ListN.{length, get_or, drop, length-append, get_or-append}
use lib.Seq.{drop-append_seam}
use Rattle.theory.specs.Basics.{all}
use Rattle.theory.proofs.Tests.{tests, no, or_right, by_test}
use Rattle.lines.specs.Text.{between}
use Rattle.lines.specs.Numbers.{is_digit, digits, is_number, value_on, value, Number, number_of, spell, spelled, unless_zero, last_three}

-- room for more digits than a number has changes nothing
pub spell_enough : (k j n : ℕ) → n < 10 ^ suc k → k ≤ j → spell j n ≡ spell k n
unfolding spell
spell_enough zero zero n h l = refl
spell_enough zero (suc j) n h l = rw (lt-ltb n 10 h)
spell_enough (suc k) zero n h l = absurd (omega arith)
spell_enough (suc k) (suc j) n h l = rw (spell_enough k j (n / 10) (omega (arith, pow-succ' 10 (suc k))) (omega arith))

-- one digit
pub spell_one : (k n : ℕ) → n < 10 → spell k n ≡ (48 + n) ∷ []
unfolding spell
spell_one k n h = spell_enough 0 k n h (omega arith)

-- those of a tenth, and the last behind them
pub spell_more : (k n : ℕ) → 10 ≤ n → n < 10 ^ suc (suc k) → spell (suc k) n ≡ spell (suc k) (n / 10) ++ ((48 + n % 10) ∷ [])
unfolding spell
spell_more k n h l = rw (spell_enough k (suc k) (n / 10) (omega (arith, pow-succ' 10 (suc k))) (omega arith), le-ltb n 10 h)

-- a number of at most k + 1 digits
pub spelled_short : (k n : ℕ) → k ≤ 9 → n < 10 ^ suc k → spelled n ≡ spell k n
unfolding spelled
spelled_short k n l h = spell_enough k 9 n h l

pub spelled_one : (n : ℕ) → n < 10 → spelled n ≡ (48 + n) ∷ []
unfolding spelled
spelled_one n h = spell_one 9 n h

pub spelled_more : (n : ℕ) → 10 ≤ n → n < 10 ^ 10 → spelled n ≡ spelled (n / 10) ++ ((48 + n % 10) ∷ [])
unfolding spelled
spelled_more n h l = spell_more 8 n h l

-- digits in front, of a number that is not 0, and of one that is
pub some_digits : {n : ℕ} (ds more : List ℕ) → 1 ≤ n → unless_zero n ds ++ more ≡ ds ++ more
unfolding unless_zero
some_digits {n} ds more h = rw (le-ltb n 1 h)

pub no_digits : {n : ℕ} (ds more : List ℕ) → n < 1 → unless_zero n ds ++ more ≡ [] ++ more
unfolding unless_zero
no_digits {n} ds more h = rw (lt-ltb n 1 h)

-- those of a tenth, if it has any, and the last behind them
spelled_last : (n : ℕ) → n < 10 ^ 10 → spelled n ≡ unless_zero (n / 10) (spelled (n / 10)) ++ ((48 + n % 10) ∷ [])
unfolding unless_zero
spelled_last n l =
    by_test (ltb (n / 10) 1)
    (λ t.
    let h = ltb-true (n / 10) 1 t in
    let same : n ≡ n % 10 = omega (arith, h) in
    rw t (spelled_one n (omega (arith, h)) ∙ ap (λ (d : ℕ). (48 + d) ∷ []) same))
    (λ t. rw t (spelled_more n (omega (arith, ltb-false (n / 10) 1 t)) l))

-- the same of a number's digits, if it has any
some_last : (n : ℕ) → n < 10 ^ 10 → unless_zero n (spelled n) ≡ unless_zero (n / 10) (spelled (n / 10)) ++ unless_zero n ((48 + n % 10) ∷ [])
unfolding unless_zero
some_last n l =
    by_test (ltb n 1)
    (λ t. rw (t, lt-ltb (n / 10) 1 (omega (arith, ltb-true n 1 t))))
    (λ t. rw t (unfold unless_zero in spelled_last n l))

-- those of a thousandth, if it has any, and the last three
pub spelled_parts : (n : ℕ) → n < 10 ^ 10 → spelled n ≡ unless_zero (n / 1000) (spelled (n / 1000)) ++ last_three n
unfolding last_three
spelled_parts n l =
    let hundredth : n / 10 / 10 ≡ n / 100 = omega arith in
    let thousandth : n / 100 / 10 ≡ n / 1000 = omega arith in
    let ten = rw hundredth at (some_last (n / 10) (omega (arith, l))) in
    let hundred = rw thousandth at (some_last (n / 100) (omega (arith, l))) in
    spelled_last n l ∙ rw (ten, hundred, append_assoc, append_assoc)

-- below a thousand there are no others
pub spelled_three : (n : ℕ) → n < 1000 → spelled n ≡ last_three n
spelled_three n h = spelled_parts n (omega (arith, h)) ∙ no_digits _ _ (omega (arith, h))

-- digits in front of bytes that begin with none are all the digits there
pub digits_append : (ds rest : List ℕ) → all is_digit ds ≡ true → digits rest ≡ [] → digits (ds ++ rest) ≡ ds
unfolding all digits
digits_append [] rest h e = e
digits_append (d ∷ ds) rest h e = let h' = simp tests at h in rw (h'.0, digits_append ds rest h'.1 e)

-- digits after digits go on from their number
pub value_append : (v : ℕ) (xs ys : List ℕ) → value_on v (xs ++ ys) ≡ value_on (value_on v xs) ys
unfolding value_on
value_append v [] ys = refl
value_append v (x ∷ xs) ys = value_append (10 * v + (x - 48)) xs ys

all_append : (f : ℕ → Bool) (xs ys : List ℕ) → all f xs ≡ true → all f ys ≡ true → all f (xs ++ ys) ≡ true
unfolding all
all_append f [] ys h e = e
all_append f (x ∷ xs) ys h e = let h' = simp tests at h in simp tests (h'.0, all_append f xs ys h'.1 e)

-- one digit
one_digit : (d : ℕ) → d < 10 → all is_digit ((48 + d) ∷ []) ≡ true
unfolding all is_digit between
one_digit d h = simp tests ((omega arith, omega arith), refl)

-- a number is spelled in digits
pub spell_digits : (k n : ℕ) → n < 10 ^ suc k → all is_digit (spell k n) ≡ true
unfolding spell
spell_digits zero n h = one_digit n h
spell_digits (suc k) n h =
    by_test (ltb n 10) (λ t. rw t (one_digit n (ltb-true n 10 t)))
    (λ t. rw t (all_append is_digit (spell k (n / 10)) ((48 + n % 10) ∷ [])
    (spell_digits k (n / 10) (omega (arith, pow-succ' 10 (suc k)))) (one_digit (n % 10) (omega arith))))

-- in at least one and at most k + 1
pub spell_length : (k n : ℕ) → (1 ≤ length (spell k n)) × (length (spell k n) ≤ suc k)
unfolding spell
spell_length zero n = (omega arith, omega arith)
spell_length (suc k) n =
    let ih = spell_length k (n / 10) in
    by_test (ltb n 10) (λ t. rw t (omega arith, omega arith))
    (λ t. rw (t, length-append (spell k (n / 10)) ((48 + n % 10) ∷ [])) (omega arith, omega arith))

-- of which the first is not 0, unless the number is
pub spell_first : (k n : ℕ) → 1 ≤ n → 48 < get_or (spell k n) 0 0
unfolding spell
spell_first zero n h = omega arith
spell_first (suc k) n h =
    by_test (ltb n 10) (λ t. rw t (omega arith))
    (λ t. rw (t, get_or-append (spell k (n / 10)) ((48 + n % 10) ∷ []) 0 0 (spell_length k (n / 10)).0)
    (spell_first k (n / 10) (omega (arith, ltb-false n 10 t))))

-- and they spell that number
pub spell_value : (k n : ℕ) → value (spell k n) ≡ n
unfolding spell value value_on
spell_value zero n = omega arith
spell_value (suc k) n =
    by_test (ltb n 10) (λ t. rw t (omega arith))
    (λ t. rw t (value_append 0 (spell k (n / 10)) ((48 + n % 10) ∷ []) ∙ omega (arith, spell_value k (n / 10))))

-- the digits of any number of 32 bits
pub spelled_digits : (n : ℕ) → n < 10 ^ 10 → all is_digit (spelled n) ≡ true
unfolding spelled
spelled_digits n h = spell_digits 9 n h

spelled_value : (n : ℕ) → value (spelled n) ≡ n
unfolding spelled
spelled_value n = spell_value 9 n

-- 1 to d digits, with no leading zero unless it is 0
spelled_is_number : (d n : ℕ) → 1 ≤ d → d ≤ 10 → n < 10 ^ d → is_number d (spelled n) ≡ true
unfolding is_number
spelled_is_number zero n h l s = absurd (omega arith)
spelled_is_number (suc k) n h l s = rw (spelled_short k n (omega arith) s) (simp tests (((spell_length k n).0, (spell_length k n).1), go n))
  where
    go : (n : ℕ) → (eqb (length (spell k n)) 1 || not (eqb (get_or (spell k n) 0 0) 48)) ≡ true
    go zero = rw (spell_one k 0 (omega arith))
    go (suc n) =
        let d = get_or (spell k (suc n)) 0 0 in
        let f : eqb d 48 ≡ false = ne_eqb d 48 (λ e. omega (arith, spell_first k (suc n) (omega arith), e)) in
        or_right (eqb (length (spell k (suc n))) 1) _ (ap not f)

-- a number that is spelled is read
pub number_spelled : (d n : ℕ) (rest : List ℕ) → 1 ≤ d → d ≤ 10 → n < 10 ^ d → digits rest ≡ [] →
    number_of d (spelled n ++ rest) ≡ Some (record { value = n; rest = rest })
unfolding number_of
number_spelled d n rest h l s e =
    let p : 10 ^ d ≤ 10 ^ 10 = pow-le-pow_right (omega arith) l in
    rw (
      digits_append (spelled n) rest (spelled_digits n (omega (arith, p))) e,
      spelled_is_number d n h l s,
      spelled_value n,
      drop-append_seam (spelled n) rest,
    )

digit_range : (d : ℕ) → is_digit d ≡ true → (48 ≤ d) × (d ≤ 57)
unfolding is_digit between
digit_range d e = simp tests at e

-- a digit after a number
spell_last : (k v d : ℕ) → 1 ≤ v → is_digit d ≡ true → spell (suc k) (10 * v + (d - 48)) ≡ spell k v ++ (d ∷ [])
unfolding spell
spell_last k v d h e =
    let r = digit_range d e in
    let many : ltb (10 * v + (d - 48)) 10 ≡ false = le-ltb (10 * v + (d - 48)) 10 (omega arith) in
    let front : (10 * v + (d - 48)) / 10 ≡ v = omega arith in
    let back : 48 + (10 * v + (d - 48)) % 10 ≡ d = omega arith in
    rw (many, front, back)

-- digits after a number: they are what is spelled after it
pub spell_on : (k v : ℕ) (es : List ℕ) → 1 ≤ v → all is_digit es ≡ true → spell (k + length es) (value_on v es) ≡ spell k v ++ es
unfolding value_on all
spell_on k v [] h e = rw (add-zero, append-nil)
spell_on k v (d ∷ es) h e =
    let e' = simp tests at e in
    let r : (48 ≤ d) × (d ≤ 57) = digit_range d e'.0 in
    let w : ℕ = 10 * v + (d - 48) in
    let s : k + suc (length es) ≡ suc k + length es = omega arith in
    let last : spell (suc k) w ≡ spell k v ++ (d ∷ []) = spell_last k v d h e'.0 in
    rw s (spell_on (suc k) w es (omega arith) e'.1 ∙ ap (λ (l : List ℕ). l ++ es) last ∙ append_assoc (spell k v) (d ∷ []) es)

-- digits that are a number are its spelling
digits_spelled : (k : ℕ) (ds : List ℕ) → k ≤ 10 → all is_digit ds ≡ true → is_number k ds ≡ true → spelled (value ds) ≡ ds
unfolding is_number all spelled value value_on
digits_spelled k [] few h e = absurd (omega (arith, (simp tests at e).0.0))
digits_spelled k₀ (d ∷ es) few h e =
    let h' = simp tests at h in
    let e' = simp tests at e in
    let r = digit_range d h'.0 in
    let w : 10 * 0 + (d - 48) ≡ d - 48 = omega arith in
    rw w (by_test (eqb d 48)
    (λ t. zero_alone es (eqb-true d 48 t) (rw t at e'.1))
    (λ t.
    let k : ℕ = 9 - length es in
    let s : k + length es ≡ 9 = omega (arith, e'.0.1) in
    let f : 48 + (d - 48) ≡ d = omega arith in
    let u : d ≢ 48 = eqb-false d 48 t in
    rw s at (spell_on k (d - 48) es (omega arith) h'.1)
    ∙ rw (spell_one k (d - 48) (omega arith), f)))
  where
    zero_alone : (es : List ℕ) → d ≡ 48 → (eqb (suc (length es)) 1 || false) ≡ true → spell 9 (value_on (d - 48) es) ≡ d ∷ es
    zero_alone [] z o = rw z (spell_one 9 0 (omega arith))
    zero_alone (c ∷ es) z o = no (rw (ne_eqb (suc (suc (length es))) 1 (λ k. omega arith)) at o)

-- k digits and more make a number below 10 to that power
value_small : (v k : ℕ) (ds : List ℕ) → v < 10 ^ k → all is_digit ds ≡ true → value_on v ds < 10 ^ (k + length ds)
unfolding value_on all
value_small v k [] h e = rw add-zero h
value_small v k (d ∷ ds) h e =
    let e' = simp tests at e in
    let s : k + suc (length ds) ≡ suc k + length ds = omega arith in
    rw s (value_small (10 * v + (d - 48)) (suc k) ds (omega (arith, pow-succ' 10 k, digit_range d e'.0)) e'.1)

digits_all : (bs : List ℕ) → all is_digit (digits bs) ≡ true
unfolding digits all
digits_all [] = refl
digits_all (c ∷ cs) = by_test (is_digit c) (λ t. rw t (simp tests (t, digits_all cs))) (λ t. rw t)

digits_front : (bs : List ℕ) → bs ≡ digits bs ++ drop (length (digits bs)) bs
unfolding digits
digits_front [] = refl
digits_front (c ∷ cs) = by_test (is_digit c) (λ t. rw t (ap (λ (l : List ℕ). c ∷ l) (digits_front cs))) (λ t. rw t)

is_number_short : (d : ℕ) (ds : List ℕ) → is_number d ds ≡ true → length ds ≤ d
unfolding is_number
is_number_short d ds e = (simp tests at e).0.1

-- one thing is found
pub some_same : {A : Type 0} {a b : A} → Some a ≡ Some b → a ≡ b
some_same e = cc

-- what is found is there
pub none_not_some : {A : Type 0} {a : A} → None ≡ Some a → ⊥
none_not_some e = let z : ◌≡◌ {A = ℕ} 0 1 = cc in omega arith

-- a number that is read was spelled so, in at most d digits
pub number_of_spelled : (d : ℕ) (bs : List ℕ) (x : Number) → d ≤ 10 → number_of d bs ≡ Some x →
    (bs ≡ spelled x.value ++ x.rest) × (x.value < 10 ^ d)
unfolding number_of value
number_of_spelled d bs x few e =
    by_test (is_number d (digits bs))
    (λ t.
    let s = some_same (rw t at e) in
    let l : 0 + length (digits bs) ≤ d = omega (arith, is_number_short d (digits bs) t) in
    let m = value_small 0 0 (digits bs) (omega arith) (digits_all bs) in
    let p : 10 ^ (0 + length (digits bs)) ≤ 10 ^ d = pow-le-pow_right (omega arith) l in
    rw (← s) (rw (digits_spelled d (digits bs) few (digits_all bs) t) (digits_front bs), omega (arith, m, p)))
    (λ t. absurd (none_not_some (rw t at e)))
