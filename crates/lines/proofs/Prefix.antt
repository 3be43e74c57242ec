-- A line is decided by the first bytes: what lies behind the longest line of its form changes nothing.
--   span                    the most bytes that a line of a form can have
--   LineTrimmed, line_trimmed       a line in the first bytes
--   rest_alike              whether bytes follow
--   Alike, alike_then, alike_same    the first bytes give what all of them give, and what follows does
--   trim_line, line_alike, judged_alike    the line that is due, and its causes
-- Assumes nothing.
use mathlib.Core.Path.{◌≡◌, refl, sym, ap, ◌∙◌}
use mathlib.Core.Bool.{true, false, cond}
use mathlib.Core.List.{List, [], ◌∷◌}
use Rattle.std.proofs.Common.{Option, None, Some}
use Prim.Native.Nat.{ℕ, zero, suc, ◌+◌, ◌-◌, ◌≤◌}
use native.Mathlib.Nat.{zero-add, suc-add}
use native.Mathlib.Omega.{arith}
use borrow.Author.Tests.{leb-true, leb-false, lt-ltb, not-true}
use lib.Dec.{leb, ltb, eqb}
use lib.ListN.{length, take, drop}
use lib.Seq.{take_all, take-nil, length-take-le}
use Rattle.theory.proofs.Tests.{tests, fails, implied, by_test}
use Rattle.theory.specs.Refusals.{Cause, refusal}
use Rattle.lines.specs.Numbers.{is_digit, digits, is_number, Number, number_of}
use Rattle.lines.specs.Lines.{is_place, Line, with_numbers, after_number, after_byte, line_of}
use Rattle.lines.specs.Outcomes.{Outcome, refused, taken, ◌>>=◌, ◌>>◌, passed, judge, line_or, line_due}
use Rattle.lines.proofs.Spelling.{some_same, none_not_some}
use Rattle.lines.proofs.Fills.{starts_plain, parted}

digits_take : (w : ℕ) (bs : List ℕ) → digits (take w bs) ≡ take w (digits bs)
unfolding digits
digits_take zero bs = refl
digits_take (suc w) [] = refl
digits_take (suc w) (c ∷ cs) = by_test (is_digit c) (λ t. rw t (ap (λ (l : List ℕ). c ∷ l) (digits_take w cs))) (λ t. rw t)

drop_take : (k v : ℕ) (bs : List ℕ) → drop k (take (k + v) bs) ≡ take v (drop k bs)
drop_take zero v bs = rw zero-add
drop_take (suc k) v [] = rw (take-nil (suc k + v), take-nil v)
drop_take (suc k) v (b ∷ bs) = rw suc-add (drop_take k v bs)

-- digits that end within the first bytes are all there
digits_there : (w : ℕ) (bs : List ℕ) → length (digits bs) ≤ w → digits (take w bs) ≡ digits bs
digits_there w bs h = digits_take w bs ∙ take_all w (digits bs) h

-- what is no number is none in the first bytes, of which there are more than d
number_take_none : (d w : ℕ) (bs : List ℕ) → suc d ≤ w → number_of d bs ≡ None → number_of d (take w bs) ≡ None
unfolding number_of is_number
number_take_none d w bs h e =
    by_test (is_number d (digits bs)) (λ t. absurd (none_not_some (sym (rw t at e))))
    (λ t. by_test (leb (length (digits bs)) w)
    (λ l. rw (digits_there w bs (leb-true (length (digits bs)) w l), t))
    (λ l.
    let m : w ≤ length (digits bs) = omega (arith, leb-false (length (digits bs)) w l) in
    let s : length (digits (take w bs)) ≡ w = ap length (digits_take w bs) ∙ length-take-le w (digits bs) m in
    rw (fails (is_number d (digits (take w bs))) (λ k. omega (arith, (simp tests at k).0, s)))))

-- and what is one is the same there; it takes up to d of them
number_take_some : (d w : ℕ) (bs : List ℕ) → suc d ≤ w → (x : Number) → number_of d bs ≡ Some x →
    (v : ℕ) × (w ≤ v + d) × (number_of d (take w bs) ≡ Some (record { value = x.value; rest = take v x.rest }))
unfolding number_of is_number
number_take_some d w bs h x e =
    by_test (is_number d (digits bs))
    (λ t.
    let s = some_same (rw t at e) in
    let k = length (digits bs) in
    let l : k ≤ d = (simp tests at t).0.1 in
    let j : k + (w - k) ≡ w = omega arith in
    let c : drop k (take w bs) ≡ take (w - k) (drop k bs) = ap (λ (u : ℕ). drop k (take u bs)) (sym j) ∙ drop_take k (w - k) bs in
    rw (← s) (w - k, omega arith, rw (digits_there w bs (omega arith), t, c)))
    (λ t. absurd (none_not_some (rw t at e)))

-- the most bytes that a line of a form can have: d for a number
unfoldable pub span : (d : ℕ) → List ℕ → ℕ
span d [] = 0
span d (c ∷ cs) = cond (is_place c) d 1 + span d cs

span_plain : (d : ℕ) (cs : List ℕ) → starts_plain cs ≡ true → 1 ≤ span d cs
unfolding span starts_plain
span_plain d [] h = absurd (let z : ◌≡◌ {A = ℕ} 0 1 = cc in omega arith)
span_plain d (c ∷ cs) h = rw (not-true (is_place c) (simp tests at h).1) (omega arith)

-- in the first w bytes a line is missing as it is in all of them, or is the same and what follows is trimmed
pub data LineTrimmed (d : ℕ) (form : List ℕ) (w : ℕ) (bs : List ℕ) : Type 0 where
  neither : line_of d form bs ≡ None → line_of d form (take w bs) ≡ None → LineTrimmed d form w bs
  both : (l : Line) (v : ℕ) → line_of d form bs ≡ Some l → line_of d form (take w bs) ≡ Some (record { numbers = l.numbers; rest = take v l.rest }) →
      w ≤ v + span d form → LineTrimmed d form w bs

module _ (d : ℕ) (c : ℕ) (cs : List ℕ) (ih : (w : ℕ) (bs : List ℕ) → span d cs ≤ w → LineTrimmed d cs w bs) where
  place_trimmed : (w : ℕ) (bs : List ℕ) → is_place c ≡ true → suc d ≤ w → d + span d cs ≤ w → LineTrimmed d (c ∷ cs) w bs
  unfolding line_of after_number with_numbers span
  place_trimmed w bs t more h = of_number (number_of d bs) refl
    where
      of_line : (x : Number) (u : ℕ) → number_of d bs ≡ Some x → w ≤ u + d →
          number_of d (take w bs) ≡ Some (record { value = x.value; rest = take u x.rest }) → LineTrimmed d cs u x.rest → LineTrimmed d (c ∷ cs) w bs
      of_line x u g m n (neither p q) = neither (rw (t, g, p)) (rw (t, n, q))
      of_line x u g m n (both l v p q r) =
          both (record { numbers = x.value ∷ l.numbers; rest = l.rest }) v (rw (t, g, p)) (rw (t, n, q)) (rw t (omega arith))

      of_number : (o : Option Number) → number_of d bs ≡ o → LineTrimmed d (c ∷ cs) w bs
      of_number None g = neither (rw (t, g)) (rw (t, number_take_none d w bs more g))
      of_number (Some x) g =
          let n = number_take_some d w bs more x g in
          of_line x n.0 g n.1 n.2 (ih n.0 x.rest (omega (arith, n.1)))

  byte_trimmed : (w : ℕ) (bs : List ℕ) → is_place c ≡ false → 1 + span d cs ≤ w → LineTrimmed d (c ∷ cs) w bs
  unfolding line_of after_byte span
  byte_trimmed zero bs t h = absurd (omega arith)
  byte_trimmed (suc w) [] t h = neither (rw t) (rw t)
  byte_trimmed (suc w) (b ∷ bs) t h =
      by_test (eqb b c) (λ e. of_line e (ih w bs (omega arith))) (λ e. neither (rw (t, e)) (rw (t, e)))
    where
      of_line : eqb b c ≡ true → LineTrimmed d cs w bs → LineTrimmed d (c ∷ cs) (suc w) (b ∷ bs)
      of_line e (neither p q) = neither (rw (t, e, p)) (rw (t, e, q))
      of_line e (both l v p q r) = both l v (rw (t, e, p)) (rw (t, e, q)) (rw t (omega arith))

pub line_trimmed : (d : ℕ) (form : List ℕ) (w : ℕ) (bs : List ℕ) → parted form ≡ true → span d form ≤ w → LineTrimmed d form w bs
unfolding parted span line_of
line_trimmed d [] w bs p h = both (record { numbers = []; rest = bs }) w refl refl (omega arith)
line_trimmed d (c ∷ cs) w bs p h =
    let p' = simp tests at p in
    let ih : (u : ℕ) (ds : List ℕ) → span d cs ≤ u → LineTrimmed d cs u ds = λ u ds m. line_trimmed d cs u ds p'.1 m in
    by_test (is_place c)
    (λ t.
    let s = span_plain d cs (implied (is_place c) (starts_plain cs) p'.0 t) in
    let k : d + span d cs ≤ w = rw t at h in
    place_trimmed d c cs ih w bs t (omega arith) k)
    (λ t. byte_trimmed d c cs ih w bs t (rw t at h))

-- whether bytes follow, one byte shows
pub rest_alike : (w : ℕ) (bs : List ℕ) → 1 ≤ w → ltb 0 (length (take w bs)) ≡ ltb 0 (length bs)
rest_alike zero bs h = absurd (omega arith)
rest_alike (suc w) [] h = refl
rest_alike (suc w) (b ∷ bs) h = rw (lt-ltb 0 (suc (length (take w bs))) (omega arith), lt-ltb 0 (suc (length bs)) (omega arith))

-- ---- refused alike, or taken alike

-- what w bytes give and what all of them give, where at most j are read: a refusal by the same number, or the same thing with the bytes after it
-- trimmed
pub data Alike {A : Type 0} (trim : ℕ → A → A) (w j : ℕ) (o o' : Outcome A) : Type 0 where
  refused_alike : (k : ℕ) → o ≡ refused k → o' ≡ refused k → Alike trim w j o o'
  taken_alike : (a : A) (v : ℕ) → o ≡ taken (trim v a) → o' ≡ taken a → w ≤ v + j → Alike trim w j o o'

-- then go on with what was taken: at most k more
pub alike_then : {A B : Type 0} {trim : ℕ → A → A} {trim' : ℕ → B → B} {w i j : ℕ} {o o' : Outcome A} (k : ℕ) (f : A → Outcome B) → i + k ≤ j →
    Alike trim w i o o' → ((a : A) (v : ℕ) → w ≤ v + i → Alike trim' v k (f (trim v a)) (f a)) → Alike trim' w j (◌>>=◌ o f) (◌>>=◌ o' f)
unfolding ◌>>=◌
alike_then k f le (refused_alike m p q) next = refused_alike m (rw p) (rw q)
alike_then {trim = trim} {trim'} {w} {i} {j} {o} {o'} k f le (taken_alike a v p q h) next = go (next a v h)
  where
    go : Alike trim' v k (f (trim v a)) (f a) → Alike trim' w j (◌>>=◌ o f) (◌>>=◌ o' f)
    go (refused_alike m r s) = refused_alike m (rw p r) (rw q s)
    go (taken_alike b u r s m) = taken_alike b u (rw p r) (rw q s) (omega arith)

-- or with what is the same however far the bytes are trimmed
pub alike_same : {A B : Type 0} {trim : ℕ → A → A} {w i : ℕ} {o o' : Outcome A} (f : A → Outcome B) →
    Alike trim w i o o' → ((a : A) (v : ℕ) → o' ≡ taken a → w ≤ v + i → f (trim v a) ≡ f a) → ◌>>=◌ o f ≡ ◌>>=◌ o' f
unfolding ◌>>=◌
alike_same f (refused_alike m p q) same = rw (p, q)
alike_same f (taken_alike a v p q h) same = rw (p, q) (same a v q h)

-- a line with the bytes after it trimmed
abbrev pub trim_line : ℕ → Line → Line
trim_line v l = record { numbers = l.numbers; rest = take v l.rest }

module _ (number d : ℕ) (form : List ℕ) (w : ℕ) (bs : List ℕ) (p : parted form ≡ true) (h : span d form ≤ w) where
  -- the line that is due
  pub line_alike : Alike trim_line w (span d form) (line_due number d form (take w bs)) (line_due number d form bs)
  unfolding line_due line_or
  line_alike = go (line_trimmed d form w bs p h)
    where
      go : LineTrimmed d form w bs → Alike trim_line w (span d form) (line_or number (line_of d form (take w bs))) (line_or number (line_of d form bs))
      go (neither e f) = refused_alike number (rw f) (rw e)
      go (both l v e f r) = taken_alike l v (rw f) (rw e) r

  -- and judged, by causes that do not go by the bytes after it
  pub judged_alike : {A : Type 0} (trim : ℕ → A → A) (cs : Line → List Cause) (f : Line → A) → ((l : Line) (v : ℕ) → cs (trim_line v l) ≡ cs l) →
      ((l : Line) (v : ℕ) → f (trim_line v l) ≡ trim v (f l)) →
      Alike trim w (span d form)
      (do
        l ← line_due number d form (take w bs)
        judge (cs l)
        taken (f l))
      (do
        l ← line_due number d form bs
        judge (cs l)
        taken (f l))
  unfolding judge passed ◌>>◌
  judged_alike {A} trim cs f same_causes same =
      alike_then 0 _ (omega arith) line_alike (λ l v m. rw (same_causes l v, same l v) (go (f l) v (refusal (cs l))))
    where
      go : (x : A) (v k : ℕ) → Alike trim v 0 (◌>>◌ (passed k) (taken (trim v x))) (◌>>◌ (passed k) (taken x))
      go x v zero = taken_alike x v refl refl (omega arith)
      go x v (suc k) = refused_alike (suc k) refl refl
