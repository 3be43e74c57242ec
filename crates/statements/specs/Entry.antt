-- Document 03's specs/Entry.antt, letter for letter: what peel, solve, check and surplus answer and leave, over a list lent as two numbers for
-- each pair. What it says of lists, groups and splits stands in theory's Plain, list_refusal and check_refusal too. Its Checked is our Verdict,
-- and the field `surplus` of its Difference our `value`. proofs/Says.antt shows that the contracts of kandurzo's calls give these statements.
--   in_front, kept_or, work_left                 the lent buffers
--   peel_refusal, PeelSays                      peel: 13, 12
--   ratio, solve_refusal, FoundAs, NoSplit     solve: 13, 12, 15
--   Turned, SolveAs, SolveSays                 solve's answers
--   CheckSays                                   check: 13, 12, 7, 8, 9
--   surplus_refusal, Differs, SurplusSays       surplus: 13, 12, 7
-- Assumes nothing: these are definitions.
use Rattle.std.specs.Prelude.{◌≡◌, true, ◌&&◌, ◌||◌, not, cond, List, ◌++◌, ◌⊎◌, ℕ, zero, suc, ◌≤◌, ltb, eqb, length, take, drop, replicate, pos, Float}
use Rattle.std.specs.Float.{binary64}
use Rattle.std.specs.Float.Ieee.{div, of_int}
use Rattle.theory.specs.Groups.{size}
use Rattle.theory.specs.Plain.{Pairs, inside, Found, is_split, greatest_load, core, core_numbers, leaving, outside_good, rounded_up}
use Rattle.theory.specs.Plain.{list_in, list_refusal, members_refusal, check_refusal, surplus}
use Rattle.on_words.specs.declared.Solved.{Solved}
use Rattle.verify.specs.declared.Verdict.{Verdict}
use Rattle.verify.specs.declared.Difference.{Difference}

-- document 03's buffer with new entries in front
unfoldable pub in_front : (new old : List ℕ) → List ℕ
in_front new old = new ++ drop (length new) old

-- document 03's answer buffer: as before beside a refusal
unfoldable pub kept_or : (number : ℕ) → (new old : List ℕ) → List ℕ
kept_or n x o = cond (eqb n 0) (in_front x o) o

-- document 03's work buffer: untouched after 12 or 13, else 16,384 zeros
unfoldable pub work_left : (number : ℕ) → List ℕ → List ℕ
work_left n w = cond (eqb n 12 || eqb n 13) w (in_front (replicate 16384 0) w)

-- document 03's number of peel, with the lengths of its buffers: 13, 12
unfoldable pub peel_refusal : (n m : ℕ) → (xs : List ℕ) → (order cores work : ℕ) → ℕ
peel_refusal n m xs o c w =
    cond (eqb (list_refusal n m xs) 0) (cond (ltb o n || (ltb c n || ltb w 16384)) 12 0) 13

-- document 03's statement of peel
unfoldable pub PeelSays : (n m : ℕ) → (xs : List ℕ) → (r : ℕ) → (o o_now c c_now w w_now : List ℕ) → Type 0
PeelSays n m xs r o x c y w z =
    let f = peel_refusal n m xs (length o) (length c) (length w) in
    (r ≡ f) × (x ≡ kept_or f (leaving (list_in n m xs)) o) × (y ≡ kept_or f (core_numbers (list_in n m xs)) c) × (z ≡ work_left f w)

-- document 03's ratio as one float
unfoldable pub ratio : (p q : ℕ) → Float
ratio p q = div binary64 (of_int binary64 (pos p)) (of_int binary64 (pos q))

-- document 03's first numbers of solve, with the lengths of its buffers: 13, 12
unfoldable pub solve_refusal : (n m : ℕ) → (xs : List ℕ) → (members cores shares work : ℕ) → ℕ
solve_refusal n m xs a c s w =
    cond (eqb (list_refusal n m xs) 0) (cond (ltb a n || (ltb c n || (ltb s m || ltb w 16384))) 12 0) 13

-- document 03's answer of solve: the group s and the shares ys are handed out
unfoldable pub FoundAs : Pairs → (s shares : List ℕ) → Solved → (a a_now c c_now d d_now : List ℕ) → Type 0
FoundAs g s ys r a x c y d z =
    let p = inside g s in
    let q = size s in
    (is_split g q ys ≡ true) × (greatest_load g q ys ≤ p) × (outside_good g (rounded_up p q) q g.pairs ys ≡ true)
    × (r.number ≡ 0) × (r.p ≡ p) × (r.q ≡ q) × (r.k ≡ rounded_up p q) × (r.coresize ≡ size (core g (rounded_up p q)))
    × (r.ratio ≡ ratio p q) × (x ≡ in_front s a) × (y ≡ in_front (core_numbers g) c) × (z ≡ in_front ys d)

-- document 03's condition of 15
unfoldable pub NoSplit : Pairs → List ℕ → Type 0
NoSplit g s = (ys : List ℕ) → is_split g (size s) ys ≡ true → greatest_load g (size s) ys ≤ inside g s → ⊥

-- document 03's refusal of solve: zeros beside the number, and the buffers as before
unfoldable pub Turned : (number : ℕ) → Solved → (a a_now c c_now d d_now : List ℕ) → Type 0
Turned n r a x c y d z =
    (r.number ≡ n) × (r.p ≡ 0) × (r.q ≡ 0) × (r.k ≡ 0) × (r.coresize ≡ 0) × (r.ratio ≡ ratio 0 1) × (x ≡ a) × (y ≡ c) × (z ≡ d)

-- document 03's answer of solve, once 13 and 12 are decided
unfoldable pub SolveAs : (number : ℕ) → Pairs → Solved → (a a_now c c_now d d_now : List ℕ) → Type 0
SolveAs zero g r a x c y d z =
    (s : List ℕ) × Found g s × (((ys : List ℕ) × FoundAs g s ys r a x c y d z) ⊎ (NoSplit g s × Turned 15 r a x c y d z))
SolveAs (suc n) g r a x c y d z = Turned (suc n) r a x c y d z

-- document 03's statement of solve
unfoldable pub SolveSays : (n m : ℕ) → (xs : List ℕ) → Solved → (a a_now c c_now d d_now w w_now : List ℕ) → Type 0
SolveSays n m xs r a x c y d z w v =
    let f = solve_refusal n m xs (length a) (length c) (length d) (length w) in
    SolveAs f (list_in n m xs) r a x c y d z × (v ≡ work_left f w)

-- document 03's statement of check
unfoldable pub CheckSays : (n m : ℕ) → (xs a d : List ℕ) → Verdict → (w w_now : List ℕ) → Type 0
CheckSays n m xs a d r w v =
    let f = check_refusal n m xs a d (length w) in
    (r.number ≡ f) × (r.p ≡ cond (eqb f 0) (inside (list_in n m xs) (take n a)) 0) × (r.q ≡ cond (eqb f 0) (size (take n a)) 0)
    × (v ≡ work_left f w)

-- document 03's number of surplus: 13, 12, 7
unfoldable pub surplus_refusal : (n m : ℕ) → (xs t s : List ℕ) → ℕ
surplus_refusal n m xs t s =
    cond (not (eqb (list_refusal n m xs) 0)) 13
    (cond (ltb (length t) n || ltb (length s) n) 12
    (cond (eqb (members_refusal n t) 0 && eqb (members_refusal n s) 0) 0 7))

-- document 03's answer of surplus, by its number
unfoldable pub Differs : (number : ℕ) → Pairs → (t s : List ℕ) → Difference → Type 0
Differs zero g t s r = (r.number ≡ 0) × (r.value ≡ surplus g t s)
Differs (suc n) g t s r = (r.number ≡ suc n) × (r.value ≡ pos 0)

-- document 03's statement of surplus
unfoldable pub SurplusSays : (n m : ℕ) → (xs t s : List ℕ) → Difference → Type 0
SurplusSays n m xs t s r = Differs (surplus_refusal n m xs t s) (list_in n m xs) (take n t) (take n s) r
