-- What follows where a line is not refused, and by which numbers it is.
--   is_file_number, number_range the refusal numbers of a pair file: none is 0, 12 or 13
--   head_given, pair_given       those of its lines
--   head_taken                   the number of the first or second line
--   PairTaken, pair_taken        a pair line
--   taken_new                    its pair is new
--   modules_unmet, pairs_unmet   N and M are in their ranges
-- Assumes nothing.
use mathlib.Core.Path.{◌≡◌, refl, sym, ap, ◌∙◌}
use mathlib.Core.Bool.{Bool, true, false, ◌||◌}
use mathlib.Core.Logic.{⊎_elim}
use mathlib.Core.List.{List, [], ◌∷◌, ◌++◌}
use Rattle.std.proofs.Common.{Some}
use Prim.Native.Nat.{ℕ, ◌≤◌}
use native.Mathlib.Omega.{arith}
use borrow.Author.Tests.{ltb-false}
use lib.Dec.{ltb, eqb}
use Rattle.theory.specs.Basics.{all}
use Rattle.theory.specs.Lists.{Pair}
use Rattle.theory.specs.Refusals.{Cause, cause, refusal}
use Rattle.theory.proofs.Tests.{tests, or_cases, by_test}
use Rattle.pairs.specs.Held.{is_held, smaller_first_pair, stops_of}
use Rattle.pairs.specs.Causes.{pair_causes, count_causes}
use Rattle.pairs.proofs.Causes.{refusal_split, pair_then, count_then}
use Rattle.pairs.proofs.Ends.{stops_held}
use Rattle.lines.specs.Text.{between}
use Rattle.lines.specs.Lines.{Line, first, second, third, line_of}
use Rattle.lines.specs.Outcomes.{taken, line_due}
use Rattle.pairfile.specs.File.{pair_form, head_line, modules_causes, pairs_causes, pair_line_causes, Named, pair_line}
use Rattle.lines.proofs.Taken.{taken_same, line_passed, Given, given_taken, given_bind, given_judge, given_line}

-- the refusal numbers of a pair file: 1 to 6, 10, 11 and 18
unfoldable pub is_file_number : ℕ → Bool
is_file_number k = between 1 6 k || (between 10 11 k || eqb k 18)

-- none is 0, 12 or 13
pub number_range : (k : ℕ) → is_file_number k ≡ true → (1 ≤ k) × (k ≡ 12 → ⊥) × (k ≡ 13 → ⊥)
unfolding is_file_number between
number_range k e =
    ⊎_elim (λ t. let t' = simp tests at t in (omega arith, (λ z. omega arith), λ z. omega arith))
    (λ u. ⊎_elim (λ t. let t' = simp tests at t in (omega arith, (λ z. omega arith), λ z. omega arith))
    (λ t. let t' = simp tests at t in (omega arith, (λ z. omega arith), λ z. omega arith))
    (or_cases (between 10 11 k) (eqb k 18) u))
    (or_cases (between 1 6 k) (between 10 11 k || eqb k 18) e)

-- the first line and the second
pub head_given : (form bs : List ℕ) (causes : ℕ → List Cause) → ((n : ℕ) → all (λ c. is_file_number c.number) (causes n) ≡ true) →
    Given is_file_number (head_line form causes bs)
unfolding head_line is_file_number between
head_given form bs causes h =
    given_bind (line_due 1 4 form bs) _ (given_line 1 4 form bs refl)
    (λ l. given_judge (causes (first l)) (taken l) (h (first l)) (given_taken l))

-- a pair line
pub pair_given : (n : ℕ) (held : List Pair) (bs : List ℕ) → Given is_file_number (pair_line n held bs)
unfolding pair_line is_file_number between
pair_given n held bs =
    given_bind (line_due 1 4 pair_form bs) _ (given_line 1 4 pair_form bs refl)
    (λ l. given_judge (pair_line_causes n held (first l) (second l) (third l)) _
    (unfold pair_line_causes pair_causes count_causes cause all is_file_number between in refl) (given_taken _))

-- the first line or the second: its form and its number
pub head_taken : (form bs : List ℕ) (causes : ℕ → List Cause) (l : Line) → head_line form causes bs ≡ taken l →
    (line_of 4 form bs ≡ Some l) × (refusal (causes (first l)) ≡ 0)
unfolding head_line
head_taken form bs causes l e =
    let p = line_passed 1 4 form bs (λ k. causes (first k)) taken l e in
    let s = taken_same p.then in
    (p.found ∙ ap Some s, ap (λ (k : Line). refusal (causes (first k))) (sym s) ∙ p.unmet)

-- a pair line that is not refused: the three numbers on it, and the pair is new
pub record PairTaken (n : ℕ) (held : List Pair) (bs : List ℕ) (x : Named) : Type 0 where
  pub line : Line
  pub found : line_of 4 pair_form bs ≡ Some line
  pub fit : refusal (pair_causes 0 n (first line) (second line)) ≡ 0
  pub count : refusal (count_causes (third line)) ≡ 0
  pub new : is_held (smaller_first_pair (first line) (second line)) held ≡ false
  pub pair : x.pair ≡ stops_of (first line) (second line) (third line)
  pub rest : x.rest ≡ line.rest

-- the causes of a pair line, none of which is met
causes_unmet : (n : ℕ) (held : List Pair) (a b w : ℕ) → refusal (pair_line_causes n held a b w) ≡ 0 →
    (refusal (pair_causes 0 n a b) ≡ 0) × (refusal (count_causes w) ≡ 0) × (is_held (smaller_first_pair a b) held ≡ false)
unfolding pair_line_causes cause refusal
causes_unmet n held a b w e =
    let last = cause 10 (is_held (smaller_first_pair a b) held) ∷ [] in
    let fit = refusal_split (pair_causes 0 n a b) (count_causes w ++ last) e in
    let e' : refusal (count_causes w ++ last) ≡ 0 = sym (pair_then 0 n a b fit (count_causes w ++ last)) ∙ e in
    let count = refusal_split (count_causes w) last e' in
    by_test (is_held (smaller_first_pair a b) held)
    (λ t. absurd (omega (arith, rw t at (sym (count_then w count last) ∙ e'))))
    (λ t. (fit, count, t))

-- what is known of a pair line that is taken
pub pair_taken : (n : ℕ) (held : List Pair) (bs : List ℕ) (x : Named) → pair_line n held bs ≡ taken x → PairTaken n held bs x
unfolding pair_line
pair_taken n held bs x e =
    let named : Line → Named = λ k. record { pair = stops_of (first k) (second k) (third k); rest = k.rest } in
    let p = line_passed 1 4 pair_form bs (λ k. pair_line_causes n held (first k) (second k) (third k)) (λ k. taken (named k)) x e in
    let l = p.line in
    let s : x ≡ named l = sym (taken_same p.then) in
    let u = causes_unmet n held (first l) (second l) (third l) p.unmet in
    record {
      line = l;
      found = p.found;
      fit = u.0;
      count = u.1;
      new = u.2;
      pair = ap (λ (y : Named). y.pair) s;
      rest = ap (λ (y : Named). y.rest) s;
    }

-- its pair is new
pub taken_new : (n : ℕ) (held : List Pair) (bs : List ℕ) (x : Named) → PairTaken n held bs x → is_held x.pair held ≡ false
taken_new n held bs x t = rw t.pair (stops_held (first t.line) (second t.line) (third t.line) held ∙ t.new)

-- N is 1 to 512
pub modules_unmet : (n : ℕ) → refusal (modules_causes n) ≡ 0 → (1 ≤ n) × (n ≤ 512)
unfolding modules_causes cause refusal between
modules_unmet n e =
    by_test (between 1 512 n) (λ t. simp tests at t) (λ t. absurd (omega (arith, rw t at e)))

-- M is at most 4,096 and the list has room
pub pairs_unmet : (room m : ℕ) → refusal (pairs_causes room m) ≡ 0 → (m ≤ 4096) × (m ≤ room)
unfolding pairs_causes cause refusal
pairs_unmet room m e =
    by_test (ltb 4096 m) (λ t. absurd (omega (arith, rw t at e)))
    (λ t. by_test (ltb room m) (λ u. absurd (omega (arith, rw (t, u) at e))) (λ u. (ltb-false 4096 m t, ltb-false room m u)))
