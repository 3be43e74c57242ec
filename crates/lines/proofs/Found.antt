-- What a Reader has found, and causes judged.
--   numbered                       a refusal's number is never 0
--   judge_refused, judged_by       the first cause that is met, as a number or a refusal
--   judge_passed                   no cause is met
--   line_has                       a line in as many numbers as its form has
--   handed_on, none_due            what `?` hands on, of a Result and of an Option that is due
-- Assumes nothing.
use Rattle.std.proofs.Common.{◌≡◌, refl, ap, ◌∙◌, ℕ, zero, suc, List, [], ◌∷◌, length, get_or, take, Option, Some, None, Result, Err, arith, rules}
use Rattle.std.specs.Option.{ok_or}
use Rattle.std.specs.Result.{IsErrAnd}
use Rattle.std.proofs.lemmas.Result.{err_from_is_err_and}
use Rattle.theory.specs.Basics.{table}
use Rattle.theory.specs.Refusals.{Cause, refusal}
use Rattle.refusals.specs.declared.Refusal.{Refusal}
use Rattle.refusals.specs.Numbers.{number_of as refusal_number}
use Rattle.lines.specs.Lines.{places, line_of}
use Rattle.lines.specs.Outcomes.{refused, taken, passed, judge}
use Rattle.lines.specs.Answers.{LineFound}

-- a refusal's number is never 0
pub numbered : (r : Refusal) → refusal_number r ≡ 0 → ⊥
numbered r e = search rules

passed_numbered : (k : ℕ) → (k ≡ 0 → ⊥) → passed k ≡ refused k
unfolding passed
passed_numbered zero h = absurd (h refl)
passed_numbered (suc k) h = refl

-- the first cause that is met
pub judge_refused : (cs : List Cause) → (refusal cs ≡ 0 → ⊥) → judge cs ≡ refused (refusal cs)
unfolding judge
judge_refused cs h = passed_numbered (refusal cs) h

-- as a refusal
pub judged_by : (r : Refusal) (cs : List Cause) → refusal_number r ≡ refusal cs → judge cs ≡ refused (refusal_number r)
judged_by r cs e = rw e (judge_refused cs (λ z. numbered r (e ∙ z)))

-- no cause is met
pub judge_passed : (cs : List Cause) → refusal cs ≡ 0 → judge cs ≡ taken tt
unfolding judge passed
judge_passed cs e = rw e

-- numbers one by one
each_number : (k : ℕ) (ns : List ℕ) → length ns ≡ k → take k ns ≡ table k (λ i. get_or ns i 0)
unfolding table
each_number zero ns e = refl
each_number (suc k) [] e = absurd (omega arith)
each_number (suc k) (n ∷ ns) e = ap (λ (ns : List ℕ). n ∷ ns) (each_number k ns (omega arith))

-- a line in as many numbers as its form has
pub line_has : {d : ℕ} {form bs ns left : List ℕ} → LineFound (places form) d form bs (Some ns) left →
    line_of d form bs ≡ Some (record { numbers = table (places form) (λ i. get_or ns i 0); rest = left })
line_has {form = form} {ns = ns} f = f.found ∙ rw (each_number (places form) ns f.padded.size)

-- what `?` hands on
pub handed_on : {B : Type 0} {x : Refusal} {r : Result B Refusal} → IsErrAnd r (λ y. y ≡ x) → r ≡ Err x
handed_on {r = r} h = let p = err_from_is_err_and r h in p.1 ∙ ap Err p.2

-- where nothing has been found, and a refusal stands for that
pub none_due : {A B : Type 0} {o : Option A} {e x : Refusal} {r : Result B Refusal} → IsErrAnd r (λ y. y ≡ x) → Err x ≡ ok_or o e → (r ≡ Err e) × (o ≡ None)
none_due {o = None} {e = e} {x = x} h d = let same : x ≡ e = cc in (handed_on h ∙ ap Err same, refl)
none_due {o = Some a} h d = cc
