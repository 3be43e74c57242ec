-- From the records to the words: what check and surplus say of the words is what they say of the lent records.
--   check_few                 the number of a sheet is 7, 8, 9 or none
--   check_refused, check_done, surplus_refused, surplus_done    the calls' promises, where 13 or 12 refuses and where neither does
-- Assumes nothing.
use mathlib.Core.Path.{◌≡◌, refl, sym, ap, ◌∙◌}
use mathlib.Core.Bool.{Bool, true, false, not, cond}
use mathlib.Core.List.{List}
use Prim.Native.Nat.{ℕ, ◌<◌}
use native.Mathlib.Omega.{arith}
use lib.ListN.{length, take}
use Rattle.std.proofs.Common.{Err, pos}
use Rattle.theory.specs.Lists.{Pairs}
use Rattle.theory.specs.Groups.{is_group, size}
use Rattle.theory.specs.Splits.{shares_good}
use Rattle.theory.specs.Refusals.{Cause, cause, refusal, if_taken}
use Rattle.theory.specs.Pairless.{no_pair, judged_causes, judged_number}
use Rattle.theory.proofs.Refusals.{if_taken_old}
use Rattle.theory.proofs.Pairless.{judged_turned, judged_served}
use Rattle.theory.proofs.Tests.{by_test}
use Rattle.refusals.specs.declared.Refusal.{Refusal}
use Rattle.refusals.specs.Numbers.{number_of}
use Rattle.lines.proofs.Found.{numbered}
use Rattle.theory.specs.Check.{loads_good, check_causes, check_number}
use Rattle.theory.specs.Surplus.{surplus_causes, surplus_number}
use Rattle.verify.specs.declared.Verdict.{Verdict}
use Rattle.verify.specs.declared.Difference.{Difference}
use Rattle.verify.specs.Answers.{refused_by, difference_of, CheckSays, SurplusSays}
use Rattle.records.specs.declared.Pair.{Pair}
use Rattle.records.specs.declared.Head.{Head}
use Rattle.records.specs.Records.{held_list, agrees}
use Rattle.on_words.specs.declared.buffers.Buffer.{Buffer}
use Rattle.on_words.specs.Buffers.{any_short}
use Rattle.on_words.specs.Gate.{gate_number}
use Rattle.on_words.specs.Judging.{check_buffers, surplus_buffers, CheckOn, SurplusOn}
use Rattle.kandurzo.specs.Laying.{Laid}
use Rattle.kandurzo.specs.Judging.{check_call_causes, CheckCall, surplus_call_causes, SurplusCall}
use Rattle.on_words.proofs.Filling.{work_zeros, left_turned}
use Rattle.kandurzo.proofs.Gates.{gate_left, gate_first, gate_then}
use Rattle.kandurzo.proofs.Taken.{length_held}

-- 7, 8, 9 or none
pub check_few : (g : Pairs) (s xs : List ℕ) → check_number g s xs < 10
unfolding check_number check_causes refusal cause
check_few g s xs = go (not (is_group g s)) (not (shares_good (size s) g.pairs xs)) (not (loads_good g s xs))
  where
    go : (a b c : Bool) → cond a 7 (cond b 8 (cond c 9 0)) < 10
    go true b c = omega arith
    go false true c = omega arith
    go false false true = omega arith
    go false false false = omega arith

-- ---- check

module _ (h : Head) (ps : List Pair) (members shares work : List ℕ)
    {lent : List Buffer} (is : lent ≡ check_buffers h (length members) (length shares) (length work)) where
  abbrev short : Bool
  short = any_short lent

  rest : List Cause
  rest = judged_causes (held_list h ps) (take h.n members) (take h.m shares)

  pub check_refused : (e : Refusal) → number_of e ≡ gate_number (agrees h ps) short → CheckCall h ps members shares work (refused_by (number_of e)) work
  unfolding check_call_causes rest
  check_refused e f =
      record {
        number = rw is at (gate_first (agrees h ps) short rest f (numbered e));
        p = sym (if_taken_old (number_of e) _ 0 (numbered e));
        q = sym (if_taken_old (number_of e) _ 0 (numbered e));
        optimal = λ z. absurd (numbered e z);
        left = gate_left (agrees h ps) short work f (numbered e);
      }

  module _ (f : 0 ≡ gate_number (agrees h ps) short) {words : List ℕ} (laid : Laid h ps work words) {v : Verdict} {work' : List ℕ}
      (on : CheckOn h members shares words v work') where
    m_held : length (held_list h ps).pairs ≡ h.m
    m_held = length_held h ps laid.agreed

    -- the causes behind 13 and 12 decide
    number_is : {k : ℕ} → v.number ≡ k → refusal rest ≡ k → v.number ≡ refusal (check_call_causes h ps members shares work)
    unfolding check_call_causes rest
    number_is e d = e ∙ sym d ∙ sym (rw is at (gate_then (agrees h ps) short rest (sym f)))

    -- of a list without pairs
    done_turned : no_pair h.m ≡ true → CheckCall h ps members shares work v work'
    unfolding if_taken rest judged_number
    done_turned t =
        let is_20 = on.pairless t in
        let number : v.number ≡ 20 = ap (λ (u : Verdict). u.number) is_20 in
        record {
          number = number_is number (judged_turned _ _ _ (rw m_held t));
          p = rw is_20 refl;
          q = rw is_20 refl;
          optimal = λ z. absurd (omega (arith, z, number));
          left = on.left ∙ laid.left ∙ sym (left_turned work number);
        }

    -- and of one with a pair
    done_judged : no_pair h.m ≡ false → CheckCall h ps members shares work v work'
    unfolding check_number rest judged_number
    done_judged t =
        let says : CheckSays (held_list h ps) (take h.n members) (take h.m shares) v = rw laid.list at (on.judged t) in
        let low = check_few (held_list h ps) (take h.n members) (take h.m shares) in
        record {
          number = number_is says.number (judged_served _ _ _ (rw m_held t));
          p = rw says.number says.p;
          q = rw says.number says.q;
          optimal = says.optimal;
          left = on.left ∙ laid.left ∙ sym (work_zeros v.number work (λ x. omega (arith, says.number, low)) (λ x. omega (arith, says.number, low)));
        }

    pub check_done : CheckCall h ps members shares work v work'
    check_done = by_test (no_pair h.m) done_turned done_judged

-- ---- surplus

module _ (h : Head) (ps : List Pair) (t s : List ℕ)
    {lent : List Buffer} (is : lent ≡ surplus_buffers h (length t) (length s)) where
  abbrev too_short : Bool
  too_short = any_short lent

  rest' : List Cause
  rest' = surplus_causes (held_list h ps) (take h.n t) (take h.n s)

  pub surplus_refused : (e : Refusal) → number_of e ≡ gate_number (agrees h ps) too_short → SurplusCall h ps t s (difference_of (Err e))
  unfolding surplus_call_causes rest'
  surplus_refused e f =
      record {
        number = rw is at (gate_first (agrees h ps) too_short rest' f (numbered e));
        value = sym (if_taken_old (number_of e) _ (pos 0) (numbered e));
        signs = λ z. absurd (numbered e z);
      }

  pub surplus_done : 0 ≡ gate_number (agrees h ps) too_short → {work words : List ℕ} → Laid h ps work words → {d : Difference} →
      SurplusOn h t s words d → SurplusCall h ps t s d
  unfolding surplus_number surplus_call_causes rest'
  surplus_done f laid {d} on =
      let says : SurplusSays (held_list h ps) (take h.n t) (take h.n s) d = rw laid.list at on in
      record {
        number = says.number ∙ sym (rw is at (gate_then (agrees h ps) too_short rest' (sym f)));
        value = rw says.number says.value;
        signs = says.signs;
      }
