-- Solve and check of the list in the words, by what is said of its M: a refusal is 20, of a list without pairs; where none is given there is a pair.
--   turned                        20, and M is 0
--   declines                      a refusal hands nothing out
--   check_turned, check_served    check
--   solve_turned, solve_served    solve
-- Assumes nothing.
use mathlib.Core.Path.{◌≡◌, refl, sym, ap, ◌∙◌}
use mathlib.Core.Bool.{false}
use mathlib.Core.List.{List}
use Prim.Native.Nat.{ℕ}
use lib.ListN.{take}
use Rattle.std.proofs.Common.{Ok, Err}
use Rattle.theory.specs.Pairless.{no_pair, group_number}
use Rattle.theory.specs.Words.{laid_list, HoldsList}
use Rattle.theory.proofs.Pairless.{pairless, paired, served_some, turned_none, zero_or_twenty}
use Rattle.theory.proofs.Tests.{no}
use Rattle.refusals.specs.declared.Refusal.{Refusal}
use Rattle.refusals.specs.Numbers.{number_of}
use Rattle.lines.proofs.Found.{numbered}
use Rattle.verify.specs.declared.Verdict.{Verdict}
use Rattle.verify.specs.Answers.{refused_by, verdict_of, CheckSays}
use Rattle.densest.specs.declared.Solution.{Solution}
use Rattle.densest.specs.Solve.{Solves}
use Rattle.records.specs.declared.Head.{Head}
use Rattle.on_words.specs.Buffers.{cleared}
use Rattle.on_words.specs.Judging.{CheckOn}
use Rattle.on_words.specs.Solving.{declined, solved_of, Declined, SolveOn}
use Rattle.on_words.proofs.Sheets.{handed}

-- beside a refusal
pub declines : (members cores shares : List ℕ) (e : Refusal) → Declined members cores shares (solved_of (Err e)) members cores shares
unfolding declined
declines members cores shares e = record { answer = refl; members_are = refl; cores_are = refl; shares_are = refl }

module _ (h : Head) where
  pub turned : (e : Refusal) → number_of e ≡ group_number h.m → (number_of e ≡ 20) × (h.m ≡ 0)
  turned e n = let t = zero_or_twenty h.m (sym n) (numbered e) in (t, turned_none h.m (sym n ∙ t))

  served : 0 ≡ group_number h.m → no_pair h.m ≡ false
  served n = paired h.m (served_some h.m (sym n))

  module _ (members shares : List ℕ) {work work' : List ℕ} (left : work' ≡ cleared work) where
    pub check_turned : (e : Refusal) → number_of e ≡ group_number h.m → CheckOn h members shares work (verdict_of (Err e)) work'
    check_turned e n =
        let t = turned e n in
        record { pairless = λ _. ap refused_by t.0; judged = λ f. no (sym f ∙ pairless h.m t.1); left = left }

    pub check_served : 0 ≡ group_number h.m → {v : Verdict} → CheckSays (laid_list h.n h.m work) (take h.n members) (take h.m shares) v →
        CheckOn h members shares work v work'
    check_served n says = record { pairless = λ t. no (sym (served n) ∙ t); judged = λ _. says; left = left }

  module _ (members cores shares : List ℕ) {work work' : List ℕ} (left : work' ≡ cleared work) where
    pub solve_turned : (e : Refusal) → number_of e ≡ group_number h.m →
        SolveOn h members cores shares work (solved_of (Err e)) members cores shares work'
    unfolding declined
    solve_turned e n =
        record {
          number = n;
          handed = λ z. absurd (numbered e z);
          refused = λ _. declines members cores shares e;
          left = left;
        }

    pub solve_served : 0 ≡ group_number h.m → HoldsList h.n h.m work → {members' cores' shares' : List ℕ} {s : Solution} →
        Solves (laid_list h.n h.m work) members cores shares members' cores' shares' s →
        SolveOn h members cores shares work (solved_of (Ok s)) members' cores' shares' work'
    solve_served n holds s =
        record { number = n; handed = λ _. handed _ holds.listed _ _ _ _ _ _ _ s; refused = λ f. absurd (f refl); left = left }
