-- What is printed of an audit.
--   ratio_small                            P and Q have at most seven digits
--   verdict_refused, verdict_accepted      its text
-- Assumes nothing.
use mathlib.Core.Path.{◌≡◌, refl, ap}
use Rattle.std.proofs.Common.{Ok, Err}
use mathlib.Core.List.{List, [], ◌∷◌}
use Prim.Native.Nat.{ℕ}
use native.Mathlib.Omega.{arith}
use Rattle.theory.specs.Basics.{all}
use Rattle.theory.proofs.Bounds.{size_bound}
use Rattle.theory.proofs.Tests.{tests}
use Rattle.lines.specs.Outcomes.{Outcome, refused, taken}
use Rattle.pairfile.proofs.Grouped.{group_listed}
use Rattle.refusals.specs.declared.Refusal.{Refusal}
use Rattle.refusals.specs.Numbers.{number_of}
use Rattle.numbers.specs.declared.Ratio.{Ratio}
use Rattle.verify.specs.declared.Verdict.{Verdict}
use Rattle.verify.specs.Answers.{refused_by, verdict_of as answered}
use Rattle.lines.proofs.Found.{numbered}
use Rattle.sheetfile.specs.Sheet.{Sheet}
use Rattle.sheetfile.specs.Writer.{seven_digits}
use Rattle.sheetfile.specs.Audit.{audit, verdict_of, Audits}
use Rattle.sheetfile.proofs.BestSheets.{best_writable}
use Rattle.texts.specs.Texts.{refusal_text, ratio_lines, audit_text}

-- a refusal
pub verdict_refused : {file sheet : List ℕ} (e : Refusal) → Audits file sheet (answered (Err e)) → refusal_text (number_of e) ≡ audit_text (audit file sheet)
unfolding verdict_of audit_text
verdict_refused {file} {sheet} e a = go (audit file sheet) a.verdict
  where
    go : (o : Outcome Sheet) → refused_by (number_of e) ≡ verdict_of o → refusal_text (number_of e) ≡ audit_text o
    go (refused k) h = ap (λ (v : Verdict). refusal_text v.number) h
    go (taken s) h = absurd (numbered e (ap (λ (v : Verdict). v.number) h))

-- an accepted sheet
module _ {file sheet : List ℕ} {r : Ratio} (a : Audits file sheet (answered (Ok r))) where
  module _ (s : Sheet) (e : audit file sheet ≡ taken s) where
    ratio_as : (r.p ≡ s.p) × (r.q ≡ s.q)
    unfolding verdict_of
    ratio_as = let v = rw e at a.verdict in (ap (λ (x : Verdict). x.p) v, ap (λ (x : Verdict). x.q) v)

    accepted_as : ratio_lines r.p r.q ≡ audit_text (audit file sheet)
    unfolding audit_text
    accepted_as = rw (e, ratio_as.0, ratio_as.1) refl

  pub verdict_accepted : ratio_lines r.p r.q ≡ audit_text (audit file sheet)
  verdict_accepted = let b = a.best refl in accepted_as b.0 b.1

  pub ratio_small : seven_digits (r.p ∷ r.q ∷ [])
  unfolding seven_digits all
  ratio_small =
      let b = a.best refl in
      let s : Sheet = b.0 in
      let c = b.2 in
      let same = ratio_as s b.1 in
      let w = best_writable file c.list s c.named c.optimal c.order c.core_size in
      let few = size_bound c.list s.members (group_listed file c.list c.named) w.group in
      simp tests (omega (arith, same.0, w.head_digits.0), (omega (arith, same.1, w.members_size, few), refl))
