-- A head and lent records whose first M counts are 1, and the same list lent as numbers, two for each pair.
--   records_lent          the first M records are document 03's
--   lent, list_lent       the list that head and records hold is document 03's
--   held_lent             where they agree it is document 03's held list
--   refusal_lent          13 comes exactly where document 03's does
-- Assumes nothing.
use mathlib.Core.Path.{◌≡◌, refl, sym, ap, ◌∙◌}
use mathlib.Core.Bool.{Bool, true, false, ◌&&◌, cond}
use mathlib.Core.List.{List, [], ◌∷◌}
use Prim.Native.Nat.{ℕ, zero, suc, ◌*◌, ◌≤◌}
use native.Mathlib.Omega.{arith}
use lib.Dec.{leb, eqb}
use lib.ListN.{length, take}
use Rattle.theory.specs.Basics.{all}
use Rattle.theory.specs.Lists as Lists
use Rattle.theory.specs.Lists.{pair, is_list}
use Rattle.theory.specs.Plain as plain
use Rattle.theory.specs.Plain.{ones, weighted}
use Rattle.theory.proofs.Tests.{tests, no, fails}
use Rattle.theory.proofs.Plain.{is_list_plain}
use Rattle.records.specs.declared.Pair.{Pair}
use Rattle.records.specs.declared.Head.{Head}
use Rattle.records.specs.Records.{as_pair, as_pairs, held_list, agrees, ends_of}
use Rattle.records.proofs.Copies.{length_ends_of}
use Rattle.records.proofs.Scans.{agrees_count}
use Rattle.kandurzo.proofs.Taken.{held_few, held_is_list}
use Rattle.statements.specs.Promise.{Ones}

-- two numbers a record: the first m of them are the first m records
pub records_lent : (m : ℕ) (ps : List Pair) → m ≤ length ps → all (λ p. eqb p.w 1) (take m ps) ≡ true →
    ones (plain.records_in m (ends_of ps)) ≡ as_pairs (take m ps)
unfolding ones pair as_pairs as_pair ends_of plain.records_in plain.pair all
records_lent zero ps l once = refl
records_lent (suc m) [] l once = absurd (omega arith)
records_lent (suc m) (p ∷ ps) l once =
    let o = simp tests at once in
    let one : p.w ≡ 1 = o.0 in
    rw one (ap {B = List Lists.Pair} (λ (qs : List Lists.Pair). pair p.a p.b ∷ qs) (records_lent m ps (omega arith) o.1))

-- the list as document 03 reads it
abbrev pub lent : Head → List Pair → plain.Pairs
lent h ps = plain.list_in h.n h.m (ends_of ps)

module _ (h : Head) (ps : List Pair) (once : Ones h ps) where
  -- with every weight 1 it is the list that they hold
  pub list_lent : h.m ≤ length ps → weighted (lent h ps) ≡ held_list h ps
  unfolding weighted held_list plain.list_in Ones
  list_lent l = ap {B = Lists.Pairs} (λ (qs : List Lists.Pair). record { n = h.n; pairs = qs }) (records_lent h.m ps l once)

  -- where head and records agree, document 03 takes the list
  pub held_lent : agrees h ps ≡ true → plain.is_list (lent h ps) ≡ true
  held_lent e = sym (is_list_plain (lent h ps)) ∙ rw (list_lent (held_few h ps e)) (held_is_list h ps e)

  -- document 03's test for 13
  abbrev accepts : Bool
  accepts = (leb h.m 4096 && leb (2 * h.m) (length (ends_of ps))) && plain.is_list (lent h ps)

  accepts_lent : agrees h ps ≡ true → accepts ≡ true
  accepts_lent e =
      simp tests
      (((agrees_count h ps e).1, omega (arith, length_ends_of ps, held_few h ps e)), held_lent e)

  lent_accepts : accepts ≡ true → agrees h ps ≡ true
  unfolding agrees
  lent_accepts e =
      let e' = simp tests at e in
      let l : h.m ≤ length ps = omega (arith, length_ends_of ps, e'.0.1) in
      simp tests (l, rw (← (list_lent l)) (is_list_plain (lent h ps) ∙ e'.1))

  -- 13 comes of head and records exactly where it comes of the numbers
  pub refusal_lent : plain.list_refusal h.n h.m (ends_of ps) ≡ cond (agrees h ps) 0 13
  unfolding plain.list_refusal
  refusal_lent = ap {B = ℕ} (λ (t : Bool). cond t 0 13) (go (agrees h ps) refl)
    where
      go : (t : Bool) → agrees h ps ≡ t → accepts ≡ t
      go true e = accepts_lent e
      go false e = fails accepts (λ a. no (sym e ∙ lent_accepts a))
