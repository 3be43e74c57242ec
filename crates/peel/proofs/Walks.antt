-- The walk over a leaver's neighbours: those present are gathered, and lowered some at a time.
--   Lowering, lowering_start, lowering_end      all but some neighbours are passed: none at first, all in the end
--   lowering_enough, lowering_next              the neighbour at hand carries what its pair counts, and carries less
--   Gathering, gathering_start, gathering_end   those gathered so far are present, and not yet passed
--   gathering_fit, gathering_next               the neighbour at hand is a module, and is gathered where it is present
--   gathering_lowerable, gathering_flushed      those gathered carry what their pairs count, and carry less
-- Assumes nothing.
use Rattle.std.proofs.Common.{◌≡◌, ℕ, ◌+◌, ◌<◌, ◌≤◌, Bool, true, false, cond, List, [], ◌∷◌, ◌++◌, All, length, take, set}
use Rattle.std.proofs.Common.{refl, sym, ap, ◌∙◌, add-zero, arith}
use Rattle.std.proofs.lemmas.List.{length-set, append_assoc, take-set, take_more_set}
use Rattle.std.proofs.lemmas.List.Elements.{All-nil, All-head, All-tail, All-push}
use lib.Dec.{eqb}
use borrow.Author.Tests.{eqb-true, eq-eqb}
use Rattle.theory.proofs.Tests.{no, fails}
use Rattle.slots.specs.declared.neighbours.Neighbour.{Neighbour}
use Rattle.slots.proofs.Rows.{Fits}
use Rattle.ranking.specs.Ranking.{has, carries, Lowered}
use Rattle.peel.specs.Steps.{joined, IsPresent, LowerableBy, LoweredBy}

-- what two lists count together
joined_append : (xs ys : List Neighbour) (u : ℕ) → joined (xs ++ ys) u ≡ joined xs u + joined ys u
unfolding joined
joined_append [] ys u = omega arith
joined_append (x ∷ xs) ys u = omega (arith, joined_append xs ys u)

-- of the neighbours xs some are due: who is present carries less by what the others count
pub record Lowering (xs due : List Neighbour) (old new : List ℕ) : Type 0 where
  pub enough : (u : ℕ) → has old u ≡ true → joined xs u ≤ carries old u
  pub present : (u : ℕ) → has new u ≡ has old u
  pub carried : (u : ℕ) → has old u ≡ true → carries new u + joined xs u ≡ carries old u + joined due u

pub lowering_start : {xs : List Neighbour} {old : List ℕ} → LowerableBy xs old → Lowering xs xs old old
lowering_start o = record { enough = o.enough; present = λ u. refl; carried = λ u h. refl }

pub lowering_end : {xs due : List Neighbour} {old new : List ℕ} → Lowering xs due old new → due ≡ [] → LoweredBy xs old new
unfolding joined
lowering_end w e = let w' = rw e at w in record { present = w.present; carried = λ u h. omega (arith, w'.carried u h) }

-- one neighbour more is passed
module _ {xs due rest : List Neighbour} {x : Neighbour} {old new : List ℕ} (w : Lowering xs due old new) (e : due ≡ x ∷ rest) where
  at_hand : Lowering xs (x ∷ rest) old new
  at_hand = rw e at w

  pub lowering_enough : has new x.number ≡ true → x.weight ≤ carries new x.number
  unfolding joined
  lowering_enough h =
      let was : has old x.number ≡ true = sym (w.present x.number) ∙ h in
      omega (arith, at_hand.carried x.number was, w.enough x.number was, ap (λ (t : Bool). cond t x.weight 0) (eq-eqb x.number x.number refl))

  pub lowering_next : {after : List ℕ} → Lowered x.number x.weight new after → Lowering xs rest old after
  unfolding joined
  lowering_next l = record {
    enough = w.enough;
    present = λ u. l.present u ∙ w.present u;
    carried = λ u h. omega (arith, at_hand.carried u h, l.carried u (w.present u ∙ h));
  }

-- of the neighbours xs some are left, and the first of the buffer are gathered: they are present, and due as well
pub record Gathering (n : ℕ) (xs left touched : List Neighbour) (count : ℕ) (old new : List ℕ) : Type 0 where
  pub fit : All (Fits n) left
  pub long : length touched ≡ 64
  pub few : count ≤ 64
  pub there : All (IsPresent new) (take count touched)
  pub lowering : Lowering xs (take count touched ++ left) old new

pub gathering_start : {n : ℕ} {xs touched : List Neighbour} {old : List ℕ} → All (Fits n) xs → length touched ≡ 64 → LowerableBy xs old →
    Gathering n xs xs touched 0 old old
unfolding joined
gathering_start f k o = record { fit = f; long = k; few = omega arith; there = All-nil _; lowering = lowering_start o }

module _ {n : ℕ} {xs rest left touched : List Neighbour} {x : Neighbour} {count : ℕ} {old new : List ℕ}
    (w : Gathering n xs rest touched count old new) (e : rest ≡ x ∷ left) where
  here : Gathering n xs (x ∷ left) touched count old new
  here = rw e at w

  pub gathering_fit : Fits n x
  gathering_fit = All-head (Fits n) x left here.fit

  -- where it has left, it is no module present, and not due
  absent_passed : has new x.number ≡ false → Lowering xs (take count touched ++ left) old new
  unfolding joined
  absent_passed a = record {
    enough = w.lowering.enough;
    present = w.lowering.present;
    carried = λ u h.
        let t : has new u ≡ true = w.lowering.present u ∙ h in
        let other : eqb u x.number ≡ false = fails (eqb u x.number) (λ e. no (sym a ∙ (rw (eqb-true u x.number e) at t))) in
        omega (
          arith,
          here.lowering.carried u h,
          joined_append (take count touched) (x ∷ left) u,
          joined_append (take count touched) left u,
          ap (λ (t : Bool). cond t x.weight 0) other,
        );
  }

  -- it is stored behind those gathered, and counted where it is present
  pub gathering_next : (b : Bool) (d : ℕ) → count < 64 → b ≡ has new x.number → d ≡ cond b 1 0 →
      Gathering n xs left (set touched count x) (count + d) old new
  gathering_next true d l t k =
      let grown : take (count + d) (set touched count x) ≡ take count touched ++ x ∷ [] = rw k (take_more_set touched count x (omega (arith, w.long))) in
      record {
        fit = All-tail (Fits n) x left here.fit;
        long = length-set touched count x ∙ w.long;
        few = omega arith;
        there = rw grown (All-push (IsPresent new) (take count touched) x w.there (unfold IsPresent in sym t));
        lowering = rw (grown, append_assoc (take count touched) (x ∷ []) left) here.lowering;
      }
  gathering_next false d l t k =
      let same : take (count + d) (set touched count x) ≡ take count touched = rw (k, add-zero count) (take-set touched count x) in
      record {
        fit = All-tail (Fits n) x left here.fit;
        long = length-set touched count x ∙ w.long;
        few = omega arith;
        there = rw same w.there;
        lowering = rw same (absent_passed (sym t));
      }

module _ {n : ℕ} {xs left touched : List Neighbour} {count : ℕ} {old new : List ℕ} (w : Gathering n xs left touched count old new) where
  pub gathering_lowerable : LowerableBy (take count touched) new
  gathering_lowerable = record {
    enough = λ u h.
        let was : has old u ≡ true = sym (w.lowering.present u) ∙ h in
        omega (arith, w.lowering.carried u was, w.lowering.enough u was, joined_append (take count touched) left u);
  }

  pub gathering_flushed : {after : List ℕ} → LoweredBy (take count touched) new after → Gathering n xs left touched 0 old after
  gathering_flushed l = record {
    fit = w.fit;
    long = w.long;
    few = omega arith;
    there = All-nil _;
    lowering = record {
      enough = w.lowering.enough;
      present = λ u. l.present u ∙ w.lowering.present u;
      carried = λ u h.
          omega (arith, w.lowering.carried u h, l.carried u (w.lowering.present u ∙ h), joined_append (take count touched) left u);
    };
  }

pub gathering_end : {n : ℕ} {xs left touched : List Neighbour} {count : ℕ} {old new after : List ℕ} → Gathering n xs left touched count old new →
    left ≡ [] → LoweredBy (take count touched) new after → LoweredBy xs old after
gathering_end w e l = lowering_end (gathering_flushed w l).lowering e
