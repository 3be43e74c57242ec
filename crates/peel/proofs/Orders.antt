-- The turns: after i of them the ranking holds the remainder, and the first i places of the order are written.
--   TurnsDone                 the state of the turns
--   turn_ranked               before the next turn a module is there
--   turn_below, turn_next     who leaves in it is a module; what it leaves
-- Assumes nothing.
use mathlib.Core.Path.{◌≡◌, sym, ◌∙◌}
use mathlib.Core.List.{List}
use Prim.Native.Nat.{ℕ, ◌+◌, ◌≤◌, ◌<◌}
use native.Mathlib.Omega.{arith}
use native.Mathlib.Numerals.{add-one}
use lib.ListN.{length, get_or, set}
use Rattle.theory.specs.Leaving.{leaving, left_behind, remainder, leaving_degree}
use Rattle.theory.specs.Words.{list_in}
use Rattle.theory.proofs.Remainders.{leaver_at, leaver_in}
use Rattle.lists.specs.declared.list.List.{List as HeldList}
use Rattle.lists.specs.Listed.{listed}
use Rattle.slots.specs.Buffers.{entry}
use Rattle.slots.proofs.Buffers.{written_next}
use Rattle.ranking.specs.declared.Leaver.{Leaver}
use Rattle.ranking.specs.Ranking.{SomePresent}
use Rattle.peel.specs.Steps.{RankingOf, SomeRanked, LeaversWritten}
use Rattle.peel.specs.Turns.{Turned}
use Rattle.peel.proofs.Leavers.{leaver_below}

-- i modules have left
pub record TurnsDone (l : HeldList) (i : ℕ) (order finals keys order' finals' : List ℕ) : Type 0 where
  pub ranked : RankingOf (listed l) (remainder (listed l) i) keys
  pub written : LeaversWritten (listed l) i order finals order' finals'

module _ {l : HeldList} {i : ℕ} {order finals keys order' finals' : List ℕ} (t : TurnsDone l i order finals keys order' finals') (low : i < l.n) where
  -- the next leaver is there
  pub turn_ranked : SomeRanked (listed l) keys
  unfolding SomeRanked SomePresent list_in
  turn_ranked =
      let v : ℕ = get_or (leaving (listed l)) i 0 in
      (remainder (listed l) i, (t.ranked, (v, t.ranked.present v ∙ leaver_in (listed l) i low)))

  -- it is the one that leaves
  module _ {ranked after ranked' : List ℕ} {k : Leaver} (turned : Turned (listed l) (remainder (listed l) i) keys ranked after ranked' k) where
    as_leaving : get_or (leaving (listed l)) i 0 ≡ k.number
    unfolding list_in
    as_leaving = cc (turned.leaver_is, leaver_at (listed l) i low)

    pub turn_below : k.number < l.n
    unfolding list_in
    turn_below = omega (arith, as_leaving, leaver_below (listed l) i low)

    pub turn_next : l.n ≤ length order → l.n ≤ length finals → TurnsDone l (i + 1) order finals after (set order' i k.number) (set finals' i k.carried)
    unfolding remainder left_behind entry leaving_degree
    turn_next room space = record {
      ranked = rw (add-one, as_leaving) turned.after.held;
      written = record {
        order_is = written_next i (entry (leaving (listed l))) order order' _ (omega arith) (sym as_leaving) t.written.order_is;
        finals_are = written_next i (leaving_degree (listed l)) finals finals' _ (omega arith) (rw as_leaving turned.degree_is) t.written.finals_are;
      };
    }
