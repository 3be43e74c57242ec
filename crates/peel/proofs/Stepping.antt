-- One turn by walks over the ranking before and afterwards.
--   turn_of    a walk in order has exactly the modules present, as the leaving order picks; its first leaves, and who is untouched stands as before
-- Assumes nothing.
use mathlib.Core.Path.{◌≡◌, sym, ◌∙◌}
use mathlib.Core.Bool.{true, ◌&&◌}
use mathlib.Core.List.{List}
use mathlib.Core.Logic.{⊎_elim}
use Prim.Native.Nat.{ℕ, zero, suc, ◌≤◌, ◌<◌}
use native.Mathlib.Omega.{arith}
use lib.Dec.{ltb, eqb}
use lib.ListN.{length, get_or}
use borrow.Author.Tests.{lt-ltb}
use Rattle.std.proofs.lemmas.Bool.{cases_lt}
use Rattle.theory.specs.Lists.{Pairs}
use Rattle.theory.specs.Leaving.{degree, leaves_first}
use Rattle.theory.proofs.Tests.{tests, or_left, or_right}
use Rattle.ranking.specs.declared.Leaver.{Leaver}
use Rattle.ranking.specs.Ranking.{key, carries, walk, WalksInOrder, Taken}
use Rattle.ranking.proofs.Order.{has_below}
use Rattle.ranking.proofs.Alike.{same_walk}
use Rattle.peel.specs.Steps.{RankingOf}
use Rattle.peel.specs.Turns.{Ranks, untouched, Turned, TurnOf}
use Rattle.peel.proofs.Ranks.{Left}

-- keys are in order as their modules leave
key_leaves : (d e m x : ℕ) → m < 512 → x < 512 → key d m < key e x → leaves_first d m e x ≡ true
unfolding key leaves_first
key_leaves d e m x h k l =
    ⊎_elim
    (λ less. or_left (ltb d e) (eqb d e && ltb m x) (lt-ltb d e less))
    (λ (more : e ≤ d). or_right (ltb d e) (eqb d e && ltb m x) (simp tests (omega arith, omega arith)))
    (cases_lt d e)

-- a walk in order over a ranking of some modules has exactly them, as the leaving order picks
module _ {g : Pairs} {s keys order : List ℕ} (r : RankingOf g s keys) (w : WalksInOrder keys order) where
  carried_at : (i : ℕ) → i < length order → carries keys (get_or order i 0) ≡ degree g s (get_or order i 0)
  carried_at i h = r.carried (get_or order i 0) (w.each i h)

  ranks : Ranks g s keys order
  ranks = record {
    held = r;
    only = λ i h. sym (r.present (get_or order i 0)) ∙ w.each i h;
    all = λ u h. w.all u (r.present u ∙ h);
    once = w.once;
    in_order = λ i j d h.
        let h' : i < length order = omega arith in
        rw (sym (carried_at i h'), sym (carried_at j h))
        (key_leaves (carries keys (get_or order i 0)) (carries keys (get_or order j 0)) (get_or order i 0) (get_or order j 0)
        (has_below keys (get_or order i 0) (w.each i h')) (has_below keys (get_or order j 0) (w.each j h)) (w.rises i j d h));
  }

-- whoever has the lowest key stands first: no other key would be above the first one
module _ {keys new order : List ℕ} {k : Leaver} (w : WalksInOrder keys order) (t : Taken keys new k) where
  stands_at : (i : ℕ) → i < length order → get_or order i 0 ≡ k.number → (0 < length order) × (get_or order 0 0 ≡ k.number)
  stands_at zero h e = (h, e)
  stands_at (suc i) h e =
      absurd (omega (arith, rw e at (w.rises 0 (suc i) (omega arith) h), t.first (get_or order 0 0) (w.each 0 (omega arith))))

  stands_first : (0 < length order) × (get_or order 0 0 ≡ k.number)
  stands_first = let a = w.all k.number t.there in stands_at a.0 a.1.0 a.1.1

  turned : {g : Pairs} {s keys' order' : List ℕ} → RankingOf g s keys → Left g s keys keys' k → WalksInOrder keys' order' →
      Turned g s keys order keys' order' k
  turned {g} r o w' = record {
    before = ranks r w;
    there = stands_first.0;
    first = stands_first.1;
    leaver_is = o.next;
    degree_is = o.degree_is;
    after = ranks o.others w';
    still = λ u h e. (o.alike u e).carried (r.present u ∙ h);
    stand = sym (same_walk (untouched g k.number) o.alike w w');
  }

pub turn_of : {g : Pairs} {keys new keys' : List ℕ} {k : Leaver} (next next' : List ℕ) → WalksInOrder keys (walk next) → WalksInOrder keys' (walk next') →
    Taken keys new k → ((s : List ℕ) → RankingOf g s keys → Left g s keys keys' k) → TurnOf g keys next keys' next' k
unfolding TurnOf
turn_of next next' w w' t left = λ s r. turned w t r (left s r) w'
