-- One turn: the first of the ranking is the leaver, and what the ranking holds then.
--   ranked_buildable, ranked_built    all modules, each with its degree
--   ranked_below, ranked_lowerable    who leaves is a module; its neighbours carry what joins them to it
--   Left, ranked_left                 once they carry less, the others are ranked, and those untouched as they were
-- Assumes nothing.
use mathlib.Core.Path.{◌≡◌, refl, sym, ap, ◌∙◌}
use mathlib.Core.Bool.{Bool, true, false, ◌&&◌, not, and-true}
use mathlib.Core.List.{List}
use mathlib.Core.Option.{some}
use Prim.Native.Nat.{ℕ, ◌+◌, ◌≤◌, ◌<◌}
use native.Mathlib.Omega.{arith}
use lib.Dec.{ltb, eqb}
use lib.ListN.{length, set, take}
use Rattle.std.proofs.lemmas.List.{get_or-take, length-take-le, length-set}
use borrow.Author.Tests.{ltb-true, ltb-false}
use Rattle.theory.specs.Lists.{Pairs}
use Rattle.theory.specs.Groups.{is_in, everyone, inside}
use Rattle.theory.specs.Leaving.{degree, leaver}
use Rattle.theory.specs.Words.{list_in}
use Rattle.theory.specs.Promise.{LeaverFewest, LeaverLowest, LeaverThere}
use Rattle.theory.proofs.Tests.{tests, no, fails}
use Rattle.theory.proofs.Lists.{proper}
use Rattle.theory.proofs.Groups.{in_lt, in_leave, in_everyone, length_everyone}
use Rattle.theory.proofs.Leaving.{leaver_fewest, leaver_lowest, leaver_there}
use Rattle.theory.proofs.Peeling.{degree_leave}
use Rattle.theory.proofs.Cores.{inside_leave}
use Rattle.lists.specs.declared.list.List.{List as HeldList}
use Rattle.lists.specs.Listed.{listed}
use Rattle.slots.proofs.Words.{held_few}
use Rattle.slots.specs.Neighbours.{neighbours_of}
use Rattle.ranking.specs.declared.Leaver.{Leaver}
use Rattle.ranking.specs.Ranking.{has, carries, Buildable, Built, Taken}
use Rattle.ranking.proofs.Order.{has_below, key_first}
use Rattle.ranking.proofs.Alike.{Same}
use Rattle.peel.specs.Steps.{joined, Degrees, RankingOf, LowerableBy, LoweredBy}
use Rattle.peel.specs.Turns.{are_joined, untouched}
use Rattle.peel.proofs.Degrees.{joint_row, apart_joined}
use Rattle.peel.proofs.Remainders.{all_light}

-- ---- at first

-- the degrees in the first entries; a degree is not above the inside count of all
module _ (l : HeldList) (degrees : List ℕ) (x : Degrees (listed l) degrees) (long : l.n ≤ length degrees) where
  first_long : length (take l.n degrees) ≡ l.n
  first_long = length-take-le l.n degrees long

  pub ranked_buildable : Buildable (take l.n degrees)
  unfolding Degrees degree inside list_in
  ranked_buildable = record {
    few = omega (arith, first_long, held_few l.held);
    light = λ v h.
        let k : v < l.n = omega (arith, first_long) in
        omega (
          arith,
          get_or-take l.n degrees v 0 k,
          x v k,
          all_light l.n l.m l.ends.now l.weights.now l.held.listed (everyone (listed l)),
          inside_leave l.n (listed l).pairs (everyone (listed l)) v (proper (listed l) l.held.listed) (in_everyone (listed l) v k),
        );
  }

  pub ranked_built : {keys : List ℕ} → Built (take l.n degrees) keys → RankingOf (listed l) (everyone (listed l)) keys
  unfolding Degrees list_in
  ranked_built b =
      record {
        full = length_everyone (listed l);
        present = λ u. b.present u ∙ rw first_long (all u (ltb u l.n) refl);
        carried = λ u e.
            let k : u < l.n = ltb-true u l.n (rw first_long at (sym (b.present u) ∙ e)) in
            b.carried u (omega (arith, first_long)) ∙ get_or-take l.n degrees u 0 k ∙ x u k;
      }
    where
      all : (u : ℕ) (t : Bool) → ltb u l.n ≡ t → ltb u l.n ≡ is_in (everyone (listed l)) u
      all u true e = e ∙ sym (in_everyone (listed l) u (ltb-true u l.n e))
      all u false e =
          e
          ∙ sym (fails (is_in (everyone (listed l)) u)
          (λ i. omega (arith, in_lt (everyone (listed l)) u i, length_everyone (listed l), ltb-false u l.n e)))

-- ---- a turn

-- what a turn leaves: `keys` is the ranking before, `keys'` afterwards, r has left
pub record Left (g : Pairs) (s keys keys' : List ℕ) (r : Leaver) : Type 0 where
  pub next : leaver g s ≡ some r.number
  pub degree_is : r.carried ≡ degree g s r.number
  pub others : RankingOf g (set s r.number 0) keys'
  pub alike : (u : ℕ) → untouched g r.number u ≡ true → Same keys keys' u

apart : (a b : Bool) → (not a && not b) ≡ true → (a ≡ false) × (b ≡ false)
apart true b e = no e
apart false true e = no e
apart false false e = (refl, refl)

-- the ranking holds the modules of s, and k leaves it
module _ (l : HeldList) {s keys new : List ℕ} {k : Leaver} (r : RankingOf (listed l) s keys) (t : Taken keys new k) where
  here : is_in s k.number ≡ true
  here = sym (r.present k.number) ∙ t.there

  pub ranked_below : k.number < l.n
  unfolding list_in
  ranked_below = omega (arith, in_lt s k.number here, r.full)

  -- none has a lower key than the first, and none fewer than the leaver, or as few and a lower number
  first_leaves : (v : ℕ) → leaver (listed l) s ≡ some v → v ≡ k.number
  unfolding LeaverFewest LeaverLowest list_in
  first_leaves v n =
      let few = leaver_fewest (listed l) s v n in
      let there : has keys v ≡ true = r.present v ∙ few.1 in
      let d : carries keys k.number ≡ degree (listed l) s k.number = r.carried k.number t.there in
      let e : carries keys v ≡ degree (listed l) s v = r.carried v there in
      let f =
      key_first (carries keys k.number) (carries keys v) k.number v (has_below keys k.number t.there) (has_below keys v there) (t.first v there) in
      let same : degree (listed l) s k.number ≡ degree (listed l) s v = omega (arith, few.2 k.number ranked_below here, f.0, d, e) in
      omega (arith, leaver_lowest (listed l) s v k.number n ranked_below here same, f.1 (omega (arith, d, e)))

  next : leaver (listed l) s ≡ some k.number
  unfolding LeaverThere list_in
  next = let n = leaver_there (listed l) s k.number ranked_below here in n.1 ∙ ap some (first_leaves n.0 n.1)

  -- when it leaves, the degree of u falls by what joins them
  fallen : (u : ℕ) → degree (listed l) (set s k.number 0) u + joined (neighbours_of l k.number) u ≡ degree (listed l) s u
  unfolding degree list_in
  fallen u =
      omega (
        arith,
        joint_row l.n l.m l.ends.now l.weights.now l.held.listed u k.number,
        degree_leave l.n (listed l).pairs s u k.number (proper (listed l) l.held.listed) here,
      )

  -- who is present still carries what joins it to the leaver
  left_carries : (u : ℕ) → has new u ≡ true →
      carries new u ≡ degree (listed l) (set s k.number 0) u + joined (neighbours_of l k.number) u
  left_carries u e =
      let was : has keys u ≡ true = (simp tests at (sym (t.present u) ∙ e)).0 in
      t.carried u e ∙ r.carried u was ∙ sym (fallen u)

  pub ranked_lowerable : LowerableBy (neighbours_of l k.number) new
  ranked_lowerable = record { enough = λ u e. omega (arith, left_carries u e) }

  -- of those untouched none has left, and nothing joins them to the leaver
  ranked_alike : {after : List ℕ} → LoweredBy (neighbours_of l k.number) new after → (u : ℕ) → untouched (listed l) k.number u ≡ true →
      Same keys after u
  unfolding untouched
  ranked_alike {after} o u e =
      let f = apart (eqb u k.number) (are_joined (listed l) k.number u) e in
      let stays : has new u ≡ has keys u = t.present u ∙ rw f.0 (and-true (has keys u)) in
      record {
        present = o.present u ∙ stays;
        carried = λ h. let there : has new u ≡ true = stays ∙ h in omega (arith, o.carried u there, t.carried u there, apart_joined l k.number u f.1);
      }

  pub ranked_left : {after : List ℕ} → LoweredBy (neighbours_of l k.number) new after → Left (listed l) s keys after k
  ranked_left {after} o =
      let was : (u : ℕ) → has after u ≡ true → has new u ≡ true = λ u e. sym (o.present u) ∙ e in
      record {
        next = next;
        degree_is = t.degree ∙ r.carried k.number t.there;
        others = record {
          full = length-set s k.number 0 ∙ r.full;
          present = λ u. o.present u ∙ t.present u ∙ rw (r.present u) (sym (in_leave s k.number u));
          carried = λ u e. omega (arith, o.carried u (was u e), left_carries u (was u e));
        };
        alike = ranked_alike o;
      }
