-- Searches and pulls, until no load is above p.
--   Settling     no module before the one at hand is loaded above p
--   stuck        the end, where a search found no chain
-- Assumes nothing.
use Rattle.std.proofs.Common.{◌≡◌, ℕ, ◌*◌, ◌<◌, ◌≤◌, List, None, get_or, refl, ap, ◌∙◌, ⊎_elim, arith}
use Rattle.slots.specs.declared.units.Units.{Units}
use Rattle.slots.specs.Slots.{mate, Ends}
use Rattle.slots.specs.Views.{UnitsKept}
use Rattle.slots.proofs.Choice.{eq_or_ne}
use Rattle.slots.proofs.Mates.{mates}
use Rattle.chains.specs.Search.{leads, HasUnits, Tree, ChainFound, Stuck}

-- no module before `root` is loaded above p
pub record Settling (p root : ℕ) (start units : Units) : Type 0 where
  pub kept : UnitsKept start units
  pub calm : (v : ℕ) → v < root → get_or units.load.now v 0 ≤ p

-- a module that a search reached, and is not its root, has a pair with units
visited_units : {n m root : ℕ} {ends hold rank from : List ℕ} → ((top : ℕ) → Tree n m root top ends hold rank from) →
    (v : ℕ) → v < n → 0 < get_or rank v 0 → (v ≡ root → ⊥) → HasUnits m ends hold v
visited_units {n} {m} {root} {ends} {hold} {rank} {from} t v h up ne =
    let tree = t (get_or rank v 0) in
    let later : 1 < get_or rank v 0 =
    ⊎_elim (λ (z : get_or rank v 0 ≡ 1). absurd (ne (tree.one v h z))) (λ d. omega arith) (eq_or_ne (get_or rank v 0) 1) in
    let st = tree.step v h later (omega arith) in
    let s = get_or from v 0 in
    record {
      slot = mate s;
      low = (mates m s).low st.slot;
      end = st.into;
      units = omega (arith, st.live, ap (λ (y : ℕ). get_or hold y 0) (mates m s).back);
    }

-- a search found no chain; `rank'` has its ranks
module _ {n m p root : ℕ} {ends hold load rank from : List ℕ} (rank' : List ℕ) (e : Ends n m ends) (found : ChainFound n m p root ends hold load rank from None)
    (lr : root < n) (over : p < get_or load root 0) (same : (v : ℕ) → v < n → get_or rank' v 0 ≡ get_or rank v 0) where
  leads_same : (s : ℕ) → s < 2 * m → leads ends hold rank' s ≡ leads ends hold rank s
  unfolding leads
  leads_same s l =
      let at : get_or rank' (get_or ends s 0) 0 ≡ get_or rank (get_or ends s 0) 0 = same _ (e.below s l) in
      let to : get_or rank' (get_or ends (mate s) 0) 0 ≡ get_or rank (get_or ends (mate s) 0) 0 = same _ (e.below (mate s) ((mates m s).low l)) in
      rw (at, to) refl

  pub stuck : Stuck n m p ends hold load rank'
  stuck = record {
    root = root;
    low = lr;
    reached = omega (arith, (found.tree 0).first, same root lr);
    over = over;
    shut = λ s l. leads_same s l ∙ found.shut.0 s l;
    full = λ v l up. found.shut.1 v l (omega (arith, same v l));
    live = λ v l up ne. visited_units found.tree v l (omega (arith, same v l)) ne;
  }
