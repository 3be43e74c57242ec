-- A search: the modules reached, and one more.
--   Scan, scan_start                the modules reached so far; the root alone
--   scan_on, scan_found             one more is reached and the search goes on, or ends there
-- Assumes nothing.
use Rattle.std.proofs.Common.{◌≡◌, ℕ, ◌+◌, ◌*◌, ◌<◌, ◌≤◌, true, List, length, get_or, Some, sym, ap, ◌∙◌, ⊎_elim, arith, length-set, get_or-set_other, get_or-set_same}
use Rattle.slots.specs.Slots.{mate, Ends}
use Rattle.slots.proofs.Choice.{eq_or_ne}
use Rattle.chains.specs.Search.{leads, Step, Tree, Full, Visited, ChainFound}
use Rattle.chains.proofs.Leads.{LeadsOut, leads_out}

-- the modules reached are a search tree, none of them loaded below p
pub record Scan (n m p root : ℕ) (ends hold load rank from : List ℕ) : Type 0 where
  pub tree : (top : ℕ) → Tree n m root top ends hold rank from
  pub full : Full n p load rank

-- the root alone is reached
module _ (n root : ℕ) (rank : List ℕ) (at_root : get_or rank root 0 ≡ 1) (at_rest : (v : ℕ) → v < n → (v ≡ root → ⊥) → get_or rank v 0 ≡ 0) where
  only_root : (v : ℕ) → v < n → 0 < get_or rank v 0 → v ≡ root
  only_root v l h = ⊎_elim (λ (y : v ≡ root). y) (λ ne. absurd (omega (arith, at_rest v l ne))) (eq_or_ne v root)

  rank_one : (v : ℕ) → v < n → get_or rank v 0 ≤ 1
  rank_one v l = ⊎_elim (λ (y : v ≡ root). rw y (omega (arith, at_root))) (λ ne. omega (arith, at_rest v l ne)) (eq_or_ne v root)

  pub scan_start : {m p : ℕ} {ends hold load from : List ℕ} → n ≤ length rank → n ≤ length from → p ≤ get_or load root 0 →
      Scan n m p root ends hold load rank from
  scan_start {m} {p} {ends} {hold} {load} {from} rl fl full = record {
    tree = λ top. record {
      rank_long = rl;
      from_long = fl;
      first = at_root;
      one = λ v l e. only_root v l (omega arith);
      step = λ v l a b. absurd (omega (arith, rank_one v l));
    };
    full = λ v l a. omega (arith, ap (λ (t : ℕ). get_or load t 0) (only_root v l a));
  }

-- slot k leads out, to module v: it is reached, as the last one
module _ {n m p root : ℕ} {ends hold load rank from : List ℕ} {tail k v : ℕ} {queue rank' from' queue' : List ℕ} (s : Scan n m p root ends hold load rank from)
    (e : Ends n m ends) (few : n ≤ 512) (high : (x : ℕ) → x < 512 → get_or rank x 0 ≤ tail) (lr : root < n) (lk : k < 2 * m)
    (ld : leads ends hold rank k ≡ true) (r : Visited ends k tail rank from queue rank' from' queue' v) where
  w : LeadsOut n m ends hold rank k
  w = leads_out e (s.tree 0).rank_long lk ld

  low : v < n
  low = omega (arith, r.at, w.mate_low)

  new : get_or rank v 0 ≡ 0
  new = ap (λ (t : ℕ). get_or rank t 0) r.at ∙ w.down

  in_rank : v < length rank
  in_rank = omega (arith, low, w.long)

  in_from : v < length from
  in_from = omega (arith, low, (s.tree 0).from_long)

  rank_new : get_or rank' v 0 ≡ tail + 1
  rank_new = rw r.ranks (get_or-set_same rank v (tail + 1) 0 in_rank)

  rank_old : (x : ℕ) → (x ≡ v → ⊥) → get_or rank' x 0 ≡ get_or rank x 0
  rank_old x ne = rw r.ranks (get_or-set_other rank v x (tail + 1) 0 ne)

  rank_kept : (x : ℕ) → 0 < get_or rank x 0 → get_or rank' x 0 ≡ get_or rank x 0
  rank_kept x h = rank_old x (λ z. omega (arith, new, ap (λ (t : ℕ). get_or rank t 0) z))

  from_new : get_or from' v 0 ≡ k
  from_new = rw r.froms (get_or-set_same from v k 0 in_from)

  from_old : (x : ℕ) → (x ≡ v → ⊥) → get_or from' x 0 ≡ get_or from x 0
  from_old x ne = rw r.froms (get_or-set_other from v x k 0 ne)

  step_new : Step m ends hold rank' from' v
  step_new =
      let up = rank_kept (get_or ends k 0) w.up in
      let at = ap (λ (t : ℕ). get_or rank' (get_or ends t 0) 0) from_new in
      record {
        slot = omega (arith, from_new, w.slot);
        into = ap (λ (t : ℕ). get_or ends (mate t) 0) from_new ∙ sym r.at;
        live = omega (arith, w.live, ap (λ (t : ℕ). get_or hold t 0) from_new);
        up = omega (arith, w.up);
        less = omega (arith, rank_new, high (get_or ends k 0) (omega (arith, w.low)));
      }

  step_old : (x : ℕ) → (x ≡ v → ⊥) → Step m ends hold rank from x → Step m ends hold rank' from' x
  step_old x ne st =
      let f = from_old x ne in
      let up = rank_kept (get_or ends (get_or from x 0) 0) st.up in
      let at = ap (λ (t : ℕ). get_or rank' (get_or ends t 0) 0) f in
      record {
        slot = omega (arith, st.slot);
        into = ap (λ (t : ℕ). get_or ends (mate t) 0) f ∙ st.into;
        live = omega (arith, st.live, ap (λ (t : ℕ). get_or hold t 0) f);
        up = omega (arith, st.up);
        less = omega (arith, st.less, rank_old x ne);
      }

  visit_tree : (top : ℕ) → Tree n m root top ends hold rank' from'
  visit_tree top =
      let old = s.tree top in
      record {
        rank_long = omega (arith, w.long, ap length r.ranks ∙ length-set rank v (tail + 1));
        from_long = omega (arith, old.from_long, ap length r.froms ∙ length-set from v k);
        first = rank_kept root (omega (arith, old.first)) ∙ old.first;
        one = λ x l h. ⊎_elim
            (λ (z : x ≡ v). absurd (omega (arith, high root (omega arith), (s.tree 0).first, rank_new, ap (λ (t : ℕ). get_or rank' t 0) z)))
            (λ ne. old.one x l (sym (rank_old x ne) ∙ h)) (eq_or_ne x v);
        step = λ x l a b. ⊎_elim
            (λ (z : x ≡ v). rw z step_new)
            (λ ne. let o = rank_old x ne in step_old x ne (old.step x l (omega arith) (omega arith))) (eq_or_ne x v);
      }

  -- it is loaded p or more: the search goes on
  pub scan_on : p ≤ get_or load v 0 → Scan n m p root ends hold load rank' from'
  scan_on h = record {
    tree = visit_tree;
    full = λ x l a. ⊎_elim
        (λ (z : x ≡ v). rw z h)
        (λ ne. s.full x l (omega (arith, rank_old x ne))) (eq_or_ne x v);
  }

  -- it is loaded below p: the search ends
  pub scan_found : get_or load v 0 < p → ChainFound n m p root ends hold load rank' from' (Some v)
  scan_found h = record {
    tree = visit_tree;
    low = (low, omega (arith, rank_new), h);
    first = λ x lx a ne. let o = rank_old x ne in (s.full x lx (omega arith), omega (arith, rank_new, high x (omega arith)));
    shut = tt;
  }
