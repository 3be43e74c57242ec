-- Units moved back along a chain of a search's tree, step by step.
--   Chain                     at a module of the chain that is loaded below p
--   Parent                    the slot by which that module was reached
--   chain_next, chain_end     d units move along it, and the chain goes on, or ends
-- Assumes nothing.
use Rattle.std.proofs.Common.{◌≡◌, ℕ, ◌+◌, ◌-◌, ◌*◌, ◌<◌, ◌≤◌, min, ◌⊎◌, List, length, get_or, sym, refl, ap, ◌∙◌, ⊎_elim, arith}
use Rattle.slots.specs.declared.units.Units.{Units}
use Rattle.slots.specs.Slots.{mate, moved, Room, Covers}
use Rattle.slots.specs.Views.{UnitsKept}
use Rattle.slots.proofs.Choice.{eq_or_ne}
use Rattle.slots.proofs.Mates.{mates}
use Rattle.slots.proofs.Moves.{moved_from, moved_to, moved_else, shift_part, kept_more, kept_room, kept_covers}
use Rattle.chains.specs.Search.{excess, Tree, Pulled}
use Rattle.chains.proofs.Excess.{excess_moved}

-- units that moved, and moved on
kept_on : {old mid new : Units} → UnitsKept old mid → UnitsKept mid new → UnitsKept old new
kept_on a b = record {
  same = record {
    graph = b.same.graph ∙ a.same.graph;
    hold = b.same.hold ∙ a.same.hold;
    load = b.same.load ∙ a.same.load;
  };
  kept = kept_more a.kept (rw a.same.graph at b.kept);
}

-- at a module c of the chain, loaded below p; its part of the tree stands as the search left it
pub record Chain (p root : ℕ) (rank from : List ℕ) (start units : Units) (c : ℕ) : Type 0 where
  pub kept : UnitsKept start units
  pub tree : Tree start.graph.n start.graph.m root (get_or rank c 0) start.graph.ends.now units.hold.now rank from
  pub low : c < start.graph.n
  pub later : 1 < get_or rank c 0
  pub less : get_or units.load.now c 0 < p
  pub over : p < get_or units.load.now root 0
  pub calm : (v : ℕ) → v < start.graph.n → get_or start.load.now v 0 ≤ p → get_or units.load.now v 0 ≤ p
  pub most : excess start.graph.n p units.load.now ≤ excess start.graph.n p start.load.now

-- the slot k by which c was reached, and its module u
record Parent (n m : ℕ) (ends rank hold : List ℕ) (c k u : ℕ) : Type 0 where
  pub slot : k < 2 * m
  pub into : get_or ends (mate k) 0 ≡ c
  pub from : get_or ends k 0 ≡ u
  pub low : u < n
  pub apart : u ≡ c → ⊥
  pub live : 0 < get_or hold k 0
  pub up : 0 < get_or rank u 0
  pub less : get_or rank u 0 < get_or rank c 0

module _ {p root : ℕ} {rank from : List ℕ} {start units : Units} {c k u : ℕ} (w : Chain p root rank from start units c) (ek : k ≡ get_or from c 0)
    (eu : u ≡ get_or start.graph.ends.now k 0) where
  parent : Parent start.graph.n start.graph.m start.graph.ends.now rank units.hold.now c k u
  parent =
      let st = w.tree.step c w.low w.later (omega arith) in
      rw (eu, ek) (record {
        slot = st.slot;
        into = st.into;
        from = refl;
        low = start.graph.pairs.below _ st.slot;
        apart = λ z. start.graph.pairs.apart _ st.slot (z ∙ sym st.into);
        live = st.live;
        up = st.up;
        less = st.less;
      })

  -- d units move from slot k to its mate: from u to c
  module _ {d : ℕ} (ed : d ≡ min (p - get_or units.load.now c 0) (get_or units.hold.now k 0)) where
    room : Room start.graph.m units.hold.now
    room = kept_room w.kept.kept start.room

    covers : Covers start.graph.n start.graph.m start.graph.ends.now units.hold.now units.load.now
    covers = kept_covers w.kept.kept start.covers

    part : d ≤ get_or units.load.now u 0
    part =
        rw parent.from at (shift_part start.graph.n start.graph.m start.graph.ends.now units.hold.now units.load.now k d start.graph.pairs room.long covers
        parent.slot (omega arith))

    in_u : u < length units.load.now
    in_u = omega (arith, parent.low, covers.long)

    in_c : c < length units.load.now
    in_c = omega (arith, w.low, covers.long)

    at_u : get_or (moved units.load.now u c d) u 0 ≡ get_or units.load.now u 0 - d
    at_u = moved_from units.load.now u c d parent.apart in_u

    at_c : get_or (moved units.load.now u c d) c 0 ≡ get_or units.load.now c 0 + d
    at_c = moved_to units.load.now u c d parent.apart in_c

    step_calm : (v : ℕ) → v < start.graph.n → get_or start.load.now v 0 ≤ p → get_or (moved units.load.now u c d) v 0 ≤ p
    step_calm v h l =
        ⊎_elim
        (λ (z : v ≡ u). rw z (omega (arith, rw z at (w.calm v h l), at_u)))
        (λ (a : v ≡ u → ⊥). ⊎_elim
        (λ (z : v ≡ c). rw z (omega (arith, w.less, at_c)))
        (λ (b : v ≡ c → ⊥). omega (arith, w.calm v h l, moved_else units.load.now u c d parent.apart v a b))
        (eq_or_ne v c))
        (eq_or_ne v u)

    step_excess : excess start.graph.n p (moved units.load.now u c d) + (get_or units.load.now u 0 - p) ≡
        excess start.graph.n p units.load.now + (get_or units.load.now u 0 - d - p)
    step_excess = excess_moved start.graph.n p u c d units.load.now parent.low w.low covers.long parent.apart (omega (arith, w.less))

    -- the tree below c: no slot there is k or its mate
    step_tree : Tree start.graph.n start.graph.m root (get_or rank u 0) start.graph.ends.now (moved units.hold.now k (mate k) d) rank from
    step_tree = record {
      rank_long = w.tree.rank_long;
      from_long = w.tree.from_long;
      first = w.tree.first;
      one = w.tree.one;
      step = λ v h a b.
          let q = parent in
          let st = w.tree.step v h a (omega (arith, q.less)) in
          let s = get_or from v 0 in
          record {
            slot = st.slot;
            into = st.into;
            up = st.up;
            less = st.less;
            live = rw (moved_else units.hold.now k (mate k) d (λ z. (mates start.graph.m k).apart (sym z)) s
                (λ z. omega (
                  arith,
                  q.less,
                  ap (λ (t : ℕ). get_or rank t 0)
                      (sym q.into ∙ ap (λ (t : ℕ). get_or start.graph.ends.now (mate t) 0) (sym z) ∙ st.into),
                ))
                (λ z. omega (arith, q.less, st.less, ap (λ (t : ℕ). get_or rank t 0) (ap (λ (t : ℕ). get_or start.graph.ends.now t 0) z ∙ q.into))))
                st.live;
          };
    }

    -- the units after it
    module _ {units' : Units} (kept : UnitsKept units units') (eh : units'.hold.now ≡ moved units.hold.now k (mate k) d)
        (el : units'.load.now ≡ moved units.load.now (get_or units.graph.ends.now k 0) (get_or units.graph.ends.now (mate k) 0) d) where
      loads_after : units'.load.now ≡ moved units.load.now u c d
      loads_after = rw (w.kept.same.graph, parent.from, parent.into) at el

      -- u is loaded below p now, and is not the root: the chain goes on
      pub chain_next : get_or units'.load.now u 0 < p → (u ≡ root → ⊥) → Chain p root rank from start units' u
      chain_next h nr =
          let ct : root ≡ c → ⊥ = λ z. omega (arith, w.later, w.tree.first, ap (λ (t : ℕ). get_or rank t 0) z) in
          record {
            kept = kept_on w.kept kept;
            tree = rw eh step_tree;
            low = parent.low;
            later =
                ⊎_elim
                (λ (z : get_or rank u 0 ≡ 1). absurd (nr (w.tree.one u parent.low z)))
                (λ ne. omega (arith, parent.up))
                (eq_or_ne (get_or rank u 0) 1);
            less = h;
            over = rw loads_after (omega (arith, w.over, moved_else units.load.now u c d parent.apart root (λ z. nr (sym z)) ct));
            calm = rw loads_after step_calm;
            most = rw loads_after (omega (arith, step_excess, w.most));
          }

      -- u keeps p or more, or is the root: the chain ends, and less is above p
      pub chain_end : (p ≤ get_or units'.load.now u 0) ⊎ ((get_or units'.load.now u 0 < p) × (u ≡ root)) →
          Pulled start.graph.n start.graph.m p start.graph.ends.now start.hold.now start.load.now units'.hold.now units'.load.now
      chain_end h =
          let lt : p < get_or units.load.now u 0 =
          ⊎_elim
          (λ (a : p ≤ get_or units'.load.now u 0). omega (arith, at_u, rw loads_after at a, part, parent.live, w.less))
          (λ z. omega (arith, w.over, ap (λ (t : ℕ). get_or units.load.now t 0) z.1)) h in
          record {
            kept = (kept_on w.kept kept).kept;
            calm = rw loads_after step_calm;
            less_excess = rw loads_after (omega (arith, step_excess, w.most, parent.live, w.less));
          }
