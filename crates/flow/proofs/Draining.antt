-- Draining: who stays, and that nobody of a closed set drains.
--   DrainStarting                                          the start, module by module
--   drain_start_next                                       one module more
--   drains_more                                            some drain, and then others
--   release_room, release_count, release_drains            the module of a slot that leads out drains
--   Draining, draining_on                                  all of it
-- Assumes nothing.
use Rattle.std.proofs.Common.{◌≡◌, sym, ap, ◌∙◌, Bool, true, ◌&&◌, cond, List, ⊎_elim, ℕ, ◌+◌, ◌≤◌, ◌<◌, arith, leb, ltb, eqb, length, get_or, set, get_or-set_same, get_or-set_other, length-set}
use Rattle.std.proofs.lemmas.Bool.Decides.{nat_tests}
use Rattle.theory.specs.Groups.{is_in}
use Rattle.theory.proofs.Tests.{no}
use Rattle.slots.specs.Slots.{mate}
use Rattle.slots.proofs.Choice.{eq_or_ne, lt_or_le, stored_more}
use Rattle.chains.specs.Search.{zeros, Closed}
use Rattle.chains.proofs.Leads.{leads_of, LeadsOut}
use Rattle.chains.proofs.Zeros.{is_zero, zeros_down, zeros_low, zeros_next}
use Rattle.flow.specs.Drain.{Released, Drains}

-- ---- the start

-- who stays of the modules below v, and who is queued
pub record DrainStarting (n p v : ℕ) (scope load rank queue : List ℕ) (tail : ℕ) : Type 0 where
  pub ranks : (k : ℕ) → k < v → get_or rank k 0 ≡ cond (is_in scope k && leb p (get_or load k 0)) 1 0
  pub queued : (i : ℕ) → i < tail → get_or queue i 0 < n
  pub count : tail ≤ zeros v rank
  pub few : tail ≤ v
  pub long : n ≤ length rank

-- who is queued does not stay
queued_gone : (b : Bool) (p x : ℕ) → cond (b && ltb x p) 1 0 ≤ is_zero (cond (b && leb p x) 1 0)
queued_gone b p x = grind (arith, nat_tests)

module _ {n p v : ℕ} {scope load rank queue : List ℕ} {tail : ℕ} (w : DrainStarting n p v scope load rank queue tail) (l : v < n)
    (lq : tail < length queue) where
  pub drain_start_next : (k d : ℕ) → k ≡ cond (eqb (get_or scope v 0) 1 && leb p (get_or load v 0)) 1 0 →
      d ≡ cond (eqb (get_or scope v 0) 1 && ltb (get_or load v 0) p) 1 0 → DrainStarting n p (v + 1) scope load (set rank v k) (set queue tail v) (tail + d)
  unfolding is_in
  drain_start_next k d ek ed =
      let one : d ≤ 1 = grind (arith, nat_tests) in
      let lr : v < length rank = omega (arith, w.long) in
      let gone : d ≤ is_zero k = rw (ed, ek) (queued_gone (eqb (get_or scope v 0) 1) p (get_or load v 0)) in
      record {
        ranks = stored_more (λ k x. x ≡ cond (is_in scope k && leb p (get_or load k 0)) 1 0) rank v k lr w.ranks ek;
        queued = λ i h. stored_more (λ i x. x < n) queue tail v lq w.queued l i (omega arith);
        count = omega (arith, zeros_next v k rank lr, w.count);
        few = omega (arith, w.few);
        long = simp length-set w.long;
      }

-- ---- modules drain

pub drains_more : {n m : ℕ} {ends hold rank queue : List ℕ} {tail : ℕ} {rank' queue' : List ℕ} {tail' : ℕ} {rank'' queue'' : List ℕ} {tail'' : ℕ} →
    Drains n m ends hold rank queue tail rank' queue' tail' → Drains n m ends hold rank' queue' tail' rank'' queue'' tail'' →
    Drains n m ends hold rank queue tail rank'' queue'' tail''
drains_more a b = record {
  fewer = λ v h p. a.fewer v h (b.fewer v h p);
  keeps = λ t c f. b.keeps t c (a.keeps t c f);
  more = omega (arith, a.more, b.more);
  count = omega (arith, a.count, b.count);
  queued = λ q. b.queued (a.queued q);
}

-- slot k leads out of those who stay: its module drains
module _ {n m : ℕ} {ends hold rank : List ℕ} {k : ℕ} (w : LeadsOut n m ends hold rank k) where
  -- among modules that are more than the graph's: the queue has room for it, and there is one more that does not stay
  module _ (top tail v : ℕ) (le : n ≤ top) (long : length rank ≡ top) (ev : v ≡ get_or ends k 0) (count : tail ≤ zeros top rank) where
    in_top : v < top
    in_top = omega (arith, w.low)

    staying_v : 0 < get_or rank v 0
    staying_v = omega (arith, w.up, ap (λ (x : ℕ). get_or rank x 0) ev)

    pub release_room : tail < top
    release_room = omega (arith, zeros_low top v rank in_top (omega (arith, in_top)) staying_v)

    pub release_count : tail + 1 ≤ zeros top (set rank v 0)
    release_count = omega (arith, zeros_down top v rank in_top (omega (arith, in_top)) staying_v)

  pub release_drains : {tail : ℕ} {queue rank' queue' : List ℕ} → tail < length queue → Released ends k tail rank queue rank' queue' →
      Drains n m ends hold rank queue tail rank' queue' (tail + 1)
  release_drains {tail} {queue} lq r =
      let u = get_or ends k 0 in
      let lu : u < length rank = omega (arith, w.low, w.long) in
      rw (r.ranks, r.queues) (record {
        fewer = λ v h b. ⊎_elim
            (λ (z : v ≡ u). absurd (omega (arith, get_or-set_same rank u 0 0 lu, ap (λ (x : ℕ). get_or (set rank u 0) x 0) z)))
            (λ ne. omega (arith, get_or-set_other rank u v 0 0 ne)) (eq_or_ne v u);
        keeps = λ t c f v h b. ⊎_elim
            (λ (z : v ≡ u).
            let none : get_or t (get_or ends (mate k) 0) 0 ≡ 0 = ⊎_elim
            (λ (q : 0 < get_or t (get_or ends (mate k) 0) 0). absurd (omega (arith, f _ w.mate_low q, w.down)))
            (λ (q : get_or t (get_or ends (mate k) 0) 0 ≤ 0). omega arith) (lt_or_le 0 (get_or t (get_or ends (mate k) 0) 0)) in
            no (sym (c k w.slot) ∙ leads_of ends hold t k w.live (omega (arith, ap (λ (x : ℕ). get_or t x 0) z)) none))
            (λ ne. omega (arith, f v h b, get_or-set_other rank u v 0 0 ne)) (eq_or_ne v u);
        more = omega arith;
        count = omega (arith, zeros_down n u rank w.low lu w.up);
        queued = λ q i h. stored_more (λ i x. x < n) queue tail u lq q w.low i h;
      })

-- ---- all of it

-- who may still stay: modules of the scope loaded p or more, among them every closed set of such
pub record Draining (n m p : ℕ) (scope ends hold load rank : List ℕ) : Type 0 where
  pub inside : (v : ℕ) → v < n → 0 < get_or rank v 0 → (is_in scope v ≡ true) × (p ≤ get_or load v 0)
  pub all : (t : List ℕ) → Closed m ends hold t → ((v : ℕ) → v < n → 0 < get_or t v 0 → (is_in scope v ≡ true) × (p ≤ get_or load v 0)) →
      (v : ℕ) → v < n → 0 < get_or t v 0 → 0 < get_or rank v 0

pub draining_on : {n m p : ℕ} {scope ends hold load rank queue : List ℕ} {tail : ℕ} {rank' queue' : List ℕ} {tail' : ℕ} →
    Draining n m p scope ends hold load rank → Drains n m ends hold rank queue tail rank' queue' tail' → Draining n m p scope ends hold load rank'
draining_on w d = record { inside = λ v h b. w.inside v h (d.fewer v h b); all = λ t c f. d.keeps t c (w.all t c f) }
