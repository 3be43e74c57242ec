-- Ranks: those reached are numbered from 1 on, all others are 0.
--   alone_rest, alone_count, alone_high    the root alone
--   Next, next                             the module that a slot leads to: there is room for it, and it is the last one
-- Assumes nothing.
use Rattle.std.proofs.Common.{◌≡◌, ℕ, ◌+◌, ◌<◌, ◌≤◌, List, length, get_or, set, replicate, ap, ◌∙◌, ⊎_elim, arith, get_or-set_other, get_or-set_same}
use Rattle.std.proofs.lemmas.List.{length-replicate, get_or-replicate}
use Rattle.slots.specs.Slots.{mate}
use Rattle.slots.proofs.Choice.{eq_or_ne}
use Rattle.chains.specs.Search.{zeros}
use Rattle.chains.proofs.Leads.{LeadsOut}
use Rattle.chains.proofs.Zeros.{zeros_all, zeros_some, zeros_up}

-- the root alone, after all ranks were 0
module _ (n root : ℕ) (blank : List ℕ) {k : ℕ} (l : root < n) (ek : k ≡ n) (e : blank ≡ replicate {A = ℕ} k 0) where
  blank_at : (v : ℕ) → v < n → get_or blank v 0 ≡ 0
  blank_at v h = rw e (get_or-replicate k v 0 0 (omega arith))

  root_in : root < length blank
  root_in = rw e (omega (arith, length-replicate {A = ℕ} k 0))

  pub alone_rest : (v : ℕ) → v < n → (v ≡ root → ⊥) → get_or (set blank root 1) v 0 ≡ 0
  alone_rest v h ne = get_or-set_other blank root v 1 0 ne ∙ blank_at v h

  pub alone_count : 1 + zeros n (set blank root 1) ≡ n
  alone_count = omega (arith, zeros_up n root 1 blank l root_in (blank_at root l) (omega arith), zeros_all n blank blank_at)

  pub alone_high : (v : ℕ) → v < n → get_or (set blank root 1) v 0 ≤ 1
  alone_high v h = ⊎_elim
      (λ (y : v ≡ root). rw y (omega (arith, get_or-set_same blank root 1 0 root_in)))
      (λ ne. omega (arith, alone_rest v h ne)) (eq_or_ne v root)

-- a module v that was not reached: there is room for it, and as the last one it has the highest rank
pub record Next (n v tail : ℕ) (rank : List ℕ) : Type 0 where
  pub room : tail < n
  pub count : (x : ℕ) → x ≡ tail + 1 → x + zeros n (set rank v x) ≡ n
  pub high : ((u : ℕ) → u < n → get_or rank u 0 ≤ tail) → (x : ℕ) → x ≡ tail + 1 → (u : ℕ) → u < n → get_or (set rank v x) u 0 ≤ x

-- slot k leads to it
pub next : {n few m k o v tail : ℕ} {ends hold rank : List ℕ} → LeadsOut few m ends hold rank k → few ≤ n → o ≡ mate k → v ≡ get_or ends o 0 →
    length rank ≡ n → tail + zeros n rank ≡ n → Next n v tail rank
next {n} {few} {m} {k} {o} {v} {tail} {ends} {hold} {rank} w le eo ev long count =
    let at : v ≡ get_or ends (mate k) 0 = ev ∙ ap (λ (x : ℕ). get_or ends x 0) eo in
    let l : v < n = omega (arith, w.mate_low) in
    let new : get_or rank v 0 ≡ 0 = ap (λ (x : ℕ). get_or rank x 0) at ∙ w.down in
    record {
      room = omega (arith, zeros_some n v rank l (omega arith) new);
      count = λ x e. omega (arith, zeros_up n v x rank l (omega arith) new (omega arith));
      high = λ f x e u h. ⊎_elim
          (λ (y : u ≡ v). rw y (omega (arith, get_or-set_same rank v x 0 (omega arith))))
          (λ ne. omega (arith, f u h, get_or-set_other rank v u x 0 ne)) (eq_or_ne u v);
    }
