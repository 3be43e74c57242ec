-- What `flow` answers, of groups. The units are a split at share size q inside the scope; outside it no module has an own load.
--   carried           own loads and inside count, at share size q
--   DenserGroup, denser_group      false: a group inside the scope with more than p over q a module
--   none_denser       true: no set inside the scope has more
--   LargestSet, largest_set        true: the largest set inside the scope that has as much
-- Assumes nothing.
use Rattle.std.proofs.Common.{◌≡◌, ℕ, ◌+◌, ◌*◌, ◌<◌, ◌≤◌, true, List, length, get_or, sym, ◌∙◌, ⊎_elim, arith}
use Rattle.theory.specs.Groups.{is_in, size, bytes_good, is_group, inside, within}
use Rattle.theory.specs.Words.{list_in}
use Rattle.theory.proofs.Groups.{sub_within, group_bits, bits_group}
use Rattle.slots.specs.Slots.{slot_load, own_of, staying}
use Rattle.slots.specs.Split.{Split}
use Rattle.slots.proofs.Counting.{staying_most}
use Rattle.flow.specs.Flow.{Sub, Denser, Largest}
use Rattle.rounds.proofs.Units.{inside_most, inside_all, has_units_in}

-- own loads and pairs inside, at share size q
abbrev pub carried : (n m q : ℕ) → (own ends weights t : List ℕ) → ℕ
carried n m q own ends weights t = own_of own t + inside (list_in n m ends weights) t * q

-- a group inside the scope that carries more than p a module
pub record DenserGroup (n m p q : ℕ) (own ends weights scope t : List ℕ) : Type 0 where
  pub group : is_group (list_in n m ends weights) t ≡ true
  pub sub : Sub t scope
  pub more : p * size t < carried n m q own ends weights t

-- the largest set inside the scope that carries p a module
pub record LargestSet (n m p q : ℕ) (own ends weights scope t : List ℕ) : Type 0 where
  pub long : length t ≡ n
  pub bytes : bytes_good t ≡ true
  pub sub : Sub t scope
  pub enough : p * size t ≤ carried n m q own ends weights t
  pub all : (s : List ℕ) → is_group (list_in n m ends weights) s ≡ true → Sub s scope → p * size s ≤ carried n m q own ends weights s → within s t ≡ true

module _ (n m p q : ℕ) (own ends weights scope hold : List ℕ) (sp : Split m q ends weights scope hold) where
  pub denser_group : ((v : ℕ) → 0 < get_or own v 0 → is_in scope v ≡ true) → (t : List ℕ) → Denser n m p own ends hold t →
      DenserGroup n m p q own ends weights scope t
  unfolding list_in staying
  denser_group out t d = record {
    group = bits_group (list_in n m ends weights) t (d.long, d.bytes) d.some;
    sub = λ v i. ⊎_elim (out v) (has_units_in n m q ends weights scope hold sp v) (d.live v i);
    more = omega (arith, d.more, inside_most n m q ends weights scope hold sp t);
  }

  pub none_denser : ((v : ℕ) → v < n → slot_load m own ends hold v ≤ p) → (s : List ℕ) → length s ≡ n → Sub s scope →
      carried n m q own ends weights s ≤ p * size s
  unfolding staying
  none_denser most s ls sub =
      omega (arith, inside_all n m q ends weights scope hold sp s sub, staying_most m ends hold s n p own most ls)

  pub largest_set : (t : List ℕ) → Largest n m p own scope ends hold t → LargestSet n m p q own ends weights scope t
  unfolding list_in staying
  largest_set t d = record {
    long = d.long;
    bytes = d.bytes;
    sub = d.inside;
    enough = omega (arith, d.tight, inside_most n m q ends weights scope hold sp t);
    all = λ s g sub r.
        let b = group_bits (list_in n m ends weights) s g in
        sub_within s t (b.0 ∙ sym d.long) b.1
        (d.all s b.0 b.1 sub (omega (arith, inside_all n m q ends weights scope hold sp s sub)));
  }
