-- Units that move within a pair.
--   moved_from, moved_to, moved_else, moved_at, length_moved    a list after d has moved
--   shift_part, shift_fits, shift_keeps    d units from a slot to the pair's other slot: every pair keeps its units, and the loads follow
--   kept_more                       one move after another
--   kept_room, kept_covers, kept_loads    what stays true
-- Assumes nothing.
use mathlib.Core.Path.{◌≡◌, refl, sym, ap, ◌∙◌}
use mathlib.Core.Bool.{Bool, true, false, cond}
use mathlib.Core.List.{List}
use mathlib.Core.Logic.{⊎_elim}
use Prim.Native.Nat.{ℕ, ◌+◌, ◌*◌, ◌-◌, ◌≤◌, ◌<◌}
use native.Mathlib.Omega.{arith}
use lib.Dec.{eqb}
use lib.ListN.{length, get_or, set, length-set}
use lib.Seq.{get_or-set_same, get_or-set_other}
use borrow.Author.Tests.{eq-eqb, ne_eqb}
use Rattle.std.proofs.lemmas.Bool.{cases_eq}
use Rattle.slots.specs.Slots.{mate, moved, held_upto, held_by, Ends, Room, Loads, Covers, SameUnits, Kept}
use Rattle.slots.proofs.Choice.{cond_eq, cond_ne}
use Rattle.slots.proofs.Totals.{total_one}
use Rattle.slots.proofs.Mates.{mates}
use Rattle.slots.proofs.Held.{held_part, held_most}

-- ---- a list after d has moved from place i to place j

pub length_moved : (xs : List ℕ) (i j d : ℕ) → length (moved xs i j d) ≡ length xs
unfolding moved
length_moved xs i j d = simp length-set

module _ (xs : List ℕ) (i j d : ℕ) (ne : i ≡ j → ⊥) where
  pub moved_from : i < length xs → get_or (moved xs i j d) i 0 ≡ get_or xs i 0 - d
  unfolding moved
  moved_from l =
      let one = set xs i (get_or xs i 0 - d) in
      get_or-set_other one j i (get_or one j 0 + d) 0 ne ∙ get_or-set_same xs i (get_or xs i 0 - d) 0 l

  pub moved_to : j < length xs → get_or (moved xs i j d) j 0 ≡ get_or xs j 0 + d
  unfolding moved
  moved_to l =
      let one = set xs i (get_or xs i 0 - d) in
      get_or-set_same one j (get_or one j 0 + d) 0 (rw length-set l) ∙ ap (λ (z : ℕ). z + d) (get_or-set_other xs i j (get_or xs i 0 - d) 0 (λ e. ne (sym e)))

  pub moved_else : (s : ℕ) → (s ≡ i → ⊥) → (s ≡ j → ⊥) → get_or (moved xs i j d) s 0 ≡ get_or xs s 0
  unfolding moved
  moved_else s a b =
      let one = set xs i (get_or xs i 0 - d) in
      get_or-set_other one j s (get_or one j 0 + d) 0 b ∙ get_or-set_other xs i s (get_or xs i 0 - d) 0 a

  -- place by place
  pub moved_at : i < length xs → j < length xs → d ≤ get_or xs i 0 → (s : ℕ) →
      get_or (moved xs i j d) s 0 + cond (eqb i s) d 0 ≡ get_or xs s 0 + cond (eqb j s) d 0
  moved_at li lj le s =
      ⊎_elim
      (λ (z : s ≡ i). rw z (omega (arith, moved_from li, cond_eq i i d refl, cond_ne j i d (λ e. ne (sym e)))))
      (λ (a : s ≡ i → ⊥). ⊎_elim
      (λ (z : s ≡ j). rw z (omega (arith, moved_to lj, cond_eq j j d refl, cond_ne i j d ne)))
      (λ (b : s ≡ j → ⊥). omega (arith, moved_else s a b, cond_ne i s d (λ e. a (sym e)), cond_ne j s d (λ e. b (sym e))))
      (cases_eq s j))
      (cases_eq s i)

-- ---- units held after a move between slots

cond_part : (b : Bool) (x y : ℕ) → cond b (x + y) 0 ≡ cond b x 0 + cond b y 0
cond_part true x y = refl
cond_part false x y = refl

held_set : (K k x : ℕ) (ends hold : List ℕ) (v : ℕ) → k < K → k < length hold →
    held_upto K ends (set hold k x) v + cond (eqb (get_or ends k 0) v) (get_or hold k 0) 0 ≡ held_upto K ends hold v + cond (eqb (get_or ends k 0) v) x 0
unfolding held_upto
held_set K k x ends hold v l h =
    total_one K k (λ s. cond (eqb (get_or ends s 0) v) (get_or (set hold k x) s 0) 0) (λ s. cond (eqb (get_or ends s 0) v) (get_or hold s 0) 0) l
    (λ j b ne. ap (λ (z : ℕ). cond (eqb (get_or ends j 0) v) z 0) (get_or-set_other hold k j x 0 ne))
    ∙ ap (λ (z : ℕ). held_upto K ends hold v + cond (eqb (get_or ends k 0) v) z 0) (get_or-set_same hold k x 0 h)

held_moved : (K i j d : ℕ) (ends hold : List ℕ) (v : ℕ) → i < K → j < K → K ≤ length hold → (i ≡ j → ⊥) → d ≤ get_or hold i 0 →
    held_upto K ends (moved hold i j d) v + cond (eqb (get_or ends i 0) v) d 0 ≡ held_upto K ends hold v + cond (eqb (get_or ends j 0) v) d 0
unfolding moved
held_moved K i j d ends hold v li lj l ne h =
    let one = set hold i (get_or hold i 0 - d) in
    let e : get_or one j 0 ≡ get_or hold j 0 = get_or-set_other hold i j _ 0 (λ z. ne (sym z)) in
    let f : get_or hold i 0 - d + d ≡ get_or hold i 0 = omega arith in
    omega (
      arith,
      held_set K i (get_or hold i 0 - d) ends hold v li (omega arith),
      held_set K j (get_or one j 0 + d) ends one v lj (omega (arith, length-set hold i (get_or hold i 0 - d))),
      cond_part (eqb (get_or ends i 0) v) (get_or hold i 0 - d) d,
      ap (λ (z : ℕ). cond (eqb (get_or ends i 0) v) z 0) f,
      cond_part (eqb (get_or ends j 0) v) (get_or one j 0) d,
    )

-- ---- a shift: d units from slot s to the pair's other slot, and the loads with them

eqb_mate : (m s x : ℕ) → eqb (mate s) (mate x) ≡ eqb s x
eqb_mate m s x =
    ⊎_elim
    (λ (e : s ≡ x). eq-eqb (mate s) (mate x) (ap mate e) ∙ sym (eq-eqb s x e))
    (λ ne. ne_eqb (mate s) (mate x) (λ e. ne (sym (mates m s).back ∙ ap mate e ∙ (mates m x).back)) ∙ sym (ne_eqb s x ne))
    (cases_eq s x)

module _ (n m : ℕ) (ends hold load : List ℕ) (s d : ℕ) (e : Ends n m ends) (r : 2 * m ≤ length hold) (c : Covers n m ends hold load) (l : s < 2 * m)
    (le : d ≤ get_or hold s 0) where
  other_low : mate s < 2 * m
  other_low = (mates m s).low l

  two : s ≡ mate s → ⊥
  two z = (mates m s).apart (sym z)

  -- the module has the units in its load
  pub shift_part : d ≤ get_or load (get_or ends s 0) 0
  shift_part = omega (arith, held_part (2 * m) s ends hold l, c.least (get_or ends s 0) (e.below s l))

  shift_units : SameUnits m hold (moved hold s (mate s) d)
  shift_units x h =
      omega (
        arith,
        moved_at hold s (mate s) d two (omega arith) (omega (arith, other_low)) le x,
        moved_at hold s (mate s) d two (omega arith) (omega (arith, other_low)) le (mate x),
        ap {B = ℕ} (λ (b : Bool). cond b d 0) (eqb_mate m s x),
        ap {B = ℕ} (λ (b : Bool). cond b d 0) (ap (λ (z : ℕ). eqb z (mate x)) (sym (mates m s).back) ∙ eqb_mate m (mate s) x),
      )

  shift_loads : (v : ℕ) → v < n → get_or (moved load (get_or ends s 0) (get_or ends (mate s) 0) d) v 0 + held_by m ends hold v ≡
      get_or load v 0 + held_by m ends (moved hold s (mate s) d) v
  shift_loads v h =
      omega (
        arith,
        held_moved (2 * m) s (mate s) d ends hold v l other_low r two le,
        moved_at load (get_or ends s 0) (get_or ends (mate s) 0) d (e.apart s l) (omega (arith, e.below s l, c.long))
            (omega (arith, e.below (mate s) other_low, c.long)) shift_part v,
      )

  -- every pair keeps its units, and the loads follow
  pub shift_keeps : (hold' load' : List ℕ) → hold' ≡ moved hold s (mate s) d → load' ≡ moved load (get_or ends s 0) (get_or ends (mate s) 0) d →
      Kept n m ends hold load hold' load'
  shift_keeps hold' load' eh el =
      rw (eh, el) (record {
        hold_long = length_moved hold s (mate s) d;
        load_long = length_moved load (get_or ends s 0) (get_or ends (mate s) 0) d;
        units = shift_units;
        rest = λ x b. moved_else hold s (mate s) d two x (λ z. omega arith) (λ z. omega (arith, other_low));
        loads = shift_loads;
      })

-- ---- what moves keep

pub kept_more : {n m : ℕ} {ends hold load hold' load' hold'' load'' : List ℕ} → Kept n m ends hold load hold' load' →
    Kept n m ends hold' load' hold'' load'' → Kept n m ends hold load hold'' load''
kept_more a b = record {
  hold_long = b.hold_long ∙ a.hold_long;
  load_long = b.load_long ∙ a.load_long;
  units = λ s h. b.units s h ∙ a.units s h;
  rest = λ s h. b.rest s h ∙ a.rest s h;
  loads = λ v h. omega (arith, a.loads v h, b.loads v h);
}

module _ {n m : ℕ} {ends hold load hold' load' : List ℕ} (k : Kept n m ends hold load hold' load') where
  pub kept_room : Room m hold → Room m hold'
  kept_room r = record { long = omega (arith, k.hold_long, r.long); small = λ s h. omega (arith, k.units s h, r.small s h) }

  pub kept_covers : Covers n m ends hold load → Covers n m ends hold' load'
  kept_covers c = record {
    long = omega (arith, k.load_long, c.long);
    least = λ v h. omega (arith, k.loads v h, c.least v h);
    most = λ v h. omega (arith, k.loads v h, c.most v h);
  }

  -- own loads stay
  pub kept_loads : {own : List ℕ} → Loads n m own ends hold load → Loads n m own ends hold' load'
  kept_loads l = record { long = omega (arith, k.load_long, l.long); same = λ v h. omega (arith, k.loads v h, l.same v h) }

-- the load that it goes to fits 32 bits
pub shift_fits : (n m : ℕ) (ends hold load : List ℕ) (s d : ℕ) → Ends n m ends → Room m hold → Covers n m ends hold load → s < 2 * m →
    d ≤ get_or hold s 0 → get_or load (get_or ends (mate s) 0) 0 + d < 4294967296
shift_fits n m ends hold load s d e r c l le =
    let o : mate s < 2 * m = (mates m s).low l in
    let v = get_or ends (mate s) 0 in
    let k = shift_keeps n m ends hold load s d e r.long c l le _ _ refl refl in
    omega (
      arith,
      c.most v (e.below (mate s) o),
      held_moved (2 * m) s (mate s) d ends hold v l o r.long (λ z. (mates m s).apart (sym z)) le,
      cond_eq v v d refl,
      cond_ne (get_or ends s 0) v d (e.apart s l),
      held_most (2 * m) m ends (moved hold s (mate s) d) v (omega arith) e.few (kept_room k r),
    )
