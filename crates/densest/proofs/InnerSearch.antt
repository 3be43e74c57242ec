-- The search among the pairs inside a core, as a search among all pairs.
--   inner_candidate, inner_cored                what it starts from: the ratio, the core numbers of the core's order or more
--   IsCore                                      a core of some order
--   GatheringFound, gathering_found             what it finds, and that with the units put back it is found among all pairs
-- Assumes nothing.
use Rattle.std.proofs.Common.{◌≡◌, ℕ, suc, ◌+◌, ◌-◌, ◌*◌, ◌/◌, ◌<◌, ◌≤◌, true, cond, leb, List, length, get_or, sym, refl, ap, ◌∙◌, le_trans, mul-le-mul_right, div-lt_iff_lt-mul, le_of_mul-le-mul_right, arith}
use Rattle.theory.specs.Lists.{Pairs}
use Rattle.theory.specs.Groups.{inside, Found}
use Rattle.theory.specs.Cores.{core, core_number}
use Rattle.theory.specs.Splits.{rounded_up}
use Rattle.theory.specs.Words.{word_pair, list_in, HeldWords}
use Rattle.theory.proofs.Tests.{no}
use Rattle.theory.proofs.Groups.{Sub, size_pos}
use Rattle.theory.proofs.Cores.{round_le}
use Rattle.theory.proofs.Bounds.{size_bound}
use Rattle.slots.specs.Split.{Split}
use Rattle.slots.proofs.Words.{list_weights}
use Rattle.rounds.specs.Known.{Candidate, Cored}
use Rattle.rounds.specs.Search.{Round, GroupFound}
use Rattle.rounds.proofs.Scopes.{found_ratio}
use Rattle.rounds.proofs.Units.{split_room}
use Rattle.densest.specs.Inner.{inner_list}
use Rattle.densest.specs.Gather.{CoreGathered, Packed}
use Rattle.densest.proofs.InnerCores.{core_sub, inner_core, inner_core_number, inner_candidate as core_candidate, inner_found, inner_found_inside}
use Rattle.densest.proofs.Scattering.{Scattered, scattered_held, scattered_split}

-- a number over q rounded up, q times, is no less
le_round : (p q : ℕ) → 0 < q → p ≤ rounded_up p q * q
unfolding rounded_up
le_round p q h = omega (arith, (div-lt_iff_lt-mul {x = p + q - 1} {y = suc ((p + q - 1) / q)} h).0 (omega arith))

-- ratios that do not fall, rounded up
round_rise : (p q p' q' : ℕ) → 0 < q → 0 < q' → p * q' ≤ p' * q → rounded_up p q ≤ rounded_up p' q'
round_rise p q p' q' h h' le =
    round_le p q (rounded_up p' q') h (le_of_mul-le-mul_right (omega (arith, le, mul-le-mul_right q (le_round p' q' h'))) h')

-- a core of some order
abbrev pub IsCore : Pairs → List ℕ → Type 0
IsCore g s = (k : ℕ) × (s ≡ core g k)

-- the found group, looked for among the pairs inside `core`, which has the scope of the last round within it; `units` are of the pairs gathered, and
-- all pairs stand packed among the shares; `core` and `scope` are cores
pub record GatheringFound (n m : ℕ) (ends weights core scope units shares group : List ℕ) (p q : ℕ) : Type 0 where
  pub held : HeldWords n m ends weights
  pub packed : Packed m ends weights shares
  pub sub : Sub scope core
  pub cores : IsCore (list_in n m ends weights) core × IsCore (list_in n m ends weights) scope
  pub found : (hold : List ℕ) → Scattered m (word_pair ends weights) core units hold → GroupFound n m ends weights scope hold group p q

module _ {n m p₀ q₀ r : ℕ} {ends weights scope inner_ends inner_weights : List ℕ}
    (x : CoreGathered n m p₀ q₀ ends weights scope inner_ends inner_weights r) where
  abbrev g : Pairs
  g = list_in n m ends weights

  abbrev k₀ : ℕ
  k₀ = x.order

  same : list_in n r inner_ends inner_weights ≡ inner_list g (core g k₀)
  same = x.gathered.list ∙ ap (inner_list g) x.members_are

  pub inner_candidate : Candidate (list_in n r inner_ends inner_weights) p₀ q₀
  inner_candidate = rw same (core_candidate g p₀ q₀ k₀ x.held.listed x.at_hand x.low)

  pub inner_cored : {cores inner_cores : List ℕ} → Cored g cores → n ≤ length inner_cores →
      ((v : ℕ) → v < n → get_or inner_cores v 0 ≡ cond (leb k₀ (get_or cores v 0)) (get_or cores v 0) 0) → Cored (list_in n r inner_ends inner_weights) inner_cores
  unfolding list_in
  inner_cored co l w = record {
    long = l;
    numbers = λ v b.
        w v b
        ∙ ap {B = ℕ} (λ (x : ℕ). cond (leb k₀ x) x 0) (co.numbers v b)
        ∙ sym (inner_core_number g k₀ v x.held.listed b)
        ∙ ap (λ (y : Pairs). core_number y v) (sym same);
  }

  module _ {scope' units group : List ℕ} {p q : ℕ} (f : GroupFound n r inner_ends inner_weights scope' units group p q) where
    d : Round n r p q inner_ends inner_weights scope' units group true
    d = f.last

    found_inner : Found (inner_list g (core g k₀)) group
    found_inner = rw same at f.found

    found : Found g group
    found = inner_found g p₀ q₀ k₀ x.held.listed x.at_hand x.low group found_inner

    p_is : p ≡ inside g group
    p_is =
        f.inside_count
        ∙ ap (λ (y : Pairs). inside y group) same
        ∙ inner_found_inside g p₀ q₀ k₀ x.held.listed x.at_hand x.low group found_inner

    -- the order is no lower than that of the core that was gathered
    up : k₀ ≤ rounded_up p q
    up =
        le_trans x.low
        (round_rise p₀ q₀ p q x.at_hand.some (omega (arith, f.modules, size_pos g group found.group))
        (rw (p_is, f.modules) (found_ratio g p₀ q₀ x.held.listed x.at_hand group found)))

    scope_is : scope' ≡ core g (rounded_up p q)
    scope_is = d.scope_is ∙ ap (λ (y : Pairs). core y (rounded_up p q)) same ∙ inner_core g k₀ (rounded_up p q) up

    sub : Sub scope' scope
    sub = rw (scope_is, x.members_are) (core_sub g k₀ (rounded_up p q) up)

    module _ (hold : List ℕ) (sc : Scattered m (word_pair ends weights) scope units hold) where
      split : Split m q ends weights scope' hold
      split = scattered_split n m r ends weights scope inner_ends inner_weights units hold x.gathered sc q scope' sub d.split

      last : Round n m p q ends weights scope' hold group true
      last = record {
        scope_is = scope_is;
        split = split;
        room =
            split_room n m q ends weights scope' hold split (omega (arith, f.modules, size_bound g group x.held.listed found.group))
            (list_weights n m ends weights x.held.listed x.held.weights_long);
        good = λ _ v b. omega (arith, scattered_held n m r ends weights scope inner_ends inner_weights units hold x.gathered sc v, d.good refl v b);
        found = λ _. found;
        is_a_group = λ z. no (sym z);
        denser = λ z. no (sym z);
      }

      found_among_all : GroupFound n m ends weights scope' hold group p q
      found_among_all = record { found = found; inside_count = p_is; modules = f.modules; last = last }

    pub gathering_found : {shares : List ℕ} → Packed m ends weights shares → GatheringFound n m ends weights scope scope' units shares group p q
    gathering_found packed = record {
      held = x.held;
      packed = packed;
      sub = sub;
      cores = ((k₀, x.members_are), (rounded_up p q, scope_is));
      found = found_among_all;
    }
