-- From the places to the kit.
--   kitted    the modules whose place is not below the number of those that have left are the kit
-- Assumes nothing.
use mathlib.Core.Path.{◌≡◌, sym, ap, ◌∙◌}
use mathlib.Core.Bool.{true}
use mathlib.Core.List.{List, ◌++◌}
use Prim.Native.Nat.{ℕ, ◌≤◌, ◌<◌}
use native.Mathlib.Omega.{arith}
use lib.Dec.{leb}
use lib.ListN.{length, get_or, drop}
use lib.Seq.{ext_get_or}
use Rattle.theory.specs.Basics.{mark}
use Rattle.theory.specs.Lists.{Pairs, is_list}
use Rattle.theory.specs.Groups.{inside, size}
use Rattle.theory.specs.Leaving.{remainder}
use Rattle.theory.specs.Kits.{kit}
use Rattle.theory.proofs.Sums.{bit}
use Rattle.theory.proofs.Remainders.{remainder_full, remainder_bytes}
use Rattle.peel.specs.Peel.{Peels}
use Rattle.peel.specs.Promise.{PeelPromise, PeelPromised}
use Rattle.peel.specs.declared.Remainder.{Remainder}
use Rattle.peel.proofs.Promises.{peel_promised}
use Rattle.kits.specs.Kits.{Kits}

module _ (g : Pairs) (k : ℕ) (held : is_list g ≡ true) (some : 1 ≤ k) (few : k ≤ g.n) {order cores place order' cores' place' : List ℕ} {r : Remainder}
    (p : Peels g k order cores place order' cores' place' r) where
  promise : PeelPromise g k order' cores' place' r
  unfolding PeelPromised
  promise = peel_promised g k order cores place order' cores' place' r held some few p

  module _ (marked : List ℕ) (long : length marked ≡ g.n) (each : (v : ℕ) → v < g.n → get_or marked v 0 ≡ mark (leb r.at (get_or place' v 0))) where
    -- whoever has a place from there on is in the kit
    is_the_kit : marked ≡ kit g k
    unfolding kit mark
    is_the_kit =
        let s : List ℕ = remainder g r.at in
        ext_get_or 0 marked s (long ∙ sym (remainder_full g r.at (omega (arith, promise.rest))))
        (λ v l.
        let low : v < g.n = omega (arith, long) in
        each v low ∙ ap mark (sym (promise.member r.at v low)) ∙ omega (arith, bit s v 1 (remainder_bytes g r.at)))
        ∙ ap (remainder g) p.at_is

    pub kitted : (members : List ℕ) → Kits g k members (marked ++ drop g.n members) r.ratio
    unfolding kit
    kitted members =
        record {
          members_are = ap (λ (xs : List ℕ). xs ++ drop g.n members) is_the_kit;
          p_is = p.p_is ∙ ap (λ (i : ℕ). inside g (remainder g i)) p.at_is;
          q_is = p.q_is ∙ ap (λ (i : ℕ). size (remainder g i)) p.at_is;
        }
