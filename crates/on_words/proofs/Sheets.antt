-- What solve works on and has found, and what it hands out.
--   front_holds, front_list    the work buffer's first 12,288 words hold the list that it holds
--   handed           this is what solve hands out
--   found_front      the found group's bytes are read back from the front
-- Assumes nothing.
use mathlib.Core.Path.{◌≡◌, refl, sym, ◌∙◌}
use mathlib.Core.Bool.{true}
use mathlib.Core.List.{List}
use Prim.Native.Nat.{ℕ, ◌<◌}
use native.Mathlib.Omega.{arith}
use lib.ListN.{get_or, take, take-append-drop}
use lib.Seq.{take_at, length-take-le, get_or-take}
use Rattle.theory.specs.Lists.{Pairs, is_list}
use Rattle.theory.specs.Groups.{found_of}
use Rattle.theory.specs.Promise.{FoundAlone, FoundOutright}
use Rattle.theory.specs.Words.{laid_list, HoldsList}
use Rattle.theory.proofs.Densest.{found_alone}
use Rattle.theory.proofs.Best.{found_outright, found_length}
use Rattle.densest.specs.declared.Solution.{Solution}
use Rattle.densest.specs.Solve.{Solves}
use Rattle.densest.proofs.Lent.{alike_list, alike_holds}
use Rattle.on_words.specs.Buffers.{in_front}
use Rattle.on_words.specs.Solving.{Handed, answered}
use Rattle.on_words.proofs.Peels.{cores_in_front}

module _ (n m : ℕ) (w : List ℕ) (holds : HoldsList n m w) where
  front_same : (k : ℕ) → k < 12288 → get_or (take 12288 w) k 0 ≡ get_or w k 0
  front_same k l = get_or-take 12288 w k 0 l

  pub front_holds : HoldsList n m (take 12288 w)
  front_holds = alike_holds n m w (take 12288 w) holds front_same (omega (arith, length-take-le 12288 w holds.long))

  pub front_list : laid_list n m (take 12288 w) ≡ laid_list n m w
  front_list = alike_list n m w (take 12288 w) holds front_same

module _ (g : Pairs) (held : is_list g ≡ true) (members cores shares members' cores' shares' : List ℕ) (r : Solution)
    (s : Solves g members cores shares members' cores' shares' r) where
  -- there is one found group: its member bytes stand in front
  members_are : members' ≡ in_front (found_of g) members
  unfolding in_front FoundAlone FoundOutright
  members_are =
      let same : take g.n members' ≡ found_of g = found_alone g _ _ held s.solved.found (found_outright g held) in
      sym (take-append-drop g.n members') ∙ rw (same, s.members_rest, found_length g held)

  pub handed : Handed g members cores shares (answered r) members' cores' shares'
  handed =
      let o = s.solved.optimal in
      record {
        members_are = members_are;
        cores_are = s.cores_are ∙ cores_in_front g cores;
        shares_rest = s.shares_rest;
        found = s.solved.found;
        optimal = o;
        order = s.solved.order ∙ rw (o.inside_count, o.modules);
        core_size = s.solved.core_size;
        outside = rw s.solved.order s.solved.outside;
        float = refl;
      }

-- the found group's bytes are read back from the front
pub found_front : (g : Pairs) → is_list g ≡ true → (members : List ℕ) → take g.n (in_front (found_of g) members) ≡ found_of g
unfolding in_front
found_front g held members = take_at (found_of g) _ _ (found_length g held)
