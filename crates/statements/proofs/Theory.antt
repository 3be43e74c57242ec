-- Document 03's statements of groups, splits and cores, from theory's theorems on the same list with every weight 1; the theorems of
-- specs/Theory.antt.
--   equal_best                               the third demand
--   found_there, found_alone, split_there    the found group and its split
--   check_best                               what check accepts
--   found_in_core, core_exact                the second demand
-- Assumes nothing.
use mathlib.Core.Path.{◌≡◌, sym, ◌∙◌}
use mathlib.Core.Bool.{true}
use mathlib.Core.List.{List}
use Prim.Native.Nat.{ℕ}
use Rattle.theory.specs.Lists.{is_list}
use Rattle.theory.specs.Groups.{size, NoneDenser}
use Rattle.theory.specs.Promise as ours
use Rattle.theory.specs.Plain as plain
use Rattle.theory.specs.Plain.{weighted}
use Rattle.theory.proofs.Promises as proved
use Rattle.theory.proofs.Plain.{inside_plain, at_most_plain, is_group_plain, found_plain, found_weighted, is_list_plain}
use Rattle.theory.proofs.Plain.{is_split_plain, greatest_load_plain, rounded_up_plain}
use Rattle.theory.proofs.PlainCores.{core_plain, each_has_plain, core_number_plain, outside_good_plain}
use Rattle.statements.specs.Theory.{EqualBest, FoundThere, FoundAlone, SplitThere, CheckBest, FoundInCore, CoreExact}

module _ (g : plain.Pairs) where
  -- a list that document 03 takes is held
  held : plain.is_list g ≡ true → is_list (weighted g) ≡ true
  held l = is_list_plain g ∙ l

  -- no group has a higher ratio, both ways
  abbrev DensestPlain : List ℕ → Type 0
  DensestPlain s = (t : List ℕ) → plain.is_group g t ≡ true → plain.at_most g t s ≡ true

  densest_plain : (s : List ℕ) → NoneDenser (weighted g) s → DensestPlain s
  densest_plain s d t h = sym (at_most_plain g t s) ∙ d t (is_group_plain g t ∙ h)

  densest_weighted : (s : List ℕ) → DensestPlain s → NoneDenser (weighted g) s
  densest_weighted s d t h = at_most_plain g t s ∙ d t (sym (is_group_plain g t) ∙ h)

-- ---- ratio and greatest load over share size

pub equal_best : EqualBest
unfolding EqualBest ours.EqualBest
equal_best g s xs q l h k =
    let both = proved.equal_best (weighted g) s xs q (held g l) (is_group_plain g s ∙ h) (is_split_plain g q xs ∙ k) in (
      λ e.
          let b = both.0 (rw (inside_plain g s, greatest_load_plain g q xs) e) in (
            densest_plain g s b.none_denser,
            λ r ys j. rw (greatest_load_plain g q xs, greatest_load_plain g r ys) at (b.none_lower r ys (is_split_plain g r ys ∙ j)),
          ),
      λ d n.
          rw (inside_plain g s, greatest_load_plain g q xs) at (both.1 (record {
            none_denser = densest_weighted g s d;
            none_lower = λ r ys j. rw (greatest_load_plain g q xs, greatest_load_plain g r ys) (n r ys (sym (is_split_plain g r ys) ∙ j));
          })),
    )

pub check_best : CheckBest
unfolding CheckBest ours.CheckBest
check_best g s xs t l h k e =
    let top = greatest_load_plain g (size s) xs in
    let b =
    proved.check_best (weighted g) s xs (held g l) (is_group_plain g s ∙ h) (is_split_plain g (size s) xs ∙ k)
    (rw (top, inside_plain g s) e) in
    (rw (top, inside_plain g s) at b.0, densest_plain g s b.1 t)

-- ---- the found group and its split

pub found_there : FoundThere
unfolding FoundThere ours.FoundThere
found_there g l = let f = proved.found_there (weighted g) (held g l) in (f.0, found_plain g f.0 f.1)

pub found_alone : FoundAlone
unfolding FoundAlone ours.FoundAlone
found_alone g s t l e f = proved.found_alone (weighted g) s t (held g l) (found_weighted g s e) (found_weighted g t f)

pub split_there : SplitThere
unfolding SplitThere ours.SplitThere
split_there g s l f =
    let q : ℕ = size s in
    let p = inside_plain g s in
    let y = proved.split_there (weighted g) s (held g l) (found_weighted g s f) in
    let xs : List ℕ = y.0 in (
      xs,
      sym (is_split_plain g q xs) ∙ y.1,
      rw (greatest_load_plain g q xs, p) at y.2,
      sym (outside_good_plain g _ q xs l) ∙ rw (p, rounded_up_plain (plain.inside g s) q) at y.3,
    )

-- ---- cores

pub found_in_core : FoundInCore
unfolding FoundInCore ours.FoundInCore
found_in_core g s l f =
    rw (inside_plain g s, rounded_up_plain (plain.inside g s) (size s), core_plain g (plain.rounded_up (plain.inside g s) (size s)))
    at (proved.found_in_core (weighted g) s (held g l) (found_weighted g s f))

pub core_exact : CoreExact
unfolding CoreExact ours.CoreExact weighted
core_exact g m k s l i =
    let n : ℕ = plain.core_number g m in
    let same = core_number_plain g m l in
    let c = proved.core_exact (weighted g) m (held g l) i in (
      λ h j a. rw same at (c.most k s (is_group_plain g s ∙ h) j (each_has_plain g k s ∙ a)),
      rw (same, core_plain g n) at c.member,
      rw (same, core_plain g n, each_has_plain g n (plain.core g n)) at c.each,
    )
