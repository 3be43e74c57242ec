-- The pairs inside a core, as a list: its cores, and its found group.
--   core_sub                           cores of higher orders lie within
--   inner_core                         cores of no lower order are those of all pairs
--   inner_core_number                  members of the core keep their core numbers, the others have 0
--   inner_candidate                    inside a core of that order or lower, too, some group's ratio is p over q or more
--   inner_found, inner_found_inside    the found group inside that core is the found group of all pairs, with as many pairs inside
-- Assumes nothing.
use Rattle.std.proofs.Common.{◌≡◌, ℕ, ◌*◌, ◌<◌, ◌≤◌, Bool, true, false, cond, leb, List, sym, refl, ap, ◌∙◌, subst, mul-le-mul_right, arith, leb-true}
use Rattle.theory.specs.Lists.{Pairs, is_list}
use Rattle.theory.specs.Groups.{is_in, size, is_group, inside, at_most, Found, found_of}
use Rattle.theory.specs.Cores.{core, core_number}
use Rattle.theory.specs.Splits.{rounded_up}
use Rattle.theory.specs.Promise.{FoundOutright, CoreMembers}
use Rattle.theory.proofs.Tests.{tests}
use Rattle.theory.proofs.Groups.{Bits, Sub, sub_within, within_both}
use Rattle.theory.proofs.Best.{found_outright}
use Rattle.theory.proofs.Cores.{good_in_core, core_good, core_bits, length_core, core_members, number_of, in_own_core}
use Rattle.rounds.specs.Known.{Candidate}
use Rattle.rounds.proofs.Scopes.{reached_candidate, dense_in_core}
use Rattle.densest.specs.Inner.{inner_list}
use Rattle.densest.proofs.InnerPairs.{inner_is_list, inner_inside, inner_inside_same, inner_degree, inner_degree_same, inner_degree_none}

-- ---- cores

-- two sets that hold each other are one
sub_both : (n : ℕ) (s t : List ℕ) → Bits n s → Bits n t → Sub s t → Sub t s → s ≡ t
sub_both n s t b c h k = within_both s t (sub_within s t (b.0 ∙ sym c.0) b.1 h) (sub_within t s (c.0 ∙ sym b.0) c.1 k)

-- the core of order k holds those of higher orders
pub core_sub : (g : Pairs) (k j : ℕ) → k ≤ j → Sub (core g j) (core g k)
core_sub g k j h = good_in_core g k (core g j) (length_core g j) (λ m e. omega (arith, core_good g j m e))

-- inside a core, each core of no lower order is that of all pairs
pub inner_core : (g : Pairs) (k j : ℕ) → k ≤ j → core (inner_list g (core g k)) j ≡ core g j
unfolding inner_list
inner_core g k j le =
    let i = inner_list g (core g k) in
    let up = core_sub g k j le in
    sub_both g.n (core i j) (core g j) (core_bits i j) (core_bits g j)
    (good_in_core g j (core i j) (length_core i j) (λ m e. omega (arith, core_good i j m e, inner_degree g (core g k) (core i j) m)))
    (good_in_core i j (core g j) (length_core g j)
    (λ m e. omega (arith, core_good g j m e, inner_degree_same g (core g k) (core g j) m up (up m e))))

-- members of the core keep their core numbers; the others have no pair, and 0
pub inner_core_number : (g : Pairs) (k v : ℕ) → is_list g ≡ true → v < g.n →
    core_number (inner_list g (core g k)) v ≡ cond (leb k (core_number g v)) (core_number g v) 0
unfolding inner_list CoreMembers
inner_core_number g k v l h = go (leb k (core_number g v)) refl
  where
    x : ℕ
    x = core_number g v

    y : ℕ
    y = core_number (inner_list g (core g k)) v

    own : is_in (core (inner_list g (core g k)) y) v ≡ true
    own = in_own_core (inner_list g (core g k)) v h

    go : (b : Bool) → leb k x ≡ b → y ≡ cond b x 0
    go true e =
        let kx : k ≤ x = leb-true k x e in
        let xy : x ≤ y = number_of (inner_list g (core g k)) x v (rw (inner_core g k x kx) (in_own_core g v h)) in
        let yx : y ≤ x = number_of g y v (rw (inner_core g k y (omega arith)) at own) in
        omega arith
    go false e =
        omega (
          arith,
          core_good (inner_list g (core g k)) y v own,
          inner_degree_none g (core g k) (core (inner_list g (core g k)) y) v (core_members g k v l h ∙ e),
        )

-- ---- the found group

module _ (g : Pairs) (p q k : ℕ) (l : is_list g ≡ true) (c : Candidate g p q) (low : k ≤ rounded_up p q) where
  -- the list of the pairs inside the core of order k
  abbrev inner : Pairs
  inner = inner_list g (core g k)

  -- all pairs of the found group are inside that core
  found_inside : (f : List ℕ) → Found g f → inside inner f ≡ inside g f
  found_inside f ff = inner_inside_same g (core g k) f (λ v i. core_sub g k (rounded_up p q) low v (dense_in_core g p q l c f ff v i))

  -- inside that core, too, some group reaches p over q
  pub inner_candidate : Candidate inner p q
  unfolding inner_list FoundOutright is_group
  inner_candidate =
      let f = found_of g in
      let ff = found_outright g l in
      reached_candidate inner p q f (inner_is_list g (core g k) l) ff.group (rw (found_inside f ff) c.reached) c.few c.some c.small

  -- a found group inside that core is one of all pairs: they have the same ratio, so each holds the other
  found_same : (s f : List ℕ) → Found inner s → Found g f → f ≡ s
  unfolding inner_list at_most is_group
  found_same s f fs ff =
      let same : inside inner f ≡ inside g f = found_inside f ff in
      let less : inside inner s ≤ inside g s = inner_inside g (core g k) s in
      let best : inside inner f * size s ≤ inside inner s * size f = simp tests at (fs.greatest f ff.group) in
      let most : inside g s * size f ≤ inside g f * size s = simp tests at (ff.greatest s fs.group) in
      within_both f s
      (fs.largest f ff.group (simp tests (omega (arith, most, mul-le-mul_right (size f) less, ap (λ (z : ℕ). z * size s) same))))
      (ff.largest s fs.group (simp tests (omega (arith, best, mul-le-mul_right (size f) less, ap (λ (z : ℕ). z * size s) same))))

  -- what is found inside that core is the found group
  pub inner_found : (s : List ℕ) → Found inner s → Found g s
  unfolding FoundOutright
  inner_found s fs = let ff = found_outright g l in subst (λ (x : List ℕ). Found g x) (found_same s (found_of g) fs ff) ff

  -- with as many pairs inside
  pub inner_found_inside : (s : List ℕ) → Found inner s → inside inner s ≡ inside g s
  inner_found_inside s fs = found_inside s (inner_found s fs)
