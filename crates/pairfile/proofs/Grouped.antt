-- The list of a file of which a group is asked.
--   group_refused           a file that is refused stays so
--   group_judged            a list is judged by 20
--   group_taken, taken_group    one with a pair is taken, and no other
--   group_listed            it is a list
--   group_pairless          one without pairs is turned down
--   group_first             the file is decided by its first 65,536 bytes
-- Assumes nothing.
use mathlib.Core.Path.{◌≡◌, refl}
use mathlib.Core.Bool.{true}
use mathlib.Core.List.{List}
use Prim.Native.Nat.{ℕ, ◌≤◌}
use lib.ListN.{length, take}
use Rattle.theory.specs.Lists.{Pairs, is_list}
use Rattle.theory.specs.Pairless.{group_causes, group_number}
use Rattle.theory.proofs.Pairless.{none_turned, some_served, served_some}
use Rattle.lines.specs.Outcomes.{refused, taken, passed, judge, ◌>>=◌, ◌>>◌}
use Rattle.lines.proofs.Taken.{bind_taken, judged_taken}
use Rattle.pairfile.specs.File.{read_file, group_list}
use Rattle.pairfile.proofs.Accepts.{accepted}
use Rattle.pairfile.proofs.Prefix.{read_trimmed}

module _ (file : List ℕ) where
  pub group_refused : {k : ℕ} → read_file 4096 file ≡ refused k → group_list file ≡ refused k
  unfolding group_list ◌>>=◌
  group_refused e = rw e refl

  module _ (g : Pairs) (e : read_file 4096 file ≡ taken g) where
    pub group_judged : group_list file ≡ ◌>>◌ (passed (group_number (length g.pairs))) (taken g)
    unfolding group_list group_number judge ◌>>=◌
    group_judged = rw e refl

    pub group_taken : 1 ≤ length g.pairs → group_list file ≡ taken g
    unfolding passed ◌>>◌
    group_taken l = rw (some_served (length g.pairs) l) at group_judged

    pub group_pairless : length g.pairs ≡ 0 → group_list file ≡ refused 20
    unfolding passed ◌>>◌
    group_pairless z = rw (none_turned (length g.pairs) z) at group_judged

  pub taken_group : (g : Pairs) → group_list file ≡ taken g → (read_file 4096 file ≡ taken g) × (1 ≤ length g.pairs)
  unfolding group_list group_number
  taken_group g e =
      let b = bind_taken (read_file 4096 file) _ g e in
      let j = judged_taken (group_causes (length b.0.pairs)) b.0 g b.2 in
      rw (← j.1) (b.1, served_some (length b.0.pairs) j.0)

  pub group_listed : (g : Pairs) → group_list file ≡ taken g → is_list g ≡ true
  group_listed g e = (accepted 4096 file g (taken_group g e).0).list

  pub group_first : (w : ℕ) → 65536 ≤ w → group_list (take w file) ≡ group_list file
  unfolding group_list
  group_first w l = rw (read_trimmed 4096 w file l) refl
