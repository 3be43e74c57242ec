-- What solve hands out of a list of ones, in document 03's words.
--   in_front_as     a buffer whose entries past the first k stay has its first k entries in front
--   found_as        what is handed out is document 03's
-- Assumes nothing.
use mathlib.Core.Path.{◌≡◌, sym, ◌∙◌}
use mathlib.Core.Bool.{true}
use mathlib.Core.List.{List}
use Prim.Native.Nat.{ℕ}
use native.Mathlib.Omega.{arith}
use lib.ListN.{length, take, drop, take-append-drop}
use Rattle.theory.specs.Groups.{size, found_of}
use Rattle.theory.specs.Splits.{is_split}
use Rattle.theory.specs.Ratio.{float_ratio}
use Rattle.theory.specs.Plain as plain
use Rattle.theory.specs.Plain.{weighted}
use Rattle.theory.proofs.Tests.{tests}
use Rattle.theory.proofs.Plain.{is_list_plain, inside_plain, is_split_plain, greatest_load_plain, rounded_up_plain}
use Rattle.theory.proofs.Splits.{shares_length}
use Rattle.theory.proofs.PlainCores.{core_plain, core_numbers_plain, outside_good_plain}
use Rattle.on_words.specs.declared.Solved.{Solved}
use Rattle.on_words.specs.Buffers as ours
use Rattle.on_words.specs.Solving.{Handed}
use Rattle.on_words.proofs.Sheets.{found_front}
use Rattle.statements.specs.Entry.{in_front, ratio, FoundAs}

-- where the entries past the first k are the old ones, the first k stand in front of them
pub in_front_as : (k : ℕ) (new old : List ℕ) → length (take k new) ≡ k → drop k new ≡ drop k old → new ≡ in_front (take k new) old
unfolding in_front
in_front_as k new old l e = sym (take-append-drop k new) ∙ rw (l, e)

module _ (g : plain.Pairs) (held : plain.is_list g ≡ true) (a c d x y z : List ℕ) (r : Solved) (out : Handed (weighted g) a c d r x y z) where
  -- the group and the shares in front of the buffers
  abbrev pub group : List ℕ
  group = take (weighted g).n x

  abbrev pub shares : List ℕ
  shares = take (length (weighted g).pairs) z

  -- P, Q and K are that group's
  p_is : r.p ≡ plain.inside g group
  p_is = out.optimal.inside_count ∙ inside_plain g group

  q_is : r.q ≡ size group
  q_is = out.optimal.modules

  split : is_split (weighted g) (size group) shares ≡ true
  split = rw q_is at out.optimal.is_a_split

  k_is : r.k ≡ plain.rounded_up (plain.inside g group) (size group)
  k_is = rw (p_is, q_is) at out.order ∙ rounded_up_plain (plain.inside g group) (size group)

  -- the greatest load is P
  top_load : plain.greatest_load g (size group) shares ≡ plain.inside g group
  top_load = sym (greatest_load_plain g (size group) shares) ∙ rw q_is at out.optimal.top_load ∙ p_is

  -- the shares fill their places
  length_shares : length shares ≡ length (weighted g).pairs
  unfolding is_split
  length_shares = shares_length (size group) (weighted g).pairs shares (simp tests at split).1

  -- and the group stands in front of the member bytes
  group_front : x ≡ in_front group a
  unfolding in_front ours.in_front
  group_front =
      let same : group ≡ found_of (weighted g) = rw out.members_are (found_front (weighted g) (is_list_plain g ∙ held) a) in
      out.members_are ∙ rw same

  pub found_as : r.number ≡ 0 → FoundAs g group shares r a x c y d z
  unfolding FoundAs ratio float_ratio in_front ours.in_front
  found_as taken = (
    sym (is_split_plain g (size group) shares) ∙ split,
    omega (arith, top_load),
    sym (outside_good_plain g _ (size group) shares held) ∙ rw (k_is, q_is) at out.outside,
    taken,
    p_is,
    q_is,
    k_is,
    out.core_size ∙ rw (core_plain g r.k, k_is),
    rw (p_is, q_is) at out.float,
    group_front,
    rw (core_numbers_plain g held) at out.cores_are,
    in_front_as _ z d length_shares out.shares_rest,
  )
