-- `on_words::peeling::peel_on_words` meets its contract: peel of the list in the words, its order narrowed. Assumes nothing.
use mathlib.Core.Path.{sym, ap, ◌∙◌}
use mathlib.Core.List.{List}
use Prim.Native.Nat.{ℕ}
use native.Mathlib.Omega.{arith}
use lib.Seq.{length-take-le}
use Rattle.theory.specs.Words.{laid_list}
use Rattle.theory.proofs.Lists.{listed}
use Rattle.on_words.specs.Buffers.{in_front}
use Rattle.on_words.proofs.Peels.{order_front, order_enough, order_small, cores_in_front}
use Rattle.on_words.proofs.peeling.peel_on_words.Goals as goal

pub peel-requires : goal.peel-requires
unfolding laid_list
peel-requires c =
    let l = listed _ c.requires.holds_list.listed in
    rw c.list-list.ensures.modules
    (record { some = omega arith; few = l.some; order_long = l.few; cores_long = c.requires.cores_long; place_long = l.few })

pub slice_bounds-leavers-end : goal.slice_bounds-leavers-end
unfolding laid_list
slice_bounds-leavers-end c =
    let done = rw c.list-list.ensures.value at c.peel.ensures in
    rw c.list-list.ensures.modules (order_enough _ c.requires.holds_list.listed _ _ done.order_is)

pub slice_bounds-narrow-end : goal.slice_bounds-narrow-end
unfolding laid_list
slice_bounds-narrow-end c =
    let done = rw c.list-list.ensures.value at c.peel.ensures in
    rw c.list-list.ensures.modules (sym (length-take-le _ _ (order_enough _ c.requires.holds_list.listed _ _ done.order_is)))

pub narrow-requires-clause-small : goal.narrow-requires-clause-small
unfolding laid_list
narrow-requires-clause-small c =
    let done = rw c.list-list.ensures.value at c.peel.ensures in
    rw c.list-list.ensures.modules (order_small _ c.requires.holds_list.listed _ _ done.order_is)

pub returns : goal.returns
unfolding laid_list
returns c =
    let done = rw c.list-list.ensures.value at c.peel.ensures in
    record {
      order_is =
          rw c.list-list.ensures.modules at c.narrow.ensures
          ∙ ap (λ (ys : List ℕ). in_front ys c.args.order.now) (order_front _ c.requires.holds_list.listed _ _ done.order_is);
      cores_are = done.cores_are ∙ cores_in_front _ c.args.cores.now;
      left = c.clear.ensures;
    }
