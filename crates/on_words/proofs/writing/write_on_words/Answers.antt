-- `on_words::writing::write_on_words` meets its contract: the file of the list in the words. Assumes nothing.
use mathlib.Core.Path.{◌≡◌, ◌∙◌}
use mathlib.Core.Bool.{true}
use Prim.Native.Nat.{ℕ, ◌+◌, ◌≤◌}
use native.Mathlib.Nat.{zero-add}
use native.Mathlib.Omega.{arith}
use lib.ListN.{length}
use Rattle.theory.specs.Lists.{Pairs, is_list}
use Rattle.theory.specs.Words.{laid_list}
use Rattle.dimacs.specs.Edges.{dimacs_of}
use Rattle.dimacs.proofs.Writing.{dimacs_length}
use Rattle.on_words.proofs.Filling.{put_front}
use Rattle.on_words.proofs.writing.write_on_words.Goals as goal

-- how long the file is, which has been written
short : (k : ℕ) (g : Pairs) → k ≡ 0 + length (dimacs_of g) → is_list g ≡ true → (k ≡ length (dimacs_of g)) × (length (dimacs_of g) ≤ 65536)
short k g e l = (e ∙ zero-add (length (dimacs_of g)), dimacs_length g l)

pub overflow_cast-result : goal.overflow_cast-result
overflow_cast-result c =
    let a = c.args in
    let e = rw c.list.ensures.value at c.write_words.ensures in
    omega (arith, short _ (laid_list a.head.n a.head.m a.words.now) e.end c.requires.holds_list.listed)

pub returns : goal.returns
returns c =
    let a = c.args in
    let g : Pairs = laid_list a.head.n a.head.m a.words.now in
    let e = rw c.list.ensures.value at c.write_words.ensures in
    record { counted = (short _ g e.end c.requires.holds_list.listed).0; bytes = e.buffer ∙ put_front (dimacs_of g) _ }
