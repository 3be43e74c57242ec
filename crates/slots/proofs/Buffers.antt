-- Buffers that are written from the front, one entry at a time, and buffers of member bytes.
--   written_next                  one entry more
--   written_all                   all n entries, and what stood past them
--   good_bytes                    entries of at most 1 are member bytes
-- Assumes nothing.
use mathlib.Core.Path.{◌≡◌, refl, sym, ◌∙◌}
use mathlib.Core.Bool.{Bool, true, false}
use mathlib.Core.List.{List, [], ◌∷◌, ◌++◌}
use Prim.Native.Nat.{ℕ, suc, ◌+◌, ◌-◌, ◌≤◌, ◌<◌}
use native.Mathlib.Omega.{arith}
use lib.Dec.{leb}
use lib.ListN.{length, get_or, set, drop, length-set, length-append, length-drop, get_or-append}
use lib.Seq.{get_or-set_other, get_or-append-add, get_or-drop, ext_get_or}
use borrow.Author.Tests.{leb-true, leb-false}
use Rattle.theory.specs.Basics.{table}
use Rattle.theory.specs.Groups.{bytes_good}
use Rattle.theory.proofs.Tables.{length_table, table_at}
use Rattle.theory.proofs.Tests.{tests}
use Rattle.slots.specs.Buffers.{WrittenFront}
use Rattle.slots.proofs.Choice.{stored_more}

pub written_next : (k : ℕ) (f : ℕ → ℕ) (old xs : List ℕ) (x : ℕ) → k < length old → x ≡ f k → WrittenFront k f old xs →
    WrittenFront (k + 1) f old (set xs k x)
written_next k f old xs x h e w =
    record {
      long = length-set xs k x ∙ w.long;
      front = stored_more (λ i y. y ≡ f i) xs k x (omega (arith, w.long)) w.front e;
      rest = λ i l. get_or-set_other xs k i x 0 (λ y. omega arith) ∙ w.rest i (omega arith);
    }

-- all n entries, and what stood past them
pub written_all : (n : ℕ) (f : ℕ → ℕ) (old new : List ℕ) → n ≤ length old → WrittenFront n f old new → new ≡ table n f ++ drop n old
written_all n f old new h w =
    ext_get_or 0 new (table n f ++ drop n old)
    (w.long ∙ simp (length-append, length_table, length-drop) (omega arith))
    (λ i l. go i (leb n i) refl)
  where
    go : (i : ℕ) (t : Bool) → leb n i ≡ t → get_or new i 0 ≡ get_or (table n f ++ drop n old) i 0
    go i true e =
        let le : n ≤ i = leb-true n i e in
        let at : i ≡ length (table n f) + (i - n) = omega (arith, length_table n f) in
        let back : n + (i - n) ≡ i = omega arith in
        w.rest i le
        ∙ (rw back at (sym (get_or-drop n old (i - n) 0)))
        ∙ (rw (← at) at (sym (get_or-append-add (table n f) (drop n old) (i - n) 0)))
    go i false e =
        let lt : i < n = leb-false n i e in
        w.front i lt
        ∙ sym (table_at n f i 0 lt)
        ∙ sym (get_or-append (table n f) (drop n old) 0 i (omega (arith, length_table n f)))

-- entries of at most 1 are member bytes
pub good_bytes : (t : List ℕ) → ((v : ℕ) → v < length t → get_or t v 0 ≤ 1) → bytes_good t ≡ true
unfolding bytes_good
good_bytes [] h = refl
good_bytes (x ∷ xs) h = simp tests (h 0 (omega arith), good_bytes xs (λ v l. h (suc v) (omega arith)))
