-- A list that is written and read has the same pairs, each with the count 1.
--   ones_listed     a list with the count 1 on each pair is a list
--   plain_once      WrittenPlain: its file has no comments, and names the pairs in list order
--   written_once    WrittenReadsOnce: it is what is read of the file of that list
-- Assumes nothing.
use mathlib.Core.Path.{◌≡◌, refl, sym, ap, ◌∙◌}
use mathlib.Core.Bool.{Bool, true, ◌&&◌}
use mathlib.Core.List.{List, [], ◌∷◌, ◌++◌, map}
use Prim.Native.Nat.{ℕ, ◌+◌, ◌≤◌}
use native.Mathlib.Omega.{arith}
use lib.ListN.{length}
use Rattle.theory.specs.Basics.{all}
use Rattle.theory.specs.Lists.{Pair, Pairs, pair, ends_in_range, smaller_first, weight_in_range, stands_before, before_first, rising, is_list}
use Rattle.theory.proofs.Lists.{listed, is_listed}
use Rattle.pairs.proofs.Keeps.{counts_once}
use Rattle.lines.specs.Outcomes.{taken}
use Rattle.pairfile.specs.Promise.{Names, all_once}
use Rattle.pairfile.proofs.Names.{ones, ones_length, ones_once, ones_named}
use Rattle.pairfile.proofs.Naming.{names_self}
use Rattle.lines.specs.Lines.{filled}
use Rattle.dimacs.specs.Comments.{without_comments}
use Rattle.dimacs.specs.Edges.{edge_form, read_dimacs, edge_lines, dimacs_file, dimacs_of}
use Rattle.dimacs.specs.Promise.{named, once_each}
use Rattle.dimacs.proofs.Forms.{edges_more}
use Rattle.dimacs.proofs.ReadsBack.{any_order, plain_written}

-- the same pairs, the smaller module first, in the same order
ends_same : (n : ℕ) (ps : List Pair) → all (ends_in_range n) (ones ps) ≡ all (ends_in_range n) ps
unfolding ones all ends_in_range pair
ends_same n [] = refl
ends_same n (p ∷ ps) = ap (λ (t : Bool). ends_in_range n p && t) (ends_same n ps)

first_same : (ps : List Pair) → all smaller_first (ones ps) ≡ all smaller_first ps
unfolding ones all smaller_first pair
first_same [] = refl
first_same (p ∷ ps) = ap (λ (t : Bool). smaller_first p && t) (first_same ps)

rises_same : (ps : List Pair) → rising (ones ps) ≡ rising ps
unfolding ones rising before_first stands_before pair
rises_same [] = refl
rises_same (p ∷ []) = refl
rises_same (p ∷ q ∷ qs) = ap (λ (t : Bool). stands_before p q && t) (rises_same (q ∷ qs))

weights_one : (ps : List Pair) → all weight_in_range (ones ps) ≡ true
unfolding ones all weight_in_range pair
weights_one [] = refl
weights_one (p ∷ ps) = weights_one ps

-- so it is a list
pub ones_listed : (g : Pairs) → is_list g ≡ true → is_list (record { n = g.n; pairs = ones g.pairs }) ≡ true
ones_listed g e =
    let k = listed g e in
    is_listed (record { n = g.n; pairs = ones g.pairs }) (record {
      some = k.some;
      few = k.few;
      short = omega (arith, k.short, ones_length g.pairs);
      ends = ends_same g.n g.pairs ∙ k.ends;
      first = first_same g.pairs ∙ k.first;
      weights = weights_one g.pairs;
      rises = rises_same g.pairs ∙ k.rises;
    })

each_one : (ps : List Pair) → map (λ p. pair p.a p.b) ps ≡ ones ps
unfolding ones
each_one [] = refl
each_one (p ∷ ps) = ap (λ (qs : List Pair). pair p.a p.b ∷ qs) (each_one ps)

-- the lines leave the counts out
lines_once : (ps : List Pair) → edge_lines (ones ps) ≡ edge_lines ps
unfolding ones pair
lines_once [] = refl
lines_once (p ∷ ps) =
    let line : List ℕ = filled edge_form ((p.a + 1) ∷ (p.b + 1) ∷ []) in
    edges_more (pair p.a p.b) (ones ps) ∙ ap (λ (l : List ℕ). line ++ l) (lines_once ps) ∙ sym (edges_more p ps)

pub plain_once : (g : Pairs) → is_list g ≡ true → (without_comments (dimacs_of g) ≡ dimacs_of g) × (named (dimacs_of g) ≡ (once_each g).pairs)
unfolding dimacs_of dimacs_file once_each all_once counts_once
plain_once g e =
    rw (each_one g.pairs, ← (lines_once g.pairs), ← (ones_length g.pairs))
    (plain_written (record { n = g.n; pairs = ones g.pairs }) (ones_listed g e) (ones_once g.pairs))

pub written_once : (room : ℕ) (g : Pairs) → is_list g ≡ true → length g.pairs ≤ room → read_dimacs room (dimacs_of g) ≡ taken (once_each g)
unfolding dimacs_of once_each Names all_once counts_once
written_once room g e f =
    let k = listed g e in
    let ps : List Pair = g.pairs in
    let own = names_self (ones ps) (rises_same ps ∙ k.rises) (first_same ps ∙ k.first) in
    rw (each_one ps) (any_order room (record { n = g.n; pairs = ones ps }) ps (ones_listed g e) (ones_once ps) (omega (arith, f, ones_length ps))
    (λ r. sym (ones_named r ps) ∙ own r))
