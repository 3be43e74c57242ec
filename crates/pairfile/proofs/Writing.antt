-- Pair lines of any form, and a pair file written line by line.
--   numbered_none                       the pairs numbered from 0 are the pairs
--   ends_small, Writable, writable      the words of a list are small, and few
--   lines_from, next_line, no_line      the lines that are left, the one in front of them, and none
--   lines_length, lined_bound           how long the lines are, and a file of such lines
--   lined_parts, lined_length           N and M by one form, each pair by another: such a file of a list, which 65,536 bytes hold
--   heads_form, file_parts, file_length a pair file is such a file, its first two lines as one form
--   taken_length                        one that is taken stays below 65,536 bytes
-- Assumes nothing.
use mathlib.Core.Path.{◌≡◌, refl}
use mathlib.Core.Bool.{true}
use mathlib.Core.List.{List, [], ◌∷◌, ◌++◌, append_assoc}
use Prim.Native.Nat.{ℕ, ◌+◌, ◌*◌, ◌≤◌, ◌<◌}
use native.Mathlib.Nat.{add-zero, mul-le-mul_left}
use native.Mathlib.Numerals.{add-one}
use native.Mathlib.Omega.{arith}
use lib.ListN.{length, get_or, drop, drop_of_length-le, length-append}
use lib.Seq.{drop-cons}
use Rattle.theory.specs.Basics.{all, mark}
use Rattle.theory.specs.Lists.{Pair, Pairs, pair, ends_in_range, weight_in_range, is_list}
use Rattle.theory.specs.Words.{word_pair, pairs_in, list_in, HeldWords}
use Rattle.theory.proofs.Lists.{listed}
use Rattle.theory.proofs.Tests.{tests}
use Rattle.theory.proofs.Words.{length_pairs_in, pairs_in_at}
use Rattle.lines.specs.Text.{text, between}
use Rattle.lines.specs.Lines.{is_place, places, filled}
use Rattle.lines.proofs.Lengths.{no_more, and_small, filled_length}
use Rattle.pairs.proofs.General.{all_at, all_weaker}
use Rattle.lines.specs.Outcomes.{taken}
use Rattle.pairfile.specs.File.{modules_form, pairs_form, pair_form, read_file, numbered, pair_lines, lined, file_of}
use Rattle.pairfile.specs.Answers.{EndsSmall}
use Rattle.pairfile.specs.Promise.{names_two, names_stops}
use Rattle.pairfile.proofs.Accepts.{file_accepted}

-- the pairs numbered from 0 are the pairs
pub numbered_none : (ps : List Pair) → numbered 0 ps ≡ ps
unfolding numbered
numbered_none [] = refl
numbered_none (p ∷ ps) = rw (add-zero p.a, add-zero p.b, numbered_none ps)

-- the two words of pair j, where all pairs are in range
pub ends_small : (n m : ℕ) (ends weights : List ℕ) → all (ends_in_range n) (pairs_in m ends weights) ≡ true → (j : ℕ) → j < m →
    (get_or ends (2 * j) 0 < n) × (get_or ends (2 * j + 1) 0 < n)
unfolding ends_in_range pair word_pair
ends_small n m ends weights e j h =
    let p = all_at (ends_in_range n) (pairs_in m ends weights) j (pair 0 0) e (omega (arith, length_pairs_in m ends weights)) in
    simp tests at (rw (pairs_in_at m ends weights j (pair 0 0) h) at p)

-- a list in words: few modules and few pairs, and what its words have room for
pub record Writable (n m : ℕ) (ends weights : List ℕ) : Type 0 where
  pub few : n ≤ 512
  pub short : m ≤ 4096
  pub ends_long : 2 * m ≤ length ends
  pub weights_long : m ≤ length weights
  pub small : EndsSmall m ends

pub writable : (n m : ℕ) (ends weights : List ℕ) → HeldWords n m ends weights → Writable n m ends weights
unfolding list_in
writable n m ends weights w =
    let k = listed (list_in n m ends weights) w.listed in
    record {
      few = k.few;
      short = omega (arith, k.short, length_pairs_in m ends weights);
      ends_long = w.ends_long;
      weights_long = w.weights_long;
      small = record { each = λ j h. let s = ends_small n m ends weights k.ends j h in (omega (arith, s.0, k.few), omega (arith, s.1, k.few)) };
    }

-- what is left of the lines from pair j on
module _ (form : List ℕ) (lowest m : ℕ) (ends weights : List ℕ) (j : ℕ) where
  abbrev pub lines_from : List ℕ
  lines_from = pair_lines form (numbered lowest (drop j (pairs_in m ends weights)))

  -- the next line
  pub next_line : j < m →
      lines_from ≡
      filled form ((get_or ends (2 * j) 0 + lowest) ∷ (get_or ends (2 * j + 1) 0 + lowest) ∷ get_or weights j 0 ∷ [])
      ++ pair_lines form (numbered lowest (drop (j + 1) (pairs_in m ends weights)))
  unfolding pair_lines numbered word_pair
  next_line h =
      rw (
        drop-cons (pairs_in m ends weights) j (pair 0 0) (omega (arith, length_pairs_in m ends weights)),
        pairs_in_at m ends weights j (pair 0 0) h,
        add-one j,
      )

  -- no line is left
  pub no_line : m ≤ j → lines_from ≡ []
  unfolding pair_lines numbered
  no_line h = rw (drop_of_length-le (pairs_in m ends weights) {i = j} (omega (arith, h, length_pairs_in m ends weights)))

-- three bytes at most for each number more than the form has
pub lines_length : (form : List ℕ) (n lowest : ℕ) (ps : List Pair) → n ≤ 512 → lowest ≤ 1 → all (ends_in_range n) ps ≡ true →
    all weight_in_range ps ≡ true → length (pair_lines form (numbered lowest ps)) ≤ (length form + 3 * places form) * length ps
unfolding pair_lines numbered all ends_in_range weight_in_range
lines_length form n lowest [] h l e c = omega arith
lines_length form n lowest (p ∷ ps) h l e c =
    let e' = simp tests at e in
    let c' = simp tests at c in
    let count = and_small p.w (omega (arith, c'.0)) no_more in
    let small = and_small (p.a + lowest) (omega (arith, e'.0)) (and_small (p.b + lowest) (omega (arith, e'.0)) count) in
    let line = filled_length 3 (omega arith) form ((p.a + lowest) ∷ (p.b + lowest) ∷ p.w ∷ []) small.each in
    simp length-append (omega (arith, line, lines_length form n lowest ps h l e'.1 c'.1))

-- ---- N and M by one form, then each pair by another

-- a list as it lies in words
pub lined_parts : (heads form : List ℕ) (lowest n m : ℕ) (ends weights : List ℕ) →
    lined heads form lowest (list_in n m ends weights) ≡
    filled heads (n ∷ m ∷ []) ++ pair_lines form (numbered lowest (pairs_in m ends weights))
unfolding lined list_in
lined_parts heads form lowest n m ends weights = rw (length_pairs_in m ends weights)

-- how long it is, in whatever order the pairs come
pub lined_bound : (heads form : List ℕ) (lowest n : ℕ) (ps : List Pair) → lowest ≤ 1 → n ≤ 512 → length ps ≤ 4096 →
    all (ends_in_range n) ps ≡ true → all weight_in_range ps ≡ true →
    length (lined heads form lowest (record { n = n; pairs = ps })) ≤ length heads + 3 * places heads + (length form + 3 * places form) * 4096
unfolding lined
lined_bound heads form lowest n ps low few short ends weights =
    let small = and_small n (omega arith) (and_small (length ps) (omega arith) no_more) in
    simp length-append
    (omega (
      arith,
      filled_length 3 (omega arith) heads (n ∷ length ps ∷ []) small.each,
      lines_length form n lowest ps few low ends weights,
      mul-le-mul_left (length form + 3 * places form) short,
    ))

-- 65,536 bytes hold the file of any list
pub lined_length : (heads form : List ℕ) (lowest : ℕ) → lowest ≤ 1 →
    length heads + 3 * places heads + (length form + 3 * places form) * 4096 ≤ 65536 → (g : Pairs) → is_list g ≡ true →
    length (lined heads form lowest g) ≤ 65536
lined_length heads form lowest low bound g e =
    let k = listed g e in
    omega (arith, bound, lined_bound heads form lowest g.n g.pairs low k.few k.short k.ends k.weights)

-- ---- a pair file

-- its first two lines, as one form
unfoldable pub heads_form : List ℕ
heads_form = text "modules=N\npairs=M\n"

-- written so, they are those of a pair file
heads_same : (n m : ℕ) (rest : List ℕ) → filled heads_form (n ∷ m ∷ []) ++ rest ≡ filled modules_form (n ∷ []) ++ (filled pairs_form (m ∷ []) ++ rest)
unfolding heads_form modules_form pairs_form text filled is_place between
heads_same n m rest = simp append_assoc

pub file_parts : (n : ℕ) (ps : List Pair) → file_of n ps ≡ lined heads_form pair_form 0 (record { n = n; pairs = ps })
unfolding file_of lined
file_parts n ps = rw (heads_same n (length ps) (pair_lines pair_form (numbered 0 ps)), numbered_none ps)

-- 65,536 bytes hold the pair file of any list
pub file_length : (g : Pairs) → is_list g ≡ true → length (file_of g.n g.pairs) ≤ 65536
unfolding heads_form pair_form text places is_place between mark
file_length g e = rw (file_parts g.n g.pairs) (lined_length heads_form pair_form 0 (omega arith) (omega arith) g e)

-- and every pair file that is taken stays below that
pub taken_length : (room : ℕ) (bs : List ℕ) (g : Pairs) → read_file room bs ≡ taken g → length bs < 65536
unfolding heads_form pair_form text places is_place between mark names_stops names_two
taken_length room bs g e =
    let a = file_accepted room bs g e in
    let ls = a.file.lines in
    let k = listed g a.file.list in
    let ends = all_weaker (names_stops g.n) (ends_in_range g.n) (λ l e. (simp tests at e).0.0) ls a.fit in
    let weights = all_weaker (names_stops g.n) weight_in_range (λ l e. (simp tests at e).1) ls a.fit in
    let bound = lined_bound heads_form pair_form 0 g.n ls (omega arith) k.few (omega (arith, a.file.as_many, k.short)) ends weights in
    rw (a.file.file, file_parts g.n ls) (omega (arith, bound))
