-- Pairs gathered.
--   inner_before_le, inner_before_less, inner_before_ext, inner_total    numbers among the pairs gathered, and sums over them
--   InnerPassed, passed_start, passed_next                              a loop that counts the pairs inside the scope
--   laid, Read, pair_read                                                a pair of the words, and what is read of it
--   Gathering, gathering_start, gathering_next, gathering_end            a loop that gathers, in place
--   gathered_few, gathered_held    no more pairs are gathered than there are; they are held as a list is
-- Assumes nothing.
use Rattle.std.proofs.Common.{◌≡◌, ℕ, zero, suc, ◌+◌, ◌*◌, ◌<◌, ◌≤◌, Bool, true, false, cond, List, ◌∷◌, length, drop, get_or, set, sym, refl, ap, ◌∙◌, ⊎_elim, zero-add, one-add, arith, length-drop, length-set, get_or-drop, get_or-set_other, get_or-set_same}
use Rattle.std.proofs.lemmas.Bool.{cases_eq}
use Rattle.theory.specs.Basics.{table}
use Rattle.theory.specs.Lists.{Pair}
use Rattle.theory.specs.Groups.{holds_pair}
use Rattle.theory.specs.Words.{word_pair, pairs_in, list_in, HeldWords, counts_of, HoldsList}
use Rattle.theory.proofs.Words.{holds_few, holds_held}
use Rattle.slots.specs.Slots.{total}
use Rattle.slots.proofs.Choice.{stored_more}
use Rattle.slots.proofs.Totals.{total_ext, total_next, total_first, total_const, total_upto}
use Rattle.slots.proofs.Words.{good_pair}
use Rattle.densest.specs.Inner.{inner_pairs, inner_list}
use Rattle.densest.specs.Gather.{inner_before, Gathered, unpacked, Packed}
use Rattle.densest.proofs.InnerPairs.{inner_is_list}

-- ---- ranks

bit_le : (b : Bool) → cond b 1 0 ≤ 1
bit_le true = omega arith
bit_le false = omega arith

-- one pair more
one_more : (b : Bool) (r t : ℕ) (f : ℕ → ℕ) → t ≡ total r f → cond b (f r) 0 + t ≡ total (cond b 1 0 + r) f
unfolding total
one_more true r t f e = rw (one-add r) (omega arith)
one_more false r t f e = rw (zero-add r) (omega arith)

module _ (h : ℕ → Pair) (scope : List ℕ) where
  inner_before_next : (j : ℕ) → inner_before h scope (j + 1) ≡ cond (holds_pair scope (h j)) 1 0 + inner_before h scope j
  unfolding inner_before
  inner_before_next j = total_next j _

  pub inner_before_le : (j : ℕ) → inner_before h scope j ≤ j
  unfolding inner_before
  inner_before_le j = omega (arith, total_const j 1 (λ i. cond (holds_pair scope (h i)) 1 0) (λ i l. bit_le (holds_pair scope (h i))))

  -- a pair inside the scope comes before those that follow it
  pub inner_before_less : (k j : ℕ) → k < j → holds_pair scope (h k) ≡ true → inner_before h scope k < inner_before h scope j
  unfolding inner_before
  inner_before_less k j l e =
      omega (
        arith,
        total_upto (k + 1) j (λ i. cond (holds_pair scope (h i)) 1 0) (omega arith),
        total_next k (λ i. cond (holds_pair scope (h i)) 1 0),
        ap {B = ℕ} (λ (b : Bool). cond b 1 0) e,
      )

  -- the same pairs have the same numbers
  pub inner_before_ext : (f : ℕ → Pair) (j : ℕ) → ((i : ℕ) → i < j → f i ≡ h i) → inner_before f scope j ≡ inner_before h scope j
  unfolding inner_before
  inner_before_ext f j e = total_ext j _ _ (λ i l. ap {B = ℕ} (λ (p : Pair). cond (holds_pair scope p) 1 0) (e i l))

  -- a sum over the pairs inside the scope, by their ranks, is the sum over all ranks
  pub inner_total : (m : ℕ) (f : ℕ → ℕ) →
      total m (λ j. cond (holds_pair scope (h j)) (f (inner_before h scope j)) 0) ≡ total (inner_before h scope m) f
  unfolding inner_before total
  inner_total zero f = refl
  inner_total (suc m) f = one_more (holds_pair scope (h m)) (inner_before h scope m) _ f (inner_total m f)

-- ---- a loop over pairs that counts those inside the scope

-- at pair j: i pairs were inside the scope
pub record InnerPassed (m j i : ℕ) (h : ℕ → Pair) (scope : List ℕ) : Type 0 where
  pub low : j ≤ m
  pub place : i ≡ inner_before h scope j
  pub behind : i ≤ j

pub passed_start : (m : ℕ) (h : ℕ → Pair) (scope : List ℕ) → InnerPassed m 0 0 h scope
unfolding inner_before total
passed_start m h scope = record { low = omega arith; place = refl; behind = omega arith }

pub passed_next : {m j i : ℕ} {h : ℕ → Pair} {scope : List ℕ} (b : Bool) (d : ℕ) → InnerPassed m j i h scope → j < m → b ≡ holds_pair scope (h j) →
    d ≡ cond b 1 0 → InnerPassed m (j + 1) (i + d) h scope
passed_next {j = j} {i = i} {h = h} {scope = scope} b d c l eb ed =
    let p : i + d ≡ inner_before h scope (j + 1) =
    omega (arith, c.place, ed ∙ ap {B = ℕ} (λ (z : Bool). cond z 1 0) eb, inner_before_next h scope j) in
    record { low = omega arith; place = p; behind = omega (arith, p, inner_before_le h scope (j + 1)) }

-- ---- the pairs gathered are the inner list

table_one : (b : Bool) (k : ℕ) (f : ℕ → Pair) (p : Pair) (ps : List Pair) → (b ≡ true → f 0 ≡ p) → table k (λ i. f (cond b 1 0 + i)) ≡ ps →
    table (cond b 1 0 + k) f ≡ cond b (p ∷ ps) ps
unfolding table
table_one true k f p ps e d = rw (one-add k) (cc (e refl, simp one-add at d))
table_one false k f p ps e d = rw (zero-add k) (simp zero-add at d)

inner_table : (m : ℕ) (h f : ℕ → Pair) (s : List ℕ) →
    ((j : ℕ) → j < m → holds_pair s (h j) ≡ true → f (total j (λ i. cond (holds_pair s (h i)) 1 0)) ≡ h j) →
    table (total m (λ i. cond (holds_pair s (h i)) 1 0)) f ≡ inner_pairs (table m h) s
unfolding table total inner_pairs
inner_table zero h f s e = refl
inner_table (suc m) h f s e =
    rw (total_first m (λ i. cond (holds_pair s (h i)) 1 0))
    (table_one (holds_pair s (h 0)) (total m (λ i. cond (holds_pair s (h (suc i))) 1 0)) f (h 0) (inner_pairs (table m (λ i. h (suc i))) s) (e 0 (omega arith))
    (inner_table m (λ i. h (suc i)) (λ i. f (cond (holds_pair s (h 0)) 1 0 + i)) s
    (λ j l y. ap f (sym (total_first j (λ i. cond (holds_pair s (h i)) 1 0))) ∙ e (suc j) (omega arith) y)))

-- ---- the pairs of one buffer

-- pair j of words that hold a list
abbrev pub laid : List ℕ → ℕ → Pair
laid ws = word_pair ws (counts_of ws)

-- what is read of it
pub record Read (n : ℕ) (ws : List ℕ) (p : Pair) (j : ℕ) : Type 0 where
  pub same : record { a = get_or ws (2 * j) 0; b = get_or ws (2 * j + 1) 0; w = get_or ws (8192 + j) 0 } ≡ p
  pub first : get_or ws (2 * j) 0 < n
  pub second : get_or ws (2 * j + 1) 0 < n
  pub light : get_or ws (8192 + j) 0 ≤ 1000
  pub few : n ≤ 512

-- a pair stored at place i
record Stored (xs ys : List ℕ) (i : ℕ) (p : Pair) : Type 0 where
  long : length ys ≡ length xs
  here : laid ys i ≡ p
  others : (k : ℕ) → k < 4096 → (k ≡ i → ⊥) → laid ys k ≡ laid xs k

stored : (xs : List ℕ) (i a b w : ℕ) → i < 4096 → 8192 + i < length xs →
    Stored xs (set (set (set xs (2 * i) a) (2 * i + 1) b) (8192 + i) w) i (record { a = a; b = b; w = w })
unfolding word_pair counts_of
stored xs i a b w l h =
    let one = set xs (2 * i) a in
    let two = set one (2 * i + 1) b in
    let new = set two (8192 + i) w in
    let one_long : length one ≡ length xs = length-set xs (2 * i) a in
    let two_long : length two ≡ length one = length-set one (2 * i + 1) b in
    let other : (s : ℕ) → (s ≡ 2 * i → ⊥) → (s ≡ 2 * i + 1 → ⊥) → (s ≡ 8192 + i → ⊥) → get_or new s 0 ≡ get_or xs s 0 =
    λ s p q r. get_or-set_other two (8192 + i) s w 0 r ∙ get_or-set_other one (2 * i + 1) s b 0 q ∙ get_or-set_other xs (2 * i) s a 0 p in
    let first : get_or new (2 * i) 0 ≡ a =
    get_or-set_other two (8192 + i) (2 * i) w 0 (λ e. omega arith) ∙ get_or-set_other one (2 * i + 1) (2 * i) b 0 (λ e. omega arith)
    ∙ get_or-set_same xs (2 * i) a 0 (omega arith) in
    let second : get_or new (2 * i + 1) 0 ≡ b =
    get_or-set_other two (8192 + i) (2 * i + 1) w 0 (λ e. omega arith) ∙ get_or-set_same one (2 * i + 1) b 0 (omega arith) in
    let count : get_or (counts_of new) i 0 ≡ w = get_or-drop 8192 new i 0 ∙ get_or-set_same two (8192 + i) w 0 (omega arith) in
    record {
      long = length-set two (8192 + i) w ∙ two_long ∙ one_long;
      here = cc (first, second, count);
      others = λ k low ne.
          cc (
            other (2 * k) (λ e. ne (omega arith)) (λ e. omega arith) (λ e. omega arith),
            other (2 * k + 1) (λ e. omega arith) (λ e. ne (omega arith)) (λ e. omega arith),
            get_or-drop 8192 new k 0 ∙ other (8192 + k) (λ e. omega arith) (λ e. omega arith) (λ e. ne (omega arith)) ∙ sym (get_or-drop 8192 xs k 0),
          );
    }

-- ---- gathering

-- at pair j of n modules and m pairs: those below j are packed, and those inside the core gathered, i of them; the others are where they were
pub record Gathering (n m j i : ℕ) (core words₀ words shares : List ℕ) : Type 0 where
  pub held : HeldWords n m words₀ (counts_of words₀)
  pub few : (n ≤ 512) × (m ≤ 4096)
  pub passed : InnerPassed m j i (laid words₀) core
  pub words_long : 12288 ≤ length words
  pub shares_long : length shares ≡ m
  pub pairs : (k : ℕ) → k < j → holds_pair core (laid words₀ k) ≡ true → laid words (inner_before (laid words₀) core k) ≡ laid words₀ k
  pub ahead : (k : ℕ) → j ≤ k → k < 4096 → laid words k ≡ laid words₀ k
  pub packed : (k : ℕ) → k < j → unpacked (get_or shares k 0) ≡ laid words₀ k

pub gathering_start : (n m : ℕ) (core words shares : List ℕ) → HoldsList n m words → length shares ≡ m → Gathering n m 0 0 core words words shares
gathering_start n m core words shares h e = record {
  held = holds_held n m words h;
  few = holds_few n m words h.listed;
  passed = passed_start m (laid words) core;
  words_long = h.long;
  shares_long = e;
  pairs = λ k l. absurd (omega arith);
  ahead = λ k h l. refl;
  packed = λ k l. absurd (omega arith);
}

module _ {n m j i : ℕ} {core words₀ words shares : List ℕ} (g : Gathering n m j i core words₀ words shares) where
  -- pair j is read as it was
  pub pair_read : j < m → Read n words (laid words₀ j) j
  unfolding word_pair counts_of
  pair_read low =
      let same = g.ahead j (omega arith) (omega arith) in
      let w = good_pair n m words₀ (counts_of words₀) g.held.listed j low in
      let count : get_or words (8192 + j) 0 ≡ get_or (counts_of words₀) j 0 = sym (get_or-drop 8192 words j 0) ∙ ap (λ (p : Pair). p.w) same in
      let first : get_or words (2 * j) 0 ≡ get_or words₀ (2 * j) 0 = ap (λ (p : Pair). p.a) same in
      let second : get_or words (2 * j + 1) 0 ≡ get_or words₀ (2 * j + 1) 0 = ap (λ (p : Pair). p.b) same in
      record {
        same = cc (first, second, count);
        first = omega arith;
        second = omega (arith, w.below);
        light = omega (arith, w.light);
        few = g.few.0;
      }

  -- pair j is packed and stored at place i, and counted where it is inside the core
  pub gathering_next : (x : ℕ) (b : Bool) (d : ℕ) → j < m →
      unpacked x ≡ record { a = get_or words (2 * j) 0; b = get_or words (2 * j + 1) 0; w = get_or words (8192 + j) 0 } →
      b ≡ holds_pair core (unpacked x) → d ≡ cond b 1 0 →
      Gathering n m (j + 1) (i + d) core words₀
      (set (set (set words (2 * i) (get_or words (2 * j) 0)) (2 * i + 1) (get_or words (2 * j + 1) 0)) (8192 + i) (get_or words (8192 + j) 0)) (set shares j x)
  gathering_next x b d low ex eb ed =
      let back = g.passed.behind in
      let read = pair_read low in
      let s = stored words i (get_or words (2 * j) 0) (get_or words (2 * j + 1) 0) (get_or words (8192 + j) 0) (omega arith) (omega arith) in
      record {
        held = g.held;
        few = g.few;
        passed = passed_next b d g.passed low (eb ∙ ap (holds_pair core) (ex ∙ read.same)) ed;
        words_long = omega (arith, s.long, g.words_long);
        shares_long = length-set shares j x ∙ g.shares_long;
        pairs = λ k l y. ⊎_elim
            (λ (z : k ≡ j). rw (z, ← g.passed.place) (s.here ∙ read.same))
            (λ ne.
            let b : inner_before (laid words₀) core k < i = omega (arith, g.passed.place, inner_before_less (laid words₀) core k j (omega arith) y) in
            s.others (inner_before (laid words₀) core k) (omega arith) (λ z. omega arith) ∙ g.pairs k (omega arith) y)
            (cases_eq k j);
        ahead = λ k l b. s.others k b (λ z. omega arith) ∙ g.ahead k (omega arith) b;
        packed = stored_more (λ k y. unpacked y ≡ laid words₀ k) shares j x (omega arith) g.packed (ex ∙ read.same);
      }

  pub gathering_end : m ≤ j → Gathered n m words₀ (counts_of words₀) core words (counts_of words) i × Packed m words₀ (counts_of words₀) shares
  unfolding list_in pairs_in inner_list inner_before
  gathering_end h =
      let e : j ≡ m = omega (arith, g.passed.low) in
      let p : i ≡ inner_before (laid words₀) core m = g.passed.place ∙ ap (inner_before (laid words₀) core) e in
      let all : (k : ℕ) → k < m → holds_pair core (laid words₀ k) ≡ true → laid words (inner_before (laid words₀) core k) ≡ laid words₀ k =
      λ k l. g.pairs k (omega arith) in (
        record {
          count = p;
          list = rw p (ap (λ (ps : List Pair). record { n = n; pairs = ps }) (inner_table m (laid words₀) (laid words) core all));
          pairs = all;
        },
        record { pairs = λ k l. g.packed k (omega arith) },
      )

-- no more pairs than there are
pub gathered_few : {n m r : ℕ} {ends weights scope inner_ends inner_weights : List ℕ} → Gathered n m ends weights scope inner_ends inner_weights r → r ≤ m
gathered_few {m = m} {ends = ends} {weights = weights} {scope = scope} g = omega (arith, g.count, inner_before_le (word_pair ends weights) scope m)

-- they are held as a list is
pub gathered_held : {n m r : ℕ} {words core inner : List ℕ} → HeldWords n m words (counts_of words) → m ≤ 4096 → 12288 ≤ length inner →
    Gathered n m words (counts_of words) core inner (counts_of inner) r → HeldWords n r inner (counts_of inner)
unfolding counts_of
gathered_held {n} {m} {r} {words} {core} {inner} h few long g =
    let le = gathered_few g in
    record {
      listed = rw g.list (inner_is_list (list_in n m words (drop 8192 words)) core h.listed);
      ends_long = omega arith;
      weights_long = omega (arith, length-drop 8192 inner);
    }
