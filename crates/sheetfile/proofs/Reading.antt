-- Lines of a sheet read one after another: the three loops.
--   Marked, marked_missing, marked_unfit, marked_step, marked_done          member lines
--   Counted, counted_missing, counted_unfit, counted_step, counted_done     number lines
--   Shared, shared_missing, shared_unfit, shared_step, shared_done          share lines
-- Assumes nothing.
use Rattle.std.proofs.Common.{◌≡◌, ◌∙◌, true, false, not, ◌&&◌, leb, ltb, eqb, List, [], ◌∷◌, ◌++◌, ℕ, suc, ◌+◌, ◌*◌, ◌-◌, ◌≤◌, ◌<◌, length, get_or, set, take, drop, Ok, Err, arith}
use borrow.Author.Tests.{eq-eqb, ne_eqb}
use lib.ListN.{length-set, drop_of_length-le}
use lib.Seq.{take_all, drop-cons, take-suc, take-set-le, get_or-set_same}
use Rattle.theory.specs.Lists.{Pair, pair}
use Rattle.theory.specs.Refusals.{Cause, cause}
use Rattle.theory.specs.Words.{word_pair, pairs_in}
use Rattle.theory.proofs.Words.{length_pairs_in, pairs_in_at}
use Rattle.refusals.specs.declared.Refusal.{Refusal}
use Rattle.refusals.specs.declared.Refusal.TheVariants.{BadMember, BadCoreNumber, AnotherPair}
use Rattle.refusals.specs.Numbers.{number_of}
use Rattle.lines.specs.Lines.{Line, first, second, third}
use Rattle.lines.specs.Outcomes.{refused, ◌>>=◌, outcome_of}
use Rattle.sheetfile.specs.Sheet.{
  member_form,
  number_form,
  share_form,
  member_line,
  read_members,
  number_line,
  read_numbers,
  share_line,
  read_shares,
}
use Rattle.sheetfile.specs.Answers.{LineDue, PartRead, NumbersRead}
use Rattle.sheetfile.proofs.Judging.{line_missing, line_unfit, line_fit}

-- ---- member lines

-- a member line's own cause
abbrev member_own : (n low : ℕ) → Line → Cause
member_own n low l = cause 103 (not (leb low (first l) && ltb (first l) n))

-- of the q member lines in front of the bytes the first k have been read, and their members are marked; the next is at least `low`
pub record Marked (bs : List ℕ) (q : ℕ) (old s left : List ℕ) (low k : ℕ) : Type 0 where
  pub upto : k ≤ q
  pub so_far : read_members q 0 old bs ≡ read_members (q - k) low s left

module _ {bs : List ℕ} {q : ℕ} {old s left : List ℕ} {low k : ℕ} (m : Marked bs q old s left low k) where
  -- all lines have been read
  pub marked_done : q ≤ k → PartRead (read_members q 0 old bs) s (Ok tt) left
  unfolding read_members outcome_of
  marked_done h =
      let z : q - k ≡ 0 = omega arith in
      record { found = m.so_far ∙ rw z }

  module _ (more : k < q) where
    next_member : read_members q 0 old bs ≡
        (do
          a ← member_line (length s) low left
          read_members (q - (k + 1)) (suc a.value) (set s a.value 1) a.rest)
    unfolding read_members
    next_member =
        let e : q - k ≡ suc (q - (k + 1)) = omega arith in
        m.so_far ∙ rw e

    -- a line is refused
    member_refused : (e : Refusal) {left' : List ℕ} → member_line (length s) low left ≡ refused (number_of e) →
        PartRead (read_members q 0 old bs) s (Err e) left'
    unfolding ◌>>=◌ outcome_of
    member_refused e h = record { found = next_member ∙ rw h }

    -- 101
    pub marked_missing : {e : Refusal} {left' left'' : List ℕ} → LineDue 4 member_form left (Err e) left' →
        PartRead (read_members q 0 old bs) s (Err e) left''
    unfolding member_line
    marked_missing {e} f = member_refused e (line_missing (member_own (length s) low) first f)

    module _ {ns left' : List ℕ} (f : LineDue 4 member_form left (Ok ns) left') where
      abbrev v : ℕ
      v = get_or ns 0 0

      -- 103
      pub marked_unfit : (leb low v && ltb v (length s)) ≡ false → {left'' : List ℕ} → PartRead (read_members q 0 old bs) s (Err BadMember) left''
      unfolding member_line first
      marked_unfit h = member_refused BadMember (line_unfit (member_own (length s) low) first f BadMember (rw h))

      -- one line more
      pub marked_step : (leb low v && ltb v (length s)) ≡ true → Marked bs q old (set s v 1) left' (v + 1) (k + 1)
      unfolding member_line first ◌>>=◌
      marked_step h =
          let e : v + 1 ≡ suc v = omega arith in
          record {
            upto = omega arith;
            so_far = next_member ∙ rw (line_fit (member_own (length s) low) first f 103 (rw h), e);
          }

-- ---- number lines

-- a number line's own cause
abbrev number_own : (c : ℕ) → Line → Cause
number_own c l = cause 104 (not (eqb (first l) c))

-- the first v number lines in front of the bytes have been read
pub record Counted (bs cores left : List ℕ) (v : ℕ) : Type 0 where
  pub so_far : read_numbers cores bs ≡ read_numbers (drop v cores) left

module _ {bs cores left : List ℕ} {v : ℕ} (m : Counted bs cores left v) where
  -- all lines have been read
  pub counted_done : length cores ≤ v → NumbersRead (read_numbers cores bs) (Ok tt) left
  unfolding read_numbers outcome_of
  counted_done h = record { found = m.so_far ∙ rw (drop_of_length-le cores h) }

  module _ (more : v < length cores) where
    abbrev c : ℕ
    c = get_or cores v 0

    next_number : read_numbers cores bs ≡ (do
      x ← number_line c left
      read_numbers (drop (suc v) cores) x.rest)
    unfolding read_numbers
    next_number = m.so_far ∙ rw (drop-cons cores v 0 more)

    -- a line is refused
    number_refused : (e : Refusal) {left' : List ℕ} → number_line c left ≡ refused (number_of e) → NumbersRead (read_numbers cores bs) (Err e) left'
    unfolding ◌>>=◌ outcome_of
    number_refused e h = record { found = next_number ∙ rw h }

    -- 101
    pub counted_missing : {e : Refusal} {left' left'' : List ℕ} → LineDue 7 number_form left (Err e) left' →
        NumbersRead (read_numbers cores bs) (Err e) left''
    unfolding number_line
    counted_missing {e} f = number_refused e (line_missing (number_own c) first f)

    module _ {ns left' : List ℕ} (f : LineDue 7 number_form left (Ok ns) left') where
      -- 104
      pub counted_unfit : (get_or ns 0 0 ≡ c → ⊥) → {left'' : List ℕ} → NumbersRead (read_numbers cores bs) (Err BadCoreNumber) left''
      unfolding number_line first
      counted_unfit n = number_refused BadCoreNumber (line_unfit (number_own c) first f BadCoreNumber (rw (ne_eqb (get_or ns 0 0) c n)))

      -- one line more
      pub counted_step : get_or ns 0 0 ≡ c → Counted bs cores left' (v + 1)
      unfolding number_line first ◌>>=◌
      counted_step e =
          let s : v + 1 ≡ suc v = omega arith in
          record { so_far = next_number ∙ rw (line_fit (number_own c) first f 104 (rw (eq-eqb (get_or ns 0 0) c e)), s) }

-- ---- share lines

-- a share line's own cause
abbrev share_own : (a b : ℕ) → Line → Cause
share_own a b l = cause 105 (not (eqb (first l) a && eqb (second l) b))

-- of the m share lines in front of the bytes the first j have been read, and their shares are in the buffer
pub record Shared (bs : List ℕ) (m : ℕ) (es ws xs left : List ℕ) (j : ℕ) : Type 0 where
  pub upto : j ≤ m
  pub size : length xs ≡ m
  pub so_far : read_shares (pairs_in m es ws) [] bs ≡ read_shares (drop j (pairs_in m es ws)) (take j xs) left

module _ {bs : List ℕ} {m : ℕ} {es ws xs left : List ℕ} {j : ℕ} (s : Shared bs m es ws xs left j) where
  abbrev pairs : List Pair
  pairs = pairs_in m es ws

  -- all lines have been read
  pub shared_done : m ≤ j → PartRead (read_shares pairs [] bs) xs (Ok tt) left
  unfolding read_shares outcome_of
  shared_done h =
      let none : length pairs ≤ j = omega (arith, h, length_pairs_in m es ws) in
      record { found = s.so_far ∙ rw (drop_of_length-le pairs none, take_all j xs (omega (arith, h, s.size))) }

  module _ (more : j < m) where
    abbrev a : ℕ
    a = get_or es (2 * j) 0

    abbrev b : ℕ
    b = get_or es (2 * j + 1) 0

    next_share : read_shares pairs [] bs ≡ (do
      u ← share_line a b left
      read_shares (drop (suc j) pairs) (take j xs ++ (u.value ∷ [])) u.rest)
    unfolding read_shares word_pair
    next_share =
        s.so_far ∙ rw (drop-cons pairs j (pair 0 0) (omega (arith, more, length_pairs_in m es ws)), pairs_in_at m es ws j (pair 0 0) more)

    -- a line is refused
    share_refused : (e : Refusal) {left' xs' : List ℕ} → share_line a b left ≡ refused (number_of e) → PartRead (read_shares pairs [] bs) xs' (Err e) left'
    unfolding ◌>>=◌ outcome_of
    share_refused e h = record { found = next_share ∙ rw h }

    -- 101
    pub shared_missing : {e : Refusal} {left' left'' xs' : List ℕ} → LineDue 7 share_form left (Err e) left' →
        PartRead (read_shares pairs [] bs) xs' (Err e) left''
    unfolding share_line
    shared_missing {e} f = share_refused e (line_missing (share_own a b) third f)

    module _ {ns left' : List ℕ} (f : LineDue 7 share_form left (Ok ns) left') where
      abbrev u : ℕ
      u = get_or ns 2 0

      -- 105
      pub shared_unfit : (eqb (get_or ns 0 0) a && eqb (get_or ns 1 0) b) ≡ false → {left'' xs' : List ℕ} →
          PartRead (read_shares pairs [] bs) xs' (Err AnotherPair) left''
      unfolding share_line first second
      shared_unfit h = share_refused AnotherPair (line_unfit (share_own a b) third f AnotherPair (rw h))

      -- one line more
      pub shared_step : (eqb (get_or ns 0 0) a && eqb (get_or ns 1 0) b) ≡ true → Shared bs m es ws (set xs j u) left' (j + 1)
      unfolding share_line first second third ◌>>=◌
      shared_step h =
          let n : j + 1 ≡ suc j = omega arith in
          let long : length (set xs j u) ≡ length xs = length-set xs j u in
          let front : take (suc j) (set xs j u) ≡ take j xs ++ (u ∷ []) =
          take-suc (set xs j u) j 0 (omega (arith, long, more, s.size))
          ∙ rw (take-set-le j xs j u (omega arith), get_or-set_same xs j u 0 (omega (arith, more, s.size))) in
          record {
            upto = omega arith;
            size = long ∙ s.size;
            so_far = next_share ∙ rw (line_fit (share_own a b) third f 105 (rw h), n, front);
          }
