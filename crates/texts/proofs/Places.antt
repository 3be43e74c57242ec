-- The text of a pair's place, part by part.
--   entry_some, entry_none                         the entry at an index of a list, if it has one
--   none_there, line_there                         the line of the k-th record in words
--   successor_next                                 the record after a pair, counted from 1
--   found_within, found_there                      a place that lookup answers
--   head_room, before_room, after_left             the first lines have room, then the line before, and the line after is left
--   place_length                                   how long the text is
--   pair_refused, pair_shown                       the text of two module numbers
--   first_none, second_none, both_named            and of two arguments
--   file_refused, first_refused, second_refused, modules_refused, modules_placed    and of these and a file, or the refusal
--   neighbours_as                                  a file's text by what is read
--   refused_written, text_written                  the text in a buffer, or the refusal
-- Assumes nothing.
use mathlib.Core.Path.{◌≡◌, refl, sym, ap, ◌∙◌}
use mathlib.Core.Bool.{true}
use mathlib.Core.List.{List, [], ◌∷◌, ◌++◌}
use Prim.Native.Nat.{ℕ, zero, suc, ◌+◌, ◌*◌, ◌-◌, ◌≤◌, ◌<◌, min, max}
use native.Mathlib.Numerals.{add-one}
use native.Mathlib.Omega.{arith}
use borrow.Author.Tests.{leb-true}
use lib.ListN.{length, get_or, length-append}
use Rattle.std.specs.Prelude.{Some, None, Ok, Err}
use Rattle.std.specs.List.{slice_get}
use Rattle.theory.specs.Basics.{all, mark}
use Rattle.theory.specs.Lists.{Pair, Pairs, pair, ends_in_range, is_list}
use Rattle.theory.specs.Refusals.{refusal}
use Rattle.theory.specs.Words.{word_pair, pairs_in}
use Rattle.theory.proofs.Lists.{listed}
use Rattle.theory.proofs.Tests.{tests, mark_le}
use Rattle.theory.proofs.Words.{length_pairs_in, pairs_in_at}
use Rattle.refusals.specs.declared.Refusal.{Refusal}
use Rattle.refusals.specs.Numbers.{number_of as refusal_number}
use Rattle.pairs.specs.Held.{smaller_first_pair}
use Rattle.pairs.specs.Causes.{pair_causes}
use Rattle.pairs.specs.Located.{Place, located}
use Rattle.pairs.proofs.Rising.{place_le}
use Rattle.lines.specs.Text.{text, between}
use Rattle.lines.specs.Lines.{is_place, places, filled}
use Rattle.lines.specs.Outcomes.{Outcome, refused, taken, ◌>>=◌, ◌>>◌}
use Rattle.lines.specs.Putting.{Puts, HasRoom, Writes}
use Rattle.lines.specs.declared.writer.Writer.{Writer}
use Rattle.lines.proofs.Found.{judge_refused, judged_by, judge_passed}
use Rattle.lines.proofs.Lengths.{no_more, and_small, filled_length}
use Rattle.lines.proofs.Parts.{Left, left_front, left_step}
use Rattle.pairfile.specs.File.{read_file}
use Rattle.texts.specs.Texts.{refusal_text, printed}
use Rattle.texts.specs.Printed.{TextWritten}
use Rattle.texts.specs.Converted.{converted}
use Rattle.texts.specs.Arguments.{argument_number, number_due}
use Rattle.texts.specs.Neighbours.{
  record_before,
  predecessor,
  successor,
  place_form,
  before_form,
  after_form,
  record_line,
  place_text,
  pair_placed,
  arguments_placed,
  file_placed,
  list_printed,
  neighbours_printed,
  NeighboursRead,
}
use Rattle.texts.proofs.Files.{prints, text_printed, text_refused}
use Rattle.texts.proofs.Whole.{read_as}

-- ---- the records next to a place

pub entry_some : {A : Type 0} (xs : List A) (i : ℕ) (d : A) → i < length xs → slice_get xs i ≡ Some (get_or xs i d)
entry_some [] i d h = absurd (omega arith)
entry_some (x ∷ xs) zero d h = refl
entry_some (x ∷ xs) (suc i) d h = entry_some xs i d (omega arith)

pub entry_none : {A : Type 0} (xs : List A) (i : ℕ) → length xs ≤ i → slice_get xs i ≡ None
entry_none [] i h = refl
entry_none (x ∷ xs) zero h = absurd (omega arith)
entry_none (x ∷ xs) (suc i) h = entry_none xs i (omega arith)

module _ (form : List ℕ) (m : ℕ) (es ws : List ℕ) where
  abbrev pairs : List Pair
  pairs = pairs_in m es ws

  -- there is no record before the first, nor one past the last
  pub none_there : (k : ℕ) → (1 ≤ k → k ≤ m → ⊥) → record_line form (record_before k pairs) ≡ []
  unfolding record_line record_before
  none_there zero h = refl
  none_there (suc j) h = rw (entry_none pairs j (omega (arith, length_pairs_in m es ws, h))) refl

  -- elsewhere the words have it
  pub line_there : (k : ℕ) → 1 ≤ k → k ≤ m →
      record_line form (record_before k pairs) ≡ filled form (get_or es (2 * (k - 1)) 0 ∷ get_or es (2 * (k - 1) + 1) 0 ∷ [])
  unfolding record_line record_before word_pair
  line_there zero l h = absurd (omega arith)
  line_there (suc j) l h =
      let e : suc j - 1 ≡ j = omega arith in
      rw (entry_some pairs j (pair 0 0) (omega (arith, length_pairs_in m es ws)), pairs_in_at m es ws j (pair 0 0) (omega arith), e) refl

-- the record after a pair, counted from 1
pub successor_next : (l : Place) (ps : List Pair) → record_before (l.at + mark l.held + 1) ps ≡ successor l ps
unfolding successor record_before
successor_next l ps = rw (add-one (l.at + mark l.held))

-- what lookup answers is a place among the records, or behind them
pub found_within : (p : Pair) (ps : List Pair) {l : Place} → l ≡ located p ps → l.at ≤ length ps
unfolding located
found_within p ps e = omega (arith, ap (λ (l : Place). l.at) e, place_le p ps)

-- as lookup answers it of two modules, the smaller first
pub found_there : (a b : ℕ) (ps : List Pair) {c d : ℕ} {l : Place} → c ≡ min a b → d ≡ max a b → l ≡ located (pair c d) ps →
    l ≡ located (smaller_first_pair a b) ps
unfolding smaller_first_pair
found_there a b ps ec ed e = e ∙ rw (ec, ed) refl

-- ---- what is left to write

-- x is 1 or 0, whether the pair is held, and i its place
module _ (l : Place) (ps : List Pair) (x i : ℕ) where
  abbrev head_lines : List ℕ
  head_lines = filled place_form (x ∷ i ∷ [])

  abbrev before_line : List ℕ
  before_line = record_line before_form (record_before i ps)

  abbrev after_line : List ℕ
  after_line = record_line after_form (record_before (i + x + 1) ps)

  text_parts : (x ≡ mark l.held) × (i ≡ l.at) → place_text l ps ≡ head_lines ++ (before_line ++ after_line)
  unfolding place_text predecessor
  text_parts e = rw (e.0, e.1, successor_next l ps) refl

  module _ (e : (x ≡ mark l.held) × (i ≡ l.at)) {w : Writer} (all : Left (place_text l ps) w (place_text l ps) w) where
    -- the first lines have room
    pub head_room : HasRoom head_lines w
    head_room = left_front all _ _ (text_parts e)

    module _ {w' : Writer} (p : Writes head_lines w w') where
      before_left : Left (place_text l ps) w (before_line ++ after_line) w'
      before_left = left_step all _ _ (text_parts e) p

      -- behind them the line of the record before the pair
      pub before_room : HasRoom before_line w'
      before_room = left_front before_left _ _ refl

      -- and then that of the record after it
      pub after_left : {w'' : Writer} → Writes before_line w' w'' → Left (place_text l ps) w after_line w''
      after_left q = left_step before_left before_line _ refl q

-- ---- how long the texts are

-- the line of a record
record_length : (form : List ℕ) (n : ℕ) (ps : List Pair) (k : ℕ) → n ≤ 512 → all (ends_in_range n) ps ≡ true →
    length (record_line form (record_before k ps)) ≤ length form + 3 * places form
unfolding record_line record_before all ends_in_range
record_length form n ps zero h e = omega arith
record_length form n [] (suc k) h e = omega arith
record_length form n (p ∷ ps) (suc zero) h e =
    let e' = simp tests at e in
    filled_length 3 (omega arith) form (p.a ∷ p.b ∷ []) (and_small p.a (omega (arith, e'.0)) (and_small p.b (omega (arith, e'.0)) no_more)).each
record_length form n (p ∷ ps) (suc (suc k)) h e = record_length form n ps (suc k) h (simp tests at e).1

pub place_length : (g : Pairs) (l : Place) → is_list g ≡ true → l.at ≤ 4096 → length (place_text l g.pairs) ≤ 64
unfolding place_text predecessor place_form before_form after_form text places is_place between mark
place_length g l e h =
    let k = listed g e in
    let small = and_small (mark l.held) (omega (arith, leb-true (mark l.held) 1 (mark_le l.held))) (and_small l.at (omega arith) no_more) in
    simp length-append
    (omega (
      arith,
      filled_length 3 (omega arith) place_form (mark l.held ∷ l.at ∷ []) small.each,
      record_length before_form g.n g.pairs l.at k.few k.ends,
      rw (successor_next l g.pairs) at (record_length after_form g.n g.pairs (l.at + mark l.held + 1) k.few k.ends),
    ))

-- ---- the text of two module numbers

module _ (g : Pairs) (a b : ℕ) where
  -- 5 or 4
  pub pair_refused : {k : ℕ} → k ≡ refusal (pair_causes 0 g.n a b) → (k ≡ 0 → ⊥) → printed (pair_placed g a b) ≡ refusal_text k
  unfolding pair_placed printed ◌>>◌
  pair_refused e h = rw (judge_refused (pair_causes 0 g.n a b) (λ z. h (e ∙ z)), e)

  -- the place
  pub pair_shown : refusal (pair_causes 0 g.n a b) ≡ 0 →
      printed (pair_placed g a b) ≡ place_text (located (smaller_first_pair a b) g.pairs) g.pairs
  unfolding pair_placed printed ◌>>◌
  pair_shown e = rw (judge_passed (pair_causes 0 g.n a b) e)

-- ---- the text of two arguments

module _ (first second : List ℕ) (g : Pairs) where
  -- 110
  pub first_none : argument_number first ≡ None → list_printed first second g ≡ refusal_text 110
  unfolding list_printed arguments_placed number_due ◌>>=◌ printed
  first_none e = rw e refl

  module _ {a : ℕ} (e : argument_number first ≡ Some a) where
    pub second_none : argument_number second ≡ None → list_printed first second g ≡ refusal_text 110
    unfolding list_printed arguments_placed number_due ◌>>=◌ printed
    second_none d = rw (e, d) refl

    -- both are numbers
    pub both_named : {b : ℕ} → argument_number second ≡ Some b → list_printed first second g ≡ printed (pair_placed g a b)
    unfolding list_printed arguments_placed number_due ◌>>=◌
    both_named d = rw (e, d) refl

-- ---- the text of a file and two arguments, by what is read

module _ (file first second : List ℕ) where
  -- a refused file
  pub file_refused : {k : ℕ} → read_file 4096 file ≡ refused k → file_placed file first second ≡ refused k
  unfolding file_placed ◌>>=◌
  file_refused e = rw e refl

  module _ {g : Pairs} (e : read_file 4096 file ≡ taken g) where
    -- a refused argument
    pub first_refused : {k : ℕ} → number_due (argument_number first) ≡ refused k → file_placed file first second ≡ refused k
    unfolding file_placed arguments_placed ◌>>=◌
    first_refused f = rw (e, f) refl

    module _ {a : ℕ} (f : number_due (argument_number first) ≡ taken a) where
      pub second_refused : {k : ℕ} → number_due (argument_number second) ≡ refused k → file_placed file first second ≡ refused k
      unfolding file_placed arguments_placed ◌>>=◌
      second_refused s = rw (e, f, s) refl

      -- two modules
      module _ {b : ℕ} (s : number_due (argument_number second) ≡ taken b) where
        placed : file_placed file first second ≡ pair_placed g a b
        unfolding file_placed arguments_placed ◌>>=◌
        placed = rw (e, f, s) refl

        -- refused by 5 or 4
        pub modules_refused : (r : Refusal) → refusal_number r ≡ refusal (pair_causes 0 g.n a b) → file_placed file first second ≡ refused (refusal_number r)
        unfolding pair_placed ◌>>◌
        modules_refused r h = placed ∙ rw (judged_by r (pair_causes 0 g.n a b) h) refl

        -- their pair's place
        pub modules_placed : {l : Place} → refusal (pair_causes 0 g.n a b) ≡ 0 → l ≡ located (smaller_first_pair a b) g.pairs →
            file_placed file first second ≡ taken (place_text l g.pairs)
        unfolding pair_placed ◌>>◌
        modules_placed h is = placed ∙ rw (judge_passed (pair_causes 0 g.n a b) h, is) refl

-- ---- the file that was read

-- a file's text, by what is read
pub neighbours_as : (file first second : List ℕ) → neighbours_printed file first second ≡ converted (list_printed first second) (read_file 4096 file)
unfolding neighbours_printed file_placed list_printed printed converted ◌>>=◌
neighbours_as file first second = go (read_file 4096 file)
  where
    go : (o : Outcome Pairs) → printed (◌>>=◌ o (λ g. arguments_placed g first second)) ≡ converted (list_printed first second) o
    go (refused k) = refl
    go (taken g) = refl

module _ (bytes first second : List ℕ) where
  neighbours_read : {text : List ℕ} → text ≡ neighbours_printed bytes first second → NeighboursRead bytes first second text
  neighbours_read is = record {
    due = λ file e.
        is ∙ neighbours_as bytes first second ∙ ap (converted (list_printed first second)) (read_as e) ∙ sym (neighbours_as file first second);
  }

  module _ {out : List ℕ} where
    -- a refusal
    pub refused_written : {r : Refusal} → file_placed bytes first second ≡ refused (refusal_number r) →
        TextWritten (NeighboursRead bytes first second) out out (Err r)
    unfolding neighbours_printed printed
    refused_written e = text_refused (neighbours_read (rw e refl))

    -- the text of a place
    pub text_written : {text out' : List ℕ} {k : ℕ} → file_placed bytes first second ≡ taken text → Puts text out 0 out' k →
        length text ≤ length out → TextWritten (NeighboursRead bytes first second) out out' (Ok k)
    unfolding neighbours_printed printed
    text_written e p fits = text_printed (prints (neighbours_read (rw e refl)) p fits)
