-- What is printed of a pair file.
--   prints, prints_lent                          a right text that has been written
--   text_printed, text_refused, text_as, shown   that text or a refusal, and the status line of that
--   group_first                                  GroupFirst: a sheet's text begins with the group's
--   refusal_printed, refusal_due                 a refused file
--   modules_few, answer_length, group_lines      the group of a file that names a list
--   pairs_few, list_held                         how many pairs it has, and where its list lies
--   lines_length, sheet_due                      and its sheet
-- Assumes nothing.
use mathlib.Core.Path.{◌≡◌, refl, sym, ap, ◌∙◌}
use mathlib.Core.Bool.{true}
use mathlib.Core.List.{List, append_assoc}
use Prim.Native.Nat.{ℕ, ◌≤◌}
use native.Mathlib.Omega.{arith}
use lib.ListN.{length, take}
use Rattle.std.proofs.Common.{Result, Ok, Err, IfOk, IfErr}
use lib.Seq.{take_at}
use Rattle.theory.specs.Lists.{Pairs, is_list}
use Rattle.theory.specs.Groups.{inside, size, Found, found_of}
use Rattle.theory.specs.Cores.{core_number, core_numbers}
use Rattle.theory.specs.Promise.{Optimal, SplitThere, FoundOutright}
use Rattle.theory.specs.Words.{laid_list, HoldsList}
use Rattle.theory.proofs.Lists.{Listed, listed}
use Rattle.theory.proofs.Tables.{length_table}
use Rattle.theory.proofs.Duality.{optimal}
use Rattle.theory.proofs.Promises.{split_there, found_outright}
use Rattle.refusals.specs.declared.Refusal.{Refusal}
use Rattle.refusals.specs.Numbers.{number_of}
use Rattle.lines.specs.Outcomes.{Outcome, refused, taken, number_given, outcome_of}
use Rattle.lines.proofs.Taken.{refused_not_taken, taken_same}
use Rattle.pairfile.specs.File.{group_list}
use Rattle.pairfile.proofs.Grouped.{group_listed}
use Rattle.on_words.specs.Buffers.{in_front}
use Rattle.lines.specs.Putting.{Puts, Writes}
use Rattle.lines.specs.declared.writer.Writer.{Writer}
use Rattle.lines.proofs.Parts.{lent_back}
use Rattle.lines.proofs.Putting.{puts_length, puts_front}
use Rattle.sheetfile.specs.Writer.{sheet_file, Writable, AcceptsBack}
use Rattle.sheetfile.specs.Audit.{audit}
use Rattle.sheetfile.proofs.BestSheets.{best_writable}
use Rattle.sheetfile.proofs.ReadsBack.{accepts_back}
use Rattle.answer.specs.declared.Answer.{Answer}
use Rattle.answer.specs.Answers.{group_answer, answer_to, members_after, Answers, solved_of, HandedOver, Sheeted}
use Rattle.on_words.proofs.Sheets.{found_front}
use Rattle.texts.specs.Texts.{refusal_text, group_text, group_printed, certificate, GroupFirst}
use Rattle.texts.specs.Printed.{Prints, TextWritten, SheetDue, SheetPrinted, answer_lines, sheet_lines}
use Rattle.texts.proofs.Lengths.{refusal_length, group_length, sheet_length}

pub prints : {Right : List ℕ → Type 0} {text out out' : List ℕ} {r : ℕ} → Right text → Puts text out 0 out' r → length text ≤ length out →
    Prints Right out out' r
prints {text = text} right p fits =
    let front = puts_front p in
    record {
      text = text;
      right = right;
      puts = p;
      front = front;
      within = omega (arith, p.end, puts_length p (omega arith));
      counted = rw front (omega (arith, p.end));
    }

-- one that has been written into a lent buffer
pub prints_lent : {Right : List ℕ → Type 0} {text out out' : List ℕ} {start : Writer} → start.out.now ≡ out → start.at ≡ 0 → (end : Writer) →
    Writes text start end → out' ≡ end.out.now → Right text → length text ≤ length out → Prints Right out out' end.at
prints_lent same front end written back right fits = prints right (lent_back same front end written back) fits

-- ---- a text, or a refusal

module _ {Right : List ℕ → Type 0} {out : List ℕ} where
  pub text_printed : {out' : List ℕ} {k : ℕ} → Prints Right out out' k → TextWritten Right out out' (Ok k)
  text_printed p = record { printed = p; refused = tt; kept = tt }

  pub text_refused : {e : Refusal} → Right (refusal_text (number_of e)) → TextWritten Right out out (Err e)
  text_refused h = record { printed = tt; refused = h; kept = refl }

  -- right in other words
  pub text_as : {Right' : List ℕ → Type 0} {out' : List ℕ} (r : Result ℕ Refusal) → ((text : List ℕ) → Right text → Right' text) →
      TextWritten Right out out' r → TextWritten Right' out out' r
  text_as (Ok k) f w =
      let p = w.printed in
      record {
        printed = record { text = p.text; right = f p.text p.right; puts = p.puts; front = p.front; within = p.within; counted = p.counted };
        refused = tt;
        kept = tt;
      }
  text_as (Err e) f w = record { printed = tt; refused = f _ w.refused; kept = w.kept }

  -- the text, or the status line
  pub shown : {left out' : List ℕ} {k : ℕ} (r : Result ℕ Refusal) → 18 ≤ length out → TextWritten Right out left r →
      IfOk r (λ l. (k ≡ l) × (out' ≡ left)) → IfErr r (λ e. Puts (refusal_text (number_of e)) left 0 out' k) → Prints Right out out' k
  shown (Ok l) room w same line = rw (same.0, same.1) w.printed
  shown (Err e) room w same line = prints w.refused (rw w.kept at line) (omega (arith, refusal_length (number_of e), room))

pub group_first : GroupFirst
unfolding GroupFirst sheet_file group_text certificate
group_first g s xs = rw append_assoc

-- ---- the numbers of a best sheet

-- the found group has shares with which it is best
found_best : (g : Pairs) → is_list g ≡ true → (xs : List ℕ) × Optimal g (found_of g) xs (inside g (found_of g)) (size (found_of g))
unfolding SplitThere FoundOutright
found_best g l =
    let f : Found g (found_of g) = found_outright g l in
    let t = split_there g (found_of g) l f in
    (t.0, optimal g (found_of g) t.0 l f.group t.1 (omega (arith, t.2)))

certificate_writable : (file : List ℕ) (g : Pairs) (s xs : List ℕ) → group_list file ≡ taken g → Optimal g s xs (inside g s) (size s) →
    Writable g (certificate g s xs)
unfolding certificate
certificate_writable file g s xs e o = best_writable file g (certificate g s xs) e o refl refl

accepted_certificate : (file : List ℕ) (g : Pairs) (s xs : List ℕ) → group_list file ≡ taken g → Optimal g s xs (inside g s) (size s) →
    audit file (sheet_file g (certificate g s xs)) ≡ taken (certificate g s xs)
unfolding certificate AcceptsBack
accepted_certificate file g s xs e o = accepts_back file g (certificate g s xs) e o refl refl

-- ---- any file

-- a file that is refused
module _ {file members : List ℕ} {e : Refusal} {members' : List ℕ} (a : Answers file members (Err e) members') where
  refused_by : group_list file ≡ refused (number_of e)
  unfolding answer_to outcome_of number_given
  refused_by = go (group_list file) a.answer_is
    where
      go : (o : Outcome Pairs) → answer_to o ≡ refused (number_of e) → o ≡ refused (number_of e)
      go (refused k) h = ap refused (ap number_given h)
      go (taken g) h = absurd (refused_not_taken (sym h))

  pub refusal_due : SheetPrinted file (refusal_text (number_of e))
  unfolding number_given
  refusal_due = record {
    taken = λ g t. absurd (refused_not_taken (sym refused_by ∙ t));
    refused = λ k r. ap refusal_text (ap number_given (sym refused_by ∙ r));
  }

  pub refusal_printed : refusal_text (number_of e) ≡ group_printed (group_list file)
  unfolding group_printed
  refusal_printed = rw refused_by refl

-- a file that names a list
module _ {file members : List ℕ} {x : Answer} {members' : List ℕ} (a : Answers file members (Ok x) members') where
  named : (g : Pairs) × (group_list file ≡ taken g) × (x ≡ group_answer g (found_of g))
  unfolding answer_to outcome_of
  named = go (group_list file) refl a.answer_is
    where
      go : (o : Outcome Pairs) → group_list file ≡ o → answer_to o ≡ taken x →
          (g : Pairs) × (group_list file ≡ taken g) × (x ≡ group_answer g (found_of g))
      go (refused k) e h = absurd (refused_not_taken h)
      go (taken g) e h = (g, e, sym (taken_same h))

  module _ (g : Pairs) (e : group_list file ≡ taken g) (is : x ≡ group_answer g (found_of g)) where
    list : is_list g ≡ true
    list = group_listed file g e

    n_as : x.head.n ≡ g.n
    unfolding group_answer
    n_as = ap (λ (b : Answer). b.head.n) is

    n_few : x.head.n ≤ 512
    n_few = omega (arith, n_as, (listed g list).few)

    -- the member bytes in front are the found group's
    group_as : take g.n members' ≡ found_of g
    unfolding members_after
    group_as = rw (a.members_are, e) (found_front g list members)

    lines_as : answer_lines x (take x.head.n members') ≡ group_text g (found_of g)
    unfolding answer_lines group_text group_answer
    lines_as = rw (n_as, group_as, is) refl

    text_length : length (answer_lines x (take x.head.n members')) ≤ 6196
    unfolding group_text certificate
    text_length =
        let best = found_best g list in
        let w = certificate_writable file g (found_of g) best.0 e best.1 in
        rw lines_as (omega (arith, group_length g (certificate g (found_of g) best.0) list w, (listed g list).few))

  pub modules_few : x.head.n ≤ 512
  modules_few = n_few named.0 named.1 named.2

  pub answer_length : length (answer_lines x (take x.head.n members')) ≤ 6196
  answer_length = text_length named.0 named.1 named.2

  pub group_lines : answer_lines x (take x.head.n members') ≡ group_printed (group_list file)
  unfolding group_printed
  group_lines = lines_as named.0 named.1 named.2 ∙ ap group_printed (sym named.1)

-- ---- its sheet

module _ {file members cores shares words : List ℕ} {x : Answer} {members' cores' shares' words' : List ℕ}
    (s : Sheeted file members cores shares words (Ok x) members' cores' shares' words')
    (words_long : 12288 ≤ length words') where
  module _ (g : Pairs) (e : group_list file ≡ taken g) (is : x ≡ group_answer g (found_of g)) where
    abbrev shares_of : List ℕ
    shares_of = take (length g.pairs) shares'

    held : Listed g
    held = listed g (group_listed file g e)

    over : HandedOver g members cores shares words x members' cores' shares' words'
    over = rw is (s.taken g e)

    m_as : x.head.m ≡ length g.pairs
    unfolding group_answer
    m_as = ap (λ (b : Answer). b.head.m) is

    m_few : x.head.m ≤ 4096
    m_few = omega (arith, m_as, held.short)

    cores_as : take x.head.n cores' ≡ core_numbers g
    unfolding in_front core_numbers
    cores_as = rw (n_as s.answers g e is, over.handed.cores_are) (take_at (core_numbers g) _ _ (length_table g.n (core_number g)))

    -- the list lies in the words
    laid_as : laid_list x.head.n x.head.m words' ≡ g
    unfolding laid_list
    laid_as i = record { n = n_as s.answers g e is i; pairs = over.pairs_are i }

    sheet_as : sheet_lines x (take x.head.n members') (take x.head.n cores') g.pairs (take x.head.m shares') ≡
        sheet_file g (certificate g (found_of g) shares_of)
    unfolding sheet_lines GroupFirst
    sheet_as = rw (lines_as s.answers g e is, cores_as, m_as) (sym (group_first g (found_of g) shares_of))

    own : Optimal g (found_of g) shares_of (inside g (found_of g)) (size (found_of g))
    unfolding solved_of group_answer
    own = rw (group_as s.answers g e is, is) at over.handed.optimal

    written : Writable g (certificate g (found_of g) shares_of)
    written = certificate_writable file g (found_of g) shares_of e own

    due_of : SheetDue file g (found_of g) (sheet_lines x (take x.head.n members') (take x.head.n cores') g.pairs (take x.head.m shares'))
    unfolding solved_of group_answer
    due_of = record {
      shares = shares_of;
      optimal = own;
      outside = rw is at over.handed.outside;
      is = sheet_as;
      accepted = rw sheet_as (accepted_certificate file g (found_of g) shares_of e own);
    }

  pub pairs_few : x.head.m ≤ 4096
  pairs_few = let k = named s.answers in m_few k.0 k.1 k.2

  pub list_held : HoldsList x.head.n x.head.m words'
  list_held = let k = named s.answers in record { listed = rw (laid_as k.0 k.1 k.2) (list s.answers k.0 k.1 k.2); long = words_long }

  -- l is the list in the words, with its N and M
  module _ {l : Pairs} {n m : ℕ} (same : l ≡ laid_list x.head.n x.head.m words') (n_same : n ≡ x.head.n) (m_same : m ≡ x.head.m) where
    abbrev lines : List ℕ
    lines = sheet_lines x (take n members') (take n cores') l.pairs (take m shares')

    pub lines_length : length lines ≤ 136756
    lines_length =
        let k = named s.answers in
        let best = certificate k.0 (found_of k.0) (shares_of k.0 k.1 k.2) in
        rw (n_same, m_same, same, laid_as k.0 k.1 k.2, sheet_as k.0 k.1 k.2)
        (sheet_length k.0 best (list s.answers k.0 k.1 k.2) (written k.0 k.1 k.2))

    pub sheet_due : SheetPrinted file lines
    sheet_due =
        let k = named s.answers in
        record {
          taken = λ u t.
              let own : k.0 ≡ u = taken_same (sym k.1 ∙ t) in
              rw (n_same, m_same, same, laid_as k.0 k.1 k.2, ← own) (due_of k.0 k.1 k.2);
          refused = λ j r. absurd (refused_not_taken (sym r ∙ k.1));
        }
