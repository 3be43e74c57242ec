-- From what the reader and solve say to the answer.
--   refused_as    of a refused file
--   turned_as     of a file that names a list without pairs
--   taken_as      of a file that names a list
-- Assumes nothing.
use Rattle.std.proofs.Common.{◌≡◌, refl, sym, ap, ◌∙◌, subst, ℕ, List, length, take, Ok, Err, arith}
use Rattle.theory.specs.Lists.{Pairs}
use Rattle.theory.specs.Groups.{inside, size, found_of}
use Rattle.theory.specs.Splits.{core_order}
use Rattle.theory.specs.Words.{laid_list, HoldsList}
use Rattle.theory.proofs.Pairless.{served_some}
use Rattle.theory.proofs.Words.{length_laid}
use Rattle.refusals.specs.declared.Refusal.{Refusal}
use Rattle.refusals.specs.Numbers.{number_of}
use Rattle.lines.specs.Outcomes.{refused, taken, outcome_of}
use Rattle.lines.proofs.Found.{numbered}
use Rattle.lines.proofs.Taken.{refused_not_taken, taken_same}
use Rattle.pairfile.specs.File.{read_file, group_list}
use Rattle.pairfile.specs.Answers.{FileRead, SamePast}
use Rattle.pairfile.proofs.Grouped.{group_refused, group_taken, group_pairless}
use Rattle.records.specs.declared.Head.{Head}
use Rattle.on_words.specs.declared.Solved.{Solved}
use Rattle.on_words.specs.Solving.{declined, solved_of as record_of, SolveOn, Handed}
use Rattle.on_words.proofs.Sheets.{found_front}
use Rattle.on_words.proofs.Pairless.{turned}
use Rattle.answer.specs.declared.Answer.{Answer}
use Rattle.answer.specs.Answers.{group_answer, answer_to, members_after, solved_of, HandedOver, Sheeted}

module _ (bytes members cores shares words : List ℕ) where
  -- the list of the file is refused, and all buffers are as they were
  declined_as : (e : Refusal) → group_list bytes ≡ refused (number_of e) → Sheeted bytes members cores shares words (Err e) members cores shares words
  unfolding outcome_of answer_to members_after
  declined_as e r = record {
    answers = record { answer_is = rw r refl; members_are = rw r refl };
    taken = λ g t. absurd (refused_not_taken (sym r ∙ t));
    refused = λ k s. (refl, refl, refl);
  }

  pub refused_as : {old work : List ℕ} {e : Refusal} → FileRead 4096 bytes old work (Err e) →
      Sheeted bytes members cores shares words (Err e) members cores shares words
  unfolding outcome_of
  refused_as f = declined_as _ (group_refused bytes f.found)

  module _ {head : Head} {old work : List ℕ} (f : FileRead 4096 bytes old work (Ok head)) where
    abbrev g : Pairs
    g = laid_list head.n head.m work

    named : read_file 4096 bytes ≡ taken g
    unfolding outcome_of
    named = f.found

    m_as : head.m ≡ length g.pairs
    unfolding laid_list
    m_as = sym (length_laid head.m work)

    module _ (e : Refusal) {members' cores' shares' work' words' : List ℕ}
        (s : SolveOn head members cores shares work (record_of (Err e)) members' cores' shares' work') (none : head.m ≡ 0 → words' ≡ words) where
      pub turned_as : Sheeted bytes members cores shares words (Err e) members' cores' shares' words'
      unfolding declined
      turned_as =
          let t = turned head e s.number in
          let kept = s.refused (numbered e) in
          rw (kept.members_are, kept.cores_are, kept.shares_are, none t.1)
          (declined_as e (rw (← t.0) at (group_pairless bytes g named (omega (arith, m_as, t.1)))))

    module _ (h : HoldsList head.n head.m work) {found : Solved} {members' cores' shares' work' : List ℕ}
        (s : SolveOn head members cores shares work found members' cores' shares' work') (taken_by : found.number ≡ 0) where
      abbrev given : Answer
      given = record { head = head; ratio = record { p = found.p; q = found.q }; k = found.k; coresize = found.coresize }

      grouped : group_list bytes ≡ taken g
      grouped = group_taken bytes g named (omega (arith, served_some head.m (sym s.number ∙ taken_by), m_as))

      out : Handed g members cores shares found members' cores' shares'
      out = s.handed taken_by

      -- the member bytes in front are the found group's, and solve's numbers are that group's
      group_as : take g.n members' ≡ found_of g
      group_as = rw out.members_are (found_front g h.listed members)

      p_as : found.p ≡ inside g (found_of g)
      p_as = rw group_as at out.optimal.inside_count

      q_as : found.q ≡ size (found_of g)
      q_as = rw group_as at out.optimal.modules

      k_as : found.k ≡ core_order g (found_of g)
      k_as = rw (p_as, q_as) at out.order

      answer_as : given ≡ group_answer g (found_of g)
      unfolding group_answer laid_list
      answer_as i = record {
        head = record { n = head.n; m = m_as i };
        ratio = record { p = p_as i; q = q_as i };
        k = k_as i;
        coresize = (rw k_as at out.core_size) i;
      }

      -- solve's record is the answer's
      record_as : found ≡ solved_of given
      unfolding solved_of
      record_as i = record { number = taken_by i; p = found.p; q = found.q; k = found.k; coresize = found.coresize; ratio = out.float i }

      module _ {words' : List ℕ} (laid : laid_list head.n head.m words' ≡ g) (past : SamePast head.m words words') where
        over : HandedOver g members cores shares words given members' cores' shares' words'
        unfolding laid_list
        over = record {
          handed = subst (λ (u : Solved). Handed g members cores shares u members' cores' shares') record_as out;
          pairs_are = ap (λ (u : Pairs). u.pairs) laid;
          words_rest = past;
        }

        pub taken_as : Sheeted bytes members cores shares words (Ok given) members' cores' shares' words'
        unfolding outcome_of answer_to members_after
        taken_as = record {
          answers = record { answer_is = rw (grouped, answer_as) refl; members_are = rw grouped out.members_are };
          taken = λ u t.
              let same : g ≡ u = taken_same (sym grouped ∙ t) in
              rw (← same, ← answer_as) over;
          refused = λ k r. absurd (refused_not_taken (sym r ∙ grouped));
        }
