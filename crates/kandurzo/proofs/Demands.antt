-- Every list is served, and refusals keep what is lent: theorems of specs/Promise.antt.
--   front_long                             entries that can be taken are there
--   n_is, m_is, lent_list, lent_agrees, lent_held    a list that is lent is the one held
--   held_head, held_lent                   head and list that agree hold a list that is lent
--   lent_passes, sheet_number, accepted_some    with buffers long enough neither 13 nor 12 comes; what check accepts is of a list with a pair
--   every_list_peeled, every_list_solved, every_list_judged, every_list_compared    so every list is served,
--   no_stops_no_group                      but for those without pairs, which solve and check turn down
--   refusals_keep, fifteen_never           refusals
-- Assumes nothing.
use mathlib.Core.Path.{◌≡◌, refl, sym, ap, ◌∙◌}
use mathlib.Core.Bool.{Bool, true, false, not, cond}
use mathlib.Core.Logic.{◌↔◌}
use mathlib.Core.List.{List, [], ◌∷◌}
use Prim.Native.Nat.{ℕ, ◌≤◌}
use native.Mathlib.Omega.{arith}
use lib.ListN.{length, take, length-take}
use Rattle.std.proofs.lemmas.List.{nil_from_length}
use Rattle.theory.specs.Lists as Lists
use Rattle.theory.specs.Lists.{Pairs}
use Rattle.theory.specs.Refusals.{Cause, cause, refusal, if_taken}
use Rattle.theory.specs.Check.{check_number}
use Rattle.theory.specs.Pairless.{no_pair, group_causes, group_number, judged_number}
use Rattle.theory.specs.Surplus.{surplus_number}
use Rattle.theory.proofs.Tests.{tests}
use Rattle.theory.proofs.Pairless.{pairless, paired, none_turned, some_served, turned_none, judged_turned, judged_served, by_pairs}
use Rattle.theory.proofs.Refusals.{if_taken_old}
use Rattle.lines.specs.Outcomes.{Outcome, refused, taken, number_given}
use Rattle.pairfile.specs.Answers.{pairs_of}
use Rattle.verify.specs.declared.Verdict.{Verdict}
use Rattle.verify.specs.Answers.{refused_by}
use Rattle.records.specs.declared.Pair.{Pair}
use Rattle.records.specs.declared.Head.{Head}
use Rattle.records.specs.Records.{held_list, agrees}
use Rattle.on_words.specs.declared.buffers.Buffer.{Buffer}
use Rattle.on_words.specs.declared.Solved.{Solved}
use Rattle.on_words.specs.Buffers.{any_short, cleared}
use Rattle.on_words.specs.Gate.{gate_number}
use Rattle.on_words.specs.Edits.{head_of}
use Rattle.kandurzo.specs.Listing.{as_records}
use Rattle.kandurzo.specs.Reading.{records_front}
use Rattle.on_words.specs.Peeling.{peel_buffers}
use Rattle.kandurzo.specs.Peeling.{peel_call_causes}
use Rattle.on_words.specs.Judging.{check_buffers, surplus_buffers}
use Rattle.kandurzo.specs.Judging.{check_call_causes, CheckCall, surplus_call_causes}
use Rattle.on_words.specs.Solving.{solve_buffers}
use Rattle.kandurzo.specs.Solving.{solve_call_causes, SolveCall}
use Rattle.kandurzo.specs.Promise.{Lent, LentHeld, EveryListPeeled, EveryListSolved, EveryListJudged, EveryListCompared}
use Rattle.kandurzo.specs.Promise.{TurnedDown, NoStopsNoGroup, RefusalsKeep, FifteenNever}
use Rattle.on_words.proofs.Filling.{work_zeros, left_open, left_turned}
use Rattle.on_words.proofs.Enough.{LongEnough, all_long}
use Rattle.kandurzo.proofs.Gates.{gate_then}
use Rattle.kandurzo.proofs.Judgements.{check_few}
use Rattle.kandurzo.proofs.Taken.{as_pairs_back, length_as_records, held_is_list, length_held, held_records}

-- ---- a list that is lent

-- entries that can be taken are there
pub front_long : {A : Type 0} (k : ℕ) (xs : List A) → length (take k xs) ≡ k → k ≤ length xs
front_long k xs e = omega (arith, length-take k xs)

module _ {g : Pairs} {h : Head} {ps : List Pair} (lent : Lent g h ps) where
  abbrev m : ℕ
  m = length g.pairs

  pub n_is : h.n ≡ g.n
  unfolding head_of
  n_is = ap (λ (k : Head). k.n) lent.head

  pub m_is : h.m ≡ m
  unfolding head_of
  m_is = ap (λ (k : Head). k.m) lent.head

  -- it is the list held
  pub lent_list : held_list h ps ≡ g
  unfolding held_list
  lent_list = rw (n_is, m_is, lent.records) (ap (λ (qs : List Lists.Pair). record { n = g.n; pairs = qs }) (as_pairs_back g.pairs))

  -- and head and list agree
  pub lent_agrees : agrees h ps ≡ true
  unfolding agrees
  lent_agrees =
      let long : m ≤ length ps = front_long m ps (ap length lent.records ∙ length_as_records g.pairs) in
      rw lent_list (simp tests (omega (arith, m_is, long), lent.list))

  -- with buffers long enough, neither 13 nor 12 comes
  pub lent_passes : (bs : List Buffer) (rest : List Cause) → LongEnough bs →
      refusal (cause 13 (not (agrees h ps)) ∷ cause 12 (any_short bs) ∷ rest) ≡ refusal rest
  unfolding gate_number refusal cause
  lent_passes bs rest long = gate_then (agrees h ps) (any_short bs) rest (rw (lent_agrees, all_long bs long) refl)

-- head and list that agree hold a list that is lent
pub held_head : (h : Head) (ps : List Pair) → agrees h ps ≡ true → h ≡ head_of (held_list h ps).n (length (held_list h ps).pairs)
unfolding head_of held_list
held_head h ps agreed i = record { n = h.n; m = sym (length_held h ps agreed) i }

pub held_lent : (h : Head) (ps : List Pair) → agrees h ps ≡ true → Lent (held_list h ps) h ps
held_lent h ps agreed = record {
  list = held_is_list h ps agreed;
  head = held_head h ps agreed;
  records = rw (length_held h ps agreed) (sym (held_records h ps agreed));
}

pub lent_held : LentHeld
unfolding LentHeld
lent_held g h ps = (λ lent. (lent_agrees lent, lent_list lent), λ e. rw e.1 at (held_lent h ps e.0))

-- ---- every list

pub every_list_peeled : EveryListPeeled
unfolding EveryListPeeled peel_call_causes if_taken refusal
every_list_peeled g h ps order cores work r order' cores' work' lent o c w call =
    let z : r ≡ 0 = call.number ∙ lent_passes lent (peel_buffers h (length order) (length cores) (length work)) []
    (omega (arith, n_is lent), (omega (arith, n_is lent), w)) in
    record {
      number = z;
      order_is = rw (z, lent_list lent) at call.order_is;
      cores_are = rw (z, lent_list lent) at call.cores_are;
      left = call.left ∙ left_open work z;
    }

-- solve's number is that of the list
module _ {g : Pairs} {h : Head} {ps : List Pair} (lent : Lent g h ps) (members cores shares work : List ℕ)
    (a : g.n ≤ length members) (c : g.n ≤ length cores) (d : length g.pairs ≤ length shares) (w : 16384 ≤ length work)
    {r : Solved} {members' cores' shares' work' : List ℕ} (call : SolveCall h ps members cores shares work r members' cores' shares' work') where
  solve_number : r.number ≡ group_number (length g.pairs)
  unfolding solve_call_causes group_number group_causes
  solve_number =
      call.number.outright
      ∙ lent_passes lent (solve_buffers h (length members) (length cores) (length shares) (length work)) _
      (omega (arith, n_is lent), (omega (arith, n_is lent), (omega (arith, m_is lent), w))) ∙ rw (m_is lent)

pub every_list_solved : EveryListSolved
unfolding EveryListSolved
every_list_solved g h ps members cores shares work r members' cores' shares' work' lent some a c d w call =
    let z : r.number ≡ 0 = solve_number lent members cores shares work a c d w call ∙ some_served (length g.pairs) some in
    record { number = z; handed = rw (lent_list lent) at (call.handed z); left = call.left ∙ left_open work z }

-- check's number is that of the list, of the group and of the shares
module _ {g : Pairs} {h : Head} {ps : List Pair} (lent : Lent g h ps) (members shares work : List ℕ)
    (a : g.n ≤ length members) (d : length g.pairs ≤ length shares) (w : 16384 ≤ length work) {v : Verdict} {work' : List ℕ}
    (call : CheckCall h ps members shares work v work') where
  judged_as : v.number ≡ judged_number g (take g.n members) (take (length g.pairs) shares)
  unfolding check_call_causes judged_number
  judged_as =
      call.number ∙ lent_passes lent (check_buffers h (length members) (length shares) (length work)) _
      (omega (arith, n_is lent), (omega (arith, m_is lent), w)) ∙ rw (lent_list lent, n_is lent, m_is lent)

  -- of a list with a pair it is that of the group and the shares
  pub sheet_number : 1 ≤ length g.pairs → v.number ≡ check_number g (take g.n members) (take (length g.pairs) shares)
  sheet_number some = judged_as ∙ judged_served g _ _ (paired (length g.pairs) some)

  -- a list without pairs gets 20, and no other does
  sheet_turned : (v.number ≡ 20) ↔ (length g.pairs ≡ 0)
  sheet_turned = (
    λ t. by_pairs (length g.pairs) (λ z. z) (λ some.
        let low = check_few g (take g.n members) (take (length g.pairs) shares) in
        absurd (omega (arith, t, low, sheet_number some))),
    λ none. judged_as ∙ judged_turned g _ _ (pairless (length g.pairs) none),
  )

  -- so what is accepted is of a list with a pair
  pub accepted_some : v.number ≡ 0 → 1 ≤ length g.pairs
  accepted_some z =
      by_pairs (length g.pairs) (λ none. absurd (omega (arith, z, sheet_turned.1 none))) (λ some. some)

pub every_list_judged : EveryListJudged
unfolding EveryListJudged
every_list_judged g h ps members shares work v work' lent some a d w call =
    let number = sheet_number lent members shares work a d w call some in
    let low = check_few g (take g.n members) (take (length g.pairs) shares) in (
      record {
        number = number;
        p = rw (number, lent_list lent, n_is lent) at call.p;
        q = rw (number, n_is lent) at call.q;
        optimal = λ z. rw (lent_list lent, n_is lent, m_is lent) at (call.optimal z);
      },
      call.left ∙ work_zeros v.number work (λ x. omega (arith, number, low)) (λ x. omega (arith, number, low)),
    )

pub every_list_compared : EveryListCompared
unfolding EveryListCompared surplus_call_causes surplus_number
every_list_compared g h ps t s d lent a b call =
    let number : d.number ≡ surplus_number g (take g.n t) (take g.n s) =
    call.number ∙ lent_passes lent (surplus_buffers h (length t) (length s)) _ (omega (arith, n_is lent), omega (arith, n_is lent))
    ∙ rw (lent_list lent, n_is lent) in
    record {
      number = number;
      value = rw (number, lent_list lent, n_is lent) at call.value;
      signs = λ z. rw (lent_list lent, n_is lent) at (call.signs z);
    }

-- ---- no stops, no group

module _ {g : Pairs} {h : Head} {ps : List Pair} (lent : Lent g h ps) (members cores shares work : List ℕ)
    (a : g.n ≤ length members) (c : g.n ≤ length cores) (d : length g.pairs ≤ length shares) (w : 16384 ≤ length work)
    {r : Solved} {members' cores' shares' work' : List ℕ} (call : SolveCall h ps members cores shares work r members' cores' shares' work') where
  solve_turns : (g.pairs ≡ []) ↔ TurnedDown members cores shares work r members' cores' shares' work'
  solve_turns = (
    λ e.
        let number : r.number ≡ 20 = solve_number lent members cores shares work a c d w call ∙ none_turned (length g.pairs) (ap length e) in
        record {
          number = number;
          answer = call.refused (λ z. omega (arith, z, number));
          left = call.left ∙ left_turned work number;
        },
    λ t. nil_from_length g.pairs (turned_none (length g.pairs) (sym (solve_number lent members cores shares work a c d w call) ∙ t.number)),
  )

module _ {g : Pairs} {h : Head} {ps : List Pair} (lent : Lent g h ps) (members shares work : List ℕ)
    (a : g.n ≤ length members) (d : length g.pairs ≤ length shares) (w : 16384 ≤ length work) {v : Verdict} {work' : List ℕ}
    (call : CheckCall h ps members shares work v work') where
  check_turns : (g.pairs ≡ []) ↔ ((v ≡ refused_by 20) × (work' ≡ cleared work))
  unfolding if_taken
  check_turns = (
    λ e.
        let number : v.number ≡ 20 = (sheet_turned lent members shares work a d w call).1 (ap length e) in (
          λ i. record { number = number i; p = (rw number at call.p) i; q = (rw number at call.q) i },
          call.left ∙ left_turned work number,
        ),
    λ t. nil_from_length g.pairs ((sheet_turned lent members shares work a d w call).0 (ap (λ (u : Verdict). u.number) t.0)),
  )

pub no_stops_no_group : NoStopsNoGroup
no_stops_no_group = record {
  solve = λ g h ps members cores shares work r members' cores' shares' work' lent a c d w call.
      solve_turns lent members cores shares work a c d w call;
  check = λ g h ps members shares work v work' lent a d w call. check_turns lent members shares work a d w call;
}

-- ---- refusals

-- a refused file has no pairs
read_refused : (o : Outcome Pairs) (ps : List Pair) → (number_given o ≡ 0 → ⊥) → records_front (pairs_of o) ps ≡ ps
unfolding number_given pairs_of records_front as_records
read_refused (refused k) ps n = refl
read_refused (taken g) ps n = absurd (n refl)

pub refusals_keep : RefusalsKeep
refusals_keep = record {
  add = λ h ps a b w r ps' call n.
      (call.head ∙ if_taken_old _ _ h (λ z. n (call.number ∙ z)), call.list ∙ if_taken_old _ _ ps (λ z. n (call.number ∙ z)));
  remove = λ h ps a b r ps' call n.
      (call.head ∙ if_taken_old _ _ h (λ z. n (call.number ∙ z)), call.list ∙ if_taken_old _ _ ps (λ z. n (call.number ∙ z)));
  read = λ read bytes ps work r ps' work' call n. call.records ∙ read_refused _ ps (λ z. n (call.number ∙ z));
  peel = λ h ps order cores work r order' cores' work' call n. (call.order_is ∙ if_taken_old r _ order n, call.cores_are ∙ if_taken_old r _ cores n);
  solve = λ h ps members cores shares work r members' cores' shares' work' call n. let no = call.refused n in (no.members_are, no.cores_are, no.shares_are);
  kit = λ h ps k members work v members' work' call n. call.says.members_are ∙ if_taken_old v.number _ members n;
  write_dimacs = λ h ps text w text' call n. call.bytes ∙ if_taken_old w.number _ text n;
}

-- the number of solve is 13, 12, 20 or 0
pub fifteen_never : FifteenNever
unfolding FifteenNever solve_call_causes refusal cause
fifteen_never h ps members cores shares work r members' cores' shares' work' call e =
    go (not (agrees h ps)) (any_short (solve_buffers h (length members) (length cores) (length shares) (length work))) (no_pair h.m)
    (sym call.number.outright ∙ e)
  where
    go : (a b c : Bool) → ◌≡◌ {A = ℕ} (cond a 13 (cond b 12 (cond c 20 0))) 15 → ⊥
    go true b c e = omega (arith, e)
    go false true c e = omega (arith, e)
    go false false true e = omega (arith, e)
    go false false false e = omega (arith, e)
