-- What peel and solve write, and what check accepts: theorems of specs/Promise.antt.
--   peel_exact                     the leavers and the core numbers
--   check_exact                    check accepts whatever is best of a list with a pair, and nothing else
--   solve_alone, solve_accepted    solve's answer follows from the input alone, and check accepts it
-- Assumes nothing.
use mathlib.Core.Path.{◌≡◌, refl, sym, ap, ◌∙◌}
use mathlib.Core.Bool.{true}
use mathlib.Core.Option.{some}
use mathlib.Core.List.{List}
use Prim.Native.Nat.{ℕ, ◌≤◌, ◌<◌}
use native.Mathlib.Omega.{arith}
use lib.Dec.{eqb}
use lib.ListN.{length, get_or, take, drop, length-append, length-drop, get_or-append}
use lib.Seq.{get_or-take}
use borrow.Author.Tests.{eqb-true, eqb-false}
use Rattle.theory.specs.Lists.{Pairs, pair, is_list}
use Rattle.theory.specs.Groups.{size, is_group, everyone}
use Rattle.theory.specs.Leaving.{leaving, remainder}
use Rattle.theory.specs.Cores.{core_number, core_numbers}
use Rattle.theory.specs.Splits.{is_split}
use Rattle.theory.specs.Refusals.{cause, refusal, if_taken}
use Rattle.theory.specs.Check.{check_number}
use Rattle.theory.specs.Pairless.{judged_causes, judged_number}
use Rattle.theory.specs.Promise.{AcceptedExactly, BestAccepted, CoreExact, LeavingSteps, LeavingEveryone}
use Rattle.theory.proofs.Promises.{accepted_exactly, best_accepted, core_exact, leaving_steps, leaving_everyone}
use Rattle.theory.proofs.Pairless.{paired, judged_served}
use Rattle.theory.proofs.Tables.{table_at, length_table}
use Rattle.theory.proofs.Tests.{tests, by_test}
use Rattle.theory.proofs.Leaving.{left_behind_same}
use Rattle.theory.proofs.Splits.{shares_length, outside_at}
use Rattle.verify.specs.declared.Verdict.{Verdict}
use Rattle.records.specs.declared.Pair.{Pair}
use Rattle.records.specs.declared.Head.{Head}
use Rattle.records.specs.Records.{held_list, agrees}
use Rattle.on_words.specs.declared.Solved.{Solved}
use Rattle.on_words.specs.Buffers.{any_short, in_front, work_left}
use Rattle.on_words.specs.Gate.{gate_number}
use Rattle.kandurzo.specs.Peeling.{peel_call_causes, PeelCall}
use Rattle.on_words.specs.Judging.{check_buffers}
use Rattle.kandurzo.specs.Judging.{check_call_causes, CheckCall}
use Rattle.on_words.specs.Solving.{declined}
use Rattle.kandurzo.specs.Solving.{SolveCall}
use Rattle.kandurzo.specs.Promise.{PeelingOf, PeelExact, CheckExact, SharesAlike, SolveAlone, SolveAccepted}
use Rattle.kandurzo.proofs.Demands.{front_long, n_is, m_is, lent_list, sheet_number, accepted_some}
use Rattle.on_words.proofs.Enough.{all_long}
use Rattle.kandurzo.proofs.Gates.{gate_open, gate_then}
use Rattle.kandurzo.proofs.Solves.{solve_passed}
use Rattle.kandurzo.proofs.Taken.{held_is_list, length_held}

-- ---- peel

-- a call of peel that refuses nothing has a list as it is held
module _ (h : Head) (ps : List Pair) (order cores work : List ℕ) {r : ℕ} {order' cores' work' : List ℕ}
    (call : PeelCall h ps order cores work r order' cores' work') (z : r ≡ 0) where
  abbrev g : Pairs
  g = held_list h ps

  peeled_list : is_list g ≡ true
  unfolding peel_call_causes gate_number
  peeled_list = held_is_list h ps (gate_open (agrees h ps) _ (sym call.number ∙ z)).0

  -- an entry of what stands in front
  front_at : (new old now : List ℕ) (i : ℕ) → now ≡ in_front new old → i < length new → get_or now i 0 ≡ get_or new i 0
  unfolding in_front
  front_at new old now i e l = ap (λ (xs : List ℕ). get_or xs i 0) e ∙ get_or-append new _ 0 i l

  -- it is as long at the least
  front_enough : (new old now : List ℕ) → now ≡ in_front new old → length new ≡ g.n → g.n ≤ length now
  unfolding in_front
  front_enough new old now e l = omega (arith, ap length e, length-append new (drop (length new) old))

  place_is : (i : ℕ) → i < g.n → get_or order' i 0 ≡ get_or (leaving g) i 0
  unfolding LeavingSteps if_taken
  place_is i l = front_at (leaving g) order order' i (rw z at call.order_is) (omega (arith, (leaving_steps g).0))

  number_is : (v : ℕ) → v < g.n → get_or cores' v 0 ≡ core_number g v
  unfolding core_numbers if_taken
  number_is v l =
      front_at (core_numbers g) cores cores' v (rw z at call.cores_are) (omega (arith, length_table g.n (core_number g)))
      ∙ table_at g.n (core_number g) v 0 l

  exact : PeelingOf g order' cores'
  unfolding LeavingSteps LeavingEveryone CoreExact remainder if_taken
  exact = record {
    order_long = front_enough (leaving g) order order' (rw z at call.order_is) (leaving_steps g).0;
    cores_long = front_enough (core_numbers g) cores cores' (rw z at call.cores_are) (unfold core_numbers in length_table g.n (core_number g));
    leavers = λ i l.
        rw (left_behind_same order' (leaving g) (everyone g) i (λ j b. place_is j (omega (arith, l))))
        ((leaving_steps g).1 i l ∙ ap some (sym (place_is i l)));
    places = λ v l. let p = leaving_everyone g v l in (p.0, p.1, place_is p.0 p.1 ∙ p.2);
    numbers = λ v l. rw (number_is v l) (core_exact g v peeled_list l);
  }

pub peel_exact : PeelExact
unfolding PeelExact
peel_exact h ps order cores work r order' cores' work' call z = exact h ps order cores work call z

-- ---- check and solve

pub check_exact : CheckExact
unfolding CheckExact BestAccepted
check_exact g h ps members shares work v work' lent a d w call = (
  λ z.
      let o = rw (lent_list lent, n_is lent, m_is lent) at (call.optimal z) in (
        accepted_some lent members shares work a d w call z,
        record { group = o.is_a_group; split = rw o.modules at o.is_a_split; best = rw o.modules at o.best },
      ),
  λ b. sheet_number lent members shares work a d w call b.0 ∙ best_accepted g _ _ lent.list b.1.group b.1.split b.1.best,
)

-- what solve hands out
module _ (h : Head) (ps : List Pair) (members cores shares work : List ℕ) {r : Solved} {members' cores' shares' work' : List ℕ}
    (call : SolveCall h ps members cores shares work r members' cores' shares' work') (z : r.number ≡ 0) where
  abbrev u : Pairs
  u = held_list h ps

  solved_agrees : agrees h ps ≡ true
  solved_agrees = (solve_passed h ps members cores shares work call z).0

  m_held : length u.pairs ≡ h.m
  m_held = length_held h ps solved_agrees

  members_enough : h.n ≤ length members'
  unfolding is_group held_list
  members_enough = front_long h.n members' (simp tests at (call.handed z).optimal.is_a_group).0

  shares_enough : length u.pairs ≤ length shares'
  unfolding is_split
  shares_enough =
      let good = (simp tests at (call.handed z).optimal.is_a_split).1 in
      front_long (length u.pairs) shares' (shares_length r.q u.pairs _ good)

  -- put to check
  module _ (again : List ℕ) (w : 16384 ≤ length again) {v : Verdict} {again' : List ℕ} (check : CheckCall h ps members' shares' again v again') where
    sheet_good : check_number u (take u.n members') (take h.m shares') ≡ 0
    unfolding AcceptedExactly
    sheet_good =
        let o = (call.handed z).optimal in
        let q : r.q ≡ size (take u.n members') = o.modules in
        rw m_held at
        ((accepted_exactly u (take u.n members') (take (length u.pairs) shares')).1
        (o.is_a_group, rw q at o.is_a_split, omega (arith, rw q at o.top_load, o.inside_count)))

    again_taken : v.number ≡ 0
    unfolding check_call_causes gate_number refusal cause judged_number held_list
    again_taken =
        let short = any_short (check_buffers h (length members') (length shares') (length again)) in
        let gate : gate_number (agrees h ps) short ≡ 0 = rw (
          solved_agrees,
          all_long (check_buffers h (length members') (length shares') (length again))
              (members_enough, (rw m_held at shares_enough, w)),
        ) refl in
        let rest = judged_causes u (take h.n members') (take h.m shares') in
        let some = (solve_passed h ps members cores shares work call z).1 in
        check.number ∙ gate_then (agrees h ps) short rest gate ∙ judged_served u _ _ (rw m_held (paired h.m some)) ∙ sheet_good

pub solve_accepted : SolveAccepted
unfolding SolveAccepted if_taken held_list
solve_accepted h ps members cores shares work r members' cores' shares' work' again v again' call z w check =
    let y = again_taken h ps members cores shares work call z again w check in
    let o = (call.handed z).optimal in
    (y, (rw y at check.p) ∙ sym o.inside_count, (rw y at check.q) ∙ sym o.modules)

-- buffers that are the same past k entries have one length
same_rest : (k : ℕ) (xs ys : List ℕ) → k ≤ length xs → k ≤ length ys → drop k xs ≡ drop k ys → length xs ≡ length ys
same_rest k xs ys a b e = omega (arith, ap length e, length-drop k xs, length-drop k ys)

-- two answers of solve to one input
module _ (h : Head) (ps : List Pair) (members cores shares work : List ℕ) {r s : Solved}
    {members' cores' shares' work' members'' cores'' shares'' work'' : List ℕ}
    (one : SolveCall h ps members cores shares work r members' cores' shares' work')
    (two : SolveCall h ps members cores shares work s members'' cores'' shares'' work'') where
  same_number : r.number ≡ s.number
  same_number = one.number.outright ∙ sym two.number.outright

  same_work : work' ≡ work''
  same_work = one.left ∙ ap (λ (k : ℕ). work_left k work) same_number ∙ sym two.left

  abbrev Same : Type 0
  Same =
      (r ≡ s) × (members' ≡ members'') × (cores' ≡ cores'') × (work' ≡ work'') × SharesAlike (held_list h ps) r.k shares' shares''
      × ((r.number ≡ 0 → ⊥) → shares' ≡ shares'')

  -- where nothing is refused
  taken_same : r.number ≡ 0 → Same
  taken_same z =
      let a = one.handed z in
      let b = two.handed (sym same_number ∙ z) in
      let m : members' ≡ members'' = a.members_are ∙ sym b.members_are in
      let p : r.p ≡ s.p = a.optimal.inside_count ∙ rw m (sym b.optimal.inside_count) in
      let q : r.q ≡ s.q = a.optimal.modules ∙ rw m (sym b.optimal.modules) in
      let k : r.k ≡ s.k = a.order ∙ rw (p, q) (sym b.order) in
      let c : r.coresize ≡ s.coresize = a.core_size ∙ rw k (sym b.core_size) in
      let f : r.ratio ≡ s.ratio = a.float ∙ rw (p, q) (sym b.float) in
      let rest = a.shares_rest ∙ sym b.shares_rest in (
        λ i. record { number = same_number i; p = p i; q = q i; k = k i; coresize = c i; ratio = f i },
        m,
        a.cores_are ∙ sym b.cores_are,
        same_work,
        record {
          same_length = same_rest _ shares' shares'' (shares_enough h ps members cores shares work one z)
              (shares_enough h ps members cores shares work two (sym same_number ∙ z)) rest;
          outside = λ j l n.
              sym (get_or-take _ shares' j 0 l) ∙ outside_at _ r.k r.q _ _ j (pair 0 0) a.outside l n
              ∙ rw q (sym (outside_at _ s.k s.q _ _ j (pair 0 0) b.outside l (rw (← k) n))) ∙ get_or-take _ shares'' j 0 l;
          past = rest;
        },
        λ n. absurd (n z),
      )

  -- and where the call is refused
  refused_same : (r.number ≡ 0 → ⊥) → Same
  refused_same n =
      let a = one.refused n in
      let b = two.refused (λ z. n (same_number ∙ z)) in
      let d : shares' ≡ shares'' = a.shares_are ∙ sym b.shares_are in (
        a.answer ∙ ap declined same_number ∙ sym b.answer,
        a.members_are ∙ sym b.members_are,
        a.cores_are ∙ sym b.cores_are,
        same_work,
        record {
          same_length = ap length d;
          outside = λ j l o. ap (λ (xs : List ℕ). get_or xs j 0) d;
          past = ap (drop (length (held_list h ps).pairs)) d;
        },
        λ _. d,
      )

pub solve_alone : SolveAlone
unfolding SolveAlone
solve_alone h ps members cores shares work r s members' cores' shares' work' members'' cores'' shares'' work'' one two =
    by_test (eqb r.number 0) (λ e. taken_same h ps members cores shares work one two (eqb-true _ 0 e))
    (λ e. refused_same h ps members cores shares work one two (eqb-false _ 0 e))
