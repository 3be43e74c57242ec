-- Solve, from the words to the call, and what follows of its answers.
--   unsplit_never        the condition of 15 never holds: so 15 never comes
--   solve_refused, solve_done    the call's promise, where 13 or 12 refuses and where neither does
--   solve_passed         where nothing is refused head and list agree, and the list has a pair
--   records_in_order     two records' floats compare as their ratios do
-- Assumes nothing.
use mathlib.Core.Path.{◌≡◌, sym, ◌∙◌}
use mathlib.Core.Bool.{Bool, true}
use mathlib.Core.List.{List}
use Prim.Native.Nat.{ℕ, ◌≤◌}
use native.Mathlib.Omega.{arith}
use lib.ListN.{length}
use Rattle.std.proofs.Common.{Err}
use Rattle.theory.specs.Lists.{is_list}
use Rattle.theory.specs.Pairless.{group_causes, group_number}
use Rattle.theory.specs.Promise.{SplitDensest, RatiosInOrder}
use Rattle.theory.proofs.Pairless.{served_some}
use Rattle.theory.proofs.Promises.{split_densest, ratios_in_order}
use Rattle.refusals.specs.declared.Refusal.{Refusal}
use Rattle.refusals.specs.Numbers.{number_of}
use Rattle.lines.proofs.Found.{numbered}
use Rattle.records.specs.declared.Pair.{Pair}
use Rattle.records.specs.declared.Head.{Head}
use Rattle.records.specs.Records.{held_list, agrees}
use Rattle.on_words.specs.declared.Solved.{Solved}
use Rattle.on_words.specs.declared.buffers.Buffer.{Buffer}
use Rattle.on_words.specs.Buffers.{any_short}
use Rattle.on_words.specs.Gate.{gate_number}
use Rattle.on_words.specs.Solving.{solve_buffers, declined, solved_of, SolveOn}
use Rattle.on_words.proofs.Filling.{left_group}
use Rattle.on_words.proofs.Pairless.{declines}
use Rattle.kandurzo.specs.Laying.{Laid}
use Rattle.kandurzo.specs.Solving.{solve_call_causes, NoSplit, SolveCall}
use Rattle.kandurzo.specs.Promise.{UnsplitNever, RecordsInOrder}
use Rattle.kandurzo.proofs.Gates.{gate_left, gate_first, gate_then, gate_all}
use Rattle.kandurzo.proofs.Taken.{held_is_list}

-- a densest group has a split at its size whose greatest load is its inside count
pub unsplit_never : UnsplitNever
unfolding UnsplitNever NoSplit SplitDensest
unsplit_never g l u = let s = split_densest g u.group l u.densest in let e = s.2 in omega (arith, u.no_split s.0 s.1, e)

module _ (h : Head) (ps : List Pair) (members cores shares work : List ℕ)
    {lent : List Buffer} (is : lent ≡ solve_buffers h (length members) (length cores) (length shares) (length work)) where
  abbrev short : Bool
  short = any_short lent

  pub solve_refused : (e : Refusal) → number_of e ≡ gate_number (agrees h ps) short →
      SolveCall h ps members cores shares work (solved_of (Err e)) members cores shares work
  unfolding solve_call_causes declined group_causes
  solve_refused e f =
      record {
        number = let k = rw is at (gate_first (agrees h ps) short (group_causes h.m) f (numbered e)) in
            record { outright = k; fifteen = λ z. absurd (numbered e (k ∙ z)) };
        handed = λ z. absurd (numbered e z);
        refused = λ _. declines members cores shares e;
        left = gate_left (agrees h ps) short work f (numbered e);
      }

  pub solve_done : 0 ≡ gate_number (agrees h ps) short → {words : List ℕ} → Laid h ps work words → {r : Solved} {members' cores' shares' work' : List ℕ} →
      SolveOn h members cores shares words r members' cores' shares' work' → SolveCall h ps members cores shares work r members' cores' shares' work'
  unfolding UnsplitNever solve_call_causes group_number group_causes
  solve_done f laid {r} on =
      let number = on.number ∙ sym (rw is at (gate_then (agrees h ps) short (group_causes h.m) (sym f))) in
      record {
        number = record {
          outright = number;
          fifteen = λ z. (λ x. absurd (omega (arith, x, number, z)), λ u. absurd (unsplit_never (held_list h ps) (held_is_list h ps laid.agreed) u));
        };
        handed = λ z. rw laid.list at (on.handed z);
        refused = on.refused;
        left = on.left ∙ laid.left ∙ sym (left_group h.m work on.number);
      }

-- ---- what follows of the answers

-- a call that refuses nothing has passed 13, 12 and 20: its list is one as it is held, with a pair
module _ (h : Head) (ps : List Pair) (ms cs xs ws : List ℕ) {r : Solved} {ms' cs' xs' ws' : List ℕ}
    (call : SolveCall h ps ms cs xs ws r ms' cs' xs' ws') (z : r.number ≡ 0) where
  pub solve_passed : (agrees h ps ≡ true) × (1 ≤ h.m)
  unfolding solve_call_causes group_number group_causes
  solve_passed = let g = gate_all (agrees h ps) _ (group_causes h.m) (sym call.number.outright ∙ z) in (g.0, served_some h.m g.2)

  taken_list : is_list (held_list h ps) ≡ true
  taken_list = held_is_list h ps solve_passed.0

-- the floats that two such calls return are in the order of their ratios
pub records_in_order : RecordsInOrder
unfolding RecordsInOrder RatiosInOrder
records_in_order h i ps qs ms cs xs ws ms' cs' xs' ws' ns ds ys vs ns' ds' ys' vs' r s first second z y =
    let a = first.handed z in
    let b = second.handed y in
    let o = ratios_in_order (held_list h ps) (held_list i qs) _ _ (taken_list h ps ms cs xs ws first z) (taken_list i qs ns ds ys vs second y)
    a.optimal.is_a_group b.optimal.is_a_group in
    record {
      less = rw (a.float, b.float, a.optimal.inside_count, b.optimal.inside_count, a.optimal.modules, b.optimal.modules) o.less;
      at_most = rw (a.float, b.float, a.optimal.inside_count, b.optimal.inside_count, a.optimal.modules, b.optimal.modules) o.at_most;
      equal = rw (a.float, b.float, a.optimal.inside_count, b.optimal.inside_count, a.optimal.modules, b.optimal.modules) o.equal;
      one_float = rw (a.float, b.float, a.optimal.inside_count, b.optimal.inside_count, a.optimal.modules, b.optimal.modules) o.one_float;
      one_ratio = rw (a.float, b.float, a.optimal.inside_count, b.optimal.inside_count, a.optimal.modules, b.optimal.modules) o.one_ratio;
    }
