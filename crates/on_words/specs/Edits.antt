-- What add and remove do on words, where head and list agree.
--   head_of                         a head
--   pair_located                    whether a pair is held, and where it stands or would go
--   is_full, add_on_number, AddOn   add
--   remove_on_number, RemoveOn      remove
-- Assumes nothing: these are definitions.
use Rattle.std.specs.Prelude.{◌≡◌, Bool, false, ◌||◌, List, ℕ, ◌-◌, eqb, Result, IfOk}
use Rattle.theory.specs.Words.{laid_pairs, laid_list}
use Rattle.theory.specs.Refusals.{refusal, if_taken}
use Rattle.refusals.specs.declared.Refusal.{Refusal}
use Rattle.refusals.specs.Numbers.{number_in}
use Rattle.pairs.specs.Held.{smaller_first_pair, stops_of}
use Rattle.pairs.specs.Causes.{add_causes, remove_causes}
use Rattle.pairs.specs.Shifts.{delete_at}
use Rattle.pairs.specs.Located.{Place, located}
use Rattle.pairs.specs.Counts.{raised, pairs_raised}
use Rattle.records.specs.declared.Head.{Head}

-- a head of n modules and m pairs
unfoldable pub head_of : (n m : ℕ) → Head
head_of n m = record { n = n; m = m }

-- whether the pair of a and b is held, and where it stands or would go
unfoldable pub pair_located : Head → (words : List ℕ) → (a b : ℕ) → Place
pair_located h ws a b = located (smaller_first_pair a b) (laid_pairs h.m ws)

-- ---- add

-- 11: no free record: M is 4,096 or the length of the lent list
unfoldable pub is_full : Head → (len : ℕ) → Bool
is_full h len = eqb h.m 4096 || eqb h.m len

-- the number that add gives: head and list agree, so 13 is none
unfoldable pub add_on_number : Head → (len : ℕ) → (words : List ℕ) → (a b w : ℕ) → ℕ
add_on_number h len ws a b w = refusal (add_causes false (laid_list h.n h.m ws) (is_full h len) a b w)

-- ADD: the number; one pair more or as many as before; w stops more of the pair: its count is raised, or it is put in at its place
pub record AddOn (h : Head) (len : ℕ) (words : List ℕ) (a b w : ℕ) (r : Result Head Refusal) (words' : List ℕ) : Type 0 where
  pub number : number_in r ≡ add_on_number h len words a b w
  pub head : IfOk r (λ new. new ≡ head_of h.n (pairs_raised h.m (pair_located h words a b)))
  pub after : words' ≡ if_taken (number_in r) (raised h.m (pair_located h words a b) (stops_of a b w) words) words

-- ---- remove

-- the number that remove gives
unfoldable pub remove_on_number : Head → (words : List ℕ) → (a b : ℕ) → ℕ
remove_on_number h ws a b = refusal (remove_causes false (laid_list h.n h.m ws) a b)

-- REMOVE: the number; one pair less; the pair taken out, and the words freed at the end become 0
pub record RemoveOn (h : Head) (words : List ℕ) (a b : ℕ) (r : Result Head Refusal) (words' : List ℕ) : Type 0 where
  pub number : number_in r ≡ remove_on_number h words a b
  pub head : IfOk r (λ new. new ≡ head_of h.n (h.m - 1))
  pub after : words' ≡ if_taken (number_in r) (delete_at h.m (pair_located h words a b).at words) words
