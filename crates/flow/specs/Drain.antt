-- What draining does, on the way to the promise of specs/Flow.antt: modules of the scope loaded below p drain, and so does who holds units of a
-- pair whose other end has drained. `rank` is 0 at modules that have drained or are outside the scope; the queue has those whose pairs are to be
-- looked at.
--   DrainStart                   who stays at the start
--   Released, Drains              one module drains; any number do
--   Drained                       who stays at the end
-- Assumes nothing: these are definitions.
use Rattle.std.specs.Prelude.{◌≡◌, true, ◌&&◌, cond, List, ℕ, ◌+◌, ◌≤◌, ◌<◌, leb, get_or, set}
use Rattle.theory.specs.Groups.{is_in}
use Rattle.chains.specs.Search.{zeros, Closed}

-- at the start those of the scope that are loaded p or more stay; what is queued is free
pub record DrainStart (n p : ℕ) (scope load rank queue : List ℕ) (tail : ℕ) : Type 0 where
  pub ranks : (v : ℕ) → v < n → get_or rank v 0 ≡ cond (is_in scope v && leb p (get_or load v 0)) 1 0
  pub queued : (i : ℕ) → i < tail → get_or queue i 0 < n
  pub count : tail ≤ zeros n rank

-- the module of slot k drains, at the end of the queue
pub record Released (ends : List ℕ) (k tail : ℕ) (rank queue rank' queue' : List ℕ) : Type 0 where
  pub ranks : rank' ≡ set rank (get_or ends k 0) 0
  pub queues : queue' ≡ set queue tail (get_or ends k 0)

-- modules drain, each to the end of the queue, and none of a closed set; how many is free
pub record Drains (n m : ℕ) (ends hold rank queue : List ℕ) (tail : ℕ) (rank' queue' : List ℕ) (tail' : ℕ) : Type 0 where
  pub fewer : (v : ℕ) → v < n → 0 < get_or rank' v 0 → 0 < get_or rank v 0
  pub keeps : (t : List ℕ) → Closed m ends hold t → ((v : ℕ) → v < n → 0 < get_or t v 0 → 0 < get_or rank v 0) →
      (v : ℕ) → v < n → 0 < get_or t v 0 → 0 < get_or rank' v 0
  pub more : tail ≤ tail'
  pub count : tail' + zeros n rank ≡ tail + zeros n rank'
  pub queued : ((i : ℕ) → i < tail → get_or queue i 0 < n) → (i : ℕ) → i < tail' → get_or queue' i 0 < n

-- who stays: the largest closed set of modules of the scope that are loaded p or more
pub record Drained (n m p : ℕ) (scope ends hold load rank : List ℕ) : Type 0 where
  pub inside : (v : ℕ) → v < n → 0 < get_or rank v 0 → (is_in scope v ≡ true) × (p ≤ get_or load v 0)
  pub shut : Closed m ends hold rank
  pub all : (t : List ℕ) → Closed m ends hold t → ((v : ℕ) → v < n → 0 < get_or t v 0 → (is_in scope v ≡ true) × (p ≤ get_or load v 0)) →
      (v : ℕ) → v < n → 0 < get_or t v 0 → 0 < get_or rank v 0
