-- What searches did, as counts.
--   default_none    what `Searches::default` gives is `no_searches`
-- Assumes nothing.
use mathlib.Core.Path.{◌≡◌}
use Rattle.chains.specs.declared.counts.Searches.{Searches}
use Rattle.chains.specs.Searches.{no_searches}
use Rattle.chains.specs.contracts.counts.SearchesDefault.TheImpl.{ghosts}

-- `is_default` is what the clause of `default` says of its result, from the derive
pub default_none : (s : Searches) → ghosts.is_default s → s ≡ no_searches
default_none s e = λ i. record { chains = e.0 i; longest = e.1.0 i; none = e.1.1 i }
