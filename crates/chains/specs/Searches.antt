-- What searches for chains did, as counts. No promise of a split depends on them.
--   no_searches    none yet
--   together       searches and further searches
-- Assumes nothing: these are definitions.
use Rattle.std.specs.Prelude.{◌+◌, ◌%◌, ◌^◌, max}
use Rattle.chains.specs.declared.counts.Searches.{Searches}

-- no search: what `Searches::default` gives
abbrev pub no_searches : Searches
no_searches = record { chains = 0; longest = 0; none = 0 }

-- searches and further searches: chains and searches in vain are added up (in 32 bits, so that sums wrap), the longest chain is that of both
abbrev pub together : Searches → Searches → Searches
together a b = record { chains = (a.chains + b.chains) % 2 ^ 32; longest = max a.longest b.longest; none = (a.none + b.none) % 2 ^ 32 }
