-- What a list in words holds.
--   listed     the list of modules and pairs
-- Assumes nothing: this is a definition.
use Rattle.theory.specs.Lists.{Pairs}
use Rattle.theory.specs.Words.{list_in}
use Rattle.lists.specs.declared.list.List.{List}

-- the modules and pairs that the words hold
abbrev pub listed : List → Pairs
listed l = list_in l.n l.m l.ends.now l.weights.now
