-- Pairs and groups, in words.
--   inner_at    whether both ends of pair j are in a group
-- Assumes nothing: this is a definition.
use Rattle.std.specs.Prelude.{Bool, ◌&&◌, List, ℕ, ◌+◌, ◌*◌, get_or}
use Rattle.theory.specs.Groups.{is_in}

-- whether both ends of pair j are in the group
abbrev pub inner_at : (ends group : List ℕ) → (j : ℕ) → Bool
inner_at ends group j = is_in group (get_or ends (2 * j) 0) && is_in group (get_or ends (2 * j + 1) 0)
