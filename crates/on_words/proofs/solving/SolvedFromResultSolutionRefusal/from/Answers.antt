-- `on_words::solving::SolvedFromResultSolutionRefusal::from` meets its contract: +0.0 is 0 over 1. Assumes nothing.
use lib.Ieee.{div, of_bits, of_int}
use Rattle.theory.specs.Ratio.{float_ratio}
use Rattle.on_words.specs.Solving.{declined}
use Rattle.on_words.proofs.solving.SolvedFromResultSolutionRefusal.from.Goals as goal

pub returns-in-Err : goal.returns-in-Err
unfolding declined float_ratio div of_bits of_int
returns-in-Err c = rw (c.from.ensures, c.in-Err.is)
