-- The measure is the number: the function calls itself with a thousandth of it.
use Rattle.lines.proofs.writer.+put_number.Given as goal

abbrev pub decreases-put_number : goal.decreases-put_number
decreases-put_number l = l.value
