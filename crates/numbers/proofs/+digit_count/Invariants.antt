-- It recurs on the quotient by ten.
use Rattle.numbers.proofs.+digit_count.Given as goal

abbrev pub decreases-digit_count : goal.decreases-digit_count
decreases-digit_count l = l.v
