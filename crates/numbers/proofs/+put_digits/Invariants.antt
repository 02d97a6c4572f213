-- It recurs on the quotient by ten.
use Rattle.numbers.proofs.+put_digits.Given as goal

abbrev pub decreases-put_digits : goal.decreases-put_digits
decreases-put_digits l = l.v
