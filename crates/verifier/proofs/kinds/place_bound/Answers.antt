-- `verifier::kinds::place_bound` meets its contract.
use mathlib.Core.Path.{sym, ap}
use Rattle.verifier.specs.Asked.{place_meaning}
use Rattle.verifier.specs.CellTests.{place_bound}
use Rattle.verifier.proofs.kinds.place_bound.Goals as goal

pub returns-in-NoPlace : goal.returns-in-NoPlace
unfolding place_bound place_meaning
returns-in-NoPlace c = ap (λ r. place_bound c.args.n.strings c.args.n.numbers (place_meaning r)) (sym c.in-NoPlace.is)

pub returns-in-OfString : goal.returns-in-OfString
unfolding place_bound place_meaning
returns-in-OfString c = ap (λ r. place_bound c.args.n.strings c.args.n.numbers (place_meaning r)) (sym c.in-OfString.is)

pub returns-in-OfNumber : goal.returns-in-OfNumber
unfolding place_bound place_meaning
returns-in-OfNumber c = ap (λ r. place_bound c.args.n.strings c.args.n.numbers (place_meaning r)) (sym c.in-OfNumber.is)
