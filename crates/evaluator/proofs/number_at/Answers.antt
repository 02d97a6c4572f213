-- `evaluator::number_at` meets its contract. The number is the state's entry without its bias.
use Rattle.evaluator.proofs.Numbers.{number_small, number_gives}
use Rattle.evaluator.proofs.number_at.Goals as goal

pub number-requires : goal.number-requires
number-requires c =
    let place = c.requires.place_bound in
    (place, number_small c.args.state.now c.requires.state_numbered c.args.place place)

pub returns : goal.returns
returns c =
    number_gives c.args.state.now c.requires.state_numbered c.args.place c.requires.place_bound c.number.result c.number.ensures
