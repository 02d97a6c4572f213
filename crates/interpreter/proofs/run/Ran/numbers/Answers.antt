-- `run::Ran::numbers` meets its contract.
use Rattle.calls.specs.Calls.{result_numbers}
use Rattle.std.proofs.Common.{refl}
use Rattle.interpreter.proofs.run.Ran.numbers.Goals as goal

pub returns : goal.returns
unfolding result_numbers
returns c = rw (c.number.ensures, c.number-2.ensures) refl
