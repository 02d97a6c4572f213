-- `run::strigol_run` meets its contract: it is the run, with its numbers.
use Rattle.interpreter.proofs.run.strigol_run.Goals as goal

pub returns : goal.returns
returns c = rw (c.numbers.ensures, c.number.ensures) c.run-ran.ensures
