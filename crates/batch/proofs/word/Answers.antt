-- `batch::word` meets its contract, for each outcome.
use Rattle.std.proofs.Common.{refl}
use Rattle.base.specs.Text.{bytes}
use Rattle.calls.specs.Strigol.{outcome_word}
use Rattle.batch.proofs.word.Goals as goal

pub returns-in-Finished : goal.returns-in-Finished
unfolding outcome_word bytes
returns-in-Finished c = rw c.in-Finished.is refl

pub returns-in-Stopped : goal.returns-in-Stopped
unfolding outcome_word bytes
returns-in-Stopped c = rw c.in-Stopped.is refl

pub returns-in-Spent : goal.returns-in-Spent
unfolding outcome_word bytes
returns-in-Spent c = rw c.in-Spent.is refl

pub returns-in-Refused : goal.returns-in-Refused
unfolding outcome_word bytes
returns-in-Refused c = rw c.in-Refused.is refl
