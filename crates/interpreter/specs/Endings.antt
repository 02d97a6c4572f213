-- Why a step or a run is turned down, and how a run ended: the code's types, and their numbers. Assumes nothing.
use Rattle.std.specs.Prelude.{false, List, ◌≡◌, refl, ℕ, ◌+◌, ◌<◌, ⊤, Result, Ok, Err}
use Rattle.std.proofs.Common.{arith}
use Rattle.calls.specs.Calls.{Buffers, RunReturned, result_numbers}
use Rattle.calls.specs.Promises.{run_back}
use Rattle.interpreter.specs.declared.Halt.{Halt}
use Rattle.interpreter.specs.declared.Halt.TheVariants as halts
use Rattle.interpreter.specs.declared.Refusal.{Refusal}
use Rattle.interpreter.specs.declared.Refusal.TheVariants.{ShortTable, BadTable, BadStore, BadState, Ended}
use Rattle.interpreter.specs.declared.run.Outcome.{Outcome}
use Rattle.interpreter.specs.declared.run.Outcome.TheVariants.{Finished, Stopped, Spent, Refused}
use Rattle.interpreter.specs.declared.run.Ran.{Ran}
use Rattle.machine.specs.Run as Run
use Rattle.values.specs.Result.{stops_step}
use Rattle.values.specs.Stops.{stop_number}

-- Q2 a table too short, Q13 one that breaks its rules, Q14 a store that does, Q15 a state out of range or a return that is lacking, Q16 a run that
-- has ended
abbrev pub refusal_number : Refusal → ℕ
refusal_number ShortTable = 2
refusal_number BadTable = 13
refusal_number BadStore = 14
refusal_number BadState = 15
refusal_number Ended = 16

pub refusal_some : (r : Refusal) → 0 < refusal_number r
refusal_some ShortTable = omega arith
refusal_some BadTable = omega arith
refusal_some BadStore = omega arith
refusal_some BadState = omega arith
refusal_some Ended = omega arith

-- none of them stops a step
pub refusal_unstops : (r : Refusal) → stops_step (refusal_number r) ≡ false
unfolding stops_step
refusal_unstops ShortTable = refl
refusal_unstops BadTable = refl
refusal_unstops BadStore = refl
refusal_unstops BadState = refl
refusal_unstops Ended = refl

-- the number of a step: 0 where it is made
abbrev pub step_number : Result ℕ Halt → ℕ
step_number (Ok notes) = 0
step_number (Err (halts.Refused refusal)) = refusal_number refusal
step_number (Err (halts.Stopped s)) = stop_number s

-- its notes: none where it isn't
abbrev pub step_notes : Result ℕ Halt → ℕ
step_notes (Ok notes) = notes
step_notes (Err h) = 0

-- of buffers that were looked at: 0 if a step may be given them
abbrev pub checked_number : Result ⊤ Refusal → ℕ
checked_number (Ok u) = 0
checked_number (Err refusal) = refusal_number refusal

-- document 01's word for how a run ended
abbrev pub outcome_meaning : Outcome → Run.Outcome
outcome_meaning Finished = Run.FINISHED
outcome_meaning (Stopped s) = Run.STOPPED
outcome_meaning Spent = Run.SPENT
outcome_meaning (Refused refusal) = Run.REFUSED

-- and the number of what stopped it or turned it down, 0 where nothing did
abbrev pub ended_number : Outcome → ℕ
ended_number Finished = 0
ended_number (Stopped s) = stop_number s
ended_number Spent = 0
ended_number (Refused refusal) = refusal_number refusal

-- a run that a step ended, with the steps done before it and their notes
abbrev pub halted : Halt → ℕ → ℕ → Ran
halted (halts.Stopped s) done notes = record { outcome = Stopped s; steps = done + 1; notes = notes }
halted (halts.Refused refusal) done notes = record { outcome = Refused refusal; steps = done; notes = notes }

-- its number is the step's
pub halted_number : (h : Halt) (done notes : ℕ) → ended_number (halted h done notes).outcome ≡ step_number (Err h)
halted_number (halts.Stopped s) done notes = refl
halted_number (halts.Refused refusal) done notes = refl

-- the numbers of a run's result
abbrev pub ran_numbers : Ran → List ℕ
ran_numbers r = result_numbers (outcome_meaning r.outcome) (ended_number r.outcome) r.steps r.notes

-- what the run call gives back of it
abbrev pub ran_back : Ran → Buffers → RunReturned
ran_back r left = run_back (ended_number r.outcome) (ran_numbers r) left
