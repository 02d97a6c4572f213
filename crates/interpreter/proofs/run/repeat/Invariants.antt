-- `run::repeat` meets its contract. The loop's invariant: the run is the steps made with their notes, and the run of those that are left on
-- the buffers as they are, which may be given to a step; the store that keeps its fillers is a good one.
use Rattle.calls.specs.Calls.{buffers}
use Rattle.encoding.specs.BufferLaws.{StoreGood}
use Rattle.interpreter.specs.RunLaws.{Alone}
use Rattle.interpreter.specs.RunLaws.{Repeats}
use Rattle.interpreter.proofs.run.repeat.Given as goal

abbrev pub invariant-loop-done : goal.invariant-loop-done
invariant-loop-done l =
    Repeats l.table l.input (buffers l.initial.store l.initial.state l.initial.output) l.count l.done l.notes (buffers l.store l.state l.output)
    × StoreGood l.kept
    × Alone l.table l.input (buffers l.initial.store l.initial.state l.initial.output) l.done l.answer (buffers l.store l.state l.output)
