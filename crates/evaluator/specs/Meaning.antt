-- The memory that the code's struct stands for. Assumes nothing.
use Rattle.machine.specs.State as State
use Rattle.evaluator.specs.Memory.{memory_in}
use Rattle.evaluator.specs.declared.memory.Memory.{Memory}

abbrev pub memory_meaning : Memory → State.Memory
memory_meaning m = memory_in m.store.now m.state.now
