-- The replacement of a scan, as a stretch of the string searched that is set. Assumes nothing.
use Rattle.std.specs.Prelude.{List, ℕ}
use Rattle.base.specs.Current.{current}
use Rattle.store.specs.Clauses.{string_of, string_replaced}
use Rattle.evaluator.specs.Memory.{memory_in}
use Rattle.syntax.specs.Program.{Direction}
use Rattle.machine.specs.Expressions.{string_in}
use Rattle.machine.specs.Scanning.{storing, turned}
use Rattle.machine.specs.State.{Memory}
use Rattle.decoder.specs.Meaning.{elements_meaning}
use Rattle.decoder.specs.declared.Stretch.{Stretch}
use Rattle.values.specs.Result.{Result, ◌>>=◌}

-- an expression's value, turned round in a BACKSCAN, stored in place of a stretch of a string
abbrev pub stored_turned : (table store state : List ℕ) → Direction → (place from to : ℕ) → Stretch → Result Memory
stored_turned table store state d place from to s =
    string_in current (memory_in store state) (elements_meaning table s)
    >>= λ v. storing place (string_replaced (string_of store place) from to (turned d v)) (memory_in store state)
