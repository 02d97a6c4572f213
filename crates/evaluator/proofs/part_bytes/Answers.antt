-- `evaluator::part_bytes` meets its contract. A whole string or its first bytes, as the definition has them.
use mathlib.Core.List.{List}
use mathlib.Core.Path.{sym, ap, subst}
use Prim.Native.Nat.{ℕ}
use lib.IntN.{ℤ}
use Rattle.store.specs.Clauses.{string_of}
use Rattle.machine.specs.Expressions.{part_in}
use Rattle.machine.specs.State.{string_at}
use Rattle.values.specs.Conversion.{substring}
use Rattle.values.specs.Result.{done, pure}
use Rattle.evaluator.specs.Values.{GivesBytes}
use Rattle.evaluator.proofs.part_bytes.Goals as goal

pub returns-in-Whole : goal.returns-in-Whole
unfolding part_in pure string_at
returns-in-Whole c =
    rw (c.plain.ensures, c.in-Whole.is)
    (record { work = ap (λ (l : List ℕ). done l 0) (sym c.string.ensures.0); short = c.string.ensures.1 })

pub returns-in-First : goal.returns-in-First
unfolding part_in string_at
returns-in-First c =
    let store = c.args.memory.store.now in
    rw c.in-First.is
    (subst (λ (z : ℤ). GivesBytes c.first_bytes.result (substring (string_of store c.in-First.s) z))
    (c.length_value.ensures store).value c.first_bytes.ensures)
