-- `string_parser::more` reads element by element. The invariant: what is read from here on leads to all.
use Prim.Native.Nat.{◌-◌}
use Rattle.std.proofs.Common.{◌≡◌, length}
use Rattle.symbols.specs.Environment.{places_in}
use Rattle.string_parser.specs.Elements.{shown, read_one}
use Rattle.string_parser.specs.RowLaws.{RowPassing}
use Rattle.string_parser.proofs.more.Given as goal

abbrev pub invariant-loop-e : goal.invariant-loop-e
invariant-loop-e l =
    RowPassing (shown l.elements) (read_one l.elements (places_in l.known)) l.text l.initial.table l.initial.mentioned l.initial.d
    l.table l.mentioned l.d
    × (length l.table ≡ length l.initial.table)

abbrev pub decreases-loop-e : goal.decreases-loop-e
decreases-loop-e l = length l.text - l.d.at
