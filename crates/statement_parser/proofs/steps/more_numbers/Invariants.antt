-- `statement_parser::steps::more_numbers` reads further names, each behind a comma. Whatever is read from a turn on, with it all is read.
use Prim.Native.Nat.{◌-◌}
use lib.ListN.{length}
use Rattle.numeric_parser.specs.Operands.{ReaderReady}
use Rattle.statement_parser.specs.Steps.{MoreNumbersRead}
use Rattle.statement_parser.specs.Drafts.{Form}
use Rattle.symbols.specs.declared.Mentioned.{Mentioned}
use Rattle.statement_parser.proofs.steps.more_numbers.Given as goal

abbrev pub invariant-loop-e : goal.invariant-loop-e
invariant-loop-e l =
    ReaderReady l.text l.d
    × ((r : Form) (m : Mentioned) → MoreNumbersRead l.text l.mentioned l.d r m → MoreNumbersRead l.text l.initial.mentioned l.initial.d r m)

abbrev pub decreases-loop-e : goal.decreases-loop-e
decreases-loop-e l = length l.text - l.d.at
