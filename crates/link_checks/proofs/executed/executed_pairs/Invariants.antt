-- `link_checks::executed::executed_pairs` notes use by use. The invariant: the pairs noted and those of the uses left are all.
use Rattle.std.proofs.Common.{◌≡◌, ◌||◌, ℕ}
use Rattle.std.specs.List.{list_any}
use Rattle.link_checks.proofs.Columns.{left, makes, all}
use Rattle.link_checks.specs.Pairs.{pair_in}
use Rattle.link_checks.proofs.executed.executed_pairs.Given as goal

abbrev pub invariant-loop-key : goal.invariant-loop-key
invariant-loop-key l =
    (a b : ℕ) → (pair_in l.pairs a b || list_any (makes l.symbols.known a b) (left l.key-iterator))
    ≡ list_any (makes l.symbols.known a b) (all l.symbols.uses)
