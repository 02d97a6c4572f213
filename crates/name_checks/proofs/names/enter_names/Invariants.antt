-- `names::enter_names` puts names behind those known. The invariant: those of the entries passed are.
use Rattle.std.specs.Prelude.{length}
use Rattle.name_checks.specs.EnteringLaws.{chosen_to}
use Rattle.name_checks.specs.Names.{Enters}
use Rattle.name_checks.proofs.names.enter_names.Given as goal

abbrev pub invariant-loop-key : goal.invariant-loop-key
invariant-loop-key l = Enters l.initial.names (chosen_to l.initial.names l.entries l.declared (length l.yielded)) l.names l.outcome
