-- `link_checks::executed::note_use` notes row by row. The invariant: the pairs of the rows passed.
use Rattle.std.proofs.Common.{◌≡◌, ◌||◌, ◌&&◌, ℕ, length}
use Rattle.link_checks.proofs.Pairings.{routine_has_key_in}
use Rattle.link_checks.specs.Pairs.{pair_in, routine_has_key}
use Rattle.link_checks.specs.declared.executed.TheConstants.{PLACES}
use Rattle.link_checks.proofs.executed.note_use.Given as goal

abbrev pub invariant-loop-i : goal.invariant-loop-i
invariant-loop-i l =
    ((a b : ℕ) → pair_in l.pairs a b ≡ (pair_in l.initial.pairs a b || (routine_has_key_in l.known l.i l.scope a && routine_has_key l.known l.key b)))
    × (length l.pairs ≡ PLACES)
