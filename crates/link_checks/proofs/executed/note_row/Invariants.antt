-- `link_checks::executed::note_row` notes place by place. The invariant: the marks of the places passed.
use Rattle.std.proofs.Common.{◌≡◌, ◌||◌, ℕ}
use Rattle.link_checks.proofs.Pairings.{routine_has_key_in}
use Rattle.link_checks.specs.Pairs.{mark_at}
use Rattle.link_checks.proofs.executed.note_row.Given as goal

abbrev pub invariant-loop-j : goal.invariant-loop-j
invariant-loop-j l = (b : ℕ) → mark_at l.row b ≡ (mark_at l.initial.row b || routine_has_key_in l.known l.j l.key b)
