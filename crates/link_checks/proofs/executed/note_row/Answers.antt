-- `link_checks::executed::note_row` notes place by place. The invariant: the marks of the places passed.
use Rattle.std.proofs.Common.{◌≡◌, ◌∙◌, ap, ◌||◌, length, arith}
use Rattle.link_checks.proofs.Pairings.{routine_has_key_in}
use Rattle.link_checks.specs.Pairs.{routine_count, mark_at, routine_has_key}
use Rattle.link_checks.proofs.executed.note_row.Goals as goal

pub returns : goal.returns
unfolding routine_has_key
returns c =
    let a = c.args in
    let l = c.loop-j in
    let all : l.j ≡ routine_count a.known.now = omega (arith, ap length c.deref-routine-items.ensures.0) in
    λ b. l.invariant b ∙ ap (λ n. mark_at a.row.now b || routine_has_key_in a.known.now n a.key b) all
