-- `link_checks::executed::note_use` notes row by row. The invariant: the pairs of the rows passed.
use Rattle.std.proofs.Common.{Bool, ℕ, List, ◌≡◌, ◌+◌, ◌&&◌, ◌||◌, length, length-set, get_or, subst, sym, ap, ◌∙◌, arith}
use Rattle.symbols.specs.declared.known.Routine.{Routine}
use Rattle.link_checks.proofs.Pairings.{routine_has_key_in, row_noted, row_passed}
use Rattle.link_checks.specs.Pairs.{no_routine, routine_count, pair_in, routine_has_key, by_use}
use Rattle.link_checks.specs.declared.executed.TheConstants.{PLACES}
use Rattle.link_checks.proofs.executed.note_use.Goals.{then-routine-scope, else-routine-scope}
use Rattle.link_checks.proofs.executed.note_use.Goals as goal

pub loop-i-preserved : goal.loop-i-preserved
loop-i-preserved c =
    let a = c.args in
    let l = c.loop-i in
    let e = c.deref-routine-items.ensures in
    let key = ap (λ (routines : List Routine). (get_or routines l.i no_routine).key) (sym e.0) in
    let Next : List (List Bool) → Type 0 =
    λ pairs.
    ((p q : ℕ) → pair_in pairs p q ≡ (pair_in a.pairs.now p q || (routine_has_key_in a.known.now (l.i + 1) a.scope p && routine_has_key a.known.now a.key q)))
    × (length pairs ≡ PLACES) in
    elim c.if-routine-scope.branch [
      | then-routine-scope w ↦
          subst Next (sym w.pairs-is) (
            row_noted a.known.now a.scope a.key a.pairs.now l.pairs l.i l.invariant.0 w.note_row.new.row (omega arith)
                (key ∙ w.if-routine-scope.true) w.note_row.ensures,
            length-set l.pairs l.i w.note_row.new.row ∙ l.invariant.1,
          )
      | else-routine-scope w ↦
          subst Next (sym w.pairs-is) (
            row_passed a.known.now a.scope a.key a.pairs.now l.pairs l.i l.invariant.0 (λ same. w.if-routine-scope.false (sym key ∙ same)),
            l.invariant.1,
          )
    ]

pub returns : goal.returns
unfolding routine_has_key by_use
returns c =
    let a = c.args in
    let l = c.loop-i in
    let all : l.i ≡ routine_count a.known.now = omega (arith, ap length c.deref-routine-items.ensures.0) in
    λ p q. l.invariant.0 p q ∙ ap (λ n. pair_in a.pairs.now p q || (routine_has_key_in a.known.now n a.scope p && routine_has_key a.known.now a.key q)) all
