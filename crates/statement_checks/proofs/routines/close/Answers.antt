-- `routines::close` closes the latest routine.
use mathlib.Core.Path.{sym, ap, ◌∙◌}
use borrow.Author.Tests.{ltb-false}
use lib.ListN.{length, length-set}
use Rattle.arrayvec.proofs.ArrayVecLemmas.{items-with_items}
use Rattle.symbols.specs.Environment.{latest_first}
use Rattle.validation.specs.Environment.{close_routine}
use Rattle.statement_checks.specs.RoutineLaws.{closed_last, closed_none}
use native.Mathlib.Omega.{arith}
use Rattle.statement_checks.proofs.routines.close.Goals as goal

pub returns-in-Some : goal.returns-in-Some
returns-in-Some c =
    let held = c.args.routines.now in
    let lent = c.deref_mut.result.now in
    let is = c.deref_mut.ensures.value in
    let item = c.in-Some.ensures.item in
    ap latest_first (items-with_items held _ (length-set lent _ _ ∙ ap length is))
    ∙ closed_last lent c.in-Some.latest.now c.args.exit (omega arith) item.1
    ∙ ap (λ rs. close_routine c.args.exit (latest_first rs)) is

pub returns-in_default : goal.returns-in_default
returns-in_default c =
    let held = c.args.routines.now in
    let is = c.deref_mut.ensures.value in
    let none = ltb-false 0 (length c.deref_mut.result.now) (sym c.in_default.ensures.item.0) in
    ap latest_first (items-with_items held c.deref_mut.result.now (ap length is))
    ∙ closed_none c.deref_mut.result.now c.args.exit (omega arith)
    ∙ ap (λ rs. close_routine c.args.exit (latest_first rs)) is
