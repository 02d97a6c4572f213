-- `check_fit` meets its contract: it makes the four tests in their order.
use mathlib.Core.Bool.{Bool, cond, not}
use mathlib.Core.Path.{◌≡◌, sym, ap, ◌∙◌}
use borrow.Author.Tests.{le-ltb, lt-ltb}
use Rattle.decoder.specs.Kept.{step_count}
use Rattle.interpreter.specs.Clauses.{unfit_number}
use Rattle.interpreter.proofs.check_fit.Goals.{After-keeps-3}
use Rattle.interpreter.proofs.check_fit.Goals as goal

pub returns-then-table-lt-TABLE_SIZE : goal.returns-then-table-lt-TABLE_SIZE
returns-then-table-lt-TABLE_SIZE c = rw (lt-ltb _ _ c.if-table-lt-TABLE_SIZE.true)

pub keeps-requires : goal.keeps-requires
keeps-requires c = c.if-table-lt-TABLE_SIZE.false

pub returns-then-not-keeps : goal.returns-then-not-keeps
returns-then-not-keeps c = rw (le-ltb _ _ c.if-table-lt-TABLE_SIZE.false, sym c.keeps.ensures ∙ c.if-not-keeps.true)

pub returns-then-not-keeps-2 : goal.returns-then-not-keeps-2
returns-then-not-keeps-2 c =
    rw (le-ltb _ _ c.if-table-lt-TABLE_SIZE.false, sym c.keeps.ensures ∙ c.if-not-keeps.false, sym c.keeps-2.ensures ∙ c.if-not-keeps-2.true)

-- three tests passed, so the last one tells
last : (c : After-keeps-3)
    → (let a = c.args in unfit_number a.table.now a.store.now a.state.now a.input a.output ≡ cond (not c.keeps-3.result) 15 0)
last c =
    rw (
      le-ltb _ _ c.if-table-lt-TABLE_SIZE.false,
      sym c.keeps.ensures ∙ c.if-not-keeps.false,
      sym c.keeps-2.ensures ∙ c.if-not-keeps-2.false,
      step_count c.args.table.now ∙ sym c.counts_of-counts.ensures.steps,
      sym c.keeps-3.ensures,
    )

pub returns-then-not-keeps-3 : goal.returns-then-not-keeps-3
returns-then-not-keeps-3 c =
    sym (last (goal.at.returns-then-not-keeps-3 c).After-keeps-3 ∙ ap (λ (t : Bool). cond (not t) 15 0) c.if-not-keeps-3.true)

pub returns : goal.returns
returns c = sym (last (goal.at.returns c).After-keeps-3 ∙ ap (λ (t : Bool). cond (not t) 15 0) c.if-not-keeps-3.false)
