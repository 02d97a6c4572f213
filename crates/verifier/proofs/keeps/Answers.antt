-- `verifier::keeps` meets its contract. The tests are the rules.
use mathlib.Core.Bool.{true}
use mathlib.Core.Path.{◌≡◌, sym, ◌∙◌}
use Rattle.verifier.specs.Tests.{counts_test, FewCounts}
use Rattle.verifier.specs.Turns.{counts_few}
use Rattle.verifier.specs.Verdict.{counts_broken, tests_rules}
use Rattle.verifier.proofs.keeps.Goals.{Else-not-counts_hold}
use Rattle.verifier.proofs.keeps.Goals as goal

pub returns-then-not-counts_hold : goal.returns-then-not-counts_hold
returns-then-not-counts_hold c =
    let n = c.counts_of-n in
    let test = sym c.counts_hold.ensures ∙ c.if-not-counts_hold.true in
    sym (counts_broken c.args.table.now (λ i. (c.type_inv.table i).fits) c.requires n.result n.ensures test)

-- the counts that are left passed their test
passes : (c : Else-not-counts_hold) → counts_test c.counts_of-n.result ≡ true
passes c = sym c.counts_hold.ensures ∙ c.if-not-counts_hold.false

few : (c : Else-not-counts_hold) → FewCounts c.counts_of-n.result
few c = counts_few c.counts_of-n.result (passes c)

pub ends_hold-requires : goal.ends_hold-requires
ends_hold-requires c = (c.requires, few (goal.at.ends_hold-requires c).Else-not-counts_hold)

pub unused_zero-requires : goal.unused_zero-requires
unused_zero-requires c = (c.requires, few (goal.at.unused_zero-requires c).Else-not-counts_hold)

pub steps_end-requires : goal.steps_end-requires
steps_end-requires c = (c.requires, few (goal.at.steps_end-requires c).Else-not-counts_hold)

pub returns : goal.returns
returns c =
    let steps = c.steps_end in
    let unused = c.unused_zero in
    let n = c.counts_of-n in
    rw (c.ends_hold.ensures, unused.ensures, c.totals_hold.ensures, steps.ensures)
    (tests_rules c.args.table.now (λ i. (c.type_inv.table i).fits) c.requires n.result n.ensures (passes (goal.at.returns c).Else-not-counts_hold))
