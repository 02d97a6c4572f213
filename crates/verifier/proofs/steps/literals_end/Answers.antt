-- `verifier::steps::literals_end` meets its contract.
use mathlib.Core.Path.{◌∙◌}
use Rattle.std.specs.Prelude.{Some, None}
use Rattle.verifier.specs.Turns.{literals_told}
use Rattle.verifier.proofs.steps.literals_end.Goals as goal

pub returns-in_err-middle-clause-is : goal.returns-in_err-middle-clause-is
returns-in_err-middle-clause-is c =
    let a = c.args in
    c.from_residual.ensures ∙ literals_told a.n a.t.now a.p a.high a.s None c.in_err-middle.ensures.is

pub returns-clause-is : goal.returns-clause-is
returns-clause-is c =
    let a = c.args in
    c.elements_end-2.ensures.is ∙ literals_told a.n a.t.now a.p a.high a.s (Some c.in_ok-middle.middle) c.in_ok-middle.ensures.is
