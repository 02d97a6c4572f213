-- `scan::test_string` tests a string at a place.
use Rattle.scan.proofs.Tests.{test_few, test-piece, test-other}
use mathlib.Core.Path.{sym, ◌∙◌}
use Rattle.scan.proofs.test_string.Goals as goal

pub returns-then-rest-word : goal.returns-then-rest-word
returns-then-rest-word c = test_few c.args.word.now c.args.rest.now c.if-rest-word.true

pub returns-then-begins_with : goal.returns-then-begins_with
returns-then-begins_with c =
    let a = c.args in
    test-piece a.word.now a.rest.now c.if-rest-word.false (sym c.begins_with.ensures ∙ c.if-begins_with.true)

pub returns-else-begins_with : goal.returns-else-begins_with
returns-else-begins_with c =
    let a = c.args in
    test-other a.word.now a.rest.now c.if-rest-word.false (sym c.begins_with.ensures ∙ c.if-begins_with.false)
