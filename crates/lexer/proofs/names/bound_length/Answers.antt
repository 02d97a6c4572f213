-- `lexer::names::bound_length` meets its contract.
use lib.ListN.{drop}
use Rattle.lexer.proofs.Forms.{bound-digits, bound_named}
use Rattle.lexer.proofs.names.bound_length.Goals as goal

pub returns-then-n-ge1 : goal.returns-then-n-ge1
returns-then-n-ge1 c =
    let a = c.args in
    let n = c.digit_count-n in
    (record { is = bound-digits (drop a.at a.text.now) n.result n.ensures.is c.if-n-ge1.true; inside = n.ensures.inside }, c.if-n-ge1.true)

pub returns-else-n-ge1 : goal.returns-else-n-ge1
returns-else-n-ge1 c =
    let a = c.args in
    let n = c.digit_count-n in
    bound_named a.text.now a.at n.result c.name_length.result n.ensures.is c.if-n-ge1.false c.name_length.ensures
