-- `lexer::keywords::is_replacement` meets its contract.
use mathlib.Core.Path.{◌∙◌}
use Rattle.lexer.proofs.Forms.{no_name, replaces, no_bound, bad_bound, bound_replaces}
use Rattle.lexer.proofs.keywords.is_replacement.Goals as goal

pub returns-in_default : goal.returns-in_default
returns-in_default c = no_name c.args.text.now c.in_default.ensures.is

pub returns-then-stands_at : goal.returns-then-stands_at
returns-then-stands_at c =
    let name = c.in-Some.ensures in
    replaces c.args.text.now c.in-Some.n name.0.is name.1 c.if-stands_at.ensures

pub returns-then-not-stands_at : goal.returns-then-not-stands_at
returns-then-not-stands_at c =
    let name = c.in-Some.ensures in
    no_bound c.args.text.now c.in-Some.n name.0.is name.1 c.if-stands_at.ensures c.if-not-stands_at.ensures

pub returns-in_default-bound_length : goal.returns-in_default-bound_length
returns-in_default-bound_length c =
    let name = c.in-Some.ensures in
    bad_bound c.args.text.now c.in-Some.n name.0.is name.1 c.if-stands_at.ensures c.if-not-stands_at.ensures
    c.in_default-bound_length.ensures.is

pub returns : goal.returns
returns c =
    let name = c.in-Some.ensures in
    let bound = c.in-Some-bound_length in
    c.stands_at-3.ensures
    ∙ bound_replaces c.args.text.now c.in-Some.n name.0.is name.1 c.if-stands_at.ensures c.if-not-stands_at.ensures bound.m bound.ensures.0.is
    bound.ensures.1
