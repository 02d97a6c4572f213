-- `statement_parser::steps::replacement_form` sets a number or a string.
use mathlib.Core.Path.{sym, ◌∙◌}
use lib.ListN.{drop}
use Rattle.statement_parser.specs.BehindLaws.{replacement_number, replacement-string}
use Rattle.statement_parser.specs.StageLaws.{form-same}
use Rattle.statement_parser.proofs.steps.replacement_form.Goals as goal

pub returns-then-sets_number : goal.returns-then-sets_number
returns-then-sets_number c =
    let a = c.args in
    form-same (replacement_number a.known.now (drop a.c.at a.text.now) (sym c.sets_number.ensures ∙ c.if-sets_number.true)) c.number_form.ensures

pub returns : goal.returns
returns c =
    let a = c.args in
    form-same (replacement-string a.known.now (drop a.c.at a.text.now) (sym c.sets_number.ensures ∙ c.if-sets_number.false)) c.string_form.ensures
