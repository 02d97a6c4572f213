-- `register_lines::behind_number` meets its contract: the digits behind the comma, and what stands behind these.
use Rattle.std.proofs.Common.{ap, ◌∙◌, arith}
use Rattle.std.proofs.lemmas.List.Sums.{prefix_len-le-length}
use Rattle.std.specs.Char.{is_ascii_digit}
use Rattle.cards.specs.Bytes.{is_digit}
use Rattle.register_lines.specs.Fields.{number_run}
use Rattle.register_lines.specs.FieldLaws.{field_missing, field_there, digits_counted}
use Rattle.register_lines.proofs.behind_number.Goals as goal

pub returns-in_err-field : goal.returns-in_err-field
returns-in_err-field c = let a = c.args in rw c.from_residual.ensures (field_missing is_digit (number_run a.most) a.rest.now c.in_err-field.ensures)

pub split_at-requires : goal.split_at-requires
split_at-requires c = omega (arith, c.digits_len.ensures, prefix_len-le-length is_ascii_digit c.in_ok-field.field.now)

pub returns : goal.returns
returns c =
    let a = c.args in
    let f = c.in_ok-field in
    let n = c.digits_len in
    let parts = c.split_at in
    rw c.then_some.ensures
    (field_there is_digit (number_run a.most) a.rest.now f.field.now f.ensures n.result (n.ensures ∙ digits_counted f.field.now)
    c.is_number.result (c.is_number.ensures ∙ ap (number_run a.most) parts.ensures.front) parts.result.1 parts.ensures.back)
