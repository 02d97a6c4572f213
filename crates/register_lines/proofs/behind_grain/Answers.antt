-- `register_lines::behind_grain` meets its contract: the letters behind the comma, and what stands behind these.
use Rattle.std.proofs.Common.{ap, ◌∙◌, arith, length, eqb}
use Rattle.std.proofs.lemmas.List.Sums.{prefix_len-le-length}
use Rattle.std.specs.Char.{is_ascii_uppercase}
use Rattle.cards.specs.Bytes.{is_letter}
use Rattle.register_lines.specs.FieldLaws.{field_missing, field_there, letters_counted}
use Rattle.register_lines.proofs.behind_grain.Goals as goal

pub returns-in_err-field : goal.returns-in_err-field
returns-in_err-field c = let a = c.args in rw c.from_residual.ensures (field_missing is_letter (λ run. eqb (length run) 2) a.rest.now c.in_err-field.ensures)

pub split_at-requires : goal.split_at-requires
split_at-requires c = omega (arith, c.letters_len.ensures, prefix_len-le-length is_ascii_uppercase c.in_ok-field.field.now)

pub returns : goal.returns
returns c =
    let a = c.args in
    let f = c.in_ok-field in
    let n = c.letters_len in
    let parts = c.split_at in
    rw c.then_some.ensures
    (field_there is_letter (λ run. eqb (length run) 2) a.rest.now f.field.now f.ensures n.result (n.ensures ∙ letters_counted f.field.now)
    _ (ap (λ run. eqb (length run) 2) parts.ensures.front) parts.result.1 parts.ensures.back)
