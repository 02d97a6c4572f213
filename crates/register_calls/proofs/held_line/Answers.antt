-- `register_calls::held_line` meets its contract.
use Rattle.std.proofs.Common.{refl, subst, ap, ◌∙◌}
use Rattle.std.proofs.lemmas.Result.{err_from_is_err_and}
use Rattle.register_reading.specs.ReadLaws.{opened_known}
use Rattle.register.specs.Buffer.{register_in}
use Rattle.register.specs.Register.{line_at}
use Rattle.register_reading.specs.Reading.{LinesCounted}
use Rattle.register_calls.specs.PutLaws.{line_none, line_there, line_unopened}
use Rattle.register_calls.proofs.held_line.Goals as goal

pub returns-in_err-register : goal.returns-in_err-register
returns-in_err-register c =
    let a = c.args in
    let p = err_from_is_err_and c.from_residual.result c.from_residual.ensures.1 in
    rw (p.1, p.2) (line_unopened a.buffer.now a.place _ c.in_err-register.ensures)

pub returns-then-place-register : goal.returns-then-place-register
returns-then-place-register c =
    let a = c.args in
    let r = c.in_ok-register in
    let is = opened_known a.buffer.now r.register r.ensures in
    line_there a.buffer.now r.register.lines (subst (λ b. LinesCounted b r.register.lines) is r.register.counted) a.place c.if-place-register.true
    c.line.result (c.line.ensures ∙ ap (λ b. line_at (register_in b).lines a.place) is)

pub returns-else-place-register : goal.returns-else-place-register
returns-else-place-register c =
    let a = c.args in
    let r = c.in_ok-register in
    let is = opened_known a.buffer.now r.register r.ensures in
    line_none a.buffer.now r.register.lines (subst (λ b. LinesCounted b r.register.lines) is r.register.counted) a.place c.if-place-register.false
    _ refl
