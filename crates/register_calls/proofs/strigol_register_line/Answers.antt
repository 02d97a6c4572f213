-- `register_calls::strigol_register_line` keeps its promise.
use Rattle.std.proofs.Common.{arith, length, replicate, refl, ap, ◌∙◌}
use Rattle.register.specs.CallLaws.{line_promise}
use Rattle.register.specs.Claims.{line_back}
use Rattle.register_calls.specs.PutLaws.{copied, line-found, line_lent, line_refuses}
use Rattle.register_calls.proofs.strigol_register_line.Goals as goal

pub slice_bounds-copy_from_slice-end : goal.slice_bounds-copy_from_slice-end
slice_bounds-copy_from_slice-end c = let a = c.args in omega (arith, line_lent a.buffer.now a.place c.in-Ok.held c.in-Ok.ensures)

pub returns-in-Ok : goal.returns-in-Ok
returns-in-Ok c =
    let a = c.args in
    let held = c.in-Ok.held in
    line_promise a.buffer.now a.place _
    (line-found a.buffer.now a.place held c.in-Ok.ensures _ (copied (replicate 32 0) 0 (length held.now) _ held.now c.copy_from_slice.ensures.after refl))

pub returns-in-Err : goal.returns-in-Err
returns-in-Err c =
    let a = c.args in
    line_promise a.buffer.now a.place _
    (ap (λ k. line_back k (replicate 32 0) 0) c.number.ensures ∙ line_refuses a.buffer.now a.place _ c.in-Err.ensures)
