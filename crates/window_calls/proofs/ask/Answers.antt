-- `window_calls::ask` meets its contract.
use Rattle.std.proofs.Common.{ℕ, Result, ok_or, sym, ap, ◌∙◌, arith}
use Rattle.std.proofs.lemmas.Result.{err_from_is_err_and}
use Rattle.std.specs.List.{sum}
use Rattle.arrayvec.specs.ArrayVec.{ArrayVec}
use Rattle.window.specs.CallLaws.{ask_broken, ask_does}
use Rattle.window.specs.Claims.{ask_back}
use Rattle.window.specs.PriceLaws.{sum_bound}
use Rattle.window.specs.Prices.{four_zeros, summary_of}
use Rattle.window.specs.Refusals.{number_of}
use Rattle.window.specs.declared.Refusal.{Refusal}
use Rattle.window.specs.declared.Refusal.TheVariants.{BadWindow}
use Rattle.window_calls.specs.ReadLaws.{read_held, read_broken}
use Rattle.window_calls.proofs.ask.Goals as goal

pub returns-in_err-held : goal.returns-in_err-held
returns-in_err-held c =
    let window = c.args.window.now in
    let e = c.in_err-held.ensures in
    let p = err_from_is_err_and c.from_residual.result c.from_residual.ensures.1 in
    rw (p.1, p.2)
    (ap (λ (r : Result (ArrayVec ℕ) Refusal). ask_back (number_of r) four_zeros) (e.value ∙ ap (λ h. ok_or h BadWindow) e.ok_part)
    ∙ sym (ask_broken window (read_broken window c.read_prices.result c.read_prices.ensures e.ok_part)))

pub summary_of-requires : goal.summary_of-requires
summary_of-requires c =
    let h = read_held c.args.window.now c.read_prices.result c.read_prices.ensures c.in_ok-held.held c.in_ok-held.ensures.ok_part in
    omega (arith, sum_bound c.in_ok-held.held.items h.can, ap sum c.as_slice.ensures.value)

pub returns : goal.returns
returns c =
    let h = read_held c.args.window.now c.read_prices.result c.read_prices.ensures c.in_ok-held.held c.in_ok-held.ensures.ok_part in
    ap (ask_back 0) (c.summary_of.ensures ∙ ap summary_of (c.as_slice.ensures.value ∙ h.are)) ∙ sym (ask_does c.args.window.now h.keeps)
