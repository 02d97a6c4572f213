-- `register_calls::write_currency` meets its contract.
use Rattle.std.proofs.Common.{[], ◌∷◌, ◌+◌, ap, ◌∙◌, set, arith}
use Rattle.encoding.specs.Splices.{set-splice, splice, splice-behind}
use Rattle.register_calls.specs.PutLaws.{copied}
use Rattle.register_calls.proofs.write_currency.Goals as goal

pub returns : goal.returns
returns c =
    let buffer = c.args.buffer.now in
    let at = c.args.at in
    let currency = c.args.currency.now in
    copied (set buffer at 44) (at + 1) _ _ currency c.copy_from_slice.ensures.after (omega arith)
    ∙ ap (λ d. splice d (at + 1) currency) (set-splice buffer at 44 (omega (arith, c.requires)))
    ∙ splice-behind buffer at (44 ∷ []) currency (omega (arith, c.requires))
