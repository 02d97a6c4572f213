-- `register_lines::form_of` finds the form of a line field by field: each `?` leaves a line of no good form.
use Rattle.std.proofs.Common.{sym, ap, ◌∙◌, arith}
use Rattle.std.proofs.lemmas.List.{take_rest}
use Rattle.register_lines.specs.Fields.{ContractFound, FormFound, behind_grain}
use Rattle.register_lines.specs.FieldLaws.{contract_found, grain_found, no_contract, price_found, tonnes_found}
use Rattle.register_lines.proofs.form_of.Goals as goal

pub returns-in_err-contract : goal.returns-in_err-contract
unfolding FormFound
returns-in_err-contract c = rw c.from_residual.ensures (no_contract c.args.line.now c.in_err-contract.ensures)

pub slice_bounds-behind_grain-count : goal.slice_bounds-behind_grain-count
unfolding ContractFound
slice_bounds-behind_grain-count c = c.in_ok-contract.ensures.0.inside

pub slice_bounds-behind_grain-start : goal.slice_bounds-behind_grain-start
unfolding ContractFound
slice_bounds-behind_grain-start c = let inside = c.in_ok-contract.ensures.0.inside in omega (arith, inside)

pub returns-in_err-behind : goal.returns-in_err-behind
unfolding FormFound
returns-in_err-behind c =
    let line = c.args.line.now in
    let k = c.in_ok-contract in
    rw c.from_residual-in_err-behind.ensures
    (contract_found line k.contract k.ensures
    ∙ grain_found _ _ (c.in_err-behind.ensures ∙ ap behind_grain (take_rest line k.contract)))

pub returns-in_err-price : goal.returns-in_err-price
unfolding FormFound
returns-in_err-price c =
    let line = c.args.line.now in
    let k = c.in_ok-contract in
    let g = c.in_ok-behind in
    rw c.from_residual-in_err-price.ensures
    (contract_found line k.contract k.ensures ∙ grain_found _ _ (g.ensures ∙ ap behind_grain (take_rest line k.contract))
    ∙ tonnes_found g.behind.now _ c.in_err-price.ensures)

pub returns-in_err-end : goal.returns-in_err-end
unfolding FormFound
returns-in_err-end c =
    let line = c.args.line.now in
    let k = c.in_ok-contract in
    let g = c.in_ok-behind in
    let t = c.in_ok-price in
    rw c.from_residual-in_err-end.ensures
    (contract_found line k.contract k.ensures ∙ grain_found _ _ (g.ensures ∙ ap behind_grain (take_rest line k.contract))
    ∙ tonnes_found g.behind.now _ t.ensures ∙ price_found t.price.now _ c.in_err-end.ensures)

pub returns-in_err-fields : goal.returns-in_err-fields
unfolding FormFound
returns-in_err-fields c =
    let line = c.args.line.now in
    let k = c.in_ok-contract in
    let g = c.in_ok-behind in
    let t = c.in_ok-price in
    let p = c.in_ok-end in
    rw c.from_residual-in_err-fields.ensures
    (contract_found line k.contract k.ensures ∙ grain_found _ _ (g.ensures ∙ ap behind_grain (take_rest line k.contract))
    ∙ tonnes_found g.behind.now _ t.ensures ∙ price_found t.price.now _ p.ensures ∙ sym c.in_err-fields.ensures)

pub returns : goal.returns
unfolding FormFound ContractFound
returns c =
    let line = c.args.line.now in
    let k = c.in_ok-contract in
    let g = c.in_ok-behind in
    let t = c.in_ok-price in
    let p = c.in_ok-end in (
      contract_found line k.contract k.ensures ∙ grain_found _ _ (g.ensures ∙ ap behind_grain (take_rest line k.contract))
          ∙ tonnes_found g.behind.now _ t.ensures ∙ price_found t.price.now _ p.ensures ∙ sym c.in_ok-fields.ensures,
      k.ensures.0,
    )
