-- `valued::set_value` meets its contract: the value spelt is stored, or the work stops.
use Rattle.std.proofs.Common.{refl}
use Rattle.std.proofs.lemmas.Result.{err_from_is_err_and}
use Rattle.encoding.specs.Buffers.{numbers_in}
use Rattle.evaluator.specs.Laws.{string-is, string_stops}
use Rattle.values.specs.ResultLaws.{stopped}
use Rattle.effects.specs.ValuedLaws.{kept_leaves, spelt}
use Rattle.effects.proofs.valued.set_value.Goals as goal

pub returns : goal.returns
returns c =
    let a = c.args in
    let spells = string-is c.string_value.ensures c.in_ok-length.was in
    record {
      leaves =
          kept_leaves (λ v. v) c.set_between.result a.store.now c.set_between.new.store a.at.place a.at.from a.at.to _
          (numbers_in a.state.now) spells (spelt spells) c.set_between.ensures;
    }

pub returns-in_err-length : goal.returns-in_err-length
returns-in_err-length c =
    let p = err_from_is_err_and c.from_residual.result c.from_residual.ensures.1 in
    rw (p.1, p.2) (record { leaves = (refl, stopped _ _ _ (string_stops c.string_value.ensures c.in_err-length.was)) })
