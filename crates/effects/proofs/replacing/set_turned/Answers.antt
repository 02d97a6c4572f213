-- `replacing::set_turned` meets its contract: the value spelt is too long, or it is turned and stored, or the work stops.
use Rattle.std.proofs.Common.{refl, ap, List, ℕ, ◌++◌, drop}
use Rattle.std.proofs.lemmas.Result.{err_from_is_err_and}
use Rattle.encoding.specs.Buffers.{numbers_in}
use Rattle.evaluator.specs.Laws.{string-is, string_stops}
use Rattle.syntax.specs.Program.{backward}
use Rattle.machine.specs.Scanning.{turned}
use Rattle.values.specs.ResultLaws.{stopped}
use Rattle.effects.specs.ReplacingLaws.{turned_long, turned_spelt}
use Rattle.effects.specs.ValuedLaws.{kept_leaves}
use Rattle.effects.proofs.replacing.set_turned.Goals as goal

pub returns-then-length-gt-LONGEST : goal.returns-then-length-gt-LONGEST
returns-then-length-gt-LONGEST c =
    let a = c.args in
    let spells = string-is c.string_value.ensures c.in_ok-length.was in
    record { leaves = (refl, turned_long a.store.now a.at.place a.at.from a.at.to (numbers_in a.state.now) spells c.if-length-gt-LONGEST.true) }

pub returns : goal.returns
returns c =
    let a = c.args in
    let spells = string-is c.string_value.ensures c.in_ok-length.was in
    record {
      leaves =
          kept_leaves (turned backward) c.set_between.result a.store.now c.set_between.new.store a.at.place a.at.from a.at.to _
          (numbers_in a.state.now) spells
          (turned_spelt spells c.if-length-gt-LONGEST.false
          (ap (λ (l : List ℕ). l ++ drop c.in_ok-length.length.value c.string_value.new.out) c.reverse.ensures.after))
          c.set_between.ensures;
    }

pub returns-in_err-length : goal.returns-in_err-length
returns-in_err-length c =
    let p = err_from_is_err_and c.from_residual.result c.from_residual.ensures.1 in
    rw (p.1, p.2) (record { leaves = (refl, stopped _ _ _ (string_stops c.string_value.ensures c.in_err-length.was)) })
