-- `evaluator::part_number` meets its contract. The notes of NUMBER come on top of those made before.
use native.Mathlib.Omega.{arith}
use Rattle.std.proofs.lemmas.Result.{err_from_is_err_and}
use Rattle.base.specs.Current.{current}
use Rattle.numbers.specs.Laws.{number_is}
use Rattle.decoder.specs.Meaning.{part_meaning}
use Rattle.values.specs.Result.{◌>>=◌}
use Rattle.evaluator.specs.Meaning.{memory_meaning}
use Rattle.evaluator.specs.Notes.{few_done, few_number, few_part}
use Rattle.evaluator.proofs.Working.{number_noted, number_stopped}
use Rattle.evaluator.proofs.part_number.Goals as goal

pub behind-requires : goal.behind-requires
behind-requires c =
    let a = c.args in
    let part = c.part_bytes-part in
    let m = memory_meaning a.memory in
    omega (
      arith,
      few_done (few_number current part.result.value.now) (number_is c.number_of.ensures c.in_ok-number.was),
      few_done (few_part m (part_meaning a.p)) part.ensures.work,
    )

pub returns : goal.returns
unfolding ◌>>=◌
returns c =
    rw (c.behind.ensures, c.part_bytes-part.ensures.work)
    (number_noted c.part_bytes-part.result.notes c.number_of.ensures c.in_ok-number.was)

pub returns-in_err-number : goal.returns-in_err-number
unfolding ◌>>=◌
returns-in_err-number c =
    let p = err_from_is_err_and c.from_residual.result c.from_residual.ensures.1 in
    rw (p.1, p.2, c.part_bytes-part.ensures.work)
    (number_stopped c.part_bytes-part.result.notes c.number_of.ensures c.in_err-number.was)
