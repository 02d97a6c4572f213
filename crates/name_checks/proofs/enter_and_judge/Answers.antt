-- `enter_and_judge` enters the names declared and then those used, and judges them.
use Rattle.std.proofs.lemmas.Result.{err_from_is_err_and}
use Rattle.name_checks.specs.JudgedLaws.{room_first, room_second, names_refused, used_refused, names_judged}
use Rattle.name_checks.specs.Shown.{entries_in}
use Rattle.name_checks.proofs.enter_and_judge.Goals as goal

pub enter_names-requires : goal.enter_names-requires
enter_names-requires c =
    let a = c.args in
    room_first a.known.now a.names.now (entries_in a.entries) c.requires

pub enter_names-requires-2 : goal.enter_names-requires-2
enter_names-requires-2 c =
    let a = c.args in
    room_second a.known.now a.names.now (entries_in a.entries) c.requires _ c.in_ok-enter_names.ensures

pub returns-in_err-enter_names : goal.returns-in_err-enter_names
returns-in_err-enter_names c =
    let a = c.args in
    let p = err_from_is_err_and c.from_residual.result c.from_residual.ensures.1 in
    rw (p.1, p.2) (names_refused a.known.now a.names.now (entries_in a.entries) c.requires _ c.in_err-enter_names.ensures)

pub returns-in_err-enter_names-2 : goal.returns-in_err-enter_names-2
returns-in_err-enter_names-2 c =
    let a = c.args in
    let p = err_from_is_err_and c.from_residual-in_err-enter_names-2.result c.from_residual-in_err-enter_names-2.ensures.1 in
    rw (p.1, p.2)
    (used_refused a.known.now a.names.now (entries_in a.entries) c.requires _ _ c.in_ok-enter_names.ensures c.in_err-enter_names-2.ensures)

pub returns : goal.returns
returns c =
    let a = c.args in
    names_judged a.known.now a.names.now (entries_in a.entries) c.requires _ _ c.in_ok-enter_names.ensures c.in_ok-enter_names-2.ensures
    c.first_number.result c.first_number.ensures
