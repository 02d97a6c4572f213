-- `uses::note_use` notes a label or routine used.
use Rattle.statement_checks.specs.UseLaws.{used_one, used_none}
use Rattle.statement_checks.proofs.uses.note_use.Goals as goal

pub returns-in-LabelUsed : goal.returns-in-LabelUsed
returns-in-LabelUsed c =
    let a = c.args in
    used_one a.uses.now _ a.key a.scope _ c.note.ensures a.tag c.purpose.ensures c.in-LabelUsed.is

pub returns-in_default : goal.returns-in_default
returns-in_default c =
    let a = c.args in
    used_none a.uses.now a.key a.scope a.tag c.in_default.not-LabelUsed c.in_default.not-RoutineUsed
