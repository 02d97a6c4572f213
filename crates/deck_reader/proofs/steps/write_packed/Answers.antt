-- `deck_reader::steps::write_packed`: the row of a step.
use Rattle.deck_reader.specs.JudgeLaws.{broken_case, no_step_case, step_case}
use Rattle.deck_reader.specs.PackedLaws.{not_broken, none_written, step-written}
use Rattle.deck_reader.proofs.steps.write_packed.Goals as goal

pub returns-in-Some-None-default : goal.returns-in-Some-None-default
returns-in-Some-None-default c =
    λ label w v m rest q.
    let p = c.in-Some-None-default in
    let read = rw c.cursor-c.ensures at (c.read_statement.ensures label w) in
    none_written q (no_step_case read (rw p.field-0-0-is at p.is))

pub returns-in-Some-Some-default : goal.returns-in-Some-Some-default
returns-in-Some-Some-default c =
    λ label w v m rest q.
    let p = c.in-Some-Some-default in
    let read = rw c.cursor-c.ensures at (c.read_statement.ensures label w) in
    step-written q (step_case read (rw p.field-0-0-is at p.is)) c.put_row.ensures

pub returns-in-None : goal.returns-in-None
returns-in-None c =
    λ label w v m rest q. absurd (not_broken (broken_case (rw c.cursor-c.ensures at (c.read_statement.ensures label w)) c.in-None.is) q)
