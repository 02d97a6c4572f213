-- `step_on` meets its contract: the machine itself turns the step down by 15 or 16, or its statement is carried out and concluded.
use mathlib.Core.Bool.{true, false}
use mathlib.Core.List.{reverse}
use mathlib.Core.Path.{◌≡◌, refl, sym, ◌∙◌}
use native.Mathlib.Omega.{arith}
use lib.ListN.{get_or}
use borrow.Author.Tests.{eqb-true}
use Rattle.encoding.specs.Buffers.{returns_in, status_of}
use Rattle.calls.specs.Calls.{buffers}
use Rattle.machine.specs.State.{is_running}
use Rattle.state.specs.Laws.{running_number}
use Rattle.interpreter.specs.Clauses.{next_statement, work_of}
use Rattle.interpreter.specs.Laws.{next_inside, returns_counted, next_row, lacks_next, kind-next, silent_zeros}
use Rattle.interpreter.specs.Laws.{lacking_answers, ended_answers, step_allowed, done_called, concluded-taken}
use Rattle.interpreter.proofs.step_on.Goals.{After-lacks_return, After-returns_held, Else-not-is_running}
use Rattle.interpreter.proofs.step_on.Goals as goal

pub kind_at-requires : goal.kind_at-requires
kind_at-requires c =
    let inside = next_inside c.requires.given in
    (c.requires.given.bytes, omega (arith, inside.0, inside.1, c.next_step.ensures))

-- what was asked of the next row: whether the machine turns its step down for a return
lacks : (c : After-lacks_return) → lacks_next c.requires.given ≡ c.lacks_return.result
lacks c =
    let s = c in
    let g = c.requires.given in
    sym
    (c.lacks_return.ensures s.args.table.now (reverse (returns_in s.args.state.now)) (next_row g)
    (kind-next g c.next_step.ensures c.kind_at.ensures) (returns_counted g ∙ sym c.returns_held.ensures))

pub returns-then-lacks_return : goal.returns-then-lacks_return
returns-then-lacks_return c = record {
  step_taken = record {
    answers = lacking_answers c.requires.given (lacks (goal.at.returns-then-lacks_return c).After-lacks_return ∙ c.if-lacks_return.true) refl refl;
    notes_are = refl;
  };
  kept_stays = c.requires.kept_good;
}

pub returns-then-not-is_running : goal.returns-then-not-is_running
returns-then-not-is_running c =
    let ended = sym c.is_running.ensures ∙ c.if-not-is_running.true in record {
      step_taken = record {
        answers = ended_answers c.requires.given (lacks (goal.at.returns-then-not-is_running c).After-lacks_return ∙ c.if-lacks_return.false) ended refl refl;
        notes_are = refl;
      };
      kept_stays = c.requires.kept_good;
    }

-- neither
free : (c : Else-not-is_running) → lacks_next c.requires.given ≡ false
free c =
    let g = c.requires.given in
    sym
    (c.lacks_return.ensures c.args.table.now (reverse (returns_in c.args.state.now)) (next_row g)
    (kind-next g c.next_step.ensures c.kind_at.ensures) (returns_counted g ∙ sym c.returns_held.ensures))
    ∙ c.if-lacks_return.false

runs : (c : Else-not-is_running) → is_running (status_of (get_or c.args.state.now 0 0)) ≡ true
runs c = sym c.is_running.ensures ∙ c.if-not-is_running.false

running : (c : Else-not-is_running) → get_or c.args.state.now 0 0 ≡ 0
running c = eqb-true _ _ (running_number (get_or c.args.state.now 0 0) ∙ runs c)

pub execute_statement-did-requires : goal.execute_statement-did-requires
execute_statement-did-requires c =
    let goes = (goal.at.execute_statement-did-requires c).Else-not-is_running in
    let s = c in record {
      allowed = step_allowed c.requires.given (free goes) (running goes);
      answer_value = silent_zeros;
      kept_good = c.requires.kept_good;
    }

pub returns : goal.returns
returns c =
    let goes = (goal.at.returns c).Else-not-is_running in
    let s = c in
    let a = s.args in
    let b = buffers a.store.now a.state.now a.output.now in
    let called = c.execute_statement-did in
    let left = buffers called.new.store called.new.state called.new.output in record {
      step_taken = rw (done_called c.requires.given (free goes) (runs goes))
          (concluded-taken c.requires.given (running goes) called.result left _ (work_of a.input.now b (next_statement a.table.now a.state.now))
          called.ensures.works_on.works c.conclude.ensures);
      kept_stays = called.ensures.kept_stays;
    }
