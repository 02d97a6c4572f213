-- `effects::put_record` meets its contract: a null record, no room, or the record with its byte 10 behind the output's bytes.
use mathlib.Core.Path.{sym, subst}
use native.Mathlib.Omega.{arith}
use Prim.Native.Nat.{ℕ}
use Rattle.effects.specs.Laws.{wrote_none, no_room, wrote_some}
use Rattle.effects.specs.Leaving.{Wrote}
use Rattle.effects.proofs.put_record.Goals as goal

pub returns-then-n-eq0 : goal.returns-then-n-eq0
returns-then-n-eq0 c =
    wrote_none c.args.output.now c.args.at c.args.v.now c.requires c.if-n-eq0.true

pub returns-then-output-at : goal.returns-then-output-at
returns-then-output-at c =
    no_room c.args.output.now c.args.at c.args.v.now c.requires (omega (arith, c.if-n-eq0.false)) c.if-output-at.true

pub returns : goal.returns
returns c =
    let a = c.args in
    let line = c.put_line in
    subst (λ (to : ℕ). Wrote a.output.now line.new.out a.at to a.v.now) (sym line.ensures.1)
    (wrote_some a.output.now a.at a.v.now c.requires (omega (arith, c.if-n-eq0.false)) c.if-output-at.false line.new.out line.ensures.0)
