-- `statement_parser::steps::more_numbers` reads further names, each behind a comma. Whatever is read from a turn on, with it all is read.
use Rattle.std.proofs.Common.{ap, arith}
use Rattle.symbols.specs.declared.Cursor.{Cursor}
use Rattle.numeric_parser.specs.OperandLaws.{mark_passed, mark_none, mark_ready}
use Rattle.statement_parser.specs.BehindLaws.{numbers_end, numbers_more, numbers_broken}
use Rattle.statement_parser.specs.StageLaws.{form_lost, form_ends}
use Rattle.statement_parser.proofs.steps.more_numbers.Goals as goal

pub loop-e-init : goal.loop-e-init
loop-e-init c = (c.requires, λ r m f. f)

pub read_name-requires : goal.read_name-requires
read_name-requires c = mark_ready c.args.text.now 44 c.loop-e.d c.loop-e.invariant.0 c.in-Some.ensures

pub returns-in_err-f : goal.returns-in_err-f
returns-in_err-f c =
    let comma = mark_passed c.args.text.now 44 c.loop-e.d c.in-Some.ensures in
    let broken = numbers_broken c.args.text.now c.loop-e.d comma.0 comma.1 c.in_err-f.ensures.answer in
    c.loop-e.invariant.1 _ _ (λ k h table. form_lost c.from_residual.ensures (broken k h))

pub loop-e-smaller : goal.loop-e-smaller
loop-e-smaller c =
    let name = c.in_ok-f.ensures.answer in
    omega (arith, name.further, name.ready.inside, ap (λ (z : Cursor). z.at) (mark_passed c.args.text.now 44 c.loop-e.d c.in-Some.ensures).1)

pub loop-e-preserved : goal.loop-e-preserved
loop-e-preserved c =
    let comma = mark_passed c.args.text.now 44 c.loop-e.d c.in-Some.ensures in
    let inv = c.loop-e.invariant in
    let name = c.in_ok-f.ensures.answer in
    (name.ready, λ r m f. inv.1 r m (λ k h table. numbers_more table comma.0 inv.0 comma.1 name r (λ n l. f n l table) k h))

pub returns : goal.returns
returns c =
    let end = mark_none c.args.text.now 44 c.loop-e.d c.in_default.ensures in
    c.loop-e.invariant.1 c.ended.result _ (λ k h table. form_ends c.ended.ensures (numbers_end table c.loop-e.invariant.0 end k))
