-- `string_parser::more` reads element by element. The invariant: what is read from here on leads to all.
use Rattle.std.proofs.Common.{refl, ap, ◌∙◌, arith}
use Rattle.symbols.specs.Environment.{places_in}
use Rattle.symbols.specs.declared.Cursor.{Cursor}
use Rattle.numeric_parser.specs.OperandLaws.{mark_passed, mark_none, mark_ready}
use Rattle.string_parser.specs.Elements.{shown, read_one}
use Rattle.string_parser.specs.RowLaws.{more_lost, passing_none, passing_more, passing_broken, passing_end}
use Rattle.string_parser.proofs.more.Goals as goal

pub loop-e-init : goal.loop-e-init
loop-e-init c =
    (passing_none (shown c.args.elements) (read_one c.args.elements (places_in c.args.known.now)) c.requires.reader_ready, refl)

pub one-requires-clause-reader_ready : goal.one-requires-clause-reader_ready
one-requires-clause-reader_ready c = mark_ready c.args.text.now 44 c.loop-e.d c.loop-e.invariant.0.ready c.in-Some.ensures

pub returns-in_err-d : goal.returns-in_err-d
returns-in_err-d c =
    let a = c.args in
    let comma = mark_passed a.text.now 44 c.loop-e.d c.in-Some.ensures in
    more_lost (shown a.elements) (read_one a.elements (places_in a.known.now)) c.from_residual.ensures
    (passing_broken (shown a.elements) (read_one a.elements (places_in a.known.now)) c.loop-e.invariant.0 comma.0 comma.1 c.in_err-d.ensures.answer)

pub loop-e-smaller : goal.loop-e-smaller
loop-e-smaller c =
    let g = c.in_ok-d.ensures.answer in
    omega (arith, g.further, g.gets.ready, ap (λ (z : Cursor). z.at) (mark_passed c.args.text.now 44 c.loop-e.d c.in-Some.ensures).1)

pub loop-e-preserved : goal.loop-e-preserved
loop-e-preserved c =
    let a = c.args in
    let comma = mark_passed a.text.now 44 c.loop-e.d c.in-Some.ensures in (
      passing_more (shown a.elements) (read_one a.elements (places_in a.known.now)) c.loop-e.invariant.0 comma.0 comma.1 c.in_ok-d.ensures.answer,
      c.one.auto.table ∙ c.loop-e.invariant.1,
    )

pub returns : goal.returns
returns c =
    let a = c.args in
    passing_end (shown a.elements) (read_one a.elements (places_in a.known.now)) c.loop-e.invariant.0
    (mark_none a.text.now 44 c.loop-e.d c.in_default.ensures)
