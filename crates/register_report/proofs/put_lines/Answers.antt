-- `register_report::put_lines` meets its contract. The loop's invariant: the lines before the place are put.
use Rattle.std.proofs.Common.{◌≡◌, ◌∙◌, refl, subst, arith}
use Rattle.register.specs.Buffer.{register_in}
use Rattle.register_report.specs.PutLaws.{all_lines, line-put, line_room, lines_none}
use Rattle.register_report.specs.Sums.{LinesPut}
use Rattle.register_report.proofs.put_lines.Goals as goal

pub loop-place-init : goal.loop-place-init
loop-place-init c = (refl, lines_none c.args.output.now)

pub put_line-put_to-requires : goal.put_line-put_to-requires
put_line-put_to-requires c =
    let l = c.loop-place in
    let e = c.line in
    line_room c.args.register.buffer.now c.args.register.lines c.args.register.counted l.place c.loop-place-test.true e.result.now e.ensures
    c.args.output.now l.output l.put_to l.invariant.1 c.requires

pub loop-place-preserved : goal.loop-place-preserved
loop-place-preserved c =
    let e = c.line in
    let l = c.loop-place in
    let r = c.put_line-put_to in (
      r.auto.out ∙ l.invariant.0,
      line-put c.args.register.buffer.now c.args.register.lines c.args.register.counted l.place c.loop-place-test.true e.result.now e.ensures
          c.args.output.now l.output l.put_to l.invariant.1 c.requires r.new.out r.result r.ensures.0 r.ensures.1,
    )

pub returns : goal.returns
returns c =
    let l = c.loop-place in
    let all : l.place ≡ c.args.register.lines = omega arith in
    subst (λ r. LinesPut r c.args.output.now l.output l.put_to)
    (all_lines (register_in c.args.register.buffer.now).lines l.place (all ∙ c.args.register.counted.count)) l.invariant.1
