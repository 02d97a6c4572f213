-- `register_report::put_totals` meets its contract. The loop's invariant: the TOTAL lines of j currencies are put, and the code is the next one's.
use Rattle.std.proofs.Common.{refl, sym, subst, arith}
use Rattle.std.proofs.lemmas.List.{length-map}
use Rattle.register_report.specs.CodeLaws.{found_is, none_is}
use Rattle.register_report.specs.Codes.{CodeFound, lowest_code, no_code}
use Rattle.register_report.specs.SumLaws.{RoomTo, TotalsTo, going_more, going_none, listed_end, listed_last, listed_more, listed_none}
use Rattle.register_report.specs.Sums.{codes_in, tonnes_in, values_in}
use Rattle.register_report.proofs.put_totals.Goals as goal

pub loop-j-init : goal.loop-j-init
loop-j-init c =
    let out = c.args.out.now in
    let ws = c.args.worths.now in
    let code = lowest_code 0 no_code (codes_in ws) in (
      code,
      c.next_code-next.ensures,
      going_none (codes_in ws) out code refl,
      λ lines h. listed_none lines (codes_in ws) (tonnes_in ws) (values_in ws) h out code refl,
    )

pub returns-in-None : goal.returns-in-None
returns-in-None c =
    let ws = c.args.worths.now in
    let l = c.loop-j in
    let i = l.invariant in
    λ lines h. listed_last lines (codes_in ws) (tonnes_in ws) (values_in ws) h c.args.out.now l.out i.0 l.at l.j (i.3 lines h)
    (none_is i.0 (subst (CodeFound i.0) c.in-None.is i.1))

pub put_total-at-requires : goal.put_total-at-requires
put_total-at-requires c =
    let ws = c.args.worths.now in
    let l = c.loop-j in
    let i = l.invariant in
    let here = c.loop-j-test.true in
    let found = found_is i.0 c.in-Some.code (subst (CodeFound i.0) c.in-Some.is i.1) in
    (found.1, omega (arith, i.2.size, i.2.short, c.requires.few, length-map ws (λ w. w.code)))

pub loop-j-preserved : goal.loop-j-preserved
loop-j-preserved c =
    let out = c.args.out.now in
    let ws = c.args.worths.now in
    let l = c.loop-j in
    let i = l.invariant in
    let code = c.in-Some.code in
    let u = c.sums_of in
    let p = c.put_total-at in
    let found = found_is i.0 code (subst (CodeFound i.0) c.in-Some.is i.1) in
    let next = lowest_code code no_code (codes_in ws) in (
      next,
      c.next_code-next-in-Some.ensures,
      going_more (codes_in ws) (tonnes_in ws) (values_in ws) out l.out p.new.out code l.at l.j c.requires
          (subst (λ x. RoomTo (codes_in ws) out l.out x l.at l.j) (sym found.0) i.2)
          (omega (arith, c.loop-j-test.true, length-map ws (λ w. w.code))) u.result u.ensures p.result p.ensures next refl,
      λ lines h. listed_more lines (codes_in ws) (tonnes_in ws) (values_in ws) h out l.out code l.at l.j
          (subst (λ x. TotalsTo lines out l.out x l.at l.j) (sym found.0) (i.3 lines h)) found.1 u.result u.ensures p.new.out p.result p.ensures next refl,
    )

pub returns : goal.returns
returns c =
    let ws = c.args.worths.now in
    let l = c.loop-j in
    let i = l.invariant in
    λ lines h. listed_end lines (codes_in ws) (tonnes_in ws) (values_in ws) h c.args.out.now l.out i.0 l.at l.j (i.3 lines h)
    (omega (arith, length-map ws (λ w. w.code)))
