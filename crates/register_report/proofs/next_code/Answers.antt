-- `register_report::next_code` meets its contract. The loop's invariant: the lowest of all codes is that of those left and of the next found so far.
use Rattle.std.proofs.Common.{true, false, refl, sym, ◌∙◌, arith}
use Rattle.register_report.specs.CodeLaws.{code_again, code_end, lowest_within, none_found, some_found}
use Rattle.register_report.specs.Codes.{no_code}
use Rattle.register_report.specs.Sums.{codes_in}
use Rattle.register_report.proofs.next_code.Goals as goal
use Rattle.register_report.proofs.next_code.Goals.{then-last-code, else-last-code}

pub loop-worth-init : goal.loop-worth-init
loop-worth-init c = refl

pub loop-worth-preserved : goal.loop-worth-preserved
loop-worth-preserved c =
    let l = c.loop-worth in
    let again = code_again c.args.last l.next c.args.worths.now l.worth-index c.loop-worth-test.true _ in
    elim c.if-last-code.branch [
      | then-last-code w ↦ again true w.if-last-code.true c.if-last-code.next w.next-is
      | else-last-code w ↦ again false w.if-last-code.false c.if-last-code.next w.next-is
    ]
    ∙ l.invariant

pub returns-then-next-lt-NO_CODE : goal.returns-then-next-lt-NO_CODE
returns-then-next-lt-NO_CODE c =
    let l = c.loop-worth in
    some_found _ l.next (sym l.invariant ∙ code_end c.args.last l.next c.args.worths.now l.worth-index (omega arith)) c.if-next-lt-NO_CODE.true

pub returns-else-next-lt-NO_CODE : goal.returns-else-next-lt-NO_CODE
returns-else-next-lt-NO_CODE c =
    let l = c.loop-worth in
    let a = c.args in
    none_found _ l.next (sym l.invariant ∙ code_end a.last l.next a.worths.now l.worth-index (omega arith)) (lowest_within a.last no_code (codes_in a.worths.now))
    c.if-next-lt-NO_CODE.false
