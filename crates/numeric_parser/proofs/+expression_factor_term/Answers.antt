-- The cycle of readers: an expression of terms, a term of factors, a factor of an expression in parentheses.
use Rattle.std.proofs.Common.{not, Option, Some, None, refl, ◌∙◌, drop, sym, ap, subst, arith}
use Rattle.base.specs.Text.{bytes}
use Rattle.syntax.specs.Numeric.{deepest}
use Rattle.symbols.specs.Environment.{places_in}
use Rattle.symbols.specs.declared.Cursor.{Cursor}
use borrow.Author.Tests.{lt-ltb, le-ltb}
use Rattle.numeric_parser.specs.JoinLaws.{joining_begins, joining_signed, joining_broken, joining_ends, joining_again, joining_less}
use Rattle.numeric_parser.specs.JoinLaws.{sum-joins, product-joins, expression_joined, term_joined}
use Rattle.numeric_parser.specs.KindLaws.{sign_told, sum_told, product_told, items_lost, inside_closed, deeper}
use Rattle.numeric_parser.specs.OperandLaws.{mark_passed, mark_none, mark_ready}
use Rattle.numeric_parser.specs.ReadLaws.{too_deep}
use Rattle.numeric_parser.specs.Reads.{FactorRead}
use Rattle.numeric_parser.proofs.+expression_factor_term.Goals as goal

pub expression-skip-d-requires : goal.expression-skip-d-requires
expression-skip-d-requires t c =
    let ready = c.requires.reader_ready in
    omega (arith, (sign_told _ _ c.mark_at-mark.ensures).inside ready.inside, c.size.ensures, ready)

pub expression-loop-e-init : goal.expression-loop-e-init
expression-loop-e-init t c =
    (joining_signed c.requires.reader_ready (sign_told _ _ c.mark_at-mark.ensures) c.size.ensures c.skip-d.ensures, refl)

pub expression-returns-in_err-e : goal.expression-returns-in_err-e
expression-returns-in_err-e t c =
    expression_joined (places_in c.args.known.now) c.args.depth c.args.c (sign_told _ _ c.mark_at-mark.ensures)
    c.size.ensures c.skip-d.ensures
    (joining_broken c.loop-e.invariant.0 c.term.ensures c.in_err-e.was c.from_residual.ensures)

pub expression-returns-then-is_none : goal.expression-returns-then-is_none
expression-returns-then-is_none t c =
    let p = places_in c.args.known.now in
    expression_joined p c.args.depth c.args.c (sign_told _ _ c.mark_at-mark.ensures)
    c.size.ensures c.skip-d.ensures
    (joining_ends c.loop-e.invariant.0 c.term.ensures c.in_ok-e.was c.put_mark-f.ensures
    (sum-joins p c.args.depth (sum_told _ _ c.mark_at-mark-in-loop-e.ensures)) (c.is_none.ensures ∙ ap not c.if-is_none.true))

pub expression-loop-e-smaller : goal.expression-loop-e-smaller
expression-loop-e-smaller t c =
    joining_less c.loop-e.invariant.0 c.term.ensures c.in_ok-e.was c.put_mark-f.ensures
    (sum-joins (places_in c.args.known.now) c.args.depth (sum_told _ _ c.mark_at-mark-in-loop-e.ensures))
    (c.is_none.ensures ∙ ap not c.if-is_none.false) c.skip-d-in-loop-e.ensures

pub expression-loop-e-preserved : goal.expression-loop-e-preserved
expression-loop-e-preserved t c = (
  joining_again c.loop-e.invariant.0 c.term.ensures c.in_ok-e.was c.put_mark-f.ensures
      (sum-joins (places_in c.args.known.now) c.args.depth (sum_told _ _ c.mark_at-mark-in-loop-e.ensures))
      (c.is_none.ensures ∙ ap not c.if-is_none.false) c.skip-d-in-loop-e.ensures,
  c.put_mark-f.auto.table ∙ c.term.auto.table ∙ c.loop-e.invariant.1,
)

pub factor-returns-in_default : goal.factor-returns-in_default
unfolding bytes
factor-returns-in_default t c =
    c.write_operand.ensures c.args.depth (mark_none c.args.text.now 40 c.args.c c.in_default.ensures)

pub factor-returns-then-depth-ge-DEEPEST : goal.factor-returns-then-depth-ge-DEEPEST
unfolding bytes deepest
factor-returns-then-depth-ge-DEEPEST t c =
    let a = c.args in
    record {
      answer =
          too_deep (places_in a.known.now) a.depth (drop a.c.at a.text.now)
          (mark_passed a.text.now 40 a.c c.in-Some.ensures).0 (le-ltb _ _ (omega arith));
    }

pub factor-expression-requires : goal.factor-expression-requires
factor-expression-requires t c =
    let a = c.args in
    let ready = mark_ready a.text.now 40 a.c c.requires.reader_ready c.in-Some.ensures in
    let at = ap (λ (z : Cursor). z.at) (mark_passed a.text.now 40 a.c c.in-Some.ensures).1 in
    (omega (arith, at, ready.inside), (ready, c.requires.table_size_in_bounds))

pub factor-returns-in_err-d : goal.factor-returns-in_err-d
unfolding bytes deepest
factor-returns-in_err-d t c =
    let a = c.args in
    let p = places_in a.known.now in
    let paren = mark_passed a.text.now 40 a.c c.in-Some.ensures in
    items_lost c.from_residual.ensures
    (inside_closed p a.depth a.c paren.0 (lt-ltb _ _ (omega arith)) None (deeper p a.depth a.c paren.1 c.in_err-d.ensures)).answer

pub factor-returns : goal.factor-returns
unfolding bytes deepest
factor-returns t c =
    let a = c.args in
    let p = places_in a.known.now in
    let new = c.expression.new in
    let paren = mark_passed a.text.now 40 a.c c.in-Some.ensures in
    subst
    (λ (r : Option Cursor).
    FactorRead a.text.now a.known.now a.table.now a.mentioned.now a.c a.depth r new.table new.mentioned)
    (sym c.marked-2.ensures)
    (inside_closed p a.depth a.c paren.0 (lt-ltb _ _ (omega arith)) (Some c.in_ok-d.d) (deeper p a.depth a.c paren.1 c.in_ok-d.ensures))

pub term-loop-e-init : goal.term-loop-e-init
term-loop-e-init t c =
    let ready = c.requires.reader_ready in
    (joining_begins ready (omega (arith, ready.items)), refl)

pub term-returns-in_err-e : goal.term-returns-in_err-e
term-returns-in_err-e t c =
    term_joined (places_in c.args.known.now) c.args.depth c.args.c
    (joining_broken c.loop-e.invariant.0 c.factor.ensures c.in_err-e.was c.from_residual.ensures)

pub term-returns-then-is_none : goal.term-returns-then-is_none
term-returns-then-is_none t c =
    let p = places_in c.args.known.now in
    term_joined p c.args.depth c.args.c
    (joining_ends c.loop-e.invariant.0 c.factor.ensures c.in_ok-e.was c.put_mark-f.ensures
    (product-joins p c.args.depth (product_told _ _ c.mark_at-mark.ensures)) (c.is_none.ensures ∙ ap not c.if-is_none.true))

pub term-loop-e-smaller : goal.term-loop-e-smaller
term-loop-e-smaller t c =
    joining_less c.loop-e.invariant.0 c.factor.ensures c.in_ok-e.was c.put_mark-f.ensures
    (product-joins (places_in c.args.known.now) c.args.depth (product_told _ _ c.mark_at-mark.ensures))
    (c.is_none.ensures ∙ ap not c.if-is_none.false) c.skip-d.ensures

pub term-loop-e-preserved : goal.term-loop-e-preserved
term-loop-e-preserved t c = (
  joining_again c.loop-e.invariant.0 c.factor.ensures c.in_ok-e.was c.put_mark-f.ensures
      (product-joins (places_in c.args.known.now) c.args.depth (product_told _ _ c.mark_at-mark.ensures))
      (c.is_none.ensures ∙ ap not c.if-is_none.false) c.skip-d.ensures,
  c.put_mark-f.auto.table ∙ c.factor.auto.table ∙ c.loop-e.invariant.1,
)
