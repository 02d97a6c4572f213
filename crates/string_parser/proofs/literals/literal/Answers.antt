-- `string_parser::literals::literal` reads a literal.
use mathlib.Core.List.{[], ◌∷◌}
use mathlib.Core.Path.{sym, ◌∙◌}
use Prim.Native.Nat.{◌+◌}
use lib.ListN.{drop, length-drop}
use native.Mathlib.Omega.{arith}
use Rattle.base.specs.ListLaws.{begins_room}
use Rattle.string_parser.specs.RowLaws.{literal_spelt, literal_quote, literal_run, literal_ends, literal_open}
use Rattle.string_parser.proofs.literals.literal.Goals as goal

pub put_literal-requires-clause-literal_writable : goal.put_literal-requires-clause-literal_writable
put_literal-requires-clause-literal_writable c =
    let two = begins_room (34 ∷ (34 ∷ [])) (drop (c.args.c.at + 1) c.args.text.now)
    (sym c.begins_at.ensures ∙ c.if-begins_at.true) in
    record {
      inside = omega (arith, two, length-drop (c.args.c.at + 1) c.args.text.now);
      text_size = omega arith;
      near = omega arith;
      elements = omega arith;
      literals = omega arith;
    }

pub returns-then-begins_at : goal.returns-then-begins_at
returns-then-begins_at c =
    let a = c.args in
    let quotes = sym c.begins_at.ensures ∙ c.if-begins_at.true in
    let bs = drop (a.c.at + 1) a.text.now in
    let two = begins_room (34 ∷ (34 ∷ [])) bs quotes in
    let size = length-drop (a.c.at + 1) a.text.now in
    λ m ready.
    literal_spelt 1 3 ready (omega arith) (omega arith) (omega arith)
    (literal_quote bs quotes ∙ literal_ends a.text.now a.c.at 1 2 3 (omega arith)) c.put_literal.ensures

pub returns-then-at-n : goal.returns-then-at-n
returns-then-at-n c =
    let a = c.args in
    let other = sym c.begins_at.ensures ∙ c.if-begins_at.false in
    let n = c.literal_length-n in
    let bs = drop (a.c.at + 1) a.text.now in
    λ m ready.
    literal_spelt n.result (n.result + 2) ready (omega arith) (omega (arith, c.if-at-n.true)) (omega arith)
    (literal_run bs other n.ensures.is ∙ literal_ends a.text.now a.c.at n.result (n.result + 1) (n.result + 2) (omega arith))
    c.put_literal-then-at-n.ensures

pub returns : goal.returns
returns c =
    let a = c.args in
    let other = sym c.begins_at.ensures ∙ c.if-begins_at.false in
    let n = c.literal_length-n in
    let bs = drop (a.c.at + 1) a.text.now in
    λ m ready.
    literal_spelt n.result (n.result + 1) ready (omega (arith, n.ensures.inside)) (omega (arith, n.ensures.inside)) (omega arith)
    (literal_run bs other n.ensures.is ∙ literal_open a.text.now a.c.at n.result c.if-at-n.false) c.put_literal-2.ensures
