-- `lexer::names::name_length` meets its contract.
use mathlib.Core.Path.{◌≡◌, sym, ap, ◌∙◌}
use native.Mathlib.Omega.{arith}
use Rattle.std.proofs.Common.{rules, tests}
use Rattle.std.specs.List.{prefix_len}
use Rattle.std.proofs.lemmas.Iterator.{YieldsList-from_slice}
use Rattle.std.proofs.lemmas.Iterator.Consumers.{count_from_yields_List}
use Rattle.std.proofs.lemmas.Iterator.Search.{YieldsList-from_take_while}
use Rattle.std.proofs.lemmas.List.Folds.{length-prefix_len}
use Rattle.lexer.specs.Places.{CountedBytes}
use Rattle.lexer.specs.Runs.{counted}
use Rattle.syntax.specs.Lexemes.{run_length}
use mathlib.Core.List.{List}
use Prim.Native.Nat.{ℕ}
use lib.ListN.{drop, get_or}
use Rattle.cards.specs.Bytes.{is_letter, is_name_byte}
use Rattle.lexer.proofs.Forms.{name_none, name_of_letters}
use Rattle.lexer.proofs.names.name_length.Goals.{After-is_letter, After-count-n}
use Rattle.lexer.proofs.names.name_length.Goals as goal

-- the test is that of the byte at the place
letter : (c : After-is_letter)
    → is_letter (get_or (drop c.args.at c.args.text.now) 0 0) ≡ c.is_letter.result
letter c = sym (c.is_letter.ensures ∙ ap is_letter c.byte_at.ensures)

pub returns-then-not-is_letter : goal.returns-then-not-is_letter
returns-then-not-is_letter c =
    let a = c.args in
    record {
      is = name_none (drop a.at a.text.now) (letter (goal.at.returns-then-not-is_letter c).After-is_letter ∙ c.if-not-is_letter.true);
      short = omega arith;
      inside = omega arith;
    }

-- so many letters and digits stand there
count : (c : After-count-n) → CountedBytes c.args.text.now c.args.at (run_length is_name_byte (drop c.args.at c.args.text.now)) c.count-n.result
count c =
    let rest = c.behind.result.now in
    let t = c.take_while.ensures in
    counted is_name_byte c.args.text.now c.args.at c.count-n.result
    (count_from_yields_List c.take_while.result _ c.count-n.ensures.ran
    (YieldsList-from_take_while _ is_name_byte (YieldsList-from_slice rest (cc)) t.closure t.done (λ x b q k. search (rules, tests)))
    ∙ length-prefix_len is_name_byte rest
    ∙ ap (λ (l : List ℕ). prefix_len is_name_byte l) c.behind.ensures)

pub returns : goal.returns
returns c =
    let d = goal.at.returns c in
    name_of_letters c.args.text.now c.args.at c.count-n.result (count d.After-count-n)
    (letter d.After-is_letter ∙ c.if-not-is_letter.false) c.then_some.ensures
