-- `lexer::names::digit_count` meets its contract.
use Rattle.std.proofs.Common.{rules, tests}
use Rattle.std.specs.List.{prefix_len}
use Rattle.std.proofs.lemmas.Iterator.{YieldsList-from_slice}
use Rattle.std.proofs.lemmas.Iterator.Consumers.{count_from_yields_List}
use Rattle.std.proofs.lemmas.Iterator.Search.{YieldsList-from_take_while}
use Rattle.std.proofs.lemmas.List.Folds.{length-prefix_len}
use Rattle.cards.specs.Bytes.{is_digit}
use Rattle.lexer.specs.Runs.{counted}
use mathlib.Core.List.{List}
use mathlib.Core.Path.{ap, ◌∙◌}
use Prim.Native.Nat.{ℕ}
use Rattle.lexer.proofs.names.digit_count.Goals as goal

pub returns : goal.returns
returns c =
    let rest = c.behind.result.now in
    let t = c.take_while.ensures in
    counted is_digit c.args.text.now c.args.at c.count.result
    (count_from_yields_List c.take_while.result _ c.count.ensures.ran
    (YieldsList-from_take_while _ is_digit (YieldsList-from_slice rest (cc)) t.closure t.done (λ x b q k. search (rules, tests)))
    ∙ length-prefix_len is_digit rest
    ∙ ap (λ (l : List ℕ). prefix_len is_digit l) c.behind.ensures)
