-- `numbers::is_numeric` meets its contract. Something stands behind the sign, and all of it is digits and blanks.
use mathlib.Core.Path.{◌∙◌}
use Rattle.std.proofs.Common.{rules, tests}
use Rattle.std.proofs.lemmas.Iterator.{YieldsList-from_slice}
use Rattle.std.proofs.lemmas.Iterator.Search.{all_from_yields_List}
use Rattle.values.specs.Conversion.{is_digit_or_blank, is_numeric}
use Rattle.numbers.proofs.Reading.{some_left, list_all_is}
use Rattle.numbers.proofs.is_numeric.Goals as goal

pub returns-then-not-is_empty : goal.returns-then-not-is_empty
unfolding is_numeric
returns-then-not-is_empty c =
    let digits = c.unsigned_part-digits in
    all_from_yields_List is_digit_or_blank _ _ _ c.all.ensures.ran (YieldsList-from_slice digits.result.now cc) (λ x b q k. search (rules, tests))
    ∙ list_all_is is_digit_or_blank digits.result.now
    ∙ rw (← digits.ensures, ← some_left digits.result.now, ← c.is_empty.ensures, c.if-not-is_empty.true)

pub returns-else-not-is_empty : goal.returns-else-not-is_empty
unfolding is_numeric
returns-else-not-is_empty c =
    let digits = c.unsigned_part-digits in
    rw (← digits.ensures, ← some_left digits.result.now, ← c.is_empty.ensures, c.if-not-is_empty.false)
