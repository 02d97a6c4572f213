-- `card_reader::line::sound_line` answers whether the line is sound: no byte in the range is refused, and of others the table tells.
use Rattle.base.specs.Choice.{both_pass}
use Rattle.base.specs.ListLaws.{all_imply}
use Rattle.base.specs.Lists.{all}
use Rattle.cards.specs.Bytes.{between}
use Rattle.cards.specs.Cards.{sound_line}
use Rattle.card_reader.proofs.Lines.{is_kept}
use Rattle.classes.specs.Laws.{data_range}
use borrow.Author.Rules.{rules}
use borrow.Author.Tests.{le-leb, lt-leb}
use lib.ListN.{length}
use mathlib.Core.Bool.{◌&&◌}
use mathlib.Core.Path.{ap, sym, ◌∙◌}
use native.Mathlib.Omega.{arith}
use Rattle.card_reader.proofs.line.sound_line.Goals as goal

pub returns-then-line-gt-LINE : goal.returns-then-line-gt-LINE
unfolding sound_line
returns-then-line-gt-LINE c =
    let line = c.args.line.now in
    sym (ap (λ t. t && all is_kept line) (lt-leb (length line) 80 (search rules)))

pub returns-then-in_range : goal.returns-then-in_range
unfolding sound_line
returns-then-in_range c =
    let line = c.args.line.now in
    let inside = sym c.in_range.ensures ∙ c.if-in_range.true in
    c.if-in_range.true ∙ sym (both_pass (le-leb (length line) 80 (omega arith)) (all_imply (between 32 126) is_kept data_range line inside))

pub returns-else-in_range : goal.returns-else-in_range
unfolding sound_line
returns-else-in_range c =
    let line = c.args.line.now in
    c.none_refused.ensures ∙ ap (λ t. t && all is_kept line) (sym (le-leb (length line) 80 (omega arith)))
