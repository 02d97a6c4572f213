-- `card_reader::line::is_skipped` answers whether the line is a comment or blank.
use Rattle.card_reader.specs.Lines.{is_skipped}
use Rattle.cards.specs.Cards.{is_blank_line}
use Rattle.base.specs.Current.{current}
use mathlib.Core.Bool.{◌||◌}
use mathlib.Core.Path.{ap, sym, ◌∙◌}
use Rattle.card_reader.proofs.line.is_skipped.Goals as goal

pub returns-then-is_comment : goal.returns-then-is_comment
unfolding is_skipped
returns-then-is_comment c =
    let line = c.args.line.now in
    c.if-is_comment.true ∙ sym (ap (λ t. t || is_blank_line current line) (sym c.is_comment.ensures ∙ c.if-is_comment.true))

pub returns-else-is_comment : goal.returns-else-is_comment
unfolding is_skipped
returns-else-is_comment c =
    let line = c.args.line.now in
    c.is_blank_line.ensures ∙ sym (ap (λ t. t || is_blank_line current line) (sym c.is_comment.ensures ∙ c.if-is_comment.false))
