-- `card_reader::line::is_blank_line` answers whether columns 1 to 72 are blank.
use Rattle.std.proofs.Common.{rules, tests}
use Rattle.std.proofs.lemmas.Iterator.{YieldsList-from_slice}
use Rattle.std.proofs.lemmas.Iterator.Search.{all_from_yields_List}
use Rattle.base.specs.Current.{current}
use Rattle.base.specs.Lists.{all}
use Rattle.cards.specs.Bytes.{is_blank}
use Rattle.cards.specs.Cards.{is_blank_line}
use Rattle.card_reader.proofs.Lines.{all-listed}
use mathlib.Core.Path.{ap, ◌∙◌}
use Rattle.card_reader.proofs.line.is_blank_line.Goals as goal

pub returns : goal.returns
unfolding is_blank_line current
returns c =
    let bytes = c.front.result.now in
    all_from_yields_List is_blank _ _ _ c.all.ensures.ran (YieldsList-from_slice bytes (cc)) (λ x b q k. search (rules, tests))
    ∙ all-listed is_blank bytes
    ∙ ap (all is_blank) c.front.ensures
