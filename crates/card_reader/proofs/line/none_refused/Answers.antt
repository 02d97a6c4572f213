-- `card_reader::line::none_refused` answers whether no byte is refused.
use Rattle.std.proofs.Common.{rules, tests}
use Rattle.std.proofs.lemmas.Iterator.{YieldsList-from_slice}
use Rattle.std.proofs.lemmas.Iterator.Search.{all_from_yields_List}
use Rattle.card_reader.proofs.Lines.{is_kept, all-listed}
use mathlib.Core.Path.{◌∙◌}
use Rattle.card_reader.proofs.line.none_refused.Goals as goal

pub returns : goal.returns
returns c =
    let line = c.args.line.now in
    all_from_yields_List is_kept _ _ _ c.all.ensures.ran (YieldsList-from_slice line (cc)) (λ x b q k. search (rules, tests))
    ∙ all-listed is_kept line
