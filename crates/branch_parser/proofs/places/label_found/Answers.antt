-- `branch_parser::places::label_found` finds a label by its key.
use Rattle.std.proofs.Common.{◌==◌, ◌∙◌, rules}
use Rattle.std.proofs.lemmas.Iterator.{YieldsList-from_slice}
use Rattle.std.proofs.lemmas.Iterator.Search.{find_from_yields_List}
use Rattle.symbols.specs.declared.known.Label.{Label}
use Rattle.branch_parser.proofs.places.label_found.Goals as goal

pub returns : goal.returns
returns c =
    let a = c.args in
    c.copied.ensures
    ∙ find_from_yields_List (λ (l : Label). l.key == a.key) _ _ c.find.result c.find.ensures.ran (YieldsList-from_slice a.known.now.labels.items cc)
    (λ x b q k. search (rules))
