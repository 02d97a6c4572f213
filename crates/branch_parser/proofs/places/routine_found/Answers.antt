-- `branch_parser::places::routine_found` finds the latest routine by its key.
use Rattle.std.proofs.Common.{◌==◌, ◌∙◌, rules}
use Rattle.std.proofs.lemmas.Iterator.Adapters.{YieldsList-from_rev_slice}
use Rattle.std.proofs.lemmas.Iterator.Search.{find_from_yields_List}
use Rattle.symbols.specs.declared.known.Routine.{Routine}
use Rattle.branch_parser.proofs.places.routine_found.Goals as goal

pub returns : goal.returns
returns c =
    let a = c.args in
    c.copied.ensures
    ∙ find_from_yields_List (λ (r : Routine). r.key == a.key) _ _ c.find.result c.find.ensures.ran
    (YieldsList-from_rev_slice a.known.now.routines.items cc) (λ x b q k. search (rules))
