-- `state::numbers_keep` meets its contract.
use Rattle.std.proofs.Common.{rules, tests, ◌∙◌, take, drop}
use Rattle.std.proofs.lemmas.Iterator.{YieldsList-from_slice}
use Rattle.std.proofs.lemmas.Iterator.Search.{all_from_yields_List}
use Rattle.base.specs.Current.{current}
use Rattle.encoding.specs.Numerals.{unbiased}
use Rattle.values.specs.Numbers.{is_in_range}
use Rattle.state.specs.KeepLaws.{numbers-all}
use Rattle.state.proofs.numbers_keep.Goals as goal

pub returns : goal.returns
returns c =
    let state = c.args.state.now in
    all_from_yields_List (λ n. is_in_range current (unbiased n)) _ _ c.all.result c.all.ensures.ran
    (YieldsList-from_slice (take 32 (drop 21 state)) (cc)) (λ x b q k. search (rules, tests))
    ∙ numbers-all state
