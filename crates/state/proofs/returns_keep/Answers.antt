-- `state::returns_keep` meets its contract.
use Rattle.std.proofs.Common.{rules, tests, ◌≡◌, ◌∙◌, ℕ, ◌+◌, ◌-◌, ltb, ap, arith, take, drop, get_or}
use Rattle.std.proofs.lemmas.Iterator.{YieldsList-from_slice}
use Rattle.std.proofs.lemmas.Iterator.Search.{all_from_yields_List}
use Rattle.base.specs.Lists.{all}
use Rattle.encoding.specs.Buffers.{returns_at, returns_in}
use Rattle.state.specs.KeepLaws.{all-list}
use Rattle.state.proofs.returns_keep.Goals as goal

pub returns : goal.returns
unfolding returns_in returns_at
returns c =
    let state = c.args.state.now in
    let test = λ (k : ℕ). ltb k c.args.steps in
    let held = take (5 + get_or state 2 0 - 5) (drop 5 state) in
    let count : 5 + get_or state 2 0 - 5 ≡ get_or state 2 0 = omega arith in
    all_from_yields_List test _ _ c.all.result c.all.ensures.ran (YieldsList-from_slice held (cc)) (λ x b q k. search (rules, tests))
    ∙ all-list test held
    ∙ ap (λ n. all test (take n (drop 5 state))) count
