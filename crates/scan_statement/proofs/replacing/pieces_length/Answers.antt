-- `replacing::pieces_length` meets its contract: the sum is the total of the lengths.
use Rattle.std.proofs.Common.{rules, ◌≡◌, ◌<◌, ◌+◌, ◌-◌, ◌^◌, ◌∙◌, arith, ap, ℕ, take, drop}
use Rattle.std.proofs.iter.runs.Sources.{sums}
use Rattle.std.specs.Prelude.{sum}
use Rattle.effects.specs.Fillers.{lengths_in}
use Rattle.scan_statement.specs.SearchLaws.{sum_total}
use Rattle.scan_statement.proofs.replacing.pieces_length.Goals as goal

pub sum-sum-requires-clause-fits : goal.sum-sum-requires-clause-fits
sum-sum-requires-clause-fits c =
    let a = c.args in
    let same : 4 + a.count - 4 ≡ a.count = omega arith in
    let short : sum (take (4 + a.count - 4) (drop 4 a.answer.now)) < 2 ^ 32 =
    omega (arith, ap (λ (k : ℕ). sum (take k (drop 4 a.answer.now))) same, sum_total (lengths_in a.answer.now a.count), c.requires.short) in
    search (rules, sums)

pub returns : goal.returns
returns c =
    let a = c.args in
    let same : 4 + a.count - 4 ≡ a.count = omega arith in
    let summed : c.sum-sum.result ≡ sum (take (4 + a.count - 4) (drop 4 a.answer.now)) = search (rules, sums) in
    summed ∙ ap (λ (k : ℕ). sum (take k (drop 4 a.answer.now))) same ∙ sum_total (lengths_in a.answer.now a.count)
