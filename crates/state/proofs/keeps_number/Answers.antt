-- `state::keeps_number` meets its contract.
use Rattle.std.proofs.Common.{rules, ◌≡◌, ◌∙◌, ◌&&◌, leb}
use Rattle.encoding.specs.NumeralLaws.{lowest, highest}
use Rattle.state.specs.KeepLaws.{number_between}
use Rattle.state.proofs.keeps_number.Goals as goal

pub returns : goal.returns
returns c =
    let n = c.args.n in
    let between : c.contains.result ≡ (leb lowest n && leb n highest) = search rules in
    between ∙ number_between n
