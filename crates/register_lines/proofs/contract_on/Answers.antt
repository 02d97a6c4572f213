-- `register_lines::contract_on` tells how long the contract is that a line begins with, where it is 1 to 8.
use Rattle.std.proofs.Common.{◌≡◌, rules}
use Rattle.cards.specs.Bytes.{between}
use Rattle.register_lines.specs.FieldLaws.{contract_told}
use Rattle.register_lines.proofs.contract_on.Goals as goal

pub returns : goal.returns
unfolding between
returns c =
    let n = c.contract_length-n in
    let fits : c.contains.result ≡ between 1 8 n.result = search rules in
    rw c.then_some.ensures (contract_told c.args.line.now n.result n.ensures c.contains.result fits)
