-- `entries::Entries::first` cuts the names noted.
use Rattle.std.proofs.Common.{arith}
use Rattle.name_checks.specs.ShownLaws.{first_entries}
use Rattle.name_checks.proofs.entries.Entries.first.Goals as goal

pub returns : goal.returns
returns c =
    let a = c.args in
    first_entries a.mentioned.now a.count (omega arith)
