-- `decoder::row_at` meets its contract.
use Prim.Native.Nat.{◌+◌}
use lib.ListN.{get_or}
use Rattle.encoding.specs.TableReading.{read_row_at}
use Rattle.decoder.proofs.row_at.Goals as goal

pub returns : goal.returns
unfolding read_row_at
returns c =
    let a = c.args in
    let successes = c.number2.ensures.0 in
    let failures = c.number2-2.ensures.0 in
    let left = c.cell_at.ensures in
    let right = c.cell_at-2.ensures in
    record {
      same =
          λ i.
          record {
            kind = get_or a.t.now a.at 0;
            flag = get_or a.t.now (a.at + 1) 0;
            success = successes i;
            failure = failures i;
            left = left.same i;
            right = right.same i;
          };
      small = record { left = left.small; right = right.small };
    }
