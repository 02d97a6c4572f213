-- `decoder::cell_at` meets its contract.
use Prim.Native.Nat.{◌+◌}
use lib.ListN.{get_or}
use Rattle.encoding.specs.TableReading.{cell_at}
use Rattle.decoder.proofs.cell_at.Goals as goal

pub returns : goal.returns
unfolding cell_at
returns c =
    let a = c.args in
    let values = c.number6.ensures.0 in
    record {
      same = λ i. record { kind = get_or a.t.now a.at 0; place = get_or a.t.now (a.at + 1) 0; value = values i };
      small = c.number6.ensures.1;
    }
