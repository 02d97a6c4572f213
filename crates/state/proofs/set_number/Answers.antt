-- `state::set_number` meets its contract.
use mathlib.Core.Path.{ap}
use Prim.Native.Nat.{◌+◌}
use lib.ListN.{set}
use Rattle.state.proofs.set_number.Goals as goal

pub returns : goal.returns
returns c = ap (set c.args.state.now (21 + c.args.place)) c.biased.ensures
