-- `search::next_byte` looks for a byte in what lies behind a place.
use Prim.Native.Nat.{◌-◌}
use lib.ListN.{length}
use native.Mathlib.Omega.{arith}
use Rattle.search.proofs.Laws.{byte_found, byte_missing}
use Rattle.search.proofs.next_byte.Goals as goal

pub returns-in-Some : goal.returns-in-Some
returns-in-Some c =
    let a = c.args in
    byte_found a.text.now a.byte a.from (length a.text.now - a.from) (omega arith) c.in-Some.ensures

pub returns-in-None : goal.returns-in-None
returns-in-None c =
    let a = c.args in
    byte_missing a.text.now a.byte a.from (length a.text.now - a.from) (omega arith) c.in-None.ensures
