-- `putting::put_row` writes a kind and two numbers.
use Prim.Native.Nat.{◌*◌}
use Rattle.scan_statement.proofs.Bytes.{put_rows}
use lib.ListN.{length-set}
use native.Mathlib.Omega.{arith}
use Rattle.scan_statement.proofs.putting.put_row.Goals as goal

pub put4-requires : goal.put4-requires
put4-requires c = (simp length-set (omega (arith, c.requires.i_in_bounds)), c.requires.a_bound.0)

pub put4-requires-2 : goal.put4-requires-2
put4-requires-2 c =
    (omega (arith, c.put4.ensures.size, length-set c.args.rows.now (12 * c.args.i) c.args.kind, c.requires.i_in_bounds), c.requires.a_bound.1)

pub returns : goal.returns
returns c =
    let a = c.args in
    put_rows a.rows.now a.i a.kind a.a a.b c.put4.new.rows c.put4-2.new.rows c.requires.i_in_bounds.0 c.put4.ensures c.put4-2.ensures
