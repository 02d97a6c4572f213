-- `numbers::put_text` meets its contract. Its three parts are stored one behind the other.
use mathlib.Core.Path.{ap}
use Prim.Native.Nat.{ℕ}
use native.Mathlib.Omega.{arith}
use lib.ListN.{length, length-replicate}
use Rattle.values.specs.Conversion.{digits}
use Rattle.numbers.specs.Text.{filled_text}
use Rattle.numbers.proofs.Stores.{stored-behind}
use Rattle.numbers.proofs.Texts.{text_size_lem}
use Rattle.numbers.proofs.put_text.Goals as goal

pub put_run-from-requires : goal.put_run-from-requires
put_run-from-requires c =
    let size = text_size_lem c.args.m.value c.args.byte c.args.count in
    omega arith

pub put_digits-requires : goal.put_digits-requires
put_digits-requires c =
    let size = text_size_lem c.args.m.value c.args.byte c.args.count in
    let count = ap (λ (v : ℕ). length (digits v)) c.size.ensures in
    let run = length-replicate c.args.count c.args.byte in
    omega (arith, c.requires, c.put_run-from.ensures.ends, c.put_sign-start.ensures.ends)

pub returns : goal.returns
unfolding filled_text
returns c =
    let value = c.size.ensures in
    stored-behind c.put_sign-start.ensures
    (stored-behind c.put_run-from.ensures (rw value at c.put_digits.ensures))
