-- `card_reader::packed::Packing::pack` packs the bytes. The invariant: what is left leads to the same.
use Rattle.card_reader.proofs.Packing.{going_done, going_more, going_start}
use native.Mathlib.Omega.{arith}
use Rattle.card_reader.proofs.packed.Packing.pack.Goals as goal

pub loop-b-init : goal.loop-b-init
loop-b-init c = let a = c.args in going_start a.part.now a.text.now a.self

pub loop-b-preserved : goal.loop-b-preserved
loop-b-preserved c =
    let a = c.args in
    let l = c.loop-b in
    going_more a.part.now a.text.now a.self l.text l.s l.b-index l.invariant
    c.step-s.result (omega arith) (omega arith) c.step-s.ensures

pub returns : goal.returns
returns c =
    let a = c.args in
    let l = c.loop-b in
    going_done a.part.now a.text.now a.self l.text l.s l.b-index l.invariant (omega arith)
