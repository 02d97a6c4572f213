-- `card_reader::Joining::add_line` adds a line.
use Rattle.card_reader.proofs.Parts.{added, text_fits}
use Rattle.card_reader.specs.Packs.{longest_text}
use native.Mathlib.Omega.{arith}
use Rattle.card_reader.proofs.Joining.add_line.Goals as goal

pub pack-packing-requires : goal.pack-packing-requires
pack-packing-requires c =
    let a = c.args in
    let text = c.text_of in
    record {
      size = c.requires.size;
      room = text_fits a.line.now text.result.now a.self.packing.length longest_text text.ensures (omega arith);
    }

pub returns : goal.returns
returns c =
    let a = c.args in
    added a.line.now a.next a.text.now a.self c.pack-packing.new.text c.pack-packing.result
    c.sound_line.result c.joins.result c.column9-mark.result c.text_of.result.now
    c.sound_line.ensures c.column9-mark.ensures c.joins.ensures c.text_of.ensures
    c.pack-packing.ensures
