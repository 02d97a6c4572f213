-- `card_reader::gather` reads an entry.
use Prim.Native.Nat.{◌+◌, ◌-◌}
use Rattle.card_reader.proofs.Packing.{outside_told}
use Rattle.card_reader.proofs.Parts.{adding, gathers_skipped, gathers_statement, room_added, room_nothing}
use Rattle.card_reader.specs.Gathering.{LineAdded, LineAddable, nothing_from}
use Rattle.card_reader.specs.declared.Joining.{Joining}
use lib.ListN.{take, drop}
use mathlib.Core.Path.{subst, sym, ◌∙◌}
use Rattle.card_reader.proofs.gather.Goals as goal

pub returns-then-is_skipped : goal.returns-then-is_skipped
returns-then-is_skipped c =
    let a = c.args in
    gathers_skipped a.deck.now a.from a.text.now c.requires c.line_end-end.result c.line_end-end.ensures
    (sym c.is_skipped.ensures ∙ c.if-is_skipped.true) c.sound_line.result c.sound_line.ensures

pub add_line-first-requires : goal.add_line-first-requires
add_line-first-requires c =
    let end = c.line_end-end in
    let a = c.args in
    let line = take (end.result - a.from) (drop a.from a.deck.now) in
    let room = room_nothing a.deck.now a.from a.text.now c.requires in
    subst (λ (s : Joining). LineAddable line (end.result + 1) a.text.now s) (sym c.nothing.ensures)
    (adding a.deck.now a.text.now (nothing_from a.from) room end.result end.ensures)

pub join_lines-s-requires : goal.join_lines-s-requires
join_lines-s-requires c =
    let add = c.add_line-first in
    let end = c.line_end-end in
    let a = c.args in
    let line = take (end.result - a.from) (drop a.from a.deck.now) in
    let added =
    subst (λ (s : Joining). LineAdded line (end.result + 1) a.text.now s add.new.text add.result)
    c.nothing.ensures add.ensures in
    let room = room_nothing a.deck.now a.from a.text.now c.requires in
    room_added a.deck.now a.text.now (nothing_from a.from) room end.result end.ensures
    add.new.text add.result added

pub returns : goal.returns
returns c =
    let s = c.join_lines-s in
    let add = c.add_line-first in
    let end = c.line_end-end in
    let a = c.args in
    let line = take (end.result - a.from) (drop a.from a.deck.now) in
    let added =
    subst (λ (s : Joining). LineAdded line (end.result + 1) a.text.now s add.new.text add.result)
    c.nothing.ensures add.ensures in
    gathers_statement a.deck.now a.from a.text.now c.requires end.result end.ensures
    (sym c.is_skipped.ensures ∙ c.if-is_skipped.false) c.key_of-label.result c.key_of-label.ensures
    add.new.text add.result added
    s.new.text s.result s.ensures c.eq.result (c.eq.ensures ∙ outside_told s.result.packing.place)
