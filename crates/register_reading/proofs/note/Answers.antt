-- `register_reading::note` meets its contract: a key without a mark is none of those noted.
use Rattle.std.proofs.Common.{◌≡◌, ◌∙◌, ap, sym, false, arith}
use Rattle.std.specs.List.{fold}
use Rattle.base.specs.Lists.{among}
use Rattle.register_reading.specs.KeyLaws.{among-fold, declined, noted, unmarked}
use Rattle.register_reading.proofs.note.Goals as goal

pub returns-then-is_among : goal.returns-then-is_among
returns-then-is_among c =
    let a = c.args in
    declined a.keys.now.items a.key a.keys.now.items a.marks.now
    (sym (among-fold a.key a.keys.now.items) ∙ ap (fold _ false) (sym c.as_slice.ensures.value) ∙ sym c.is_among.ensures ∙ c.if-is_among.true)

pub returns : goal.returns
returns c =
    let a = c.args in
    let pre = c.requires in
    let same = among-fold a.key a.keys.now.items in
    let none : among a.key a.keys.now.items ≡ false = grind (arith, unmarked a.keys.now.items a.marks.now a.key pre.0, same) in
    noted a.keys.now.items a.marks.now a.key pre.0 c.push.new.self.items c.push.ensures.items none
