-- `numeric_parser::operands::behind_word` passes a word.
use Rattle.std.proofs.Common.{◌∙◌, arith, drop, length-drop, sym}
use Rattle.base.specs.ListLaws.{begins_room}
use Rattle.numeric_parser.proofs.operands.behind_word.Goals as goal

pub skip-requires : goal.skip-requires
skip-requires c =
    let a = c.args in
    let room = begins_room a.word.now (drop a.c.at a.text.now) (sym c.begins_at.ensures ∙ c.if-not-begins_at.false) in
    omega (arith, room, length-drop a.c.at a.text.now, c.requires)
