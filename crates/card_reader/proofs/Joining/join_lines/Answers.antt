-- `card_reader::Joining::join_lines` joins lines as long as one joins the next. The invariant: the lines joined make up the same entries.
use Rattle.card_reader.proofs.Parts.{chain_done, chain_more, chain_start, less_left}
use Rattle.card_reader.proofs.Joining.join_lines.Goals as goal

pub loop-s-init : goal.loop-s-init
loop-s-init c = let a = c.args in chain_start a.deck.now a.text.now a.self c.requires

pub join_line-s-requires : goal.join_line-s-requires
join_line-s-requires c = c.loop-s.invariant.room

pub loop-s-smaller : goal.loop-s-smaller
loop-s-smaller c =
    let l = c.loop-s in
    less_left c.args.deck.now l.text l.s c.join_line-s.new.text c.join_line-s.result
    c.loop-s-test.true c.join_line-s.ensures

pub loop-s-preserved : goal.loop-s-preserved
loop-s-preserved c =
    let a = c.args in
    let l = c.loop-s in
    chain_more a.deck.now l.text l.s a.text.now a.self l.invariant c.join_line-s.new.text c.join_line-s.result
    c.loop-s-test.true c.join_line-s.ensures

pub returns : goal.returns
returns c =
    let a = c.args in
    let l = c.loop-s in
    chain_done a.deck.now l.text l.s a.text.now a.self l.invariant c.loop-s-test.false
