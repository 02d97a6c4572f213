-- `deck_reader::steps::write_entry`: the entry that the card reader gathers.
use native.Mathlib.Omega.{arith}
use Rattle.deck_reader.specs.StepsLaws.{gathered_steps, gathered_writable}
use Rattle.deck_reader.proofs.steps.write_entry.Goals as goal

pub write_gathered-written-requires-clause-counts_small : goal.write_gathered-written-requires-clause-counts_small
write_gathered-written-requires-clause-counts_small c = (c.requires.counts_small.0, gathered_writable c.gather-e.ensures c.args.deck.short)

pub overflow_add-result : goal.overflow_add-result
overflow_add-result c =
    let g = c.gather-e.ensures in
    omega (arith, c.requires.counts_small.0.card, g.paced, g.inside, c.args.deck.short)

pub returns : goal.returns
returns c = gathered_steps c.gather-e.ensures c.write_gathered-written.ensures
