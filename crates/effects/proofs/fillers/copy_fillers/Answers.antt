-- `fillers::copy_fillers` meets its contract. The invariant: copying the fillers that are left gives the strings asked for.
use Rattle.std.proofs.Common.{ap, ◌∙◌}
use Rattle.effects.specs.FillerLaws.{copies_all, copies_more, copies_none}
use Rattle.effects.specs.Fillers.{filler_of}
use Rattle.effects.proofs.fillers.copy_fillers.Goals as goal

pub loop-at-init : goal.loop-at-init
loop-at-init c = copies_none c.requires

pub loop-at-preserved : goal.loop-at-preserved
loop-at-preserved c =
    copies_more c.loop-at.invariant c.requires.source c.loop-at-test.true
    (c.filler_of-s.ensures c.args.table.now ∙ ap filler_of c.pattern_at.ensures.means) c.copy_named.ensures

pub returns : goal.returns
returns c = copies_all c.loop-at.invariant c.loop-at-test.false
