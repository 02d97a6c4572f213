-- `fillers::null_fillers` meets its contract. The invariant: making the fillers null that are left leaves the memory asked for.
use Rattle.std.proofs.Common.{ap, ◌∙◌}
use Rattle.effects.specs.FillerLaws.{nulls_none, nulls_more, nulls_all}
use Rattle.effects.specs.Fillers.{filler_of}
use Rattle.effects.proofs.fillers.null_fillers.Goals as goal

pub loop-at-init : goal.loop-at-init
loop-at-init c = nulls_none c.requires

pub loop-at-preserved : goal.loop-at-preserved
loop-at-preserved c =
    nulls_more c.loop-at.invariant c.loop-at-test.true
    (c.filler_of-s.ensures c.args.table.now ∙ ap filler_of c.pattern_at.ensures.means) c.set_named.ensures

pub returns : goal.returns
returns c = nulls_all c.loop-at.invariant c.loop-at-test.false
