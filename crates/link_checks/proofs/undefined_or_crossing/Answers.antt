-- `link_checks::undefined_or_crossing` goes over the uses.
use Rattle.std.proofs.Common.{◌∙◌, arith, length-take}
use Rattle.symbols.specs.declared.tags.Purpose.TheVariants.{Program}
use Rattle.link_checks.proofs.Losses.{lost_11}
use Rattle.link_checks.proofs.Slices.{triples_below}
use Rattle.link_checks.specs.Lost.{is_lost}
use Rattle.link_checks.proofs.undefined_or_crossing.Goals as goal

pub returns : goal.returns
returns c =
    let s = c.args.symbols.now in
    c.loses_any.ensures
    ∙ triples_below Program (λ u. is_lost s.known u.0.0 u.0.1 u.1) s.uses.keys s.uses.scopes s.uses.purposes s.uses.count
    (omega (arith, length-take s.uses.count s.uses.keys)) (omega (arith, length-take s.uses.count s.uses.scopes))
    (omega (arith, length-take s.uses.count s.uses.purposes))
    ∙ lost_11 s
