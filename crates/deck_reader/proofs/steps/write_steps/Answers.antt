-- `deck_reader::steps::write_steps`: entry after entry. The invariant: the steps from here on are left to be written.
use mathlib.Core.Path.{refl, ap, ◌∙◌}
use native.Mathlib.Omega.{arith}
use Rattle.deck_reader.specs.Steps.{next_at}
use Rattle.deck_reader.specs.StepsLaws.{names_kept, ongoing_none, ongoing_small, ongoing_more, ongoing_ends}
use Rattle.deck_reader.proofs.steps.write_steps.Goals as goal

pub loop-p-init : goal.loop-p-init
loop-p-init c = (refl, (λ w. ongoing_none c.args.table.now w), refl)

pub write_entry-p-requires-clause-counts_small : goal.write_entry-p-requires-clause-counts_small
write_entry-p-requires-clause-counts_small c =
    let w = c.requires.deck_accepted in
    (ongoing_small (c.loop-p.invariant.1 w) w.fits c.loop-p-test.true c.args.deck.short, c.loop-p-test.true)

pub loop-p-smaller : goal.loop-p-smaller
loop-p-smaller c =
    let w = c.requires.deck_accepted in
    let i = c.loop-p.invariant in
    let m = ongoing_more (i.1 w) (names_kept w.names i.0) c.write_entry-p.ensures in omega (arith, m.1, (i.1 w).inside, m.0.inside)

pub loop-p-preserved : goal.loop-p-preserved
loop-p-preserved c =
    let i = c.loop-p.invariant in
    let e = c.write_entry-p.ensures in (
      e.kept ∙ ap (λ k. next_at k c.write_entry-p.new.known.next) i.0,
      (λ w. (ongoing_more (i.1 w) (names_kept w.names i.0) e).0),
      c.write_entry-p.auto.table ∙ i.2,
    )

pub returns : goal.returns
returns c =
    let i = c.loop-p.invariant in
    record { kept = i.0; written = λ w. ongoing_ends (i.1 w) (omega (arith, c.loop-p-test.false)) }
