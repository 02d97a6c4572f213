-- `deck_reader::steps::write_gathered`: nothing, or the step of a statement.
use Prim.Native.Nat.{◌+◌}
use mathlib.Core.Path.{◌≡◌, refl, sym, subst, ◌∙◌}
use native.Mathlib.Omega.{arith}
use lib.ListN.{take}
use lib.Seq.{length-take-le}
use Rattle.card_reader.specs.declared.PackedStatement.{PackedStatement}
use Rattle.deck_reader.specs.Steps.{PackedWritten, next_at}
use Rattle.deck_reader.proofs.steps.write_gathered.Goals as goal

pub returns-in-None : goal.returns-in-None
returns-in-None c = record { skips = λ _. (refl, refl, refl, refl); writes = λ q is. absurd (cc (sym c.in-None.is ∙ is)) }

pub slice_bounds-write_packed-end : goal.slice_bounds-write_packed-end
slice_bounds-write_packed-end c =
    let q = c.in-Some.packed in sym (length-take-le q.length c.args.text.now (c.requires.counts_small.1 q c.in-Some.is).1)

pub write_packed-requires-clause-counts_small : goal.write_packed-requires-clause-counts_small
write_packed-requires-clause-counts_small c =
    let q = c.in-Some.packed in
    let w = c.requires.counts_small.1 q c.in-Some.is in
    (c.requires.counts_small.0, omega (arith, length-take-le q.length c.args.text.now w.1, w.0), w.2)

pub returns-in-Some : goal.returns-in-Some
returns-in-Some c =
    let a = c.args in
    let known = next_at a.known.now (a.p.steps + 1) in
    let w = c.write_packed in
    record {
      skips = λ t. absurd (cc (sym t ∙ c.in-Some.is));
      writes =
          λ q is.
          let same : c.in-Some.packed ≡ q = cc (sym c.in-Some.is ∙ is) in (
            refl,
            subst (λ (z : PackedStatement). PackedWritten (take z.length a.text.now) known z a.p a.table.now w.result w.new.table)
                same w.ensures,
          );
    }
