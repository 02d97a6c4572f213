-- `search::passed_word` passes only places where two of the word's bytes don't both stand or the bytes don't all agree. The invariant: so for k places.
use Rattle.search.proofs.Laws.{passes-more, passes-one}
use lib.ListN.{length}
use Prim.Native.Nat.{◌-◌, ◌<◌}
use mathlib.Core.Path.{refl}
use native.Mathlib.Omega.{arith}
use Rattle.search.proofs.passed_word.Goals as goal

pub returns-then-m-word : goal.returns-then-m-word
returns-then-m-word c =
    let p = c.requires in
    let s = c.loop-place in
    passes-more s.invariant.0 (omega arith) s.invariant.2 c.in-Some.ensures.passed

pub loop-place-preserved : goal.loop-place-preserved
loop-place-preserved c =
    let a = c.args in
    let p = c.requires in
    let s = c.loop-place in
    let found = c.in-Some.ensures in
    let inside = found.inside in
    let g = c.same_until-m.ensures in
    let differs : c.same_until-m.result < length a.word.now = omega (arith, g.inside, c.if-m-word.false) in (
      differs,
      omega (arith, inside),
      passes-one (length a.text.now - (length a.word.now - 1)) (omega arith) inside
          (passes-more s.invariant.0 (omega arith) s.invariant.2 found.passed) refl g differs,
    )

pub returns : goal.returns
returns c =
    let p = c.requires in
    let s = c.loop-place in
    passes-more s.invariant.0 (omega arith) s.invariant.2 c.in_default.ensures
