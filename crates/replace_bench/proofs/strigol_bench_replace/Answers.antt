-- `replace_bench::strigol_bench_replace` meets its contract: one more turn is one more replacement.
use mathlib.Core.Path.{◌≡◌, refl, ap, sym, subst, ◌∙◌}
use mathlib.Core.List.{List}
use Prim.Native.Nat.{ℕ, ◌%◌}
use native.Mathlib.Omega.{arith}
use Rattle.encoding.specs.BufferLaws.{StoreGood, keeps_good}
use Rattle.replace_bench.specs.ReplacementLaws.{bad_stays, good_replaced, once_more, times_good}
use Rattle.replace_bench.specs.Replacements.{replaced_at, replaced_times}
use Rattle.replace_bench.proofs.strigol_bench_replace.Goals as goal

pub returns-then-not-keeps : goal.returns-then-not-keeps
returns-then-not-keeps c =
    let a = c.args in
    sym (bad_stays a.store.now a.from a.n a.v.now a.times (sym c.keeps.ensures ∙ c.if-not-keeps.true))

pub loop-i-init : goal.loop-i-init
unfolding replaced_times
loop-i-init c = refl

pub replace_at-requires-clause-store_good : goal.replace_at-requires-clause-store_good
replace_at-requires-clause-store_good c =
    let a = c.args in
    let l = c.loop-i in
    subst StoreGood (sym l.invariant)
    (times_good a.store.now a.from a.n a.v.now l.i (keeps_good a.store.now (sym c.keeps.ensures ∙ c.if-not-keeps.false)))

pub loop-i-preserved : goal.loop-i-preserved
loop-i-preserved c =
    let a = c.args in
    let l = c.loop-i in
    c.replace_at.ensures
    ∙ ap (λ (s : List ℕ). replaced_at s (l.i % 32) a.from a.n a.v.now) l.invariant
    ∙ sym (once_more a.store.now a.from a.n a.v.now l.i)

pub returns : goal.returns
returns c =
    let a = c.args in
    let l = c.loop-i in
    let all : l.i ≡ a.times = omega arith in
    l.invariant
    ∙ ap (replaced_times a.store.now a.from a.n a.v.now) all
    ∙ sym (good_replaced a.store.now a.from a.n a.v.now a.times (sym c.keeps.ensures ∙ c.if-not-keeps.false))
