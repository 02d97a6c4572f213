-- `replace_bench::replace_at` meets its contract: each of its tests is one of the definition, and the stretch lies where the definition has it.
use mathlib.Core.Path.{◌≡◌, ap, sym, ◌∙◌}
use Prim.Native.Nat.{ℕ, ◌+◌, ◌-◌, min}
use native.Mathlib.Omega.{arith}
use Rattle.encoding.specs.BufferLaws.{store_with}
use Rattle.store.specs.Clauses.{string_of, string_replaced}
use Rattle.replace_bench.specs.ReplacementLaws.{at_kept_full, at_kept_short, at_replaced}
use Rattle.replace_bench.specs.Replacements.{place_in}
use Rattle.replace_bench.proofs.replace_at.Goals as goal
use Rattle.replace_bench.proofs.replace_at.Goals.{then-n-old-via-then-n-old, then-n-old-via-else-n-old+then-old-n-gt-LONGEST}

pub returns-then-n-old : goal.returns-then-n-old
returns-then-n-old c =
    let a = c.args in
    let old = c.string_length-old.ensures.0 in
    elim c.then-n-old.branch [
      | then-n-old-via-then-n-old w ↦ sym (at_kept_short a.store.now a.place a.from a.n a.v.now (omega (arith, old, w.if-n-old.true)))
      | then-n-old-via-else-n-old+then-old-n-gt-LONGEST w ↦
          sym (at_kept_full a.store.now a.place a.from a.n a.v.now (omega (arith, old, w.if-n-old.false))
          (omega (arith, old, w.if-old-n-gt-LONGEST.true)))
    ]

pub returns : goal.returns
returns c =
    let a = c.args in
    let s = string_of a.store.now a.place in
    let old = c.string_length-old.ensures.0 in
    let at : c.min-at.result ≡ place_in s a.from a.n = c.min-at.ensures ∙ ap (λ (o : ℕ). min a.from (o - a.n)) old in
    c.replace.ensures
    ∙ ap (λ (i : ℕ). store_with a.store.now a.place (string_replaced s i (i + a.n) a.v.now)) at
    ∙ sym (at_replaced a.store.now a.place a.from a.n a.v.now (omega (arith, old, c.if-n-old.false))
    (omega (arith, old, c.if-old-n-gt-LONGEST.false)))
