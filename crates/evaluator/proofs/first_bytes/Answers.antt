-- `evaluator::first_bytes` meets its contract. Each way a substring may go is a case of the definition.
use mathlib.Core.List.{List}
use mathlib.Core.Path.{◌≡◌, sym, ap, ap₂, ◌∙◌}
use Prim.Native.Nat.{ℕ}
use native.Mathlib.Omega.{arith}
use lib.IntN.{nat_abs}
use lib.ListN.{length, take}
use native.Mathlib.Nat.{min-le_right}
use Rattle.std.proofs.Common.{length-take}
use Rattle.store.specs.Clauses.{string_of}
use Rattle.values.specs.Conversion.{substring}
use Rattle.std.proofs.lemmas.List.{take_min}
use Rattle.evaluator.proofs.first_bytes.Goals as goal

pub returns-in-Some : goal.returns-in-Some
unfolding substring
returns-in-Some c =
    let string = c.string-string.result.now in
    let natural = c.in-Some.ensures in
    let cut : take c.min.result string ≡ take (nat_abs c.args.n.value) (string_of c.args.memory.store.now c.args.place) =
    ap (λ (i : ℕ). take i string) c.min.ensures
    ∙ take_min c.in-Some.most string
    ∙ ap₂ (λ (i : ℕ) (l : List ℕ). take i l) natural.1 c.string-string.ensures.0 in
    let short = c.string-string.ensures.1 in
    rw c.plain.ensures
    (record {
      work = rw (natural.0, sym cut);
      short = omega (arith, length-take c.min.result string, min-le_right c.min.result (length string), short);
    })

pub returns-in-None : goal.returns-in-None
unfolding substring
returns-in-None c = record { work = rw c.in-None.ensures; short = omega arith }
