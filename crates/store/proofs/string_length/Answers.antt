-- `store::string_length` meets its contract.
use mathlib.Core.Path.{◌≡◌, sym, ◌∙◌}
use Prim.Native.Nat.{◌*◌}
use lib.ListN.{length}
use Rattle.encoding.specs.BufferLaws.{good_short, number_two, string-count}
use Rattle.store.specs.Clauses.{string_of}
use native.Mathlib.Omega.{arith}
use Rattle.store.proofs.string_length.Goals as goal

pub returns : goal.returns
returns c =
    let a = c.args in
    let good = c.requires.store_good in
    let count : c.number2.result ≡ length (string_of a.store.now a.place) =
    c.number2.ensures.0
    ∙ number_two a.store.now (1026 * a.place)
    ∙ sym (string-count a.store.now good a.place c.requires.place_bound) in
    (count, omega (arith, count, good_short a.store.now good a.place))
