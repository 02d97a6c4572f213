-- `store::spans::are_zero` meets its contract: all the bytes together are zero where each is.
use Rattle.std.proofs.Common.{rules, ◌∙◌, ap, ℕ}
use Rattle.std.proofs.lemmas.Iterator.{YieldsList-from_slice}
use Rattle.std.proofs.lemmas.Iterator.Consumers.{fold_from_yields_List}
use Rattle.std.specs.Int.Bits.{bit_or}
use lib.Dec.{eqb}
use Rattle.store.specs.SpanLaws.{zeros-folded}
use Rattle.store.proofs.spans.are_zero.Goals as goal

pub returns : goal.returns
returns c =
    let s = c.args.s.now in
    ap (λ (n : ℕ). eqb n 0)
    (fold_from_yields_List _ bit_or 0 c.fold.result c.fold.ensures.ran (YieldsList-from_slice s cc) (λ t x b q k. search rules))
    ∙ zeros-folded s 0
