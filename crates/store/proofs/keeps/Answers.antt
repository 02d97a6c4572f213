-- `store::keeps` meets its contract.
use mathlib.Core.Path.{refl, sym, ◌∙◌}
use Prim.Native.Nat.{◌*◌}
use borrow.Author.Rules.{rules}
use borrow.Author.Tests.{tests}
use Rattle.std.proofs.lemmas.Iterator.{YieldsList-from_range}
use Rattle.std.proofs.lemmas.Iterator.Search.{all_from_yields_List}
use Rattle.encoding.specs.Buffers.{cell_keeps}
use Rattle.store.specs.CellLaws.{keeps_small, keeps_cells, cells-listed}
use Rattle.store.proofs.keeps.Goals as goal

pub returns-then-store-lt-STORE_SIZE : goal.returns-then-store-lt-STORE_SIZE
returns-then-store-lt-STORE_SIZE c = sym (keeps_small c.args.store.now c.if-store-lt-STORE_SIZE.true)

pub returns : goal.returns
returns c =
    let s = c.args.store.now in
    all_from_yields_List (λ place. cell_keeps s (1026 * place)) _ _ c.all.result c.all.ensures.ran (YieldsList-from_range 0 32 32 refl refl)
    (λ x b q k. search (rules, tests))
    ∙ cells-listed s 0 32
    ∙ sym (keeps_cells s c.if-store-lt-STORE_SIZE.false)
