-- `store::start_store` meets its contract.
use Rattle.store.specs.CellLaws.{start_small, start_large}
use Rattle.store.proofs.start_store.Goals as goal

pub returns-then-store-lt-STORE_SIZE : goal.returns-then-store-lt-STORE_SIZE
returns-then-store-lt-STORE_SIZE c = start_small c.args.store.now c.if-store-lt-STORE_SIZE.true

pub returns : goal.returns
returns c =
    let a = c.args in
    start_large a.store.now c.clear.new.store c.if-store-lt-STORE_SIZE.false c.clear.ensures
