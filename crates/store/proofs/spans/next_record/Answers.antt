-- `store::spans::next_record` meets its contract.
use Rattle.store.specs.SpanLaws.{record_next}
use Rattle.store.proofs.spans.next_record.Goals as goal

pub returns : goal.returns
returns c =
    let a = c.args in
    record_next a.input.now a.from c.next_byte.result c.next_byte.ensures
