-- `deck_reader::write_table`: the steps, then the header with their counts.
use Rattle.deck_reader.specs.Reading.{table-written}
use Rattle.deck_reader.proofs.write_table.Goals as goal

pub returns : goal.returns
returns c =
    table-written c.write_steps-p.ensures (rw (c.len.ensures.value, c.len-2.ensures.value) at c.put_header.ensures)
