-- `decoder::part_of` meets its contract.
use Rattle.encoding.specs.Meaning.{cell_meaning}
use Rattle.decoder.proofs.Cells.{whole_part, constant_part, numbered_part, other_part_lem}
use Rattle.decoder.proofs.part_of.Goals as goal

pub returns-then-kind-first : goal.returns-then-kind-first
returns-then-kind-first c =
    let args = c.args in
    whole_part (cell_meaning args.c) args.first c.if-kind-first.true

pub returns-then-kind-first-2 : goal.returns-then-kind-first-2
returns-then-kind-first-2 c =
    let args = c.args in
    constant_part (cell_meaning args.c) args.first c.unbiased.result c.if-kind-first.false c.if-kind-first-2.true
    c.unbiased.ensures

pub returns-then-kind-first-3 : goal.returns-then-kind-first-3
returns-then-kind-first-3 c =
    let args = c.args in
    numbered_part (cell_meaning args.c) args.first c.if-kind-first.false c.if-kind-first-2.false c.if-kind-first-3.true

pub returns : goal.returns
returns c =
    let args = c.args in
    other_part_lem (cell_meaning args.c) args.first c.if-kind-first.false c.if-kind-first-2.false c.if-kind-first-3.false
