-- `decoder::element_of` meets its contract. The ends of a literal are far below 2 ^ 64.
use borrow.Author.Rules.{rules}
use native.Mathlib.Omega.{arith}
use Rattle.encoding.specs.TableReading.{range_from, range_count}
use Rattle.encoding.specs.Meaning.{cell_meaning}
use Rattle.decoder.proofs.Cells.{literal_element, text_element, numbered_text_element, part_element}
use Rattle.decoder.proofs.element_of.Goals as goal

pub overflow_add-result : goal.overflow_add-result
unfolding range_from range_count
overflow_add-result c = omega arith

pub overflow_add-result-in-80 : goal.overflow_add-result-in-80
unfolding range_from range_count
overflow_add-result-in-80 c = omega arith

pub overflow_add-result-in-80-2 : goal.overflow_add-result-in-80-2
unfolding range_from range_count
overflow_add-result-in-80-2 c = omega arith

pub returns-in-80 : goal.returns-in-80
returns-in-80 c t =
    let stretch = c.stretch_of-s in
    let kind = c.in-80.is in
    literal_element (cell_meaning c.args.c) t stretch.result kind stretch.ensures

pub returns-in-81 : goal.returns-in-81
returns-in-81 c t = text_element (cell_meaning c.args.c) t c.unbiased.result c.in-81.is c.unbiased.ensures

pub returns-in-82 : goal.returns-in-82
returns-in-82 c t = numbered_text_element (cell_meaning c.args.c) t c.in-82.is

pub returns-in_default : goal.returns-in_default
returns-in_default c t =
    part_element (cell_meaning c.args.c) t c.part_of.result (search rules) (search rules) (search rules)
    c.part_of.ensures
