-- `register_reading::line_length` tells how many bytes stand before the zeros at the end of a slot.
use Rattle.std.proofs.Common.{◌-◌, length, subst, sym, ap, arith}
use Rattle.std.proofs.lemmas.List.Sums.{suffix_len-le-length}
use Rattle.base.specs.Lists.{is_zero}
use Rattle.register_reading.specs.Reading.{Trimmed}
use Rattle.register_reading.specs.SlotLaws.{trim_lem}
use Rattle.register_reading.proofs.line_length.Goals as goal

pub overflow_sub-result : goal.overflow_sub-result
overflow_sub-result c = omega (arith, suffix_len-le-length is_zero c.args.slot.now, c.zeros_behind.ensures)

pub returns : goal.returns
returns c =
    let slot = c.args.slot.now in
    subst (Trimmed slot) (ap (λ n. length slot - n) (sym c.zeros_behind.ensures)) (trim_lem slot)
