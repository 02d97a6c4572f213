-- `numbers::is_negative` meets its contract. The bits that are tested are those of the number.
use borrow.Author.Rules.{rules}
use mir.Syntax.{w64}
use mir.ValLaws.{to_z-of_z}
use Rattle.values.specs.Numbers.{is_negative}
use Rattle.numbers.proofs.is_negative.Goals as goal

pub returns : goal.returns
unfolding is_negative
returns c = rw (to_z-of_z w64 c.args.z.value (record { sfits = search rules }))
