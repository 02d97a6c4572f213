-- `classes::class_of` answers the number of the class: the table is what its rule computes.
use Rattle.base.specs.Lists.{among}
use Rattle.base.specs.Text.{bytes}
use Rattle.cards.specs.Bytes.{between, marks, is_letter, is_digit, is_blank, class_of}
use Rattle.classes.specs.Laws.{values, table_class}
use Rattle.classes.specs.Numbers.{class_number}
use borrow.Author.Rules.{rules}
use Rattle.classes.proofs.class_of.Goals as goal

pub returns : goal.returns
unfolding values between marks is_letter is_digit is_blank class_of class_number among bytes
returns c = table_class c.args.b (search rules)
