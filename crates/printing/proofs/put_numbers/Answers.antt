-- `printing::put_numbers` meets its contract: numbers and line end one behind the other.
use Rattle.base.specs.Text.{bytes}
use Rattle.cards.specs.Bytes.{newline}
use Rattle.printing.specs.PrintLaws.{put-behind}
use Rattle.printing.specs.Printing.{numbers_text}
use Rattle.printing.proofs.put_numbers.Goals as goal

pub returns : goal.returns
unfolding numbers_text bytes newline
returns c =
    put-behind c.put_number-first_end.ensures.put
    (put-behind c.put_number-second_end.ensures.put (put-behind c.put_number-third_end.ensures.put c.put.ensures))
