-- `register_report::put_total` meets its contract: the word, the currency behind it, and the numbers behind that.
use Rattle.std.proofs.Common.{◌∙◌, ◌++◌, ap, drop, subst, take}
use Rattle.base.specs.Text.{bytes}
use Rattle.printing.specs.PrintLaws.{put-behind}
use Rattle.printing.specs.Printing.{Put, numbers_text}
use Rattle.register_report.specs.CodeLaws.{word_put}
use Rattle.register_report.specs.SumLaws.{total-put}
use Rattle.register_report.proofs.put_total.Goals as goal

pub returns : goal.returns
unfolding bytes
returns c =
    let a = c.args in
    let word = ap (λ l. take 3 (drop 1 l)) c.to_be_bytes.ensures ∙ word_put a.code c.requires.0 in
    total-put a.code a.sums a.out.now _ a.at c.put_numbers.result
    (subst (λ w. Put a.out.now c.put_numbers.new.out a.at ((bytes "TOTAL," ++ w) ++ numbers_text a.sums.count a.sums.tonnes a.sums.value) c.put_numbers.result) word
    (put-behind (put-behind c.put-word_end.ensures c.put-currency_end.ensures) c.put_numbers.ensures))
