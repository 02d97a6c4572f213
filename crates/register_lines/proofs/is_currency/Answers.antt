-- `register_lines::is_currency` answers whether the bytes are three letters.
use Rattle.std.proofs.Common.{◌&&◌, sym, ap, ◌∙◌, eq-eqb, ne_eqb, length, rules, tests}
use Rattle.std.proofs.lemmas.Iterator.{YieldsList-from_slice}
use Rattle.std.proofs.lemmas.Iterator.Search.{all_from_yields_List}
use Rattle.base.specs.Lists.{all}
use Rattle.cards.specs.Bytes.{between, is_letter}
use Rattle.register.specs.Line.{is_currency}
use Rattle.register_lines.proofs.is_currency.Goals as goal

pub returns-then-v-eq-CURRENCY : goal.returns-then-v-eq-CURRENCY
unfolding is_currency is_letter between all
returns-then-v-eq-CURRENCY c =
    let v = c.args.v.now in
    all_from_yields_List is_letter _ _ _ c.all.ensures.ran (YieldsList-from_slice v cc) (λ x b q k. search (rules, tests))
    ∙ ap (λ t. t && all is_letter v) (sym (eq-eqb (length v) 3 c.if-v-eq-CURRENCY.true))

pub returns-else-v-eq-CURRENCY : goal.returns-else-v-eq-CURRENCY
unfolding is_currency
returns-else-v-eq-CURRENCY c = rw (ne_eqb (length c.args.v.now) 3 c.if-v-eq-CURRENCY.false)
