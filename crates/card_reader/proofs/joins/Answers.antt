-- `card_reader::joins` answers whether the byte joins the next line.
use Rattle.cards.specs.Bytes.{slash}
use Rattle.card_reader.specs.Lines.{joins}
use lib.Dec.{eqb}
use mathlib.Core.Bool.{not, ◌&&◌}
use mathlib.Core.Path.{ap, sym, ◌∙◌}
use Rattle.card_reader.proofs.joins.Goals as goal

pub returns-then-not-is_blank : goal.returns-then-not-is_blank
unfolding joins slash
returns-then-not-is_blank c =
    sym (ap (λ t. not t && not (eqb c.args.b 47)) (sym c.is_blank.ensures ∙ c.if-not-is_blank.true))

pub returns-else-not-is_blank : goal.returns-else-not-is_blank
unfolding joins slash
returns-else-not-is_blank c =
    ap not c.if-not-is_blank.false
    ∙ sym (ap (λ t. not t && not (eqb c.args.b 47)) (sym c.is_blank.ensures ∙ c.if-not-is_blank.false))
