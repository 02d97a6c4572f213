-- `statement_parser::steps::sets_number` looks a name up.
use Rattle.std.proofs.Common.{Bool, ◌&&◌, [], ◌∷◌, ◌≡◌, sym, ap, subst, ◌∙◌, ◌+◌, drop, arith}
use Rattle.base.specs.Lists.{begins}
use Rattle.lexer.specs.Places.{NameAt}
use Rattle.lexer.specs.Laws.{name_counted}
use Rattle.statement_parser.specs.BehindLaws.{sets_is}
use Rattle.statement_parser.specs.Steps.{SetsNumber}
use Rattle.statement_parser.proofs.steps.sets_number.Goals.{After-unwrap_or-n, After-has_number}
use Rattle.statement_parser.proofs.steps.sets_number.Goals as goal

-- so many bytes are the name
module _ (c : After-unwrap_or-n) where
  name : NameAt c.args.text.now c.args.at c.unwrap_or-n.result
  name =
      subst (NameAt c.args.text.now c.args.at) (sym c.unwrap_or-n.ensures) (name_counted c.name_length.result c.name_length.ensures)

-- what is answered, by whether it is known
module _ (c : After-has_number) (n : NameAt c.args.text.now c.args.at c.unwrap_or-n.result) where
  answered : {b r : Bool} → c.has_number.result ≡ b → r ≡ (b && begins (61 ∷ []) (drop (c.args.at + c.unwrap_or-n.result) c.args.text.now))
      → SetsNumber c.args.text.now c.args.known.now c.args.at r
  answered e h =
      let is = sets_is c.args.known.now n c.key_of.ensures in
      h
      ∙ sym
      (is ∙ ap (λ b. b && begins (61 ∷ []) (drop (c.args.at + c.unwrap_or-n.result) c.args.text.now)) (sym c.has_number.ensures ∙ e))

pub key_of-requires : goal.key_of-requires
key_of-requires c =
    let n = name (goal.at.key_of-requires c).After-unwrap_or-n in
    record { is = n.is; inside = omega (arith, n.inside, c.requires) }

pub returns-then-has_number : goal.returns-then-has_number
returns-then-has_number c =
    let at = goal.at.returns-then-has_number c in
    answered at.After-has_number (name at.After-unwrap_or-n) c.if-has_number.true c.stands_at.ensures

pub returns-else-has_number : goal.returns-else-has_number
returns-else-has_number c =
    let at = goal.at.returns-else-has_number c in
    answered at.After-has_number (name at.After-unwrap_or-n) c.if-has_number.false c.if-has_number.false
