-- `branch_parser::tests::comparison` finds the sign at a place: the first of the table that stands there.
use denote.Ref.{Bor}
use Rattle.std.proofs.Common.{Option, Some, None, Bool, true, false, cond, List, [], ◌∷◌, ℕ, ◌≤◌, length, drop, ◌≡◌, refl, sym, ap, ◌∙◌}
use Rattle.std.proofs.Common.{option_map, subst, arith, rules, length-drop, drop-drop}
use Rattle.std.specs.List.{find}
use Rattle.std.proofs.lemmas.Iterator.{YieldsList-from_slice}
use Rattle.std.proofs.lemmas.Iterator.Search.{find_from_yields_List}
use Rattle.base.specs.Lists.{begins}
use Rattle.base.specs.ListLaws.{begins_room}
use Rattle.base.specs.Text.{bytes}
use Rattle.syntax.specs.Numeric as Numeric
use Rattle.syntax.specs.Program as Program
use Rattle.syntax.specs.Parsing.{Parsed, broken, succeed}
use Rattle.numbers.specs.Numbers.{comparison_meaning}
use Rattle.numbers.specs.declared.Comparison.{Comparison}
use Rattle.branch_parser.specs.Tests.{ComparisonAt}
use Rattle.branch_parser.proofs.tests.comparison.Goals.{After-find}
use Rattle.branch_parser.proofs.tests.comparison.Goals as goal

-- an entry of the table: a sign with what it says
abbrev Entry : Type 0
Entry = Bor (List ℕ) × Comparison

module _ (bs : List ℕ) where
  abbrev here : Entry → Bool
  here e = begins e.0.now bs

  -- the entries tried one after the other
  abbrev first_of : List Entry → Parsed Program.Comparison
  first_of [] = broken
  first_of (e ∷ es) = elim (here e) [ true ↦ succeed (comparison_meaning e.1) (drop (length e.0.now) bs) | false ↦ first_of es ]

  -- a reading is that of the entry found, which has a byte at least
  abbrev ReadBy : Parsed Program.Comparison → Option Entry → Type 0
  ReadBy x (Some e) =
      (here e ≡ true) × (x ≡ succeed (comparison_meaning e.1) (drop (length e.0.now) bs)) × (1 ≤ length e.0.now)
  ReadBy x None = x ≡ broken

  abbrev named : List Entry → Type 0
  named [] = Unit {0}
  named (e ∷ es) = (1 ≤ length e.0.now) × named es

  read_case : (e : Entry) (es : List Entry) (b : Bool) → here e ≡ b → 1 ≤ length e.0.now → ReadBy (first_of es) (find here es)
      → ReadBy (elim b [ true ↦ succeed (comparison_meaning e.1) (drop (length e.0.now) bs) | false ↦ first_of es ]) (cond b (Some e) (find here es))
  read_case e es true h some a = (h, refl, some)
  read_case e es false h some a = a

  read_first : (es : List Entry) → named es → ReadBy (first_of es) (find here es)
  read_first [] n = refl
  read_first (e ∷ es) n = read_case e es (here e) refl n.0 (read_first es n.1)

  read_table : {t es : List Entry} → t ≡ es → named es → ReadBy (first_of es) (find here t)
  read_table {es = es} e n = subst (λ t. ReadBy (first_of es) (find here t)) (sym e) (read_first es n)

-- what the search of the table comes to
module _ (c : After-find) where
  abbrev bytes_left : List ℕ
  bytes_left = drop c.args.at c.args.text.now

  found : ReadBy bytes_left (Numeric.comparison bytes_left) (option_map (λ y. y.now) c.find.result)
  unfolding Numeric.comparison bytes
  found =
      subst (ReadBy bytes_left (Numeric.comparison bytes_left))
      (sym
      (find_from_yields_List (here bytes_left) _ _ c.find.result c.find.ensures.ran (YieldsList-from_slice {s = c.iter.result} _ refl)
      (λ x b q k. search (rules))))
      (read_table bytes_left c.iter.ensures.rest
      (omega arith, (omega arith, (omega arith, (omega arith, (omega arith, (omega arith, tt)))))))

pub returns-in_err-word : goal.returns-in_err-word
returns-in_err-word c =
    let a = c.args in
    let bs = drop a.at a.text.now in
    let lost =
    subst (λ (r : Option (Bor Entry)). ReadBy bs (Numeric.comparison bs) (option_map (λ y. y.now) r)) c.in_err-word.was
    (found (goal.at.returns-in_err-word c).After-find) in
    subst (λ r. ComparisonAt a.text.now a.at r) (sym c.from_residual.ensures) (record { answer = lost })

pub returns : goal.returns
returns c =
    let a = c.args in
    let bs = drop a.at a.text.now in
    let e = c.in_ok-word.field-0.now in
    let stands =
    subst (λ (r : Option (Bor Entry)). ReadBy bs (Numeric.comparison bs) (option_map (λ y. y.now) r)) c.in_ok-word.was
    (found (goal.at.returns c).After-find) in
    record {
      answer =
          record {
            is = stands.1 ∙ ap (succeed (comparison_meaning e.1)) (drop-drop (length e.0.now) a.at a.text.now);
            inside = omega (arith, stands.2, begins_room e.0.now bs stands.0, length-drop a.at a.text.now);
          };
    }
