-- How a statement's step is written from what its reader says. Assumes nothing.
use Rattle.std.specs.Prelude.{Bool, true, false, ◌≡◌, refl, ℕ, ◌+◌}
use Rattle.std.proofs.Common.{true≢false, ◌∙◌}
use mathlib.Core.List.{List}
use Rattle.std.proofs.Math.Option.{Option, none}
use Rattle.std.proofs.Math.Path.{sym, ap, subst}
use Rattle.encoding.specs.Meaning.{row_meaning}
use Rattle.encoding.specs.declared.cells.Row.{Row}
use Rattle.encoding.specs.Table.{all_literals, statement_row}
use Rattle.statement_parser.specs.Clauses.{FormWritten, StepWritten, statement_items, elements_in}
use Rattle.syntax.specs.Program.{Statement}
use Rattle.syntax.specs.Parsing.{Mentions, Parsed, got, broken}
use Rattle.symbols.specs.Elements.{with_elements}
use Rattle.symbols.specs.Items.{with_items}
use Rattle.symbols.specs.declared.Cursor.{Cursor}
use Rattle.symbols.specs.declared.Mentioned.{Mentioned}
use Rattle.deck_reader.specs.Steps.{cursor_before, written_at, StepOrNoneWritten, stepped_by}
use Rattle.deck_reader.specs.Writing.{with_row, with_step, with_steps}
use Rattle.deck_reader.specs.declared.steps.Progress.{Progress}

-- what is got is the value, and not broken
value_in : Parsed (Option Statement) → Option Statement
value_in (got v m rest) = v
value_in broken = none

is_got : Parsed (Option Statement) → Bool
is_got (got v m rest) = true
is_got broken = false

same_value : {v w : Option Statement} {m n : Mentions} {a b : List ℕ} {x : Parsed (Option Statement)} → x ≡ got v m a → x ≡ got w n b → v ≡ w
unfolding value_in
same_value p q = ap value_in (sym p ∙ q)

pub not_broken : {v : Option Statement} {m : Mentions} {rest : List ℕ} {x : Parsed (Option Statement)} → x ≡ broken → x ≡ got v m rest → ⊥
unfolding is_got
not_broken p q = true≢false (ap is_got (sym q ∙ p))

module _ {most : ℕ} {table : List ℕ} {m₁ : Mentioned} {table' : List ℕ} {m₂ : Mentioned} {x : Parsed (Option Statement)} {d : Cursor}
    {p : Progress} {v : Option Statement} {m : Mentions} {rest : List ℕ} (is : x ≡ got v m rest) where
  -- no step
  pub none_written : FormWritten none most table m₁ (cursor_before p) x table' m₂ d → StepOrNoneWritten v p table p table'
  unfolding statement_items elements_in all_literals with_items with_elements with_steps
  none_written f =
      subst (λ (u : Option Statement). StepOrNoneWritten u p table p table') (same_value f.is is)
      (record { written = ap (written_at p) f.written; from = refl; card = refl })

  -- a step
  pub step-written : {row : Row} {t : List ℕ} → StepWritten row most table m₁ (cursor_before p) x table' m₂ d
      → t ≡ with_row table' p.steps p.card (row_meaning row) → StepOrNoneWritten v p table (stepped_by p d) t
  unfolding statement_items elements_in with_steps with_step
  step-written {row} {t} s q =
      let f = s.formed in
      let written =
      q
      ∙ ap (with_row table' p.steps p.card) s.made
      ∙ ap (λ (z : List ℕ). with_row z p.steps p.card (statement_row p.elements p.items s.statement)) f.written in
      subst (λ (u : Option Statement). StepOrNoneWritten u p table (stepped_by p d) t) (same_value f.is is)
      (record {
        written =
            λ i.
            record { table = written i; steps = p.steps + 1; elements = f.elements i; items = f.items i; literals = f.literals i };
        from = refl;
        card = refl;
      })
