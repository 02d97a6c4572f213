-- The code's rows as the table has them, and readings answered by one. Assumes nothing.
use Rattle.std.specs.Prelude.{Option, Some, None, List, ◌≡◌, ℕ}
use Rattle.std.proofs.Common.{sym, subst}
use Rattle.encoding.specs.Table as Table
use Rattle.syntax.specs.Parsing.{Parsed, broken}
use Rattle.symbols.specs.declared.Cursor.{Cursor}
use Rattle.symbols.specs.declared.Mentioned.{Mentioned}
use Rattle.encoding.specs.Meaning.{row_meaning}
use Rattle.numeric_parser.specs.Operands.{Gets}
use Rattle.encoding.specs.declared.cells.Row.{Row}

abbrev pub DraftAnswer : {A : Type 0} (f : A → Table.Row) (text : List ℕ) (m : Mentioned) (c : Cursor) → Parsed A → Option (Row × Cursor)
    → (m' : Mentioned) → Type 0
DraftAnswer f text m c x (Some (row, d)) m' = Gets f (row_meaning row) text m c x m' d
DraftAnswer f text m c x None m' = x ≡ broken

pub record DraftRead {A : Type 0} (f : A → Table.Row) (text : List ℕ) (m : Mentioned) (c : Cursor) (x : Parsed A) (r : Option (Row × Cursor))
    (m' : Mentioned) : Type 0 where
  pub answer : DraftAnswer f text m c x r m'

-- a broken form
pub draft_lost : {A : Type 0} {f : A → Table.Row} {text : List ℕ} {m : Mentioned} {c : Cursor} {x : Parsed A} {r : Option (Row × Cursor)}
    {m₁ : Mentioned} → r ≡ None → x ≡ broken → DraftRead f text m c x r m₁
draft_lost {f = f} {text} {m} {c} {x} {m₁ = m₁} e h =
    subst (λ z. DraftRead f text m c x z m₁) (sym e) (record { answer = h })

-- by the same answer, and by the same reading
pub draft_ends : {A : Type 0} {f : A → Table.Row} {text : List ℕ} {m : Mentioned} {c : Cursor} {x : Parsed A} {q r : Option (Row × Cursor)}
    {m₁ : Mentioned} → q ≡ r → DraftRead f text m c x r m₁ → DraftRead f text m c x q m₁
draft_ends {f = f} {text} {m} {c} {x} {m₁ = m₁} e a = subst (λ z. DraftRead f text m c x z m₁) (sym e) a

pub draft_same : {A : Type 0} {f : A → Table.Row} {text : List ℕ} {m : Mentioned} {c : Cursor} {x y : Parsed A} {r : Option (Row × Cursor)}
    {m₁ : Mentioned} → x ≡ y → DraftRead f text m c y r m₁ → DraftRead f text m c x r m₁
draft_same {f = f} {text} {m} {c} {r = r} {m₁} e a = subst (λ z. DraftRead f text m c z r m₁) (sym e) a
