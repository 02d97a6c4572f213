-- `string_parser::literals::put_literal` writes the bytes of a literal, and its row.
use Rattle.std.proofs.Common.{List, ◌≡◌, ap, ◌∙◌, ℕ, ◌+◌, ◌-◌, arith, take, drop}
use Rattle.encoding.specs.Kinds.{literal_kind}
use Rattle.encoding.specs.Table as Table
use Rattle.encoding.specs.Table.{range_value}
use Rattle.symbols.specs.Elements.{with_element, with_literals}
use Rattle.symbols.specs.declared.Cursor.{Cursor}
use Rattle.string_parser.proofs.literals.put_literal.Goals as goal

pub returns : goal.returns
returns c =
    let a = c.args in
    let size : a.c.at + 1 + a.n - (a.c.at + 1) ≡ a.n = omega arith in
    record {
      goes =
          ap (λ (z : Cursor).
          record {
            at = a.c.at + a.size;
            names = z.names;
            items = z.items;
            elements = z.elements;
            literals = a.c.literals + a.n;
            longest = z.longest;
          })
          c.put-d.ensures.0;
      written =
          c.put-d.ensures.1
          ∙ ap (λ (v : ℕ). with_element c.put_literals.new.table a.c.elements (Table.cell literal_kind.number 0 v)) c.range_value.ensures
          ∙ ap (λ (t : List ℕ). with_element t a.c.elements (Table.cell literal_kind.number 0 (range_value a.c.literals a.n 0)))
          (c.put_literals.ensures
          ∙ ap (λ (j : ℕ). with_literals a.table.now a.c.literals (take j (drop (a.c.at + 1) a.text.now))) size);
    }
