-- How readings of elements follow each other: a value that takes no bytes, a reading behind another, one that mentions names alone, one
-- behind skipped bytes. Assumes nothing.
use Rattle.std.specs.Prelude.{◌||◌, ◌≡◌, refl, ℕ, ◌+◌, eqb, length, drop}
use Rattle.std.proofs.Math.Bool.{or_assoc, or-false}
use mathlib.Core.List.{List, [], ◌++◌}
use Rattle.std.proofs.Math.Path.{sym, ap, ap₂}
use Rattle.std.proofs.Common.{subst, ◌∙◌, add-zero, arith, eqb-true}
use Rattle.std.proofs.Math.Dec.{ltb}
use Rattle.std.proofs.Math.ListN.{length-append}
use Rattle.base.specs.Choice.{cond_cases}
use Rattle.base.specs.Limits as Limits
use Rattle.base.specs.Lists.{any, total}
use Rattle.encoding.specs.Table.{all_literals}
use Rattle.encoding.specs.TableLiterals.{all-literals-append}
use Rattle.validation.specs.Names.{any_append}
use Rattle.syntax.specs.Program.{PatternElement}
use Rattle.syntax.specs.Parsing.{Mentions, no_mentions, Parsed, got, broken, ◌>>=◌, mentioning, succeed}
use Rattle.symbols.specs.Elements.{with_elements, elements-append}
use Rattle.symbols.specs.Entries.{gather, mentions_in}
use Rattle.symbols.specs.EntryLaws.{mentions_both}
use Rattle.symbols.specs.ParsingLaws.{got_broken}
use Rattle.symbols.specs.declared.Cursor.{Cursor}
use Rattle.symbols.specs.declared.Mentioned.{Mentioned}
use Rattle.numeric_parser.specs.OperandLaws.{noting_more, noting_none, mentions_nothing}
use Rattle.numeric_parser.specs.Operands.{Skips, ReaderReady, Noting, Gets}
use Rattle.card_reader.specs.Letters.{letters_on}
use Rattle.string_parser.specs.Elements.{GetsElements, rows_of}

pub literals_size : (xs ys : List PatternElement) → length (all_literals (xs ++ ys)) ≡ length (all_literals xs) + length (all_literals ys)
literals_size xs ys = ap length (all-literals-append xs ys) ∙ length-append (all_literals xs) (all_literals ys)

-- as many elements as rows count
pub rows_total : (n : ℕ) → total (λ k. k) (rows_of n) ≡ n
unfolding rows_of total
rows_total n =
    cond_cases (λ rows. total (λ k. k) rows ≡ n) (eqb n 0) (λ e. sym (eqb-true n 0 e)) (λ _. add-zero n)

-- names alone are no elements
pub names_elements : {A C : Type 0} {f : A → C} {v : C} {text : List ℕ} {m : Mentioned} {c : Cursor} {x : Parsed A} {m₁ : Mentioned} {d : Cursor}
    (table : List ℕ) (r : Gets f v text m c x m₁ d) → GetsElements text table m c x r.value [] [] table m₁ d
unfolding all_literals with_elements any
names_elements {c = c} {d = d} table r =
    record {
      entries = r.entries;
      is = r.is;
      written = refl;
      noting = r.noting;
      goes =
          record {
            names = r.goes.names;
            items = r.goes.items ∙ add-zero c.items;
            elements = r.goes.elements ∙ sym (add-zero c.elements);
            literals = r.goes.literals ∙ sym (add-zero c.literals);
            longest = ap (ltb Limits.row_elements) r.goes.longest ∙ sym (or-false (ltb Limits.row_elements c.longest));
          };
      ready = r.ready;
      few = r.few;
      short = omega (arith, r.further);
    }

-- nothing is read
pub elements_none : {A : Type 0} (a : A) {text table : List ℕ} {m : Mentioned} {c : Cursor} → ReaderReady text c
    → GetsElements text table m c (succeed a (drop c.at text)) a [] [] table m c
unfolding all_literals with_elements any succeed no_mentions mentions_in gather
elements_none a {c = c} ready =
    record {
      entries = [];
      is = refl;
      written = refl;
      noting = noting_none c.names;
      goes =
          record {
            names = sym (add-zero c.names);
            items = refl;
            elements = sym (add-zero c.elements);
            literals = sym (add-zero c.literals);
            longest = sym (or-false (ltb Limits.row_elements c.longest));
          };
      ready = ready;
      few = omega arith;
      short = omega arith;
    }

module _ {A B : Type 0} {text table : List ℕ} {m : Mentioned} {c : Cursor} {x : Parsed A} {a : A} {es : List PatternElement} {rows : List ℕ}
    {t : List ℕ} {m₁ : Mentioned} {d : Cursor} (r : GetsElements text table m c x a es rows t m₁ d) where
  -- a value that takes no more bytes
  pub elements-succeed : (next : A × List ℕ → Parsed B) (b : B) → next (a, drop d.at text) ≡ succeed b (drop d.at text)
      → GetsElements text table m c (x >>= next) b es rows t m₁ d
  unfolding ◌>>=◌ mentioning succeed
  elements-succeed next b same =
      let met = mentions_in r.entries 0 rows (length (all_literals es)) in
      record {
        entries = r.entries;
        is =
            ap (λ (y : Parsed A). y >>= next) r.is
            ∙ ap (mentioning met) same
            ∙ ap (λ (m : Mentions). got b m (drop d.at text)) (mentions_nothing met);
        written = r.written;
        noting = r.noting;
        goes = r.goes;
        ready = r.ready;
        few = r.few;
        short = r.short;
      }

  -- a reading behind another
  pub elements_then : (next : A × List ℕ → Parsed B) {b : B} {fs : List PatternElement} {rows₂ : List ℕ} {t₂ : List ℕ} {m₂ : Mentioned} {e : Cursor}
      → GetsElements text t m₁ d (next (a, drop d.at text)) b fs rows₂ t₂ m₂ e
      → GetsElements text table m c (x >>= next) b (es ++ fs) (rows ++ rows₂) t₂ m₂ e
  unfolding ◌>>=◌ mentioning
  elements_then next {b} {fs} {rows₂} {e = e} q =
      let size = length-append r.entries q.entries in
      let count = length-append es fs in
      let bytes = literals_size es fs in
      record {
        entries = r.entries ++ q.entries;
        is =
            ap (λ (y : Parsed A). y >>= next) r.is
            ∙ ap (mentioning (mentions_in r.entries 0 rows (length (all_literals es)))) q.is
            ∙ ap (λ (m : Mentions). got b m (drop e.at text))
            (mentions_both r.entries q.entries 0 0 rows rows₂ (length (all_literals es)) (length (all_literals fs))
            ∙ ap (mentions_in (r.entries ++ q.entries) 0 (rows ++ rows₂)) (sym bytes));
        written =
            q.written
            ∙ ap (λ (l : List ℕ). with_elements l d.elements d.literals fs) r.written
            ∙ ap₂ (λ (i j : ℕ). with_elements (with_elements table c.elements c.literals es) i j fs) r.goes.elements r.goes.literals
            ∙ sym (elements-append table c.elements c.literals es fs);
        noting = noting_more r.goes.names r.noting q.noting;
        goes =
            record {
              names = omega (arith, r.goes, q.goes);
              items = q.goes.items ∙ r.goes.items;
              elements = omega (arith, r.goes, q.goes);
              literals = omega (arith, r.goes, q.goes);
              longest =
                  q.goes.longest
                  ∙ ap (λ b. b || any (ltb Limits.row_elements) rows₂) r.goes.longest
                  ∙ or_assoc (ltb Limits.row_elements c.longest) (any (ltb Limits.row_elements) rows) (any (ltb Limits.row_elements) rows₂)
                  ∙ ap (λ b. ltb Limits.row_elements c.longest || b) (sym (any_append (ltb Limits.row_elements) rows rows₂));
            };
        ready = q.ready;
        few = omega (arith, r.few, q.few);
        short = omega (arith, r.short, q.short);
      }

  -- what follows is broken
  pub elements_broken : (next : A × List ℕ → Parsed B) → next (a, drop d.at text) ≡ broken → x >>= next ≡ broken
  elements_broken next e = got_broken next r.is e

module _ {A : Type 0} {text table : List ℕ} {m : Mentioned} {c : Cursor} {x : Parsed A} {a : A} {es : List PatternElement} {rows : List ℕ}
    {t : List ℕ} {m₁ : Mentioned} {d : Cursor} where
  -- a reading behind skipped bytes
  pub elements_skip : (n : ℕ) {b : Cursor} → Skips b n c → GetsElements text table m c x a es rows t m₁ d
      → GetsElements text table m b x a es rows t m₁ d
  elements_skip n {b} s r =
      let names : c.names ≡ b.names = omega (arith, s.goes) in
      record {
        entries = r.entries;
        is = r.is;
        written =
            r.written ∙ ap₂ (λ (i j : ℕ). with_elements table i j es) s.goes.elements s.goes.literals;
        noting = subst (λ j. Noting m j r.entries m₁) names r.noting;
        goes =
            record {
              names = omega (arith, r.goes, s.goes);
              items = r.goes.items ∙ s.goes.items ∙ add-zero b.items;
              elements = omega (arith, r.goes, s.goes);
              literals = omega (arith, r.goes, s.goes);
              longest = r.goes.longest ∙ ap (λ j. ltb Limits.row_elements j || any (ltb Limits.row_elements) rows) s.goes.longest;
            };
        ready = r.ready;
        few = omega (arith, r.few, letters_on text b.at c.at (omega (arith, s.at)));
        short = omega (arith, r.short, s.at);
      }
