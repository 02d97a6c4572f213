-- Steps as they are written to a table one by one: a step's items, its elements with their literal bytes, and its row. Where a program is
-- in range, a zeroed table with all its steps and its header written is the program's image. Assumes nothing.
use Rattle.std.specs.Prelude.{true, ◌≡◌, ℕ, ◌+◌, ◌*◌, ◌-◌, ◌≤◌, ◌<◌, ltb, replicate}
use Rattle.std.proofs.Math.Bool.{cond}
use mathlib.Core.List.{List, [], ◌∷◌, ◌++◌, append_assoc, append-nil}
use Rattle.std.proofs.Math.Path.{refl, ap, ap₂}
use Rattle.std.proofs.Common.{sym, subst, ◌∙◌, add-zero, zero-add, arith, lt-ltb}
use Rattle.std.proofs.Math.ListN.{length, length-append}
use Rattle.std.proofs.lemmas.List.{length-replicate, replicate-append-replicate}
use Rattle.base.specs.Current.{current, table_size}
use Rattle.base.specs.Limits as Limits
use Rattle.encoding.specs.declared.cells.Counts.{Counts}
use Rattle.encoding.specs.Numerals.{in_bytes}
use Rattle.encoding.specs.RowLaws.{length-row_bytes}
use Rattle.encoding.specs.Rules.{is_program}
use Rattle.encoding.specs.Splices.{splice, splice-append, append-splice, splice_seam}
use Rattle.encoding.specs.Table.{
  Row,
  row_bytes,
  statement_row,
  step_rows,
  element_rows,
  item_rows,
  elements_of,
  items_of,
  all_elements,
  all_items,
  all_literals,
  literal_in,
  filled_to,
  format,
  header,
  image,
  steps_at,
  elements_at,
  items_at,
  literals_at,
  cell_bytes,
  item_cell,
  pattern_cell,
}
use Rattle.encoding.specs.TableLaws.{in_range_lem, length-filled_to, length-step_rows, length-element_rows, length-item_rows, length-header}
use Rattle.encoding.specs.TableLiterals.{all-literals-append}
use Rattle.syntax.specs.Program.{Item, PatternElement, Statement, Step, Program}
use Rattle.symbols.specs.Elements.{with_elements, elements_rows}
use Rattle.symbols.specs.Items.{with_items, items_rows}

-- a row as row k of all steps; behind the last row nothing is written
unfoldable pub with_row : List ℕ → (k card : ℕ) → Row → List ℕ
with_row t k card r = cond (ltb k Limits.statements) (splice t (steps_at + 24 * k) (row_bytes card r)) t

-- a table, and how many steps, elements, items and literal bytes are written to it
pub record Written : Type 0 where
  pub table : List ℕ
  pub steps : ℕ
  pub elements : ℕ
  pub items : ℕ
  pub literals : ℕ

abbrev pub nothing_written : List ℕ → Written
nothing_written t = record { table = t; steps = 0; elements = 0; items = 0; literals = 0 }

-- a step written behind those that are
unfoldable pub with_step : Written → Step → Written
with_step w s =
    let y = s.statement in
    record {
      table =
          with_row (with_elements (with_items w.table w.items (items_of y)) w.elements w.literals (elements_of y)) w.steps s.card
          (statement_row w.elements w.items y);
      steps = w.steps + 1;
      elements = w.elements + length (elements_of y);
      items = w.items + length (items_of y);
      literals = w.literals + length (all_literals (elements_of y));
    }

unfoldable pub with_steps : Written → List Step → Written
with_steps w [] = w
with_steps w (s ∷ ss) = with_steps (with_step w s) ss

-- what they add to the counts
pub record Counted (w : Written) (ss : List Step) : Type 0 where
  pub steps : (with_steps w ss).steps ≡ w.steps + length ss
  pub elements : (with_steps w ss).elements ≡ w.elements + length (all_elements ss)
  pub items : (with_steps w ss).items ≡ w.items + length (all_items ss)
  pub literals : (with_steps w ss).literals ≡ w.literals + length (all_literals (all_elements ss))

pub counted : (w : Written) (ss : List Step) → Counted w ss
unfolding with_steps with_step all_elements all_items all_literals
counted w [] =
    record {
      steps = sym (add-zero w.steps);
      elements = sym (add-zero w.elements);
      items = sym (add-zero w.items);
      literals = sym (add-zero w.literals);
    }
counted w (s ∷ ss) =
    let c = counted (with_step w s) ss in
    let y = s.statement in
    record {
      steps = omega (arith, c.steps);
      elements = omega (arith, c.elements, length-append (elements_of y) (all_elements ss));
      items = omega (arith, c.items, length-append (items_of y) (all_items ss));
      literals =
          omega (
            arith,
            c.literals,
            ap length (all-literals-append (elements_of y) (all_elements ss)),
            length-append (all_literals (elements_of y)) (all_literals (all_elements ss)),
          );
    }

-- so much is counted as written to a table
abbrev pub counted_by : Counts → List ℕ → Written
counted_by n t = record { table = t; steps = n.steps; elements = n.elements; items = n.items; literals = n.literals }

-- the header: the format and the counts of steps, strings, numbers, elements, items, literal bytes
unfoldable pub with_header : Written → (strings numbers : ℕ) → List ℕ
with_header w strings numbers =
    splice w.table 0
    (format
    ∷ (0
    ∷ (in_bytes 2 w.steps
    ++ (in_bytes 2 strings ++ (in_bytes 2 numbers ++ (in_bytes 2 w.elements ++ (in_bytes 2 w.items ++ in_bytes 2 w.literals)))))))

-- a table by its regions, and what lies behind it
abbrev regions : (h s e i l r : List ℕ) → List ℕ
regions h s e i l r = h ++ (s ++ (e ++ (i ++ (l ++ r))))

-- bytes written behind those that are there, in a region filled up with zeros
splice-filled : (n at : ℕ) (bs v : List ℕ) → length bs ≡ at → length bs + length v ≤ n → splice (filled_to n bs) at v ≡ filled_to n (bs ++ v)
unfolding filled_to
splice-filled n at bs v e h =
    let m = n - length bs in
    let left : m - length v ≡ n - length (bs ++ v) = simp length-append (omega arith) in
    let sum : m ≡ length v + (m - length v) = omega arith in
    let zeros = ap (λ (k : ℕ). replicate k 0) sum ∙ sym (replicate-append-replicate {A = ℕ} (length v) (m - length v) 0) in
    ap (λ (z : List ℕ). splice (bs ++ z) at v) zeros
    ∙ splice_seam bs (replicate (length v) 0) (replicate (m - length v) 0) v at e (length-replicate (length v) 0)
    ∙ sym (append_assoc bs v (replicate (m - length v) 0))
    ∙ ap (λ (k : ℕ). (bs ++ v) ++ replicate k 0) left

-- a part behind another is written alone
past : (p x v : List ℕ) (n at j : ℕ) → length p ≡ n → n + j ≡ at → splice (p ++ x) at v ≡ p ++ splice x j v
past p x v n at j e f =
    let place : at ≡ length p + j = omega arith in
    ap (λ (k : ℕ). splice (p ++ x) k v) place ∙ append-splice p x j v

-- a table whose regions have their sizes
record Sized (h s e i : List ℕ) : Type 0 where
  header : length h ≡ 64
  steps : length s ≡ 6144
  elements : length e ≡ 8192
  items : length i ≡ 8192

-- what is written to a region changes it alone
module _ (h s e i l r : List ℕ) (z : Sized h s e i) (j : ℕ) (v : List ℕ) where
  in_steps : j + length v ≤ length s → splice (regions h s e i l r) (64 + j) v ≡ regions h (splice s j v) e i l r
  in_steps k = past h _ v 64 (64 + j) j z.header refl ∙ ap (λ (x : List ℕ). h ++ x) (splice-append s _ j v k)

  in_elements : j + length v ≤ length e → splice (regions h s e i l r) (6208 + j) v ≡ regions h s (splice e j v) i l r
  in_elements k =
      past h _ v 64 (6208 + j) (6144 + j) z.header (omega arith)
      ∙ ap (λ (x : List ℕ). h ++ x)
      (past s _ v 6144 (6144 + j) j z.steps refl ∙ ap (λ (x : List ℕ). s ++ x) (splice-append e _ j v k))

  in_items : j + length v ≤ length i → splice (regions h s e i l r) (14400 + j) v ≡ regions h s e (splice i j v) l r
  in_items k =
      past h _ v 64 (14400 + j) (14336 + j) z.header (omega arith)
      ∙ ap (λ (x : List ℕ). h ++ x)
      (past s _ v 6144 (14336 + j) (8192 + j) z.steps (omega arith)
      ∙ ap (λ (x : List ℕ). s ++ x)
      (past e _ v 8192 (8192 + j) j z.elements refl ∙ ap (λ (x : List ℕ). e ++ x) (splice-append i _ j v k)))

  in_literals : j + length v ≤ length l → splice (regions h s e i l r) (22592 + j) v ≡ regions h s e i (splice l j v) r
  in_literals k =
      past h _ v 64 (22592 + j) (22528 + j) z.header (omega arith)
      ∙ ap (λ (x : List ℕ). h ++ x)
      (past s _ v 6144 (22528 + j) (16384 + j) z.steps (omega arith)
      ∙ ap (λ (x : List ℕ). s ++ x)
      (past e _ v 8192 (16384 + j) (8192 + j) z.elements (omega arith)
      ∙ ap (λ (x : List ℕ). e ++ x)
      (past i _ v 8192 (8192 + j) j z.items refl ∙ ap (λ (x : List ℕ). i ++ x) (splice-append l r j v k))))

-- rows behind other rows
rows_append : (element item : ℕ) (ss ts : List Step)
    → step_rows element item (ss ++ ts)
    ≡ step_rows element item ss ++ step_rows (element + length (all_elements ss)) (item + length (all_items ss)) ts
unfolding step_rows all_elements all_items
rows_append element item [] ts = ap₂ {C = List ℕ} (λ a b. step_rows a b ts) (sym (add-zero element)) (sym (add-zero item))
rows_append element item (s ∷ ss) ts =
    let y = s.statement in
    let e = element + length (elements_of y) in
    let i = item + length (items_of y) in
    let es : e + length (all_elements ss) ≡ element + length (elements_of y ++ all_elements ss) = simp length-append (omega arith) in
    let is : i + length (all_items ss) ≡ item + length (items_of y ++ all_items ss) = simp length-append (omega arith) in
    ap (λ (z : List ℕ). row_bytes s.card (statement_row element item y) ++ z)
    (rows_append e i ss ts ∙ ap₂ {C = List ℕ} (λ a b. step_rows e i ss ++ step_rows a b ts) es is)
    ∙ sym (append_assoc (row_bytes s.card (statement_row element item y)) (step_rows e i ss) _)

elements-append : (ss ts : List Step) → all_elements (ss ++ ts) ≡ all_elements ss ++ all_elements ts
unfolding all_elements
elements-append [] ts = refl
elements-append (s ∷ ss) ts =
    ap (λ z. elements_of s.statement ++ z) (elements-append ss ts) ∙ sym (append_assoc (elements_of s.statement) (all_elements ss) (all_elements ts))

items-append : (ss ts : List Step) → all_items (ss ++ ts) ≡ all_items ss ++ all_items ts
unfolding all_items
items-append [] ts = refl
items-append (s ∷ ss) ts =
    ap (λ z. items_of s.statement ++ z) (items-append ss ts) ∙ sym (append_assoc (items_of s.statement) (all_items ss) (all_items ts))

cells-append : (l : ℕ) (xs ys : List PatternElement)
    → element_rows l (xs ++ ys) ≡ element_rows l xs ++ element_rows (l + length (all_literals xs)) ys
unfolding element_rows all_literals
cells-append l [] ys = ap (λ k. element_rows k ys) (sym (add-zero l))
cells-append l (x ∷ xs) ys =
    let next = l + length (literal_in x) in
    let sum : next + length (all_literals xs) ≡ l + length (literal_in x ++ all_literals xs) = simp length-append (omega arith) in
    ap (λ (z : List ℕ). cell_bytes (pattern_cell l x) ++ z)
    (cells-append next xs ys ∙ ap (λ k. element_rows next xs ++ element_rows k ys) sum)
    ∙ sym (append_assoc (cell_bytes (pattern_cell l x)) (element_rows next xs) _)

item_cells_append : (xs ys : List Item) → item_rows (xs ++ ys) ≡ item_rows xs ++ item_rows ys
unfolding item_rows
item_cells_append [] ys = refl
item_cells_append (x ∷ xs) ys =
    ap (λ z. cell_bytes (item_cell x) ++ z) (item_cells_append xs ys) ∙ sym (append_assoc (cell_bytes (item_cell x)) (item_rows xs) (item_rows ys))

-- the table with these steps written and no header yet
abbrev stepped : List Step → List ℕ → List ℕ
stepped ss r =
    regions (replicate 64 0) (filled_to 6144 (step_rows 0 0 ss)) (filled_to 8192 (element_rows 0 (all_elements ss)))
    (filled_to 8192 (item_rows (all_items ss))) (filled_to 6080 (all_literals (all_elements ss))) r

abbrev written : List Step → List ℕ → Written
written ss r =
    record {
      table = stepped ss r;
      steps = length ss;
      elements = length (all_elements ss);
      items = length (all_items ss);
      literals = length (all_literals (all_elements ss));
    }

-- the counts of steps fit
record Fits (ss : List Step) : Type 0 where
  steps : length ss ≤ 256
  elements : length (all_elements ss) ≤ 1024
  items : length (all_items ss) ≤ 1024
  literals : length (all_literals (all_elements ss)) ≤ 4096

fits_front : (ss ts : List Step) → Fits (ss ++ ts) → Fits ss
fits_front ss ts f =
    record {
      steps = omega (arith, f.steps, length-append ss ts);
      elements = omega (arith, f.elements, ap length (elements-append ss ts), length-append (all_elements ss) (all_elements ts));
      items = omega (arith, f.items, ap length (items-append ss ts), length-append (all_items ss) (all_items ts));
      literals =
          omega (
            arith,
            f.literals,
            ap (λ xs. length (all_literals xs)) (elements-append ss ts),
            ap length (all-literals-append (all_elements ss) (all_elements ts)),
            length-append (all_literals (all_elements ss)) (all_literals (all_elements ts)),
          );
    }

-- one step more
module _ (ss : List Step) (x : Step) (r : List ℕ) (f : Fits (ss ++ (x ∷ []))) where
  abbrev y : Statement
  y = x.statement

  abbrev es : List PatternElement
  es = all_elements ss

  abbrev is : List Item
  is = all_items ss

  abbrev ls : List ℕ
  ls = all_literals es

  front : Fits ss
  front = fits_front ss (x ∷ []) f

  -- what the step adds
  all-es : all_elements (ss ++ (x ∷ [])) ≡ es ++ elements_of y
  unfolding all_elements
  all-es = elements-append ss (x ∷ []) ∙ ap (λ z. es ++ z) (append-nil (elements_of y))

  all-is : all_items (ss ++ (x ∷ [])) ≡ is ++ items_of y
  unfolding all_items
  all-is = items-append ss (x ∷ []) ∙ ap (λ z. is ++ z) (append-nil (items_of y))

  more-es : length es + length (elements_of y) ≤ 1024
  more-es = omega (arith, f.elements, ap length all-es, length-append es (elements_of y))

  more-is : length is + length (items_of y) ≤ 1024
  more-is = omega (arith, f.items, ap length all-is, length-append is (items_of y))

  more-ls : length ls + length (all_literals (elements_of y)) ≤ 4096
  more-ls =
      omega (
        arith,
        f.literals,
        ap (λ z. length (all_literals z)) all-es,
        ap length (all-literals-append es (elements_of y)),
        length-append ls (all_literals (elements_of y)),
      )

  more_ss : length ss < 256
  more_ss = omega (arith, f.steps, length-append ss (x ∷ []))

  abbrev S : List ℕ
  S = filled_to 6144 (step_rows 0 0 ss)

  abbrev E : List ℕ
  E = filled_to 8192 (element_rows 0 es)

  abbrev I : List ℕ
  I = filled_to 8192 (item_rows is)

  abbrev L : List ℕ
  L = filled_to 6080 ls

  abbrev I' : List ℕ
  I' = filled_to 8192 (item_rows (is ++ items_of y))

  abbrev E' : List ℕ
  E' = filled_to 8192 (element_rows 0 (es ++ elements_of y))

  abbrev L' : List ℕ
  L' = filled_to 6080 (all_literals (es ++ elements_of y))

  abbrev H : List ℕ
  H = replicate 64 0

  size_S : length S ≡ 6144
  size_S = length-filled_to 6144 (step_rows 0 0 ss) (omega (arith, front.steps, length-step_rows 0 0 ss))

  size_E : length E ≡ 8192
  size_E = length-filled_to 8192 (element_rows 0 es) (omega (arith, front.elements, length-element_rows 0 es))

  size_I : length I ≡ 8192
  size_I = length-filled_to 8192 (item_rows is) (omega (arith, front.items, length-item_rows is))

  size_L : length L ≡ 6080
  size_L = length-filled_to 6080 ls (omega (arith, front.literals))

  size_H : length H ≡ 64
  size_H = length-replicate {A = ℕ} 64 0

  size_E' : length E' ≡ 8192
  size_E' =
      length-filled_to 8192 (element_rows 0 (es ++ elements_of y))
      (omega (arith, more-es, length-append es (elements_of y), length-element_rows 0 (es ++ elements_of y)))

  size_I' : length I' ≡ 8192
  size_I' =
      length-filled_to 8192 (item_rows (is ++ items_of y))
      (omega (arith, more-is, length-append is (items_of y), length-item_rows (is ++ items_of y)))

  -- its items
  own_items_lem : with_items (stepped ss r) (length is) (items_of y) ≡ regions H S E I' L r
  unfolding items_at
  own_items_lem =
      let rows = item_rows (items_of y) in
      let size = length-item_rows (items_of y) in
      let before = length-item_rows is in
      items_rows (stepped ss r) (length is) (items_of y) more-is
      (simp length-append (omega (arith, size_H, size_S, size_E, size_I, size_L)))
      ∙ in_items H S E I L r (record { header = size_H; steps = size_S; elements = size_E; items = size_I }) (8 * length is) rows
      (omega (arith, more-is, size_I))
      ∙ ap (λ (z : List ℕ). regions H S E z L r)
      (splice-filled 8192 (8 * length is) (item_rows is) rows before (omega (arith, more-is))
      ∙ ap (filled_to 8192) (sym (item_cells_append is (items_of y))))

  -- its elements and their literal bytes
  own_elements : with_elements (regions H S E I' L r) (length es) (length ls) (elements_of y) ≡ regions H S E' I' L' r
  unfolding elements_at literals_at
  own_elements =
      let rows = element_rows (length ls) (elements_of y) in
      let size = length-element_rows (length ls) (elements_of y) in
      let before = length-element_rows 0 es in
      let texts = all_literals (elements_of y) in
      elements_rows (regions H S E I' L r) (length es) (length ls) (elements_of y) more-es more-ls
      (simp length-append (omega (arith, size_H, size_S, size_E, size_I', size_L)))
      ∙ ap (λ (z : List ℕ). splice z (22592 + length ls) texts)
      (in_elements H S E I' L r (record { header = size_H; steps = size_S; elements = size_E; items = size_I' }) (8 * length es) rows
      (omega (arith, more-es, size_E))
      ∙ ap (λ (z : List ℕ). regions H S z I' L r)
      (splice-filled 8192 (8 * length es) (element_rows 0 es) rows before (omega (arith, more-es))
      ∙ ap (filled_to 8192)
      (sym (cells-append 0 es (elements_of y) ∙ ap (λ (l : ℕ). element_rows 0 es ++ element_rows l (elements_of y)) (zero-add (length ls))))))
      ∙ in_literals H S E' I' L r (record { header = size_H; steps = size_S; elements = size_E'; items = size_I' }) (length ls) texts
      (omega (arith, more-ls, size_L))
      ∙ ap (λ (z : List ℕ). regions H S E' I' z r)
      (splice-filled 6080 (length ls) ls texts refl (omega (arith, more-ls)) ∙ ap (filled_to 6080) (sym (all-literals-append es (elements_of y))))

  -- its row
  own_row : with_row (regions H S E' I' L' r) (length ss) x.card (statement_row (length es) (length is) y)
      ≡ regions H (filled_to 6144 (step_rows 0 0 (ss ++ (x ∷ [])))) E' I' L' r
  unfolding with_row steps_at step_rows
  own_row =
      let row = row_bytes x.card (statement_row (length es) (length is) y) in
      let size = length-row_bytes x.card (statement_row (length es) (length is) y) in
      let before = length-step_rows 0 0 ss in
      let whole : step_rows 0 0 (ss ++ (x ∷ [])) ≡ step_rows 0 0 ss ++ row =
      rows_append 0 0 ss (x ∷ [])
      ∙ ap₂ (λ (a b : ℕ). step_rows 0 0 ss ++ step_rows a b (x ∷ [])) (zero-add (length es)) (zero-add (length is))
      ∙ ap (λ (z : List ℕ). step_rows 0 0 ss ++ z) (append-nil row) in
      ap (λ b. cond b (splice (regions H S E' I' L' r) (64 + 24 * length ss) row) (regions H S E' I' L' r)) (lt-ltb (length ss) 256 more_ss)
      ∙ in_steps H S E' I' L' r (record { header = size_H; steps = size_S; elements = size_E'; items = size_I' }) (24 * length ss) row
      (omega (arith, more_ss, size_S))
      ∙ ap (λ (z : List ℕ). regions H z E' I' L' r)
      (splice-filled 6144 (24 * length ss) (step_rows 0 0 ss) row before (omega (arith, more_ss)) ∙ ap (filled_to 6144) (sym whole))

  step-written : with_step (written ss r) x ≡ written (ss ++ (x ∷ [])) r
  unfolding with_step
  step-written =
      let table =
      ap (λ (z : List ℕ). with_row (with_elements z (length es) (length ls) (elements_of y)) (length ss) x.card (statement_row (length es) (length is) y))
      own_items_lem
      ∙ ap (λ (z : List ℕ). with_row z (length ss) x.card (statement_row (length es) (length is) y)) own_elements
      ∙ own_row
      ∙ ap₂ (λ (a : List PatternElement) (b : List Item).
      regions H (filled_to 6144 (step_rows 0 0 (ss ++ (x ∷ [])))) (filled_to 8192 (element_rows 0 a)) (filled_to 8192 (item_rows b))
      (filled_to 6080 (all_literals a)) r) (sym all-es) (sym all-is) in
      let steps = length-append ss (x ∷ []) in
      let elements = ap length all-es ∙ length-append es (elements_of y) in
      let items = ap length all-is ∙ length-append is (items_of y) in
      let literals =
      ap (λ z. length (all_literals z)) all-es
      ∙ ap length (all-literals-append es (elements_of y))
      ∙ length-append ls (all_literals (elements_of y)) in
      λ i.
      record { table = table i; steps = sym steps i; elements = sym elements i; items = sym items i; literals = sym literals i }

-- all steps
steps-written : (ss ts : List Step) (r : List ℕ) → Fits (ss ++ ts) → with_steps (written ss r) ts ≡ written (ss ++ ts) r
unfolding with_steps
steps-written ss [] r f = ap (λ z. written z r) (sym (append-nil ss))
steps-written ss (x ∷ ts) r f =
    let whole = append_assoc ss (x ∷ []) ts in
    let f' : Fits ((ss ++ (x ∷ [])) ++ ts) = subst Fits (sym whole) f in
    ap (λ w. with_steps w ts) (step-written ss x r (fits_front (ss ++ (x ∷ [])) ts f'))
    ∙ steps-written (ss ++ (x ∷ [])) ts r f'
    ∙ ap (λ z. written z r) whole

-- a table that is zeros has no steps yet
zeros-written : (r : List ℕ) → nothing_written (replicate table_size 0 ++ r) ≡ written [] r
unfolding filled_to step_rows element_rows item_rows all_elements all_items all_literals
zeros-written r =
    let cut : (n m : ℕ) (q : List ℕ) → replicate (n + m) 0 ++ q ≡ replicate n 0 ++ (replicate m 0 ++ q) =
    λ n m q. ap (λ (z : List ℕ). z ++ q) (sym (replicate-append-replicate {A = ℕ} n m 0)) ∙ append_assoc (replicate n 0) (replicate m 0) q in
    ap nothing_written
    (cut 64 28608 r
    ∙ ap (λ (z : List ℕ). replicate 64 0 ++ z)
    (cut 6144 22464 r
    ∙ ap (λ (z : List ℕ). replicate 6144 0 ++ z)
    (cut 8192 14272 r ∙ ap (λ (z : List ℕ). replicate 8192 0 ++ z) (cut 8192 6080 r))))

-- nothing filled up is zeros
nothing_filled : (n : ℕ) → filled_to n [] ≡ replicate n 0
unfolding filled_to
nothing_filled n =
    let whole : n - 0 ≡ n = omega arith in
    ap (λ (k : ℕ). replicate k 0) whole

-- the header in its region
header-filled : (p : Program) → splice (replicate 64 0) 0 (header p) ≡ filled_to 64 (header p)
header-filled p = ap (λ (z : List ℕ). splice z 0 (header p)) zeros ∙ splice-filled 64 0 [] (header p) refl (omega (arith, length-header p))
  where
    zeros : replicate 64 0 ≡ filled_to 64 []
    zeros = sym (nothing_filled 64)

together : (h s e i l r : List ℕ) → (h ++ (s ++ (e ++ (i ++ l)))) ++ r ≡ regions h s e i l r
together h s e i l r = simp append_assoc

-- A zeroed table with a program's steps and header written is the program's image, and what lies behind it stays.
pub image-written : (p : Program) (r : List ℕ) → is_program current p ≡ true
    → splice (with_steps (nothing_written (replicate table_size 0 ++ r)) p.steps).table 0 (header p) ≡ image current p ++ r
unfolding image steps_at elements_at items_at literals_at current all_elements all_items all_literals
image-written p r ok =
    let range = in_range_lem current p ok in
    let fits : Fits p.steps = record { steps = range.steps; elements = range.elements; items = range.items; literals = range.literals } in
    let ss = p.steps in
    let S = filled_to 6144 (step_rows 0 0 ss) in
    let E = filled_to 8192 (element_rows 0 (all_elements ss)) in
    let I = filled_to 8192 (item_rows (all_items ss)) in
    let L = filled_to 6080 (all_literals (all_elements ss)) in
    ap (λ (w : Written). splice (with_steps w ss).table 0 (header p)) (zeros-written r)
    ∙ ap (λ (w : Written). splice w.table 0 (header p)) (steps-written [] ss r fits)
    ∙ splice-append (replicate 64 0) (S ++ (E ++ (I ++ (L ++ r)))) 0 (header p) (omega (arith, length-header p))
    ∙ ap (λ (z : List ℕ). z ++ (S ++ (E ++ (I ++ (L ++ r))))) (header-filled p)
    ∙ sym (together (filled_to 64 (header p)) S E I L r)
