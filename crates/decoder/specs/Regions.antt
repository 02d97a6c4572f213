-- Where the rows and the elements of a table that keeps the rules stand: stretches end within their region, and so do literals.
-- Assumes nothing.
use Rattle.std.specs.Prelude.{true, List, [], ◌∷◌, ◌++◌, ◌≡◌, refl, ℕ, zero, suc, ◌+◌, ◌*◌, ◌^◌, ◌≤◌, ◌<◌, length, drop, get_or}
use Rattle.std.proofs.Common.{◌∙◌, ap, subst, arith, length-append, take-append-drop}
use Rattle.base.specs.Current.{current}
use Rattle.base.specs.Limits as Limits
use Rattle.encoding.specs.Conditions.{current_size}
use Rattle.syntax.specs.Program.{constantly, numbered, whole, first, literal, part, string_call, PatternElement, value, free_filler, fixed_filler}
use Rattle.syntax.specs.Program.{Statement, Step}
use Rattle.encoding.specs.CellLaws.{cell-read, range_read, length-cell_bytes}
use Rattle.encoding.specs.Kinds.{literal_kind, spell_part, spell_element, spell_pattern}
use Rattle.encoding.specs.NumeralLaws.{BytesStand, stands_moved, stands_front, stands_back, byte-read}
use Rattle.encoding.specs.Numerals.{in_bytes}
use Rattle.encoding.specs.RowLaws.{length-row_bytes}
use Rattle.encoding.specs.Rules.{keeps_rules}
use Rattle.encoding.specs.Table.{Cell, cell, cell_bytes, range_value, range_cell, cell_for, pattern_cell, literal_in, Row}
use Rattle.encoding.specs.Table.{row_bytes, statement_row, elements_of, items_of, step_rows, all_elements, all_items, all_literals, element_rows}
use Rattle.encoding.specs.Table.{steps_at, elements_at, image}
use Rattle.encoding.specs.TableLaws.{ProgramInRange, RegionsStand, in_range_lem, regions_stand, keeps_image}
use Rattle.encoding.specs.TableReading.{cell_at, read_row_at, range_from, range_count, range_more, program_in}

-- a statement's row stands at a place; its elements and items end within so many
pub record RowPlace (t : List ℕ) (at elements items card : ℕ) (x : Statement) : Type 0 where
  pub element : ℕ
  pub item : ℕ
  pub bytes : BytesStand t at (row_bytes card (statement_row element item x))
  pub elements_end : element + length (elements_of x) ≤ elements
  pub items_end : item + length (items_of x) ≤ items

-- the row of each step stands behind those before it
pub row-place : (t : List ℕ) (at element item : ℕ) (ss : List Step) (k here elements items : ℕ) (d : Step)
    → BytesStand t at (step_rows element item ss) → k < length ss → here ≡ at + 24 * k
    → element + length (all_elements ss) ≤ elements → item + length (all_items ss) ≤ items
    → RowPlace t here elements items (get_or ss k d).card (get_or ss k d).statement
unfolding step_rows all_elements all_items
row-place t at element item [] k here elements items d s inside place e i = absurd (omega arith)
row-place t at element item (x ∷ xs) zero here elements items d s inside place e i =
    let y = x.statement in
    let own = row_bytes x.card (statement_row element item y) in
    let rest = step_rows (element + length (elements_of y)) (item + length (items_of y)) xs in
    record {
      element = element;
      item = item;
      bytes = stands_moved t (omega arith) (stands_front t own rest s);
      elements_end = omega (arith, length-append (elements_of y) (all_elements xs));
      items_end = omega (arith, length-append (items_of y) (all_items xs));
    }
row-place t at element item (x ∷ xs) (suc k) here elements items d s inside place e i =
    let y = x.statement in
    let own = row_bytes x.card (statement_row element item y) in
    let next_element = element + length (elements_of y) in
    let next_item = item + length (items_of y) in
    let size = length-row_bytes x.card (statement_row element item y) in
    row-place t (at + length own) next_element next_item xs k here elements items d (stands_back t own (step_rows next_element next_item xs) s)
    (omega arith) (omega arith) (omega (arith, length-append (elements_of y) (all_elements xs)))
    (omega (arith, length-append (items_of y) (all_items xs)))

-- an element's cell stands at a place; its literal bytes end within so many
record CellPlace (t : List ℕ) (at literals : ℕ) (x : PatternElement) : Type 0 where
  literal : ℕ
  bytes : BytesStand t at (cell_bytes (pattern_cell literal x))
  end : literal + length (literal_in x) ≤ literals

-- the cell of each element stands behind those before it
cell-place : (t : List ℕ) (at place : ℕ) (xs : List PatternElement) (k here literals : ℕ) (d : PatternElement)
    → BytesStand t at (element_rows place xs) → k < length xs → here ≡ at + 8 * k → place + length (all_literals xs) ≤ literals
    → CellPlace t here literals (get_or xs k d)
unfolding element_rows all_literals
cell-place t at place [] k here literals d s inside e l = absurd (omega arith)
cell-place t at place (x ∷ xs) zero here literals d s inside e l =
    let own = cell_bytes (pattern_cell place x) in
    record {
      literal = place;
      bytes = stands_moved t (omega arith) (stands_front t own (element_rows (place + length (literal_in x)) xs) s);
      end = omega (arith, length-append (literal_in x) (all_literals xs));
    }
cell-place t at place (x ∷ xs) (suc k) here literals d s inside e l =
    let own = cell_bytes (pattern_cell place x) in
    let next = place + length (literal_in x) in
    let size = length-cell_bytes (pattern_cell place x) in
    cell-place t (at + length own) next xs k here literals d (stands_back t own (element_rows next xs) s) (omega arith) (omega arith)
    (omega (arith, length-append (literal_in x) (all_literals xs)))

-- the kind of an element is read where its cell stands
kind-read : (t : List ℕ) (at literals : ℕ) (x : PatternElement) → CellPlace t at literals x → (cell_at t at).kind ≡ (spell_pattern x).kind.number
unfolding pattern_cell cell_for cell_bytes cell_at
kind-read t at literals x p =
    let c = pattern_cell p.literal x in
    byte-read t at c.kind (c.place ∷ in_bytes 6 c.value) p.bytes

-- the literal of a cell of its kind ends within the literals
literal_end : (t : List ℕ) (at literals : ℕ) (x : PatternElement) → literals < 2 ^ 16 → CellPlace t at literals x
    → (cell_at t at).kind ≡ literal_kind.number → range_from (cell_at t at).value + range_count (cell_at t at).value ≤ literals
unfolding pattern_cell literal_in spell_part spell_element spell_pattern
literal_end t at literals (value (literal w)) small p h =
    let from = p.literal in
    let ranges = range_read from (length w) 0 (omega (arith, p.end)) (omega (arith, p.end)) (omega arith) in
    let read = cell-read t at (cell literal_kind.number 0 (range_value from (length w) 0)) ranges.small p.bytes in
    rw (ap (λ (c : Cell). c.value) read, ranges.first, ranges.second) p.end
literal_end t at literals (value (part (whole s))) small p h = absurd (omega (arith, kind-read t at literals (value (part (whole s))) p))
literal_end t at literals (value (part (first s (constantly z)))) small p h =
    absurd (omega (arith, kind-read t at literals (value (part (first s (constantly z)))) p))
literal_end t at literals (value (part (first s (numbered i)))) small p h =
    absurd (omega (arith, kind-read t at literals (value (part (first s (numbered i)))) p))
literal_end t at literals (value (string_call (constantly z) m)) small p h =
    absurd (omega (arith, kind-read t at literals (value (string_call (constantly z) m)) p))
literal_end t at literals (value (string_call (numbered i) m)) small p h =
    absurd (omega (arith, kind-read t at literals (value (string_call (numbered i) m)) p))
literal_end t at literals (free_filler s) small p h = absurd (omega (arith, kind-read t at literals (free_filler s) p))
literal_end t at literals (fixed_filler s (constantly z)) small p h =
    absurd (omega (arith, kind-read t at literals (fixed_filler s (constantly z)) p))
literal_end t at literals (fixed_filler s (numbered i)) small p h =
    absurd (omega (arith, kind-read t at literals (fixed_filler s (numbered i)) p))

-- the right cell of a row is read where the row stands
right_read : (t : List ℕ) (at card : ℕ) (r : Row) → BytesStand t at (row_bytes card r) → r.right.value < 2 ^ 48
    → (read_row_at t at).right ≡ r.right
unfolding row_bytes read_row_at in_bytes cell_bytes
right_read t at card r s small =
    let steps = in_bytes 2 r.success ++ in_bytes 2 r.failure in
    let front = r.kind ∷ (r.flag ∷ in_bytes 2 card) ++ (steps ++ cell_bytes r.left) in
    cell-read t (at + 16) r.right small (stands_back t front (cell_bytes r.right) s)

-- the three numbers of a row's range
pub record RangeIs (v from count more : ℕ) : Type 0 where
  pub first : range_from v ≡ from
  pub second : range_count v ≡ count
  pub third : range_more v ≡ more

-- are read where the row stands
pub row_range : (t : List ℕ) (at card from count more : ℕ) (r : Row) → BytesStand t at (row_bytes card r) → r.right ≡ range_cell from count more
    → from + (count + more) < 2 ^ 16 → RangeIs (read_row_at t at).right.value from count more
unfolding range_cell
row_range t at card from count more r s e small =
    let ranges = range_read from count more (omega arith) (omega arith) (omega arith) in
    let same = ap (λ (c : Cell). c.value) e in
    let read = ap (λ (c : Cell). c.value) (right_read t at card r s (rw same ranges.small)) ∙ same in
    record {
      first = ap range_from read ∙ ranges.first;
      second = ap range_count read ∙ ranges.second;
      third = ap range_more read ∙ ranges.third;
    }

module _ (t : List ℕ) (kept : keeps_rules current t ≡ true) where
  -- the program that the table holds is in range
  pub program_in_range : ProgramInRange current (program_in t)
  program_in_range = in_range_lem current (program_in t) (keeps_image current t kept).0

  -- its regions stand at their places
  regions : RegionsStand t (program_in t)
  regions =
      let size = current.table_size in
      let whole : image current (program_in t) ++ drop size t ≡ t =
      ap (λ (l : List ℕ). l ++ drop size t) (keeps_image current t kept).1 ∙ take-append-drop size t in
      subst (λ (l : List ℕ). RegionsStand l (program_in t)) whole
      (regions_stand current (program_in t) current_size program_in_range (drop size t))

  -- the row of each of its steps
  pub kept_row : (k : ℕ) (d : Step) → k < length (program_in t).steps
      → RowPlace t (steps_at + 24 * k) (length (all_elements (program_in t).steps)) (length (all_items (program_in t).steps))
      (get_or (program_in t).steps k d).card (get_or (program_in t).steps k d).statement
  kept_row k d inside =
      let ss = (program_in t).steps in
      row-place t steps_at 0 0 ss k (steps_at + 24 * k) (length (all_elements ss)) (length (all_items ss)) d regions.rows inside refl
      (omega arith) (omega arith)

  -- the literal of each of its elements ends within the table
  pub kept_literal : (k : ℕ) → k < length (all_elements (program_in t).steps) → (cell_at t (elements_at + 8 * k)).kind ≡ literal_kind.number
      → range_from (cell_at t (elements_at + 8 * k)).value + range_count (cell_at t (elements_at + 8 * k)).value ≤ Limits.literals
  kept_literal k inside h =
      let es = all_elements (program_in t).steps in
      let here = elements_at + 8 * k in
      let ok = program_in_range in
      let place = cell-place t elements_at 0 es k here Limits.literals (free_filler 0) regions.elements inside refl (omega arith) in
      literal_end t here Limits.literals (get_or es k (free_filler 0)) (omega arith) place h
