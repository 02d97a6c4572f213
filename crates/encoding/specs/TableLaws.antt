-- A program that is in range is read back from its table, whatever stands behind the table, and the table has its full size and keeps
-- the rules. Assumes nothing.
use Rattle.std.specs.Prelude.{true, ◌&&◌, List, [], ◌∷◌, ◌++◌, ◌≡◌, ℕ, ◌+◌, ◌*◌, ◌-◌, ◌^◌, ◌≤◌, ◌<◌, leb, length, take, replicate}
use Rattle.std.proofs.Math.Bool.{and-eq-true_iff}
use Rattle.std.proofs.Math.Path.{refl}
use Rattle.std.proofs.Common.{◌∙◌, ap, take_at, leb-true}
use native.Mathlib.Omega.{arith}
use Rattle.std.proofs.Math.ListN.{length-append}
use Rattle.std.proofs.lemmas.List.{length-replicate}
use Rattle.base.specs.Edition.{Edition}
use Rattle.base.specs.ListLaws.{same_true, same_refl}
use Rattle.base.specs.Lists.{all, same}
use Rattle.syntax.specs.Program.{Item, PatternElement, Step, Program, last_finishes}
use Rattle.encoding.specs.CellLaws.{length-cell_bytes}
use Rattle.encoding.specs.NumeralLaws.{BytesStand, stands_moved, stands_front, stands_back, number_behind}
use Rattle.encoding.specs.Numerals.{in_bytes, bias}
use Rattle.encoding.specs.RowLaws.{EachFrom, ItemStands, ElementStands, length-row_bytes, steps-read}
use Rattle.encoding.specs.Rules.{step_holds, is_program, keeps_rules}
use Rattle.encoding.specs.Table.{cell_bytes, item_cell, pattern_cell, literal_in, elements_of, items_of, step_rows}
use Rattle.encoding.specs.Table.{all_elements, all_items, all_literals, element_rows, item_rows, filled_to, steps_at, elements_at, items_at}
use Rattle.encoding.specs.Table.{literals_at, format, header, image}
use Rattle.encoding.specs.TableReading.{read_steps, program_in}

-- Limits that the table's layout rests on: so few strings, numbers, steps, elements, items and literal bytes, and steps that hold, of
-- which the last finishes.
pub record ProgramInRange (e : Edition) (p : Program) : Type 0 where
  pub strings : p.strings ≤ 32
  pub numbers : p.numbers ≤ 32
  pub steps : length p.steps ≤ 256
  pub elements : length (all_elements p.steps) ≤ 1024
  pub items : length (all_items p.steps) ≤ 1024
  pub literals : length (all_literals (all_elements p.steps)) ≤ 4096
  pub last : last_finishes p.steps ≡ true
  pub hold : all (step_holds e p.strings p.numbers (length p.steps)) p.steps ≡ true

-- which a program in range has
pub in_range_lem : (e : Edition) (p : Program) → is_program e p ≡ true → ProgramInRange e p
unfolding is_program
in_range_lem e p h =
    let ss = p.steps in
    let es = all_elements ss in
    let hold = last_finishes ss && all (step_holds e p.strings p.numbers (length ss)) ss in
    let literals = leb (length (all_literals es)) 4096 in
    let items = leb (length (all_items ss)) 1024 in
    let elements = leb (length es) 1024 in
    let steps = leb (length ss) 256 in
    let numbers = leb p.numbers 32 in
    let one = (and-eq-true_iff (leb p.strings 32) (numbers && (steps && (elements && (items && (literals && hold)))))).0 h in
    let two = (and-eq-true_iff numbers (steps && (elements && (items && (literals && hold))))).0 one.1 in
    let three = (and-eq-true_iff steps (elements && (items && (literals && hold)))).0 two.1 in
    let four = (and-eq-true_iff elements (items && (literals && hold))).0 three.1 in
    let five = (and-eq-true_iff items (literals && hold)).0 four.1 in
    let six = (and-eq-true_iff literals hold).0 five.1 in
    let seven = (and-eq-true_iff (last_finishes ss) (all (step_holds e p.strings p.numbers (length ss)) ss)).0 six.1 in
    record {
      strings = leb-true p.strings 32 one.0;
      numbers = leb-true p.numbers 32 two.0;
      steps = leb-true (length ss) 256 three.0;
      elements = leb-true (length es) 1024 four.0;
      items = leb-true (length (all_items ss)) 1024 five.0;
      literals = leb-true (length (all_literals es)) 4096 six.0;
      last = seven.0;
      hold = seven.1;
    }

-- filled up bytes have the size asked for
pub length-filled_to : (n : ℕ) (bs : List ℕ) → length bs ≤ n → length (filled_to n bs) ≡ n
unfolding filled_to
length-filled_to n bs h = simp (length-append, length-replicate) (omega arith)

-- the bytes of the rows of steps
pub length-step_rows : (element item : ℕ) (ss : List Step) → length (step_rows element item ss) ≡ 24 * length ss
unfolding step_rows
length-step_rows element item [] = refl
length-step_rows element item (s ∷ ss) =
    let y = s.statement in
    let rest = length-step_rows (element + length (elements_of y)) (item + length (items_of y)) ss in
    simp (length-append, length-row_bytes, rest) (omega arith)

-- the bytes of the rows of elements
pub length-element_rows : (at : ℕ) (xs : List PatternElement) → length (element_rows at xs) ≡ 8 * length xs
unfolding element_rows
length-element_rows at [] = refl
length-element_rows at (x ∷ xs) =
    simp (length-append, length-cell_bytes, length-element_rows (at + length (literal_in x)) xs) (omega arith)

-- the bytes of the rows of items
pub length-item_rows : (xs : List Item) → length (item_rows xs) ≡ 8 * length xs
unfolding item_rows
length-item_rows [] = refl
length-item_rows (x ∷ xs) = simp (length-append, length-cell_bytes, length-item_rows xs) (omega arith)

-- the bytes of the header
pub length-header : (p : Program) → length (header p) ≡ 14
unfolding header in_bytes
length-header p = refl

-- bytes that are filled up stand where the whole stands
filled-front : (t : List ℕ) {at : ℕ} (n : ℕ) (bs : List ℕ) → BytesStand t at (filled_to n bs) → BytesStand t at bs
unfolding filled_to
filled-front t n bs s = stands_front t bs (replicate (n - length bs) 0) s

-- the bytes of a region stand where it starts
region_front : (t : List ℕ) {at : ℕ} (n : ℕ) (bs rest : List ℕ) → BytesStand t at (filled_to n bs ++ rest) → BytesStand t at bs
region_front t n bs rest s = filled-front t n bs (stands_front t (filled_to n bs) rest s)

-- and the next region stands behind its size
region_back : (t : List ℕ) {at next : ℕ} (n : ℕ) (bs rest : List ℕ) → length bs ≤ n → at + n ≡ next → BytesStand t at (filled_to n bs ++ rest)
    → BytesStand t next rest
region_back t {at} n bs rest small e s =
    stands_moved t (ap (λ k. at + k) (length-filled_to n bs small) ∙ e) (stands_back t (filled_to n bs) rest s)

-- the bytes of each region fit into it
record RegionsFit (e : Edition) (p : Program) : Type 0 where
  counts : length (header p) ≤ steps_at
  rows : length (step_rows 0 0 p.steps) ≤ elements_at - steps_at
  elements : length (element_rows 0 (all_elements p.steps)) ≤ items_at - elements_at
  items : length (item_rows (all_items p.steps)) ≤ literals_at - items_at
  literals : length (all_literals (all_elements p.steps)) ≤ e.table_size - literals_at

-- the bytes of each region stand at its place
pub record RegionsStand (t : List ℕ) (p : Program) : Type 0 where
  pub counts : BytesStand t 0 (header p)
  pub rows : BytesStand t steps_at (step_rows 0 0 p.steps)
  pub elements : BytesStand t elements_at (element_rows 0 (all_elements p.steps))
  pub items : BytesStand t items_at (item_rows (all_items p.steps))
  pub literals : BytesStand t literals_at (all_literals (all_elements p.steps))

-- the table of a program in range
module _ (e : Edition) (p : Program) (size : literals_at + 4096 ≤ e.table_size) (ok : ProgramInRange e p) where
  -- each region has room for its bytes
  regions_fit : RegionsFit e p
  unfolding steps_at elements_at items_at literals_at
  regions_fit =
      let ss = p.steps in
      let counts = length-header p in
      let rows = length-step_rows 0 0 ss in
      let elements = length-element_rows 0 (all_elements ss) in
      let items = length-item_rows (all_items ss) in
      omega arith

  -- so the table has its full size
  length-image : length (image e p) ≡ e.table_size
  unfolding image steps_at elements_at items_at literals_at
  length-image =
      let ss = p.steps in
      let fit = regions_fit in
      simp (
        length-append,
        length-filled_to steps_at (header p) fit.counts,
        length-filled_to (elements_at - steps_at) (step_rows 0 0 ss) fit.rows,
        length-filled_to (items_at - elements_at) (element_rows 0 (all_elements ss)) fit.elements,
        length-filled_to (literals_at - items_at) (item_rows (all_items ss)) fit.items,
        length-filled_to (e.table_size - literals_at) (all_literals (all_elements ss)) fit.literals,
      ) (omega arith)

  -- and each region stands at its place, whatever stands behind the table
  pub regions_stand : (rest : List ℕ) → RegionsStand (image e p ++ rest) p
  unfolding image steps_at elements_at items_at literals_at
  regions_stand rest =
      let t = image e p ++ rest in
      let ss = p.steps in
      let fit = regions_fit in
      let literals = filled_to (e.table_size - literals_at) (all_literals (all_elements ss)) in
      let items = filled_to (literals_at - items_at) (item_rows (all_items ss)) ++ literals in
      let elements = filled_to (items_at - elements_at) (element_rows 0 (all_elements ss)) ++ items in
      let rows = filled_to (elements_at - steps_at) (step_rows 0 0 ss) ++ elements in
      let first : BytesStand t 0 (filled_to steps_at (header p) ++ rows) = record { behind = rest; here = refl } in
      let second = region_back t {next = steps_at} steps_at (header p) rows fit.counts refl first in
      let third = region_back t {next = elements_at} (elements_at - steps_at) (step_rows 0 0 ss) elements fit.rows refl second in
      let fourth =
      region_back t {next = items_at} (items_at - elements_at) (element_rows 0 (all_elements ss)) items fit.elements refl third in
      let fifth = region_back t {next = literals_at} (literals_at - items_at) (item_rows (all_items ss)) literals fit.items refl fourth in
      record {
        counts = region_front t steps_at (header p) rows first;
        rows = region_front t (elements_at - steps_at) (step_rows 0 0 ss) elements second;
        elements = region_front t (items_at - elements_at) (element_rows 0 (all_elements ss)) items third;
        items = region_front t (literals_at - items_at) (item_rows (all_items ss)) literals fourth;
        literals = filled-front t (e.table_size - literals_at) (all_literals (all_elements ss)) fifth;
      }

-- the cells of items stand where their bytes do
items_stand : (t : List ℕ) (at : ℕ) (xs : List Item) → BytesStand t (items_at + 8 * at) (item_rows xs) → EachFrom (ItemStands t) at xs
unfolding item_rows
items_stand t at [] s = tt
items_stand t at (x ∷ xs) s =
    let own = cell_bytes (item_cell x) in
    let place : items_at + 8 * at + length own ≡ items_at + 8 * (at + 1) = omega (arith, length-cell_bytes (item_cell x)) in
    (stands_front t own (item_rows xs) s, items_stand t (at + 1) xs (stands_moved t place (stands_back t own (item_rows xs) s)))

-- the cells of elements stand where their bytes do, with their literal bytes
elements_stand : (t : List ℕ) (at place : ℕ) (xs : List PatternElement) → BytesStand t (elements_at + 8 * at) (element_rows place xs)
    → BytesStand t (literals_at + place) (all_literals xs) → place + length (all_literals xs) < 2 ^ 16 → EachFrom (ElementStands t) at xs
unfolding element_rows all_literals
elements_stand t at place [] s w small = tt
elements_stand t at place (x ∷ xs) s w small =
    let own = cell_bytes (pattern_cell place x) in
    let bytes = literal_in x in
    let count = length-append bytes (all_literals xs) in
    let next : elements_at + 8 * at + length own ≡ elements_at + 8 * (at + 1) = omega (arith, length-cell_bytes (pattern_cell place x)) in
    let behind : literals_at + place + length bytes ≡ literals_at + (place + length bytes) = omega arith in
    let rest = element_rows (place + length bytes) xs in (
      record {
        literal = place;
        cell = stands_front t own rest s;
        bytes = stands_front t bytes (all_literals xs) w;
        small = omega arith;
      },
      elements_stand t (at + 1) (place + length bytes) xs (stands_moved t next (stands_back t own rest s))
          (stands_moved t behind (stands_back t bytes (all_literals xs) w)) (omega arith),
    )

-- a program in range is read where its regions stand
program_read : (e : Edition) (p : Program) (t : List ℕ) → e.limit < bias → ProgramInRange e p → RegionsStand t p → program_in t ≡ p
unfolding program_in header in_bytes
program_read e p t limit ok s =
    let ss = p.steps in
    let es = all_elements ss in
    let start : List ℕ = format ∷ (0 ∷ []) in
    let strings = start ++ in_bytes 2 (length ss) in
    let numbers = strings ++ in_bytes 2 p.strings in
    let from_elements = in_bytes 2 (length es) ++ (in_bytes 2 (length (all_items ss)) ++ in_bytes 2 (length (all_literals es))) in
    let from_numbers = in_bytes 2 p.numbers ++ from_elements in
    let from_strings = in_bytes 2 p.strings ++ from_numbers in
    let count = number_behind 2 t 0 (length ss) start from_strings (omega arith) s.counts in
    let string_count = number_behind 2 t 0 p.strings strings from_numbers (omega arith) s.counts in
    let number_count = number_behind 2 t 0 p.numbers numbers from_elements (omega arith) s.counts in
    let rows : BytesStand t (steps_at + 24 * 0) (step_rows 0 0 ss) = stands_moved t (omega arith) s.rows in
    let cells : BytesStand t (elements_at + 8 * 0) (element_rows 0 es) = stands_moved t (omega arith) s.elements in
    let bytes : BytesStand t (literals_at + 0) (all_literals es) = stands_moved t (omega arith) s.literals in
    let elements = elements_stand t 0 0 es cells bytes (omega arith) in
    let items = items_stand t 0 (all_items ss) (stands_moved t (omega arith) s.items) in
    let steps =
    steps-read e limit p.strings p.numbers (length ss) ok.numbers ok.steps t 0 0 0 ss ok.hold rows elements items
    (omega arith) (omega arith) in
    let read = ap (read_steps t 0) count ∙ steps in
    λ i. record { strings = string_count i; numbers = number_count i; steps = read i }

-- R14 the table of a program has its full size
pub image-length : (e : Edition) (p : Program) → is_program e p ≡ true → literals_at + 4096 ≤ e.table_size
    → length (image e p) ≡ e.table_size
image-length e p h size = length-image e p size (in_range_lem e p h)

-- R14 the table that holds a program reads as it, whatever stands behind the table
pub program_in-image : (e : Edition) (p : Program) (rest : List ℕ) → e.limit < bias → literals_at + 4096 ≤ e.table_size
    → is_program e p ≡ true → program_in (image e p ++ rest) ≡ p
program_in-image e p rest limit size h =
    let ok = in_range_lem e p h in
    program_read e p (image e p ++ rest) limit ok (regions_stand e p size ok rest)

-- Q13 and it keeps the rules
pub image_keeps : (e : Edition) (p : Program) (rest : List ℕ) → e.limit < bias → literals_at + 4096 ≤ e.table_size
    → is_program e p ≡ true → keeps_rules e (image e p ++ rest) ≡ true
unfolding keeps_rules
image_keeps e p rest limit size h =
    let whole = take_at (image e p) rest e.table_size (image-length e p h size) in
    rw (program_in-image e p rest limit size h, h, whole) (same_refl (image e p))

-- Q13 a table that keeps the rules is the table of the program it reads as, which is in range
pub keeps_image : (e : Edition) (t : List ℕ) → keeps_rules e t ≡ true
    → (is_program e (program_in t) ≡ true) × (image e (program_in t) ≡ take e.table_size t)
unfolding keeps_rules
keeps_image e t h =
    let both = (and-eq-true_iff (is_program e (program_in t)) (same (image e (program_in t)) (take e.table_size t))).0 h in
    (both.0, same_true (image e (program_in t)) (take e.table_size t) both.1)
