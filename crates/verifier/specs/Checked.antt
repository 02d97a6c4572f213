-- What a table that keeps the rules is, region by region: a program in range, whose cells and rows stand at their places, the header's
-- counts, and zeros behind. Assumes nothing.
use Rattle.std.specs.Prelude.{true, List, [], ◌∷◌, ◌++◌, ◌≡◌, refl, ℕ, ◌+◌, ◌*◌, ◌-◌, ◌≤◌, ◌<◌, length, take, get_or, replicate}
use Rattle.std.proofs.Common.{sym, ◌∙◌, ap, ap₂, arith}
use Rattle.base.specs.Current.{current, table_size}
use Rattle.base.specs.ListLaws.{same_refl, length_stretch}
use Rattle.encoding.specs.NumeralLaws.{BytesStand, stands_back, byte-read, number_behind, number_written}
use Rattle.encoding.specs.Numerals.{in_bytes, numeral_at}
use Rattle.encoding.specs.Rules.{is_program, keeps_rules}
use Rattle.encoding.specs.Table.{step_rows, all_elements, all_items, all_literals, element_rows, item_rows, filled_to}
use Rattle.encoding.specs.Table.{steps_at, elements_at, items_at, literals_at, format, header, image}
use Rattle.encoding.specs.TableLaws.{ProgramInRange, in_range_lem, length-filled_to, length-element_rows, length-item_rows, keeps_image, length-step_rows}
use Rattle.encoding.specs.TableReading.{program_in}
use Rattle.decoder.specs.Kept.{step_count}
use Rattle.verifier.specs.Same.{SameSteps, all-elements, all-items, literals-written, items-written, elements-written, steps-written}
use Rattle.verifier.specs.Split.{piece-split, filled-split, items-same, elements_same, steps-same}
use Rattle.verifier.specs.Written.{piece, piece_add, piece_stands, piece-first}

-- so many zeros from a place on
abbrev pub Zeros : List ℕ → ℕ → ℕ → Type 0
Zeros t at n = piece t at n ≡ replicate n 0

pub record Checked (t : List ℕ) : Type 0 where
  pub format : get_or t 0 0 ≡ 1
  pub second : get_or t 1 0 ≡ 0
  pub inside : is_program current (program_in t) ≡ true
  pub elements : length (all_elements (program_in t).steps) ≡ numeral_at 2 t 8
  pub items : length (all_items (program_in t).steps) ≡ numeral_at 2 t 10
  pub literals : length (all_literals (all_elements (program_in t).steps)) ≡ numeral_at 2 t 12
  pub steps : SameSteps t 0 0 0 0 (program_in t).steps
  pub header_zeros : Zeros t 14 50
  pub steps_zeros : Zeros t (64 + 24 * numeral_at 2 t 2) (6144 - 24 * numeral_at 2 t 2)
  pub elements_zeros : Zeros t (6208 + 8 * numeral_at 2 t 8) (8192 - 8 * numeral_at 2 t 8)
  pub items_zeros : Zeros t (14400 + 8 * numeral_at 2 t 10) (8192 - 8 * numeral_at 2 t 10)
  pub literals_zeros : Zeros t (22592 + numeral_at 2 t 12) (6080 - numeral_at 2 t 12)

-- bytes that are filled up with zeros
filled-written : (t : List ℕ) (at n k : ℕ) (bs : List ℕ) → bs ≡ piece t at k → k ≤ n → at + k ≤ length t → Zeros t (at + k) (n - k)
    → filled_to n bs ≡ piece t at n
unfolding filled_to
filled-written t at n k bs e inside room z =
    let size = ap length e ∙ length_stretch t at k room in
    let sum : k + (n - k) ≡ n = omega arith in
    ap (λ (m : ℕ). bs ++ replicate (n - m) 0) size
    ∙ ap₂ {C = List ℕ} ◌++◌ e (sym z)
    ∙ sym (piece_add t at k (n - k))
    ∙ ap (piece t at) sum

-- the header of the program that the table holds
header-written : (t : List ℕ) → ((i : ℕ) → get_or t i 0 < 256) → table_size ≤ length t → Checked t → header (program_in t) ≡ piece t 0 14
unfolding header format program_in
header-written t bytes room c =
    let steps = ap (in_bytes 2) (step_count t) ∙ number_written t bytes 2 2 (omega arith) in
    let strings = number_written t bytes 2 4 (omega arith) in
    let numbers = number_written t bytes 2 6 (omega arith) in
    let elements = ap (in_bytes 2) c.elements ∙ number_written t bytes 2 8 (omega arith) in
    let items = ap (in_bytes 2) c.items ∙ number_written t bytes 2 10 (omega arith) in
    let literals = ap (in_bytes 2) c.literals ∙ number_written t bytes 2 12 (omega arith) in
    rw (
      piece-first t bytes 0 13 (omega arith),
      piece-first t bytes 1 12 (omega arith),
      piece_add t 2 2 10,
      piece_add t 4 2 8,
      piece_add t 6 2 6,
      piece_add t 8 2 4,
      piece_add t 10 2 2,
      c.format,
      c.second,
      steps,
      strings,
      numbers,
      elements,
      items,
      literals,
    )

-- a table of bytes that is checked is the image of its program
image-written : (t : List ℕ) → ((i : ℕ) → get_or t i 0 < 256) → table_size ≤ length t → Checked t
    → image current (program_in t) ≡ take table_size t
unfolding image steps_at elements_at items_at literals_at current
image-written t bytes room c =
    let p = program_in t in
    let ok = in_range_lem current p c.inside in
    let ss = p.steps in
    let es = all_elements ss in
    let count = step_count t in
    let same = c.steps in
    let rows = steps-written t 0 0 0 0 ss same ∙ ap (λ (n : ℕ). piece t 64 (24 * n)) count in
    let cells = elements-written t 0 0 es (all-elements t 0 0 0 0 ss same) ∙ ap (λ (n : ℕ). piece t 6208 (8 * n)) c.elements in
    let items = items-written t 0 (all_items ss) (all-items t 0 0 0 0 ss same) ∙ ap (λ (n : ℕ). piece t 14400 (8 * n)) c.items in
    let texts =
    literals-written t 0 0 es (all-elements t 0 0 0 0 ss same) ∙ ap (piece t 22592) c.literals in
    let one = filled-written t 0 64 14 (header p) (header-written t bytes room c) (omega arith) (omega arith) c.header_zeros in
    let two = filled-written t 64 6144 (24 * numeral_at 2 t 2) (step_rows 0 0 ss) rows (omega arith) (omega arith) c.steps_zeros in
    let three = filled-written t 6208 8192 (8 * numeral_at 2 t 8) (element_rows 0 es) cells (omega (arith, c.elements, ok.elements)) (omega (arith, c.elements, ok.elements)) c.elements_zeros in
    let four = filled-written t 14400 8192 (8 * numeral_at 2 t 10) (item_rows (all_items ss)) items (omega (arith, c.items, ok.items)) (omega (arith, c.items, ok.items)) c.items_zeros in
    let five = filled-written t 22592 6080 (numeral_at 2 t 12) (all_literals es) texts (omega (arith, c.literals, ok.literals)) (omega (arith, c.literals, ok.literals)) c.literals_zeros in
    let last = ap₂ {C = List ℕ} ◌++◌ four five ∙ sym (piece_add t 14400 8192 6080) in
    let behind = ap₂ {C = List ℕ} ◌++◌ three last ∙ sym (piece_add t 6208 8192 14272) in
    let most = ap₂ {C = List ℕ} ◌++◌ two behind ∙ sym (piece_add t 64 6144 22464) in
    ap₂ {C = List ℕ} ◌++◌ one most ∙ sym (piece_add t 0 64 28608)

-- and keeps the rules
pub checked_keeps : (t : List ℕ) → ((i : ℕ) → get_or t i 0 < 256) → table_size ≤ length t → Checked t → keeps_rules current t ≡ true
unfolding keeps_rules current
checked_keeps t bytes room c = rw (c.inside, image-written t bytes room c) (same_refl (take table_size t))

-- the counts of the header are the program's
record Counted (t : List ℕ) : Type 0 where
  format : get_or t 0 0 ≡ 1
  second : get_or t 1 0 ≡ 0
  elements : length (all_elements (program_in t).steps) ≡ numeral_at 2 t 8
  items : length (all_items (program_in t).steps) ≡ numeral_at 2 t 10
  literals : length (all_literals (all_elements (program_in t).steps)) ≡ numeral_at 2 t 12

-- where its bytes stand
header_counted : (t : List ℕ) → ProgramInRange current (program_in t) → BytesStand t 0 (header (program_in t)) → Counted t
unfolding header in_bytes format
header_counted t ok s =
    let p = program_in t in
    let ss = p.steps in
    let es = all_elements ss in
    let ls = in_bytes 2 (length (all_literals es)) in
    let is = in_bytes 2 (length (all_items ss)) ++ ls in
    let start : List ℕ = 1 ∷ (0 ∷ (in_bytes 2 (length ss) ++ (in_bytes 2 p.strings ++ in_bytes 2 p.numbers))) in
    let first = in_bytes 2 (length es) in
    let second = in_bytes 2 (length (all_items ss)) in
    record {
      format = byte-read t 0 1 (0 ∷ (in_bytes 2 (length ss) ++ (in_bytes 2 p.strings ++ (in_bytes 2 p.numbers ++ (first ++ is))))) s;
      second =
          byte-read t 1 0 (in_bytes 2 (length ss) ++ (in_bytes 2 p.strings ++ (in_bytes 2 p.numbers ++ (first ++ is))))
          (stands_back t (1 ∷ []) (0 ∷ (in_bytes 2 (length ss) ++ (in_bytes 2 p.strings ++ (in_bytes 2 p.numbers ++ (first ++ is))))) s);
      elements = sym (number_behind 2 t 0 (length es) start is (omega (arith, ok.elements)) s);
      items = sym (number_behind 2 t 0 (length (all_items ss)) (start ++ first) ls (omega (arith, ok.items)) s);
      literals = sym (number_behind 2 t 0 (length (all_literals es)) (start ++ (first ++ second)) [] (omega (arith, ok.literals)) s);
    }

-- a table that keeps the rules is checked
pub keeps_checked : (t : List ℕ) → table_size ≤ length t → keeps_rules current t ≡ true → Checked t
unfolding image steps_at elements_at items_at literals_at current header in_bytes
keeps_checked t room h =
    let p = program_in t in
    let both = keeps_image current t h in
    let ok = in_range_lem current p both.0 in
    let ss = p.steps in
    let es = all_elements ss in
    let rows = step_rows 0 0 ss in
    let cells = element_rows 0 es in
    let items = item_rows (all_items ss) in
    let texts = all_literals es in
    let size = length-step_rows 0 0 ss in
    let cell_size = length-element_rows 0 es in
    let item_size = length-item_rows (all_items ss) in
    let count = step_count t in
    let four = filled_to 8192 items ++ filled_to 6080 texts in
    let three = filled_to 8192 cells ++ four in
    let two = filled_to 6144 rows ++ three in
    let a = piece-split t 0 64 28608 (filled_to 64 (header p)) two both.1 (length-filled_to 64 (header p) (omega arith)) (omega arith) in
    let b = piece-split t 64 6144 22464 (filled_to 6144 rows) three a.1 (length-filled_to 6144 rows (omega (arith, ok.steps))) (omega arith) in
    let c = piece-split t 6208 8192 14272 (filled_to 8192 cells) four b.1 (length-filled_to 8192 cells (omega (arith, ok.elements))) (omega arith) in
    let d =
    piece-split t 14400 8192 6080 (filled_to 8192 items) (filled_to 6080 texts) c.1 (length-filled_to 8192 items (omega (arith, ok.items)))
    (omega arith) in
    let first = filled-split t 0 64 14 (header p) a.0 refl (omega arith) (omega arith) in
    let counted = header_counted t ok (piece_stands t 0 14 first.0) in
    let second = filled-split t 64 6144 (24 * numeral_at 2 t 2) rows b.0 (omega arith) (omega (arith, ok.steps)) (omega arith) in
    let third =
    filled-split t 6208 8192 (8 * numeral_at 2 t 8) cells c.0 (omega (arith, counted.elements)) (omega (arith, counted.elements, ok.elements))
    (omega arith) in
    let fourth =
    filled-split t 14400 8192 (8 * numeral_at 2 t 10) items d.0 (omega (arith, counted.items)) (omega (arith, counted.items, ok.items))
    (omega arith) in
    let fifth =
    filled-split t 22592 6080 (numeral_at 2 t 12) texts d.1 counted.literals (omega (arith, counted.literals, ok.literals)) (omega arith) in
    let same =
    elements_same t 0 0 es (third.0 ∙ ap (λ (n : ℕ). piece t 6208 (8 * n)) (sym counted.elements)) (omega (arith, ok.elements))
    (fifth.0 ∙ ap (piece t 22592) (sym counted.literals)) (omega (arith, ok.literals)) in
    let own =
    items-same t 0 (all_items ss) (fourth.0 ∙ ap (λ (n : ℕ). piece t 14400 (8 * n)) (sym counted.items)) (omega (arith, ok.items)) in
    record {
      format = counted.format;
      second = counted.second;
      inside = both.0;
      elements = counted.elements;
      items = counted.items;
      literals = counted.literals;
      steps =
          steps-same t 0 0 0 0 ss (second.0 ∙ ap (λ (n : ℕ). piece t 64 (24 * n)) (sym count)) (omega (arith, ok.steps)) same own;
      header_zeros = first.1;
      steps_zeros = second.1;
      elements_zeros = third.1;
      items_zeros = fourth.1;
      literals_zeros = fifth.1;
    }
