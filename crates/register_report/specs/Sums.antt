-- What the code says of a report's parts. Assumes nothing.
use Rattle.std.specs.Prelude.{true, List, [], ◌∷◌, map, ◌≡◌, ℕ, ◌+◌, ◌≤◌, leb, length, take, drop}
use Rattle.base.specs.Lists.{all}
use Rattle.encoding.specs.Splices.{splice}
use Rattle.cards.specs.Bytes.{is_digit}
use Rattle.values.specs.Conversion.{decimal}
use Rattle.register.specs.Line.{is_record}
use Rattle.register.specs.LineLaws.{first_field}
use Rattle.register.specs.Register.{Lines, most_lines}
use Rattle.register.specs.Report.{Totals, tonnes_of, value_of, total_line, total_lines, printed_records}
use Rattle.register.specs.ReportLaws.{most_value}
use Rattle.std.specs.Prelude.{Result, Ok, Err}
use Rattle.register.specs.declared.Refusal.{Refusal}
use Rattle.register_report.specs.Codes.{currency_code_in, code_count, sum_of, word_of}
use Rattle.register_report.specs.declared.Field.{Field}
use Rattle.register_report.specs.declared.Sizes.{Sizes}
use Rattle.register_report.specs.declared.Sums.{Sums}
use Rattle.register_report.specs.declared.Worth.{Worth}

-- the field that begins at a place of a line
abbrev pub field_at : (line : List ℕ) (at : ℕ) → List ℕ
field_at line at = first_field (drop at line)

-- it is digits alone, of a number not above the largest price
pub record Numeric (line : List ℕ) (at : ℕ) : Type 0 where
  pub inside : at ≤ length line
  pub digits : all is_digit (field_at line at) ≡ true
  pub small : decimal 0 (field_at line at) ≤ 999_999

-- its value, and where it ends
pub record FieldShows (line : List ℕ) (at : ℕ) (r : Field) : Type 0 where
  pub number : r.value ≡ decimal 0 (field_at line at)
  pub ends : r.end ≡ at + length (field_at line at)

-- what a line adds to its currency's sums
pub record Weighed (line : List ℕ) (r : Worth) : Type 0 where
  pub currency : r.code ≡ currency_code_in line
  pub weight : r.tonnes ≡ tonnes_of line
  pub cents : r.value ≡ value_of line

-- Columns of numbers: as many of each as there are lines, and small enough for sums in 64 bits.
pub record ColumnsFit (codes tonnes values : List ℕ) : Type 0 where
  pub few : length codes ≤ most_lines
  pub weights : length tonnes ≡ length codes
  pub cents : length values ≡ length codes
  pub light : all (λ t. leb t 99_999) tonnes ≡ true
  pub cheap : all (λ v. leb v most_value) values ≡ true

-- They are those of lines.
pub record Columns (lines : Lines) (codes tonnes values : List ℕ) : Type 0 where
  pub few : length lines ≤ most_lines
  pub good : all is_record lines ≡ true
  pub currency : codes ≡ map currency_code_in lines
  pub weight : tonnes ≡ map tonnes_of lines
  pub cents : values ≡ map value_of lines

-- the columns of what lines add
abbrev pub codes_in : List Worth → List ℕ
codes_in = map (λ w. w.code)

abbrev pub tonnes_in : List Worth → List ℕ
tonnes_in = map (λ w. w.tonnes)

abbrev pub values_in : List Worth → List ℕ
values_in = map (λ w. w.value)

abbrev pub WorthsFit : (worths : List Worth) → Type 0
WorthsFit worths = ColumnsFit (codes_in worths) (tonnes_in worths) (values_in worths)

abbrev pub WorthsOf : (lines : Lines) (worths : List Worth) → Type 0
WorthsOf lines worths = Columns lines (codes_in worths) (tonnes_in worths) (values_in worths)

-- the sums of a code
pub record Summed (code : ℕ) (codes tonnes values : List ℕ) (r : Sums) : Type 0 where
  pub number : r.count ≡ code_count code codes
  pub weight : r.tonnes ≡ sum_of code codes tonnes
  pub cents : r.value ≡ sum_of code codes values

abbrev pub totals_from : Sums → Totals
totals_from s = record { count = s.count; tonnes = s.tonnes; value = s.value }

-- room for a TOTAL line with any three numbers of 64 bits
abbrev pub longest_total : ℕ
longest_total = 73

-- a code's TOTAL line with its byte 10
unfoldable pub total_text : (code : ℕ) → Sums → List ℕ
total_text code s = printed_records (total_line (word_of code) (totals_from s) ∷ [])

-- the most bytes of a TOTAL line of a register with its byte 10
abbrev pub most_total : ℕ
most_total = 38

-- the TOTAL lines of some lines stand at the start
pub record TotalsPut (lines : Lines) (out : List ℕ) (end : ℕ) : Type 0 where
  pub within : end ≤ length out
  pub bytes : take end out ≡ printed_records (total_lines lines)

-- whatever lines add this
abbrev pub TotalsFor : (worths : List Worth) (out : List ℕ) (end : ℕ) → Type 0
TotalsFor worths out end = (lines : Lines) → WorthsOf lines worths → TotalsPut lines out end

-- and the bytes that the lines and they are printed in
pub record TotalsMade (lines : Lines) (out : List ℕ) (r : Sizes) : Type 0 where
  pub size : r.lines ≡ length (printed_records lines)
  pub put : TotalsPut lines out r.totals

-- lines were printed at the start
pub record LinesPut (lines : Lines) (before after : List ℕ) (end : ℕ) : Type 0 where
  pub ends : end ≡ length (printed_records lines)
  pub bytes : after ≡ splice before 0 (printed_records lines)

-- how long the report is that was put, nothing where it was refused
abbrev pub size_in : Result ℕ Refusal → ℕ
size_in (Ok size) = size
size_in (Err refusal) = 0
