-- What the code says of the fields of a line, one after the other. Assumes nothing.
use Rattle.std.specs.Prelude.{Bool, true, false, cond, not, ◌&&◌, List, [], ◌∷◌, ◌++◌, ◌≡◌, ℕ, ◌≤◌, ◌<◌, eqb, length, take, drop, get_or}
use Rattle.std.specs.Prelude.{Option, Some, None}
use Rattle.std.specs.Option.{option_and_then}
use Rattle.std.specs.List.{prefix_len}
use Rattle.base.specs.Lists.{all, is_nil}
use Rattle.cards.specs.Bytes.{between, comma, is_digit, is_letter, is_name_byte}
use Rattle.register.specs.Line.{fields, each, is_line, is_currency, is_record}
use Rattle.register_lines.specs.declared.Fields.{Fields}
use Rattle.register_lines.specs.declared.Fields.TheVariants.{Four, Five}
use Rattle.register_lines.specs.declared.Form.{Form}

-- n bytes at the start pass the test, and the next doesn't
pub record RunOfBytes (p : ℕ → Bool) (bytes : List ℕ) (n : ℕ) : Type 0 where
  pub inside : n ≤ length bytes
  pub pass : all p (take n bytes) ≡ true
  pub stop : n < length bytes → p (get_or bytes n 0) ≡ false

-- a comma comes first, and behind it fields that pass these tests
unfoldable pub fields_behind : List (List ℕ → Bool) → (rest : List ℕ) → Bool
fields_behind tests [] = false
fields_behind tests (b ∷ bs) = eqb b comma && each tests (fields bs)

-- how many fields there are where the tests of four pass, or those of five; none where neither do
abbrev pub field_count_of : (four five : Bool) → Option Fields
field_count_of four five = cond four (Some Four) (cond five (Some Five) None)

-- how many fields a line of good form has; none for a line of no good form
unfoldable pub field_count : (line : List ℕ) → Option Fields
field_count line = field_count_of (is_line line) (is_record line)

-- whether there are so many fields
unfoldable pub is_count : Fields → Option Fields → Bool
is_count Four (Some Four) = true
is_count Four (Some Five) = false
is_count Five (Some Four) = false
is_count Five (Some Five) = true
is_count Four None = false
is_count Five None = false

-- how many there are by the fields behind a comma: those that pass these tests, without or with a currency behind them
unfoldable pub fields_counted : List (List ℕ → Bool) → (rest : List ℕ) → Option Fields
fields_counted tests rest = field_count_of (fields_behind tests rest) (fields_behind (tests ++ (is_currency ∷ [])) rest)

-- likewise behind the price
unfoldable pub fields_ended : (rest : List ℕ) → Option Fields
fields_ended rest = field_count_of (is_nil rest) (fields_behind (is_currency ∷ []) rest)

-- what stands behind a comma that comes first
unfoldable pub behind_comma : (rest : List ℕ) → Option (List ℕ)
behind_comma [] = None
behind_comma (b ∷ bs) = cond (eqb b comma) (Some bs) None

-- what stands behind the run that a field begins with, where the run passes a test
abbrev pub behind_run : (p : ℕ → Bool) (passes : List ℕ → Bool) (field : List ℕ) → Option (List ℕ)
behind_run p passes field = cond (passes (take (prefix_len p field) field)) (Some (drop (prefix_len p field) field)) None

-- what stands behind a field that a comma comes before
unfoldable pub behind_field : (p : ℕ → Bool) (passes : List ℕ → Bool) (rest : List ℕ) → Option (List ℕ)
behind_field p passes rest = option_and_then (behind_run p passes) (behind_comma rest)

-- a grain: two letters; a number: at most so many digits, without a leading zero
abbrev pub behind_grain : (rest : List ℕ) → Option (List ℕ)
behind_grain = behind_field is_letter (λ run. eqb (length run) 2)

abbrev pub number_run : (most : ℕ) (run : List ℕ) → Bool
number_run most run = between 1 most (length run) && not (eqb (get_or run 0 0) 48)

abbrev pub behind_number : (most : ℕ) (rest : List ℕ) → Option (List ℕ)
behind_number most = behind_field is_digit (number_run most)

-- the contract that a line begins with: 1 to 8 letters and digits
unfoldable pub ContractFound : (line : List ℕ) → Option ℕ → Type 0
ContractFound line (Some n) = RunOfBytes is_name_byte line n × (between 1 8 n ≡ true)
ContractFound line None = (n : ℕ) × RunOfBytes is_name_byte line n × (between 1 8 n ≡ false)

-- the form of a line, if it is good
unfoldable pub FormFound : (line : List ℕ) → Option Form → Type 0
FormFound line (Some form) = (field_count line ≡ Some form.fields) × RunOfBytes is_name_byte line form.contract
FormFound line None = field_count line ≡ None
