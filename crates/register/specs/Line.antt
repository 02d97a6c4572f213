-- Document 02, wishes 2 and 10: a contract line and its form, without and with a currency. Assumes nothing.
use Rattle.std.specs.Prelude.{Bool, true, false, cond, not, ◌&&◌, ◌||◌, List, [], ◌∷◌, ◌++◌, ℕ, eqb, length, get_or}
use Rattle.base.specs.Lists.{all, begins}
use Rattle.base.specs.Text.{bytes}
use Rattle.cards.specs.Bytes.{between, comma, is_digit, is_letter, is_name_byte}
use Rattle.cards.specs.Cards.{on_first}
use Rattle.values.specs.Conversion.{decimal}

-- W2.2 "parted by commas": the fields are what stands before the first comma, between two of them, and behind the last
unfoldable pub fields : List ℕ → List (List ℕ)
fields [] = [] ∷ []
fields (b ∷ bs) = elim (eqb b comma) [ true ↦ [] ∷ fields bs | false ↦ on_first b (fields bs) ]

-- W2.3 "Contract is 1 to 8 letters A-Z or digits"
unfoldable pub is_contract : List ℕ → Bool
is_contract f = between 1 8 (length f) && all is_name_byte f

-- W2.3 "grain is two letters A-Z"
unfoldable pub is_grain : List ℕ → Bool
is_grain f = eqb (length f) 2 && all is_letter f

-- W2.4 "Numbers are decimal without leading zeros."
unfoldable pub is_decimal : List ℕ → Bool
is_decimal f = all is_digit f && not (begins (bytes "0") f)

-- a number from 1 to the most
unfoldable pub is_number : (most : ℕ) → List ℕ → Bool
is_number most f = is_decimal f && between 1 most (decimal 0 f)

-- W2.3 "tonnes is 1 to 99,999"
unfoldable pub is_tonnes : List ℕ → Bool
is_tonnes = is_number 99_999

-- W2.3 "price is 1 to 999,999 cents per tonne"
unfoldable pub is_price : List ℕ → Bool
is_price = is_number 999_999

-- there are as many fields as tests, and each field passes its own
unfoldable pub each : List (List ℕ → Bool) → List (List ℕ) → Bool
each [] [] = true
each [] (f ∷ fs) = false
each (t ∷ ts) [] = false
each (t ∷ ts) (f ∷ fs) = t f && each ts fs

-- W2.2 "A line is contract, grain, tonnes, price, parted by commas.": a line of four fields
unfoldable pub is_line : List ℕ → Bool
is_line line = each (is_contract ∷ is_grain ∷ is_tonnes ∷ is_price ∷ []) (fields line)

-- W10.2 "three letters A-Z"
unfoldable pub is_currency : List ℕ → Bool
is_currency f = eqb (length f) 3 && all is_letter f

-- W10.2 "The register record gets a fifth field": a line of five
unfoldable pub is_record : List ℕ → Bool
is_record line = each (is_contract ∷ is_grain ∷ is_tonnes ∷ is_price ∷ is_currency ∷ []) (fields line)

-- the form of a line offered: four fields or five
unfoldable pub has_form : List ℕ → Bool
has_form line = is_line line || is_record line

-- the contract of a line, its first field; and the currency of a record, its fifth
unfoldable pub contract_of : List ℕ → List ℕ
contract_of line = get_or (fields line) 0 []

unfoldable pub currency_of : List ℕ → List ℕ
currency_of line = get_or (fields line) 4 []

-- a line with a currency behind it as one field more
unfoldable pub with_currency : (currency line : List ℕ) → List ℕ
with_currency currency line = line ++ (comma ∷ currency)

-- W10.3 "a line of four fields is stored with it written out", one of five as it came
unfoldable pub stored : (house line : List ℕ) → List ℕ
stored house line = cond (is_line line) (with_currency house line) line
