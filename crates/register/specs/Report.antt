-- Document 02, wishes 4 and 10: the closing report of a register as bytes, and the same bytes read back. Assumes nothing.
use Rattle.std.specs.Prelude.{Bool, true, false, cond, not, ◌&&◌, ◌||◌, List, [], ◌∷◌, ◌++◌, map, ℕ, ◌*◌, eqb, ltb, length, get_or}
use Rattle.base.specs.Lists.{all, any, keep, same, total}
use Rattle.base.specs.Text.{bytes}
use Rattle.cards.specs.Bytes.{newline}
use Rattle.cards.specs.Cards.{lines}
use Rattle.values.specs.Conversion.{decimal, digits}
use Rattle.register.specs.Line.{currency_of, each, fields, is_currency, is_record}
use Rattle.register.specs.Register.{Lines}

-- the number in a field of a line, the fields counted from 0
unfoldable pub number_in : (line : List ℕ) (field : ℕ) → ℕ
number_in line field = decimal 0 (get_or (fields line) field [])

-- the tonnes and the price of a contract line; W4.2 "tonnes × price in cents"
unfoldable pub tonnes_of : (line : List ℕ) → ℕ
tonnes_of line = number_in line 2

unfoldable pub price_of : (line : List ℕ) → ℕ
price_of line = number_in line 3

unfoldable pub value_of : (line : List ℕ) → ℕ
value_of line = tonnes_of line * price_of line

-- the three numbers of a TOTAL line
pub record Totals : Type 0 where
  pub count : ℕ
  pub tonnes : ℕ
  pub value : ℕ

-- W4.2 "the number of lines, the sum of tonnes, and the sum of tonnes × price in cents"
unfoldable pub totals_of : (above : Lines) → Totals
totals_of above = record { count = length above; tonnes = total tonnes_of above; value = total value_of above }

-- W10.4 "in letter order": the first differing letter is the lower one, or there is none and the word is shorter
unfoldable pub letter_before : List ℕ → List ℕ → Bool
letter_before [] [] = false
letter_before [] (b ∷ v) = true
letter_before (a ∷ u) [] = false
letter_before (a ∷ u) (b ∷ v) = ltb a b || (eqb a b && letter_before u v)

-- a word put in its place among words in order, unless it is there already
unfoldable pub in_letter_order : (word : List ℕ) → List (List ℕ) → List (List ℕ)
in_letter_order word [] = word ∷ []
in_letter_order word (w ∷ ws) = cond (same word w) (w ∷ ws) (cond (letter_before word w) (word ∷ w ∷ ws) (w ∷ in_letter_order word ws))

-- W10.4 "each currency held, in letter order"
unfoldable pub currencies : Lines → List (List ℕ)
currencies [] = []
currencies (line ∷ rest) = in_letter_order (currency_of line) (currencies rest)

-- W10.4 "that currency's lines"
unfoldable pub lines_of : (currency : List ℕ) → Lines → Lines
lines_of currency = keep (λ line. same (currency_of line) currency)

-- W4.2 "`TOTAL,count,tonnes,value`, decimal without leading zeros", W10.4 "with the currency as its second field"
unfoldable pub total_line : (currency : List ℕ) → Totals → List ℕ
total_line currency t =
    bytes "TOTAL," ++ (currency
    ++ (bytes "," ++ (digits t.count ++ (bytes "," ++ (digits t.tonnes ++ (bytes "," ++ digits t.value))))))

-- W10.4 "one TOTAL line for each currency held", with "the numbers of that currency's lines; an empty register prints none", in place of W4.4
unfoldable pub total_lines : Lines → List (List ℕ)
total_lines held = map (λ currency. total_line currency (totals_of (lines_of currency held))) (currencies held)

-- W4.2 "all with byte 10"
unfoldable pub printed_records : List (List ℕ) → List ℕ
printed_records [] = []
printed_records (r ∷ rs) = r ++ (newline ∷ printed_records rs)

-- W4.2 "Each line held, in order and byte for byte, then" the TOTAL lines
unfoldable pub report : Lines → List ℕ
report held = printed_records (held ++ total_lines held)

-- Reading back. The bytes put, cut at byte 10, as C1 has it: lines with the form of a register record are the records printed, all others count as
-- TOTAL lines. No TOTAL line has that form, for its second field is no grain.
unfoldable pub records_in : (put : List ℕ) → Lines
records_in put = keep is_record (lines put)

unfoldable pub total_lines_in : (put : List ℕ) → List (List ℕ)
total_lines_in put = keep (λ line. not (is_record line)) (lines put)

-- W4.2 "decimal without leading zeros": as the digits of its value are
unfoldable pub is_numeral : (field : List ℕ) → Bool
is_numeral field = same (digits (decimal 0 field)) field

-- the form of a TOTAL line: the word, a currency and three numbers
unfoldable pub is_total_line : (line : List ℕ) → Bool
is_total_line line = each (same (bytes "TOTAL") ∷ is_currency ∷ is_numeral ∷ is_numeral ∷ is_numeral ∷ []) (fields line)

-- the currency and the three numbers that it shows
unfoldable pub currency_shown : (line : List ℕ) → List ℕ
currency_shown line = get_or (fields line) 1 []

unfoldable pub totals_shown : (line : List ℕ) → Totals
totals_shown line = record { count = number_in line 2; tonnes = number_in line 3; value = number_in line 4 }

-- a word among others; and words of which each stands before all behind it
unfoldable pub is_one_word : (word : List ℕ) → List (List ℕ) → Bool
is_one_word word = any (λ w. same w word)

unfoldable pub in_order : List (List ℕ) → Bool
in_order [] = true
in_order (w ∷ ws) = all (letter_before w) ws && in_order ws
