-- A line's fields, the form of each field and of lines of four and five fields at their edges, and a line as it is stored. Assumes nothing.
use Rattle.std.specs.Prelude.{true, false, [], ◌∷◌, map, ◌≡◌, refl, length}
use Rattle.base.specs.Lists.{all, any}
use Rattle.base.specs.Text.{bytes}
use Rattle.register.specs.Line.{fields, is_contract, is_grain, is_tonnes, is_price, is_line, is_currency, is_record, has_form}
use Rattle.register.specs.Line.{contract_of, currency_of, with_currency, stored}
use Rattle.register_vectors.specs.Everything.{everything}

-- W2.2 "parted by commas": no field is lost where nothing stands between commas, before the first or behind the last
fields_of_a_line : fields (bytes "W7,WH,120,2150") ≡ map bytes ("W7" ∷ "WH" ∷ "120" ∷ "2150" ∷ [])
unfolding everything
fields_of_a_line = refl

fields_of_nothing : fields [] ≡ map bytes ("" ∷ [])
unfolding everything
fields_of_nothing = refl

fields_of_commas : fields (bytes ",A,,1,") ≡ map bytes ("" ∷ "A" ∷ "" ∷ "1" ∷ "" ∷ [])
unfolding everything
fields_of_commas = refl

-- the first field, also where the line is of bad form
contracts :
    map (λ line. contract_of (bytes line)) ("W7,WH,120,2150" ∷ "W7,WH,120,2150,EUR" ∷ "W7" ∷ ",WH" ∷ "" ∷ [])
    ≡ map bytes ("W7" ∷ "W7" ∷ "W7" ∷ "" ∷ "" ∷ [])
unfolding everything
contracts = refl

-- the fifth field, none where there are fewer
currencies_of_lines :
    map (λ line. currency_of (bytes line)) ("W7,WH,120,2150,EUR" ∷ "W7,WH,120,2150,EUR,USD" ∷ "W7,WH,120,2150," ∷ "W7,WH,120,2150" ∷ "" ∷ [])
    ≡ map bytes ("EUR" ∷ "EUR" ∷ "" ∷ "" ∷ "" ∷ [])
unfolding everything
currencies_of_lines = refl

-- W2.3 "Contract is 1 to 8 letters A-Z or digits"
contracts_pass : all is_contract (map bytes ("A" ∷ "Z" ∷ "0" ∷ "9" ∷ "AZ09" ∷ "TOTAL" ∷ "ABCDEFGH" ∷ "00000000" ∷ [])) ≡ true
unfolding everything
contracts_pass = refl

-- none and 9 bytes; the bytes beside A-Z and 0-9, which are @ [ / : ; lower case; blanks; others
contracts_fail :
    any is_contract
    (map bytes ("" ∷ "ABCDEFGHI" ∷ "@" ∷ "[" ∷ "/" ∷ ":" ∷ "a" ∷ "z" ∷ " " ∷ " A" ∷ "A " ∷ "A B" ∷ "A-B" ∷ "A_" ∷ "A\n" ∷ "A\0" ∷ []))
    ≡ false
unfolding everything
contracts_fail = refl

-- bytes from 128 on: letters and digits with 128 added
contracts_of_high_bytes_fail : any is_contract ((193 ∷ []) ∷ (218 ∷ []) ∷ (176 ∷ []) ∷ (65 ∷ 255 ∷ []) ∷ []) ≡ false
unfolding everything
contracts_of_high_bytes_fail = refl

-- W2.3 "grain is two letters A-Z"
grains_pass : all is_grain (map bytes ("AA" ∷ "AZ" ∷ "ZA" ∷ "ZZ" ∷ "WH" ∷ [])) ≡ true
unfolding everything
grains_pass = refl

grains_fail :
    any is_grain
    (map bytes ("" ∷ "A" ∷ "ABC" ∷ "A1" ∷ "1A" ∷ "00" ∷ "@A" ∷ "A@" ∷ "[A" ∷ "A[" ∷ "/A" ∷ "A:" ∷ "wh" ∷ "Wh" ∷ "A " ∷ " A" ∷ []))
    ≡ false
unfolding everything
grains_fail = refl

-- W2.3 "tonnes is 1 to 99,999"
tonnes_pass : all is_tonnes (map bytes ("1" ∷ "9" ∷ "10" ∷ "99" ∷ "10000" ∷ "65537" ∷ "99999" ∷ [])) ≡ true
unfolding everything
tonnes_pass = refl

-- W2.4 "Numbers are decimal without leading zeros."; the last three are 1 above 2^16, 2^32 and 2^64, so that cut to fewer bits they are 1
tonnes_fail :
    any is_tonnes
    (map bytes
    ("" ∷ "0" ∷ "00" ∷ "01" ∷ "007" ∷ "099999" ∷ "100000" ∷ "100001" ∷ "999999" ∷ "+1" ∷ "-1" ∷ " 1" ∷ "1 " ∷ "1.0" ∷ "1A" ∷ "/" ∷ ":" ∷
    "165537" ∷ "4294967297" ∷ "18446744073709551617" ∷ []))
    ≡ false
unfolding everything
tonnes_fail = refl

-- W2.3 "price is 1 to 999,999 cents per tonne"
prices_pass : all is_price (map bytes ("1" ∷ "9" ∷ "10" ∷ "99999" ∷ "100000" ∷ "999999" ∷ [])) ≡ true
unfolding everything
prices_pass = refl

prices_fail :
    any is_price
    (map bytes
    ("" ∷ "0" ∷ "00" ∷ "007" ∷ "000001" ∷ "0999999" ∷ "1000000" ∷ "1000001" ∷ "9999999" ∷ "+5" ∷ "-5" ∷ " 5" ∷ "5 " ∷ "5." ∷ "5A" ∷ "/" ∷ ":" ∷
    "4294967297" ∷ "18446744073709551617" ∷ []))
    ≡ false
unfolding everything
prices_fail = refl

-- the shortest line and the longest, of 8 and 24 bytes
lines_pass : all is_line (map bytes ("A,WH,1,1" ∷ "ZZZZZZZZ,ZZ,99999,999999" ∷ "W7,WH,120,2150" ∷ "0,AA,1,1" ∷ "TOTAL,WH,1,1" ∷ [])) ≡ true
unfolding everything
lines_pass = refl

line_lengths : map (λ line. length (bytes line)) ("A,WH,1,1" ∷ "ZZZZZZZZ,ZZ,99999,999999" ∷ []) ≡ 8 ∷ 24 ∷ []
unfolding everything
line_lengths = refl

-- too few fields and too many, five of good form too; a field of another's form; nothing is trimmed
lines_fail :
    any is_line
    (map bytes
    ("" ∷ "A" ∷ "A,WH,1" ∷ "A,WH,1," ∷ "A,WH,1,1," ∷ ",A,WH,1,1" ∷ "A,WH,1,1,EUR" ∷ ",,," ∷ ",,,," ∷ "A,,1,1" ∷ ",WH,1,1" ∷ "A,WH,,1" ∷
    "WH,A,1,1" ∷ "A,1,WH,1" ∷ "A,WH,999999,1" ∷ "A;WH;1;1" ∷ " A,WH,1,1" ∷ "A,WH,1,1 " ∷ "A, WH,1,1" ∷ "A,WH,1,1\n" ∷ "A,WH,1,1\r" ∷
    "A,WH,1,1\0" ∷ "\"A\",WH,1,1" ∷ "a,wh,1,1" ∷ []))
    ≡ false
unfolding everything
lines_fail = refl

-- W10.2 "three letters A-Z"
currencies_pass : all is_currency (map bytes ("EUR" ∷ "AAA" ∷ "ZZZ" ∷ "AZA" ∷ "ZAZ" ∷ [])) ≡ true
unfolding everything
currencies_pass = refl

-- none, one, two and four letters; lower case; digits; the bytes beside A-Z, which are @ [ ; commas, blanks, zeros, byte 10
currencies_fail :
    any is_currency
    (map bytes
    ("" ∷ "E" ∷ "EU" ∷ "EURO" ∷ "EUREUR" ∷ "eur" ∷ "Eur" ∷ "EUr" ∷ "E1R" ∷ "EU1" ∷ "123" ∷ "A@A" ∷ "A[A" ∷ "E,R" ∷ ",EU" ∷ "EU " ∷ " EU" ∷
    "EUR " ∷ "EU\0" ∷ "\0\0\0" ∷ "EU\n" ∷ "EUR\n" ∷ []))
    ≡ false
unfolding everything
currencies_fail = refl

-- a letter with 128 added, in each place
currencies_of_high_bytes_fail : any is_currency ((197 ∷ 85 ∷ 82 ∷ []) ∷ (69 ∷ 213 ∷ 82 ∷ []) ∷ (69 ∷ 85 ∷ 210 ∷ []) ∷ []) ≡ false
unfolding everything
currencies_of_high_bytes_fail = refl

-- W10.2 "The register record gets a fifth field": the shortest record and the longest, of 12 and 28 bytes
records_pass :
    all is_record (map bytes ("A,WH,1,1,EUR" ∷ "ZZZZZZZZ,ZZ,99999,999999,ZZZ" ∷ "W7,WH,120,2150,USD" ∷ "0,AA,1,1,AAA" ∷ "TOTAL,WH,1,1,EUR" ∷ []))
    ≡ true
unfolding everything
records_pass = refl

record_lengths : map (λ line. length (bytes line)) ("A,WH,1,1,EUR" ∷ "ZZZZZZZZ,ZZ,99999,999999,ZZZ" ∷ []) ≡ 12 ∷ 28 ∷ []
unfolding everything
record_lengths = refl

-- W10.3 "a line of four fields" has the form of one offered, and so has one of five
forms_pass : all has_form (map bytes ("A,WH,1,1" ∷ "A,WH,1,1,EUR" ∷ "ZZZZZZZZ,ZZ,99999,999999" ∷ "ZZZZZZZZ,ZZ,99999,999999,ZZZ" ∷ [])) ≡ true
unfolding everything
forms_pass = refl

-- a fifth field that is empty or of bad form; six fields; a currency in another place; another field of bad form
forms_fail :
    any has_form
    (map bytes
    ("" ∷ "A,WH,1" ∷ "A,WH,1,1," ∷ "A,WH,1,1,E" ∷ "A,WH,1,1,EU" ∷ "A,WH,1,1,EURO" ∷ "A,WH,1,1,eur" ∷ "A,WH,1,1,E1R" ∷ "A,WH,1,1,123" ∷
    "A,WH,1,1,EU " ∷ "A,WH,1,1, EU" ∷ "A,WH,1,1,EUR " ∷ "A,WH,1,1,EUR\n" ∷ "A,WH,1,1,EU\0" ∷ "A,WH,1,1,EUR," ∷ "A,WH,1,1,EUR,EUR" ∷
    "A,WH,1,1,,EUR" ∷ "A,WH,1,EUR" ∷ "A,WH,1,1 EUR" ∷ "A,WH,1,1EUR" ∷ "EUR,A,WH,1,1" ∷ "A,EUR,WH,1,1" ∷ ",WH,1,1,EUR" ∷ "ABCDEFGHI,WH,1,1,EUR" ∷
    "A,WHE,1,1,EUR" ∷ "A,WH,0,1,EUR" ∷ "A,WH,100000,1,EUR" ∷ "A,WH,1,0,EUR" ∷ "A,WH,1,1000000,EUR" ∷ "A,WH,1,01,EUR" ∷ []))
    ≡ false
unfolding everything
forms_fail = refl

-- W10.3 "a line of four fields is stored with it written out"; one of five as it came, also where its currency is the house's
line-written : with_currency (bytes "EUR") (bytes "A,WH,1,1") ≡ bytes "A,WH,1,1,EUR"
unfolding everything
line-written = refl

lines_stored :
    map (λ line. stored (bytes "EUR") (bytes line)) ("A,WH,1,1" ∷ "A,WH,1,1,USD" ∷ "A,WH,1,1,EUR" ∷ "ZZZZZZZZ,ZZ,99999,999999" ∷ [])
    ≡ map bytes ("A,WH,1,1,EUR" ∷ "A,WH,1,1,USD" ∷ "A,WH,1,1,EUR" ∷ "ZZZZZZZZ,ZZ,99999,999999,EUR" ∷ [])
unfolding everything
lines_stored = refl
