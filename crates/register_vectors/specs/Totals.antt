-- A report's bytes and its totals, currency by currency, the same bytes read back, and the call on outputs and buffers at their edges. Assumes
-- nothing.
use Rattle.std.specs.Prelude.{true, false, List, [], ◌∷◌, ◌++◌, map, ◌≡◌, refl, ℕ, replicate}
use Prim.Native.String.{String}
use Rattle.base.specs.Lists.{all, any}
use Rattle.base.specs.Text.{bytes}
use Rattle.register.specs.Buffer.{register_image}
use Rattle.register.specs.Calls.{put_report, report_call}
use Rattle.register.specs.Register.{Lines, Register}
use Rattle.register.specs.Report.{tonnes_of, price_of, value_of, totals_of, letter_before, in_letter_order, currencies, lines_of, total_line, printed_records, report}
use Rattle.register.specs.Report.{records_in, total_lines_in, currency_shown, totals_shown, is_one_word, in_order}
use Rattle.register_vectors.specs.Everything.{everything}

-- four lines of three currencies, and their report
abbrev four : Lines
four = map bytes ("W7,WH,120,2150,USD" ∷ "B2,BA,35,1875,EUR" ∷ "C3,OA,7,11,CHF" ∷ "D4,WH,2,3,EUR" ∷ [])

abbrev four-put : List ℕ
four-put =
    bytes "W7,WH,120,2150,USD\nB2,BA,35,1875,EUR\nC3,OA,7,11,CHF\nD4,WH,2,3,EUR\nTOTAL,CHF,1,7,77\nTOTAL,EUR,2,37,65631\nTOTAL,USD,1,120,258000\n"

-- the register of these lines, opened with a currency that none has
abbrev opened_four : Register
opened_four = record { house = bytes "GBP"; lines = four }

-- an output of so many bytes, each 7
abbrev sevens : ℕ → List ℕ
sevens n = replicate n 7

-- W10.4 "an empty register prints none"
empty_report : report [] ≡ []
unfolding everything
empty_report = refl

-- W4.2 "Each line held, in order and byte for byte"; W10.4 "one TOTAL line for each currency held, in letter order"
four-report : report four ≡ four-put
unfolding everything
four-report = refl

records_printed : printed_records (map bytes ("B" ∷ "" ∷ "A" ∷ [])) ≡ 66 ∷ 10 ∷ 10 ∷ 65 ∷ 10 ∷ []
unfolding everything
records_printed = refl

-- a contract may be called TOTAL; its line stands above the TOTAL line
total-held : report (map bytes ("TOTAL,WH,2,3,EUR" ∷ [])) ≡ bytes "TOTAL,WH,2,3,EUR\nTOTAL,EUR,1,2,6\n"
unfolding everything
total-held = refl

-- W10.4 "in letter order": the first differing letter, wherever it is; a proper beginning first; no word before itself
words-before :
    map (λ (pair : String × String). letter_before (bytes pair.0) (bytes pair.1))
    (("AUR", "BAA") ∷ ("EUR", "EVA") ∷ ("EUR", "EUS") ∷ ("EU", "EUR") ∷ ("", "A") ∷ ("Z", "a") ∷ [])
    ≡ replicate 6 true
unfolding everything
words-before = refl

words_not_before :
    map (λ (pair : String × String). letter_before (bytes pair.0) (bytes pair.1))
    (("BAA", "AUR") ∷ ("EVA", "EUR") ∷ ("EUS", "EUR") ∷ ("EUR", "EU") ∷ ("A", "") ∷ ("EUR", "EUR") ∷ ("", "") ∷ [])
    ≡ replicate 7 false
unfolding everything
words_not_before = refl

-- before the first, between two, behind the last, and one that is there
words_entered :
    map (λ word. in_letter_order (bytes word) (map bytes ("CHF" ∷ "EUR" ∷ []))) ("AAA" ∷ "CHG" ∷ "USD" ∷ "EUR" ∷ [])
    ≡ map bytes ("AAA" ∷ "CHF" ∷ "EUR" ∷ []) ∷ map bytes ("CHF" ∷ "CHG" ∷ "EUR" ∷ []) ∷ map bytes ("CHF" ∷ "EUR" ∷ "USD" ∷ [])
    ∷ map bytes ("CHF" ∷ "EUR" ∷ []) ∷ []
unfolding everything
words_entered = refl

four-currencies : currencies four ≡ map bytes ("CHF" ∷ "EUR" ∷ "USD" ∷ [])
unfolding everything
four-currencies = refl

-- the lines of a currency, in order; none of one that isn't held
lines_of_currencies :
    map (λ currency. lines_of (bytes currency) four) ("EUR" ∷ "USD" ∷ "GBP" ∷ [])
    ≡ map bytes ("B2,BA,35,1875,EUR" ∷ "D4,WH,2,3,EUR" ∷ []) ∷ map bytes ("W7,WH,120,2150,USD" ∷ []) ∷ [] ∷ []
unfolding everything
lines_of_currencies = refl

-- W4.2 "the number of lines, the sum of tonnes, and the sum of tonnes × price in cents"
line-numbers : map (λ number. number (bytes "W7,WH,120,2150,USD")) (tonnes_of ∷ price_of ∷ value_of ∷ []) ≡ 120 ∷ 2150 ∷ 258_000 ∷ []
unfolding everything
line-numbers = refl

four_totals :
    map (λ currency. totals_of (lines_of (bytes currency) four)) ("CHF" ∷ "EUR" ∷ "USD" ∷ [])
    ≡ record { count = 1; tonnes = 7; value = 77 } ∷ record { count = 2; tonnes = 37; value = 65_631 }
    ∷ record { count = 1; tonnes = 120; value = 258_000 } ∷ []
unfolding everything
four_totals = refl

-- three times the most of one line, above 32 bits
three_longest_totals :
    totals_of (map bytes ("ZZZZZZZX,ZZ,99999,999999,ZZZ" ∷ "ZZZZZZZY,ZZ,99999,999999,ZZZ" ∷ "ZZZZZZZZ,ZZ,99999,999999,ZZZ" ∷ []))
    ≡ record { count = 3; tonnes = 299_997; value = 299_996_700_003 }
unfolding everything
three_longest_totals = refl

-- "decimal without leading zeros": a TOTAL line of three digits, and the one of 256 times the most, the longest
short_total_line : total_line (bytes "EUR") (record { count = 1; tonnes = 2; value = 3 }) ≡ bytes "TOTAL,EUR,1,2,3"
unfolding everything
short_total_line = refl

longest-total_line :
    total_line (bytes "ZZZ") (record { count = 256; tonnes = 25_599_744; value = 25_599_718_400_256 })
    ≡ bytes "TOTAL,ZZZ,256,25599744,25599718400256"
unfolding everything
longest-total_line = refl

-- Read back: the records, the TOTAL lines, and the currencies and numbers that these show.
records_read : records_in four-put ≡ four
unfolding everything
records_read = refl

totals_read : total_lines_in four-put ≡ map bytes ("TOTAL,CHF,1,7,77" ∷ "TOTAL,EUR,2,37,65631" ∷ "TOTAL,USD,1,120,258000" ∷ [])
unfolding everything
totals_read = refl

currencies-shown : map currency_shown (total_lines_in four-put) ≡ map bytes ("CHF" ∷ "EUR" ∷ "USD" ∷ [])
unfolding everything
currencies-shown = refl

numbers-shown : totals_shown (bytes "TOTAL,EUR,2,37,65631") ≡ record { count = 2; tonnes = 37; value = 65_631 }
unfolding everything
numbers-shown = refl

-- a contract called TOTAL is told from the TOTAL line
total_record_read : records_in (bytes "TOTAL,WH,2,3,EUR\nTOTAL,EUR,1,2,6\n") ≡ map bytes ("TOTAL,WH,2,3,EUR" ∷ [])
unfolding everything
total_record_read = refl

total-line-read : total_lines_in (bytes "TOTAL,WH,2,3,EUR\nTOTAL,EUR,1,2,6\n") ≡ map bytes ("TOTAL,EUR,1,2,6" ∷ [])
unfolding everything
total-line-read = refl

-- in order and each once; among others
words-in_order : all in_order (map (map bytes) ([] ∷ ("EUR" ∷ []) ∷ ("CHF" ∷ "EUR" ∷ "USD" ∷ []) ∷ [])) ≡ true
unfolding everything
words-in_order = refl

words_out_of_order : any in_order (map (map bytes) (("EUR" ∷ "EUR" ∷ []) ∷ ("EUR" ∷ "CHF" ∷ []) ∷ ("CHF" ∷ "USD" ∷ "EUR" ∷ []) ∷ [])) ≡ false
unfolding everything
words_out_of_order = refl

words-among : map (λ word. is_one_word (bytes word) (map bytes ("CHF" ∷ "EUR" ∷ []))) ("CHF" ∷ "EUR" ∷ "EU" ∷ "" ∷ []) ≡ true ∷ true ∷ false ∷ false ∷ []
unfolding everything
words-among = refl

-- W4.5 "21 if the output can't hold it all": an exact fit, one byte short, the bytes behind, which stay; the empty report needs no output
exact_fit : put_report (report four) (sevens 127) ≡ record { number = 0; left = four-put; size = 127 }
unfolding everything
exact_fit = refl

one_short : put_report (report four) (sevens 126) ≡ record { number = 21; left = sevens 126; size = 0 }
unfolding everything
one_short = refl

three-behind : put_report (report four) (sevens 130) ≡ record { number = 0; left = four-put ++ (7 ∷ 7 ∷ 7 ∷ []); size = 127 }
unfolding everything
three-behind = refl

no_output : map (put_report (report [])) ([] ∷ sevens 2 ∷ [])
    ≡ record { number = 0; left = []; size = 0 } ∷ record { number = 0; left = sevens 2; size = 0 } ∷ []
unfolding everything
no_output = refl

-- The call on whole buffers: the empty register opened, four lines, and other bytes behind the 8,192nd.
nothing_reported : report_call (bytes "EUR" ++ replicate 8189 0) (sevens 3) ≡ record { number = 0; left = sevens 3; size = 0 }
unfolding everything
nothing_reported = refl

four_reported : report_call (register_image opened_four ++ (1 ∷ 2 ∷ [])) (sevens 127) ≡ record { number = 0; left = four-put; size = 127 }
unfolding everything
four_reported = refl

four_one_short : report_call (register_image opened_four) (sevens 126) ≡ record { number = 21; left = sevens 126; size = 0 }
unfolding everything
four_one_short = refl

-- "14 and 21 write nothing", and 14 comes first: not opened, one byte short, against the rules
not_reported :
    map (λ buffer. report_call buffer (sevens 3)) (replicate 8192 0 ∷ (bytes "EUR" ++ replicate 8188 0) ∷ (bytes "EU" ++ replicate 8190 0) ∷ [])
    ≡ replicate 3 (record { number = 14; left = sevens 3; size = 0 })
unfolding everything
not_reported = refl

not_reported_without_output : report_call (register_image (record { house = []; lines = map bytes ("A,WH,1,1" ∷ []) })) []
    ≡ record { number = 14; left = []; size = 0 }
unfolding everything
not_reported_without_output = refl
