-- The report of a register: it is read back as its records and its TOTAL lines, these are theirs, and no sum is large. Assumes nothing.
use Rattle.std.proofs.Math.Bool.{Bool, not}
use Rattle.std.specs.Prelude.{true, false, ◌≡◌}
use mathlib.Core.List.{List, [], ◌∷◌, ◌++◌, append_assoc, append-nil, map, map-id, map-map}
use Rattle.std.proofs.Math.Path.{refl, sym, ap, ap₂}
use Rattle.std.proofs.Common.{◌∙◌, mul-le-mul, leb-true, ne_eqb}
use Prim.Native.Nat.{ℕ, ◌*◌, ◌≤◌}
use native.Mathlib.Omega.{arith}
use Rattle.std.proofs.Math.ListN.{length, get_or, length-append}
use Rattle.base.specs.Choice.{both_pass, both_true}
use Rattle.base.specs.ListLaws.{all_append, all_imply, all_keep, same_iff, keep_all, keep_append}
use Rattle.base.specs.Lists.{all, any, keep, same, total}
use Rattle.base.specs.Text.{bytes}
use Rattle.cards.specs.ByteLaws.{within}
use Rattle.cards.specs.Bytes.{between, comma, newline, is_digit, is_name_byte, is_letter}
use Rattle.cards.specs.Cards.{lines, on_first}
use Rattle.values.specs.Conversion.{decimal, digits}
use Rattle.values.specs.Laws.{digits-digits, digits-length, digits-read}
use Rattle.register.specs.Claims.{ReportAgrees}
use Rattle.register.specs.Line.{fields, is_contract, is_grain, is_decimal, is_number, is_tonnes, is_price, is_currency, each, is_record, currency_of}
use Rattle.register.specs.LineLaws.{
  currency_is,
  currency_letters,
  currency_plain,
  currency_size,
  digit_plain,
  fields-all,
  above_comma,
  line_plain,
  line_size_lem,
  record_form,
  recorded,
  run-comma,
  run-whole,
}
use Rattle.register.specs.MapLaws.{all_map, keep_few, keep_none, map-agree}
use Rattle.register.specs.OrderLaws.{currencies-all, currencies-among, currencies_few, currencies_order}
use Rattle.register.specs.Register.{Act, Lines, Register, fold, is_open, is_register, most_lines}
use Rattle.register.specs.RegisterLaws.{fold_is, open_records, sound}
use Rattle.register.specs.Report.{
  Totals,
  number_in,
  tonnes_of,
  price_of,
  value_of,
  totals_of,
  currencies,
  lines_of,
  total_line,
  total_lines,
  printed_records,
  report,
  records_in,
  is_numeral,
  is_total_line,
  total_lines_in,
  currency_shown,
  totals_shown,
  in_order,
  is_one_word,
}

-- Lines without byte 10, each printed with one, are read back.
line-back : (r rest : List ℕ) → all above_comma r ≡ true → lines (r ++ (newline ∷ rest)) ≡ r ∷ lines rest
unfolding lines on_first all above_comma comma newline
line-back [] rest a = refl
line-back (b ∷ r) rest a =
    let parts = both_true (above_comma b) (all above_comma r) a in
    let other = ne_eqb b 10 (λ is. omega (arith, leb-true 44 b parts.0)) in
    rw (lines, other, line-back r rest parts.1)

lines-back : (rs : List (List ℕ)) → all (all above_comma) rs ≡ true → lines (printed_records rs) ≡ rs
unfolding printed_records all lines
lines-back [] a = refl
lines-back (r ∷ rs) a =
    let parts = both_true (all above_comma r) (all (all above_comma) rs) a in
    line-back r (printed_records rs) parts.0 ∙ ap (λ (l : List (List ℕ)). r ∷ l) (lines-back rs parts.1)

-- the digits of a number are digits, so none is below the comma
all_digits : (n : ℕ) → all is_digit (digits n) ≡ true
unfolding is_digit between
all_digits = digits-digits

digits-plain : (n : ℕ) → all above_comma (digits n) ≡ true
digits-plain n = all_imply is_digit above_comma digit_plain (digits n) (all_digits n)

-- A TOTAL line: its fields, no byte below the comma, that it is no record, and the currency and the numbers that it shows.
module _ (c : List ℕ) (form : is_currency c ≡ true) (t : Totals) where
  total-fields : fields (total_line c t) ≡ bytes "TOTAL" ∷ c ∷ digits t.count ∷ digits t.tonnes ∷ digits t.value ∷ []
  unfolding total_line bytes all is_name_byte is_letter is_digit between comma
  total-fields =
      let first : List ℕ → List (List ℕ) → List (List ℕ) = λ f fs. f ∷ fs in
      run-comma is_name_byte refl (bytes "TOTAL") _ refl
      ∙ ap (first (bytes "TOTAL")) (run-comma is_letter refl c _ (currency_letters c form)
      ∙ ap (first c) (run-comma is_digit refl (digits t.count) _ (all_digits t.count)
      ∙ ap (first (digits t.count)) (run-comma is_digit refl (digits t.tonnes) _ (all_digits t.tonnes)
      ∙ ap (first (digits t.tonnes)) (run-whole is_digit refl (digits t.value) (all_digits t.value)))))

  total-plain : all above_comma (total_line c t) ≡ true
  unfolding bytes all above_comma comma
  total-plain =
      let sums = both_pass (digits-plain t.tonnes) (both_pass (digits-plain t.value) refl) in
      let shown = both_pass (currency_plain c form) (both_pass (digits-plain t.count) sums) in
      fields-all above_comma refl (total_line c t) (rw total-fields (both_pass refl shown))

  total-other : is_record (total_line c t) ≡ false
  unfolding is_record each is_contract is_grain bytes between all is_name_byte is_letter
  total-other = rw (total-fields, currency_size c form)

  currency_shown_lem : currency_shown (total_line c t) ≡ c
  unfolding currency_shown
  currency_shown_lem = ap (λ fs. get_or fs 1 []) total-fields

  number_shown : (field n : ℕ) → get_or (fields (total_line c t)) field [] ≡ digits n → number_in (total_line c t) field ≡ n
  unfolding number_in
  number_shown field n e = ap (decimal 0) e ∙ (digits-read n).value

  totals_shown_lem : totals_shown (total_line c t) ≡ t
  unfolding totals_shown
  totals_shown_lem =
      let count = number_shown 2 t.count (ap (λ fs. get_or fs 2 []) total-fields) in
      let tonnes = number_shown 3 t.tonnes (ap (λ fs. get_or fs 3 []) total-fields) in
      let value = number_shown 4 t.value (ap (λ fs. get_or fs 4 []) total-fields) in
      λ i. record { count = count i; tonnes = tonnes i; value = value i }

  numeral : (n : ℕ) → is_numeral (digits n) ≡ true
  unfolding is_numeral
  numeral n = (same_iff (digits (decimal 0 (digits n))) (digits n)).1 (ap digits (digits-read n).value)

  total-form : is_total_line (total_line c t) ≡ true
  unfolding is_total_line each same bytes
  total-form =
      let numbers = both_pass (numeral t.tonnes) (both_pass (numeral t.value) refl) in
      rw total-fields (both_pass refl (both_pass form (both_pass (numeral t.count) numbers)))

-- Records have currencies, and so have the currencies of records the form.
pub record_currency : (line : List ℕ) → is_record line ≡ true → is_currency (currency_of line) ≡ true
record_currency line e = let r = recorded line e in ap is_currency (currency_is r) ∙ r.currency_form

pub currencies-form : (held : Lines) → all is_record held ≡ true → all is_currency (currencies held) ≡ true
currencies-form held good = currencies-all is_currency held (all_imply is_record (λ line. is_currency (currency_of line)) record_currency held good)

-- the TOTAL line of a currency
abbrev pub total_of : Lines → (currency : List ℕ) → List ℕ
total_of held c = total_line c (totals_of (lines_of c held))

-- W4.3 and W10.4 The report of records, read back, agrees with itself.
module _ (held : Lines) (good : all is_record held ≡ true) where
  abbrev words : List (List ℕ)
  words = currencies held

  abbrev below : List (List ℕ)
  below = map (total_of held) words

  words-form : all is_currency words ≡ true
  words-form = currencies-form held good

  -- a test that every TOTAL line passes
  below_all : (q : List ℕ → Bool) → ((c : List ℕ) → is_currency c ≡ true → q (total_of held c) ≡ true) → all q below ≡ true
  below_all q h = all_map (total_of held) q words ∙ all_imply is_currency (λ c. q (total_of held c)) h words words-form

  read_back : lines (report held) ≡ held ++ below
  unfolding report total_lines
  read_back =
      lines-back (held ++ below)
      (all_append (all above_comma) held below (all_imply is_record (all above_comma) (λ line e. line_plain line (record_form line e)) held good)
      (below_all (all above_comma) (λ c form. total-plain c form (totals_of (lines_of c held)))))

  records_back : records_in (report held) ≡ held
  unfolding records_in
  records_back =
      ap (keep is_record) read_back
      ∙ keep_append is_record held below
      ∙ ap₂ {C = List (List ℕ)} ◌++◌ (keep_all is_record held good)
      (keep_none is_record below (below_all (λ line. not (is_record line)) (λ c form. ap not (total-other c form (totals_of (lines_of c held))))))
      ∙ append-nil held

  totals_back : total_lines_in (report held) ≡ below
  unfolding total_lines_in
  totals_back =
      let other : List ℕ → Bool = λ line. not (is_record line) in
      ap (keep other) read_back
      ∙ keep_append other held below
      ∙ ap₂ {C = List (List ℕ)} ◌++◌
      (keep_none other held (all_imply is_record (λ line. not (other line)) (λ line e. ap (λ t. not (not t)) e) held good))
      (keep_all other below (below_all other (λ c form. ap not (total-other c form (totals_of (lines_of c held))))))

  currencies-back : map currency_shown (total_lines_in (report held)) ≡ words
  currencies-back =
      ap (map currency_shown) totals_back
      ∙ map-map currency_shown (total_of held) words
      ∙ map-agree (λ c. currency_shown (total_of held c)) (λ c. c) is_currency (λ c form. currency_shown_lem c form (totals_of (lines_of c held))) words
      words-form
      ∙ map-id words

  -- the numbers that TOTAL lines show, and those of the lines of the currencies that they show
  numbers-back : map totals_shown below ≡ map (λ line. totals_of (lines_of (currency_shown line) held)) below
  numbers-back =
      map-map totals_shown (total_of held) words
      ∙ map-agree (λ c. totals_shown (total_of held c)) (λ c. totals_of (lines_of (currency_shown (total_of held c)) held)) is_currency
      (λ c form. let t = totals_of (lines_of c held) in
      totals_shown_lem c form t ∙ ap (λ w. totals_of (lines_of w held)) (sym (currency_shown_lem c form t))) words words-form
      ∙ sym (map-map (λ line. totals_of (lines_of (currency_shown line) held)) (total_of held) words)

  pub report-agrees : ReportAgrees held (report held)
  unfolding report total_lines
  report-agrees =
      let counted : Lines → List (List ℕ) → List Totals = λ above ls. map (λ line. totals_of (lines_of (currency_shown line) above)) ls in
      record {
        records = records_back;
        above = read_back ∙ sym (ap₂ {C = List (List ℕ)} ◌++◌ records_back totals_back);
        ends = ap printed_records (sym read_back);
        forms = ap (all is_total_line) totals_back ∙ below_all is_total_line (λ c form. total-form c form (totals_of (lines_of c held)));
        each-held = λ c.
            ap (is_one_word c) currencies-back
            ∙ currencies-among c held
            ∙ ap (any (λ line. same (currency_of line) c)) (sym records_back);
        ordered = ap in_order currencies-back ∙ currencies_order held;
        totals =
            ap (map totals_shown) totals_back
            ∙ numbers-back
            ∙ ap₂ {C = List Totals} counted (sym records_back) (sym totals_back);
        whole = ap report (sym records_back);
      }

-- W4.3 "for every list of lines offered from an empty register, the declined ones counting nothing": now of openings and offers, from an old one too
pub fold-agrees : (register : Register) (acts : List Act) → is_register register ≡ true → is_open (fold register acts) ≡ true
    → ReportAgrees (fold register acts).lines (report (fold register acts).lines)
fold-agrees register acts good is =
    let left = fold register acts in
    report-agrees left.lines (open_records left (sound left (fold_is register acts good)) is)

-- What a record adds to the sums is at most 99,999 tonnes and 99,999 times 999,999 cents.
pub record RecordSmall (line : List ℕ) : Type 0 where
  pub tonnes : tonnes_of line ≤ 99_999
  pub price : price_of line ≤ 999_999

pub number_small : (most : ℕ) (f : List ℕ) → is_number most f ≡ true → decimal 0 f ≤ most
unfolding is_number
number_small most f e = (within 1 most (decimal 0 f) (both_true (is_decimal f) _ e).1).1

pub record_small : (line : List ℕ) → is_record line ≡ true → RecordSmall line
unfolding tonnes_of price_of number_in is_tonnes is_price
record_small line e =
    let f = recorded line e in
    let tonnes = ap (λ fs. decimal 0 (get_or fs 2 [])) f.parts in
    let price = ap (λ fs. decimal 0 (get_or fs 3 [])) f.parts in
    record {
      tonnes = omega (arith, tonnes, number_small 99_999 f.tonnes f.tonnes_form);
      price = omega (arith, price, number_small 999_999 f.price f.price_form);
    }

-- the most cents of a record
abbrev pub most_value : ℕ
most_value = 99_999 * 999_999

pub value_small : (line : List ℕ) → is_record line ≡ true → value_of line ≤ most_value
unfolding value_of
value_small line e = let s = record_small line e in mul-le-mul s.tonnes s.price

-- a sum of numbers none of which is above a bound
total_small : (f : List ℕ → ℕ) (most : ℕ) → ((line : List ℕ) → is_record line ≡ true → f line ≤ most) → (ls : Lines) → all is_record ls ≡ true
    → total f ls ≤ most * length ls
unfolding total all
total_small f most small [] a = omega arith
total_small f most small (l ∷ ls) a =
    let parts = both_true (is_record l) (all is_record ls) a in
    let rest = total_small f most small ls parts.1 in
    let first = small l parts.0 in
    omega arith

-- the sums of records, and of those of one currency among them
pub tonnes_small : (ls : Lines) → all is_record ls ≡ true → total tonnes_of ls ≤ 99_999 * length ls
tonnes_small = total_small tonnes_of 99_999 (λ l e. (record_small l e).tonnes)

pub cents_small : (ls : Lines) → all is_record ls ≡ true → total value_of ls ≤ most_value * length ls
cents_small = total_small value_of most_value value_small

pub record LinesBounded (ls : Lines) : Type 0 where
  pub count : length ls ≤ most_lines
  pub tonnes : total tonnes_of ls ≤ 99_999 * most_lines
  pub value : total value_of ls ≤ most_value * most_lines

pub sums_bounded : (ls : Lines) → length ls ≤ most_lines → all is_record ls ≡ true → LinesBounded ls
sums_bounded ls few good =
    record {
      count = few;
      tonnes = omega (arith, tonnes_small ls good);
      value = omega (arith, cents_small ls good);
    }

pub of_few : (c : List ℕ) (held : Lines) → length (lines_of c held) ≤ length held
unfolding lines_of
of_few c held = keep_few (λ line. same (currency_of line) c) held

pub of_good : (c : List ℕ) (held : Lines) → all is_record held ≡ true → all is_record (lines_of c held) ≡ true
unfolding lines_of
of_good c held good = all_keep is_record (λ line. same (currency_of line) c) held good

pub printed-append : (xs ys : List (List ℕ)) → printed_records (xs ++ ys) ≡ printed_records xs ++ printed_records ys
unfolding printed_records
printed-append [] ys = refl
printed-append (x ∷ xs) ys = ap (λ l. x ++ (newline ∷ l)) (printed-append xs ys) ∙ sym (append_assoc x (newline ∷ printed_records xs) (printed_records ys))

-- a record is printed in 29 bytes at most
pub printed_size : (ls : Lines) → all is_record ls ≡ true → length (printed_records ls) ≤ 29 * length ls
unfolding printed_records all
printed_size [] a = omega arith
printed_size (l ∷ ls) a =
    let parts = both_true (is_record l) (all is_record ls) a in
    let size = (line_size_lem l (record_form l parts.0)).1 in
    let rest = printed_size ls parts.1 in
    omega (arith, length-append l (newline ∷ printed_records ls))

-- a TOTAL line has 37 bytes at most: 3 digits, 8 and 14
total_size : (c : List ℕ) → is_currency c ≡ true → (ls : Lines) → LinesBounded ls → length (total_line c (totals_of ls)) ≤ 37
unfolding total_line totals_of bytes
total_size c form ls b =
    let word = currency_size c form in
    let count = digits-length 2 (length ls) (omega (arith, b.count)) in
    let tonnes = digits-length 7 (total tonnes_of ls) (omega (arith, b.tonnes)) in
    let value = digits-length 13 (total value_of ls) (omega (arith, b.value)) in
    simp length-append (omega arith)

-- no report is longer than 256 records of 29 bytes and as many TOTAL lines of 38, each with its byte 10
abbrev pub most_report : ℕ
most_report = 17_152

module _ (held : Lines) (few : length held ≤ most_lines) (good : all is_record held ≡ true) where
  pub of_bounded : (c : List ℕ) → LinesBounded (lines_of c held)
  of_bounded c = sums_bounded (lines_of c held) (omega (arith, of_few c held)) (of_good c held good)

  -- the TOTAL lines of some currencies
  pub totals_size : (ws : List (List ℕ)) → all is_currency ws ≡ true → length (printed_records (map (total_of held) ws)) ≤ 38 * length ws
  unfolding printed_records all
  totals_size [] a = omega arith
  totals_size (w ∷ ws) a =
      let parts = both_true (is_currency w) (all is_currency ws) a in
      let size = total_size w parts.0 (lines_of w held) (of_bounded w) in
      let rest = totals_size ws parts.1 in
      omega (arith, length-append (total_of held w) (newline ∷ printed_records (map (total_of held) ws)))

  pub report_size : length (report held) ≤ most_report
  unfolding report total_lines
  report_size =
      let above = printed_size held good in
      let below = totals_size (currencies held) (currencies-form held good) in
      omega (
        arith,
        currencies_few held,
        ap length (printed-append held (map (total_of held) (currencies held))),
        length-append (printed_records held) (printed_records (map (total_of held) (currencies held))),
      )
