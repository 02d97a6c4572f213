-- The sums of a code, a TOTAL line put, and the TOTAL lines of all currencies. Assumes nothing.
use Rattle.std.specs.Prelude.{true, false, ◌≡◌, leb, take}
use mathlib.Core.List.{List, [], ◌∷◌, ◌++◌, append_assoc, map, map-append}
use Rattle.std.proofs.Math.Path.{refl, ap, ap₂, subst}
use Rattle.std.proofs.Common.{sym, ◌∙◌, zero-add, add-one, arith, length-append, take_all, take-suc}
use Prim.Native.Nat.{ℕ, ◌+◌, ◌*◌, ◌≤◌, ◌<◌}
use Rattle.std.proofs.Math.ListN.{get_or-eq_default, length, drop, get_or, drop_of_length-le, length-map}
use borrow.Author.Tests.{eq-eqb, leb-false, leb-true, ne_eqb}
use Rattle.std.proofs.lemmas.List.{get_or-map}
use Rattle.register_report.specs.declared.Worth.{Worth}
use Rattle.base.specs.Choice.{test_cases}
use Rattle.base.specs.ListLaws.{all_inside}
use Rattle.base.specs.Lists.{total}
use Rattle.base.specs.Text.{bytes}
use Rattle.cards.specs.Bytes.{newline}
use Rattle.printing.specs.Printing.{Put, numbers_text}
use Rattle.printing.specs.PrintLaws.{put-behind}
use Rattle.values.specs.Laws.{digits-length}
use Rattle.register.specs.Line.{is_currency}
use Rattle.register.specs.OrderLaws.{currencies_few}
use Rattle.register.specs.Register.{Lines, most_lines}
use Rattle.register.specs.Report.{currencies, lines_of, printed_records, tonnes_of, total_line, total_lines, totals_of, value_of}
use Rattle.register.specs.ReportLaws.{currencies-form, most_value, printed-append, total_of}
use Rattle.register_report.specs.CodeLaws.{code_range, code_word, codes_of, count-lines, count_next, count_small}
use Rattle.register_report.specs.CodeLaws.{first_code, lowest_within, next_code_lem, sum-lines, sum-next, sum_small}
use Rattle.register_report.specs.Codes.{currency_code_in, currency_code, code_count, lowest_code, no_code, sum_of, word_of}
use Rattle.register_report.specs.declared.Sums.{Sums}
use Rattle.register_report.specs.Sums.{Columns, ColumnsFit, Summed, TotalsPut, WorthsFit, codes_in, most_total, tonnes_in, total_text, totals_from, values_in}

-- The sums of a code over the first places: with those of the places left they are the sums of all.
pub record SummedTo (code : ℕ) (codes tonnes values : List ℕ) (count weight value k : ℕ) : Type 0 where
  pub inside : k ≤ length codes
  pub number_left_lem : count + code_count code (drop k codes) ≡ code_count code codes
  pub weight_left : weight + sum_of code (drop k codes) (drop k tonnes) ≡ sum_of code codes tonnes
  pub cents_left : value + sum_of code (drop k codes) (drop k values) ≡ sum_of code codes values

pub summed_none : (code : ℕ) (codes tonnes values : List ℕ) → SummedTo code codes tonnes values 0 0 0 0
summed_none code codes tonnes values =
    record { inside = omega arith; number_left_lem = zero-add _; weight_left = zero-add _; cents_left = zero-add _ }

-- no sum of a code is large
module _ (code : ℕ) (codes tonnes values : List ℕ) (f : ColumnsFit codes tonnes values) where
  pub number_bound : code_count code codes ≤ most_lines
  number_bound = omega (arith, count_small code codes, f.few)

  pub weight_bound : sum_of code codes tonnes ≤ 99_999 * most_lines
  weight_bound = omega (arith, sum_small code 99_999 codes tonnes f.light, f.few)

  pub cents_bound : sum_of code codes values ≤ most_value * most_lines
  cents_bound = omega (arith, sum_small code most_value codes values f.cheap, f.few)

  module _ (count weight value k : ℕ) (s : SummedTo code codes tonnes values count weight value k) where
    -- no place is left
    pub summed_all : length codes ≤ k → Summed code codes tonnes values (record { count = count; tonnes = weight; value = value })
    unfolding code_count sum_of total
    summed_all h =
        let none : drop k codes ≡ [] = drop_of_length-le codes h in
        record {
          number = omega (arith, s.number_left_lem, ap (code_count code) none);
          weight = omega (arith, s.weight_left, ap (λ l. sum_of code l (drop k tonnes)) none);
          cents = omega (arith, s.cents_left, ap (λ l. sum_of code l (drop k values)) none);
        }

    -- one more place: it has the code, or another
    module _ (h : k < length codes) where
      module _ (is : get_or codes k 0 ≡ code) where
        number_here : code_count code (drop k codes) ≡ 1 + code_count code (drop (k + 1) codes)
        number_here = count_next code codes k h true (eq-eqb (get_or codes k 0) code is)

        sum-here : (xs : List ℕ) → length xs ≡ length codes
            → sum_of code (drop k codes) (drop k xs) ≡ get_or xs k 0 + sum_of code (drop (k + 1) codes) (drop (k + 1) xs)
        sum-here = sum-next code codes k h true (eq-eqb (get_or codes k 0) code is)

        pub count_fits : count + 1 ≤ most_lines
        count_fits = omega (arith, s.number_left_lem, number_here, number_bound)

        pub weight_fits : weight + get_or tonnes k 0 ≤ 99_999 * most_lines
        weight_fits = omega (arith, s.weight_left, sum-here tonnes f.weights, weight_bound)

        pub value_fits : value + get_or values k 0 ≤ most_value * most_lines
        value_fits = omega (arith, s.cents_left, sum-here values f.cents, cents_bound)

        pub summed_here : SummedTo code codes tonnes values (count + 1) (weight + get_or tonnes k 0) (value + get_or values k 0) (k + 1)
        summed_here =
            record {
              inside = omega arith;
              number_left_lem = omega (arith, s.number_left_lem, number_here);
              weight_left = omega (arith, s.weight_left, sum-here tonnes f.weights);
              cents_left = omega (arith, s.cents_left, sum-here values f.cents);
            }

      pub summed_past : ¬ (get_or codes k 0 ≡ code) → SummedTo code codes tonnes values count weight value (k + 1)
      summed_past n =
          let other = ne_eqb (get_or codes k 0) code n in
          record {
            inside = omega arith;
            number_left_lem = omega (arith, s.number_left_lem, count_next code codes k h false other);
            weight_left = omega (arith, s.weight_left, sum-next code codes k h false other tonnes f.weights);
            cents_left = omega (arith, s.cents_left, sum-next code codes k h false other values f.cents);
          }

-- The sums of a code over the first lines, by what the next one adds.
module _ (code : ℕ) (worths : List Worth) (fit : WorthsFit worths) (count weight value k : ℕ)
    (s : SummedTo code (codes_in worths) (tonnes_in worths) (values_in worths) count weight value k) (h : k < length worths) (d : Worth) where
  abbrev added : Worth
  added = get_or worths k d

  inside-codes : k < length (codes_in worths)
  inside-codes = omega (arith, length-map worths (λ w. w.code))

  code-here : get_or (codes_in worths) k 0 ≡ added.code
  code-here = get_or-map (λ w. w.code) worths k d 0 h

  tonnes-here : get_or (tonnes_in worths) k 0 ≡ added.tonnes
  tonnes-here = get_or-map (λ w. w.tonnes) worths k d 0 h

  value-here : get_or (values_in worths) k 0 ≡ added.value
  value-here = get_or-map (λ w. w.value) worths k d 0 h

  module _ (is : added.code ≡ code) where
    pub line_count : count + 1 ≤ most_lines
    line_count = count_fits code (codes_in worths) (tonnes_in worths) (values_in worths) fit count weight value k s inside-codes (code-here ∙ is)

    pub line_weight : weight + added.tonnes ≤ 99_999 * most_lines
    line_weight =
        omega (
          arith,
          weight_fits code (codes_in worths) (tonnes_in worths) (values_in worths) fit count weight value k s inside-codes (code-here ∙ is),
          tonnes-here,
        )

    pub line_value : value + added.value ≤ most_value * most_lines
    line_value =
        omega (
          arith,
          value_fits code (codes_in worths) (tonnes_in worths) (values_in worths) fit count weight value k s inside-codes (code-here ∙ is),
          value-here,
        )

    pub line_here : SummedTo code (codes_in worths) (tonnes_in worths) (values_in worths) (count + 1) (weight + added.tonnes) (value + added.value) (k + 1)
    line_here =
        rw (← tonnes-here, ← value-here)
        (summed_here code (codes_in worths) (tonnes_in worths) (values_in worths) fit count weight value k s inside-codes (code-here ∙ is))

  pub line_past : ¬ (added.code ≡ code) → SummedTo code (codes_in worths) (tonnes_in worths) (values_in worths) count weight value (k + 1)
  line_past other =
      summed_past code (codes_in worths) (tonnes_in worths) (values_in worths) fit count weight value k s inside-codes (λ e. other (sym code-here ∙ e))

-- the TOTAL line of a code
pub total-put : (code : ℕ) (s : Sums) (before after : List ℕ) (at end : ℕ)
    → Put before after at ((bytes "TOTAL," ++ word_of code) ++ numbers_text s.count s.tonnes s.value) end
    → Put before after at (total_text code s) end
unfolding numbers_text total_text printed_records total_line newline
total-put code s before after at end p =
    let same : (bytes "TOTAL," ++ word_of code) ++ numbers_text s.count s.tonnes s.value ≡ total_text code s = simp append_assoc in
    subst (λ l. Put before after at l end) same p

-- it is short, as the sums of columns are
total_short : (code : ℕ) (codes tonnes values : List ℕ) → ColumnsFit codes tonnes values → (s : Sums) → Summed code codes tonnes values s
    → length (total_text code s) ≤ most_total
unfolding total_text printed_records total_line bytes word_of
total_short code codes tonnes values f s m =
    let count = digits-length 2 s.count (omega (arith, m.number, number_bound code codes tonnes values f)) in
    let weight = digits-length 7 s.tonnes (omega (arith, m.weight, weight_bound code codes tonnes values f)) in
    let value = digits-length 13 s.value (omega (arith, m.cents, cents_bound code codes tonnes values f)) in
    simp length-append (omega arith)

-- The TOTAL lines of j codes are put: they have room, whatever lines the columns are of.
pub record RoomTo (codes before after : List ℕ) (code at j : ℕ) : Type 0 where
  pub inside : j ≤ length codes
  pub size : length after ≡ length before
  pub short : at ≤ most_total * j
  pub range : code ≤ no_code

pub going_none : (codes out : List ℕ) (code : ℕ) → code ≡ lowest_code 0 no_code codes → RoomTo codes out out code 0 0
going_none codes out code e =
    record { inside = omega arith; size = refl; short = omega arith; range = omega (arith, e, lowest_within 0 no_code codes) }

pub going_more : (codes tonnes values before middle after : List ℕ) (code at j : ℕ) → ColumnsFit codes tonnes values → RoomTo codes before middle code at j
    → j < length codes → (s : Sums) → Summed code codes tonnes values s → (end : ℕ) → Put middle after at (total_text code s) end
    → (new : ℕ) → new ≡ lowest_code code no_code codes → RoomTo codes before after new end (j + 1)
going_more codes tonnes values before middle after code at j f g h s m end p new e =
    record {
      inside = omega arith;
      size = p.size ∙ g.size;
      short = omega (arith, p.ends, g.short, total_short code codes tonnes values f s m);
      range = omega (arith, e, lowest_within code no_code codes);
    }

-- Of lines: what was put is the TOTAL lines of the first j currencies, and the code is the next one's.
pub record TotalsTo (lines : Lines) (before after : List ℕ) (code at j : ℕ) : Type 0 where
  pub next : code ≡ get_or (codes_of lines) j no_code
  pub put : Put before after 0 (printed_records (map (total_of lines) (take j (currencies lines)))) at

module _ (lines : Lines) (codes tonnes values : List ℕ) (c : Columns lines codes tonnes values) where
  abbrev words : List (List ℕ)
  words = currencies lines

  lowest-is : (last : ℕ) → lowest_code last no_code codes ≡ lowest_code last no_code (map currency_code_in lines)
  lowest-is last = ap (lowest_code last no_code) c.currency

  pub listed_none : (out : List ℕ) (code : ℕ) → code ≡ lowest_code 0 no_code codes → TotalsTo lines out out code 0 0
  unfolding printed_records
  listed_none out code e =
      record {
        next = e ∙ lowest-is 0 ∙ first_code lines c.good;
        put = record { ends = refl; within = omega arith; holds = refl; size = refl };
      }

  module _ (before middle : List ℕ) (code at j : ℕ) (t : TotalsTo lines before middle code at j) where
    -- no currency is left
    listed-all : length words ≤ j → TotalsPut lines middle at
    unfolding total_lines
    listed-all h =
        record {
          within = t.put.within;
          bytes = t.put.holds ∙ ap (λ ws. printed_records (map (total_of lines) ws)) (take_all j words h);
        }

    pub listed_end : length codes ≤ j → TotalsPut lines middle at
    listed_end h =
        listed-all (omega (arith, currencies_few lines, ap length c.currency, length-map lines currency_code_in))

    -- one is
    module _ (h : j < length words) where
      abbrev word : List ℕ
      word = get_or words j []

      word-form : is_currency word ≡ true
      word-form = all_inside is_currency words [] (currencies-form lines c.good) j h

      code_here : code ≡ currency_code word
      unfolding codes_of
      code_here = t.next ∙ get_or-map currency_code words j [] no_code h

    pub listed_last : code ≡ no_code → TotalsPut lines middle at
    listed_last e =
        test_cases (λ _. TotalsPut lines middle at) (leb (length words) j) (λ f. listed-all (leb-true (length words) j f))
        (λ f. let h = leb-false (length words) j f in
        absurd (omega (arith, e, code_here h, (code_range (word h) (word-form h)).1)))

    some_left : code < no_code → j < length words
    unfolding codes_of
    some_left small =
        test_cases (λ _. j < length words) (leb (length words) j)
        (λ f. let none = get_or-eq_default (codes_of lines) no_code {n = j} (omega (arith, leb-true (length words) j f, length-map words currency_code)) in
        absurd (omega (arith, t.next, none)))
        (λ f. leb-false (length words) j f)

    module _ (small : code < no_code) (s : Sums) (m : Summed code codes tonnes values s) where
      abbrev here : j < length words
      here = some_left small

      abbrev its : Lines
      its = lines_of (word here) lines

      -- the sums are those of the currency's lines
      sums_are : totals_from s ≡ totals_of its
      unfolding totals_of
      sums_are =
          let number : s.count ≡ length its =
          m.number ∙ ap₂ {C = ℕ} code_count (code_here here) c.currency ∙ count-lines (word here) (word-form here) lines c.good in
          let weight : s.tonnes ≡ total tonnes_of its =
          m.weight ∙ ap₂ {C = ℕ} (λ k l. sum_of k l tonnes) (code_here here) c.currency
          ∙ ap (sum_of (currency_code (word here)) (map currency_code_in lines)) c.weight ∙ sum-lines (word here) (word-form here) tonnes_of lines c.good in
          let value : s.value ≡ total value_of its =
          m.cents ∙ ap₂ {C = ℕ} (λ k l. sum_of k l values) (code_here here) c.currency
          ∙ ap (sum_of (currency_code (word here)) (map currency_code_in lines)) c.cents ∙ sum-lines (word here) (word-form here) value_of lines c.good in
          λ i. record { count = number i; tonnes = weight i; value = value i }

      text_is : total_text code s ≡ printed_records (total_of lines (word here) ∷ [])
      unfolding total_text
      text_is =
          ap₂ {C = List ℕ} (λ w u. printed_records (total_line w u ∷ [])) (ap word_of (code_here here) ∙ code_word (word here) (word-form here)) sums_are

      more_text : printed_records (map (total_of lines) (take j words)) ++ total_text code s ≡ printed_records (map (total_of lines) (take (j + 1) words))
      more_text =
          let f = total_of lines in
          ap (λ l. printed_records (map f (take j words)) ++ l) text_is
          ∙ sym (printed-append (map f (take j words)) (f (word here) ∷ []))
          ∙ ap printed_records (sym (map-append f (take j words) (word here ∷ [])))
          ∙ ap (λ ws. printed_records (map f ws)) (sym (ap (λ n. take n words) (add-one j) ∙ take-suc words j [] here))

      pub listed_more : (after : List ℕ) (end : ℕ) → Put middle after at (total_text code s) end → (new : ℕ) → new ≡ lowest_code code no_code codes
          → TotalsTo lines before after new end (j + 1)
      unfolding codes_of
      listed_more after end p new e =
          let size = length-map words currency_code in
          record {
            next =
                e ∙ lowest-is code ∙ ap (λ k. lowest_code k no_code (map currency_code_in lines)) t.next ∙ next_code_lem lines c.good j (omega (arith, here, size));
            put = subst (λ l. Put before after 0 l end) more_text (put-behind t.put p);
          }
