-- The fields of a record, found by their places: numbers read digit by digit, and the currency's code. Assumes nothing.
use Rattle.std.specs.Prelude.{true, false, List, [], ◌∷◌, ◌≡◌, refl, eqb, take, drop}
use Rattle.std.proofs.Math.Path.{sym, ap, ap₂}
use Rattle.std.proofs.Common.{◌∙◌, subst, arith, drop_of_length-le, length-drop, take_all}
use Prim.Native.Nat.{ℕ, suc, ◌+◌, ◌*◌, ◌-◌, ◌≤◌, ◌<◌}
use Rattle.std.proofs.Math.ListN.{length, get_or}
use borrow.Author.Tests.{eq-eqb, eqb-true, ne_eqb}
use Rattle.base.specs.Choice.{both_true, test_cases}
use Rattle.base.specs.ListLaws.{drop-next}
use Rattle.base.specs.Lists.{all}
use Rattle.cards.specs.ByteLaws.{digit_range}
use Rattle.cards.specs.Bytes.{comma, is_digit}
use Rattle.cards.specs.Cards.{on_first}
use Rattle.search.specs.NextLaws.{next-until}
use Rattle.search.specs.Passing.{NextByte, until}
use Rattle.values.specs.Conversion.{decimal}
use Rattle.register.specs.Line.{contract_of, fields, is_grain, is_price, is_record, is_tonnes}
use Rattle.register.specs.LineLaws.{RecordFormed, currency_is, currency_size, decimal-least, digit_value}
use Rattle.register.specs.LineLaws.{first_field, next-fields, number_bytes, put_first, recorded}
use Rattle.register.specs.LineLaws.{field_alone}
use Rattle.register.specs.Report.{number_in, price_of, tonnes_of, value_of}
use Rattle.register.specs.ReportLaws.{number_small}
use Rattle.register_report.specs.Codes.{code_from, currency_code_in, currency_code}
use Rattle.register_report.specs.Sums.{Numeric, field_at}

-- The field at a place: it is empty where the line ends or a comma stands, else the byte there is its first.
module _ (line : List ℕ) (end : ℕ) where
  pub field_end : length line ≤ end → field_at line end ≡ []
  unfolding fields
  field_end h = ap first_field (drop_of_length-le line h)

  module _ (h : end < length line) where
    pub field_comma : get_or line end 0 ≡ 44 → field_at line end ≡ []
    unfolding fields comma
    field_comma e = ap first_field (drop-next line end 0 h) ∙ rw (fields, eq-eqb (get_or line end 0) 44 e)

    field_more : ¬ (get_or line end 0 ≡ 44) → field_at line end ≡ get_or line end 0 ∷ field_at line (end + 1)
    unfolding fields comma
    field_more n =
        ap first_field (drop-next line end 0 h)
        ∙ rw (fields, ne_eqb (get_or line end 0) 44 n) (put_first (get_or line end 0) (fields (drop (end + 1) line)))

-- A number read up to a place: its value so far, and the digits that are left.
pub record NumberReadTo (line : List ℕ) (at value end : ℕ) : Type 0 where
  pub inside : end ≤ length line
  pub left : decimal value (field_at line end) ≡ decimal 0 (field_at line at)
  pub rest : all is_digit (field_at line end) ≡ true
  pub place : end + length (field_at line end) ≡ at + length (field_at line at)

pub read_none : (line : List ℕ) (at : ℕ) → Numeric line at → NumberReadTo line at 0 at
read_none line at n = record { inside = n.inside; left = refl; rest = n.digits; place = refl }

module _ (line : List ℕ) (at value end : ℕ) (r : NumberReadTo line at value end) where
  -- no digit is left
  pub read_all : field_at line end ≡ [] → (value ≡ decimal 0 (field_at line at)) × (end ≡ at + length (field_at line at))
  unfolding decimal
  read_all none =
      (sym (ap (decimal value) none) ∙ r.left, omega (arith, r.place, ap length none))

  -- a digit is
  module _ (h : end < length line) (n : ¬ (get_or line end 0 ≡ 44)) where
    abbrev byte : ℕ
    byte = get_or line end 0

    one_more : (is_digit byte ≡ true) × (all is_digit (field_at line (end + 1)) ≡ true)
    unfolding all
    one_more = both_true (is_digit byte) (all is_digit (field_at line (end + 1))) (ap (all is_digit) (sym (field_more line end h n)) ∙ r.rest)

    pub digit_here : (48 ≤ byte) × (byte ≤ 57)
    digit_here = digit_range byte one_more.0

    pub read_more : NumberReadTo line at (value * 10 + (byte - 48)) (end + 1)
    unfolding decimal
    read_more =
        let next = field_more line end h n in
        record {
          inside = omega arith;
          left =
              ap (λ d. decimal (value * 10 + d) (field_at line (end + 1))) (sym (digit_value byte one_more.0))
              ∙ ap (decimal value) (sym next)
              ∙ r.left;
          rest = one_more.1;
          place = omega (arith, r.place, ap length next);
        }

-- what is read so far is no more than the number
pub read_small : (line : List ℕ) (at value end : ℕ) → Numeric line at → NumberReadTo line at value end → value ≤ 999_999
read_small line at value end n r = omega (arith, decimal-least value (field_at line end), r.left, n.small)

-- the contract ends at the first comma
first-until : (line : List ℕ) → until 44 line ≡ length (first_field line)
unfolding until fields comma
first-until [] = refl
first-until (b ∷ line) =
    test_cases
    (λ t. elim t as (λ _. ℕ) [ true ↦ 0 | false ↦ suc (until 44 line) ] ≡ length {A = ℕ}
    (get_or (elim t as (λ _. List (List ℕ)) [ true ↦ [] ∷ fields line | false ↦ on_first b (fields line) ]) 0 []))
    (eqb b 44) (λ _. refl) (λ _. ap suc (first-until line) ∙ sym (ap length (put_first b (fields line))))

pub contract_next : (line : List ℕ) (n : ℕ) → NextByte line 44 0 n → n ≡ length (contract_of line)
unfolding contract_of
contract_next line n next = omega (arith, next-until line 44 0 n next, first-until line)

-- a line of one field is that field
line_alone : (l f : List ℕ) → fields l ≡ f ∷ [] → l ≡ f
line_alone l f e = sym (field_alone l (ap (drop 1) e)) ∙ ap (λ fs. get_or fs 0 []) e

-- The fields of a record, by their places.
module _ (line : List ℕ) (form : is_record line ≡ true) (contract : ℕ) (size : contract ≡ length (contract_of line)) where
  abbrev f : RecordFormed line
  f = recorded line form

  tonnes_fields : (fields (drop (contract + 4) line) ≡ f.tonnes ∷ f.price ∷ f.currency ∷ []) × (contract + 4 ≤ length line)
  unfolding is_grain contract_of
  tonnes_fields =
      let grain = next-fields line 0 f.contract f.grain (f.tonnes ∷ f.price ∷ f.currency ∷ []) f.parts in
      let tonnes = next-fields line (0 + length f.contract + 1) f.grain f.tonnes (f.price ∷ f.currency ∷ []) grain.0 in
      let two = eqb-true (length f.grain) 2 (both_true _ _ f.grain_form).0 in
      let first = ap (λ fs. length (get_or fs 0 [])) f.parts in
      let place : 0 + length f.contract + 1 + length f.grain + 1 ≡ contract + 4 = omega (arith, two, size, first) in
      (subst (λ n. fields (drop n line) ≡ f.tonnes ∷ f.price ∷ f.currency ∷ []) place tonnes.0, omega (arith, tonnes.1))

  tonnes_is : field_at line (contract + 4) ≡ f.tonnes
  tonnes_is = ap (λ fs. get_or fs 0 []) tonnes_fields.0

  pub tonnes_numeric : Numeric line (contract + 4)
  unfolding is_tonnes
  tonnes_numeric =
      record {
        inside = tonnes_fields.1;
        digits = ap (all is_digit) tonnes_is ∙ number_bytes 99_999 f.tonnes f.tonnes_form;
        small = omega (arith, ap (decimal 0) tonnes_is, number_small 99_999 f.tonnes f.tonnes_form);
      }

  pub tonnes_shown : decimal 0 (field_at line (contract + 4)) ≡ tonnes_of line
  unfolding tonnes_of number_in
  tonnes_shown = ap (decimal 0) (tonnes_is ∙ sym (ap (λ fs. get_or fs 2 []) f.parts))

  module _ (end : ℕ) (e : end ≡ contract + 4 + length (field_at line (contract + 4))) where
    price_fields : (fields (drop (end + 1) line) ≡ f.price ∷ f.currency ∷ []) × (end + 1 ≤ length line)
    price_fields =
        let price = next-fields line (contract + 4) f.tonnes f.price (f.currency ∷ []) tonnes_fields.0 in
        let place : contract + 4 + length f.tonnes + 1 ≡ end + 1 = omega (arith, e, ap length tonnes_is) in
        (subst (λ n. fields (drop n line) ≡ f.price ∷ f.currency ∷ []) place price.0, omega (arith, price.1))

    price_is : field_at line (end + 1) ≡ f.price
    price_is = ap (λ fs. get_or fs 0 []) price_fields.0

    pub price_numeric : Numeric line (end + 1)
    unfolding is_price
    price_numeric =
        record {
          inside = price_fields.1;
          digits = ap (all is_digit) price_is ∙ number_bytes 999_999 f.price f.price_form;
          small = omega (arith, ap (decimal 0) price_is, number_small 999_999 f.price f.price_form);
        }

    price_shown : decimal 0 (field_at line (end + 1)) ≡ price_of line
    unfolding price_of number_in
    price_shown = ap (decimal 0) (price_is ∙ sym (ap (λ fs. get_or fs 3 []) f.parts))

    pub worth_is : (t p : ℕ) → t ≡ decimal 0 (field_at line (contract + 4)) → p ≡ decimal 0 (field_at line (end + 1)) → t * p ≡ value_of line
    unfolding value_of
    worth_is t p is at = ap₂ {C = ℕ} ◌*◌ (is ∙ tonnes_shown) (at ∙ price_shown)

    -- the currency is the bytes behind the price's comma
    module _ (last : ℕ) (g : last ≡ end + 1 + length (field_at line (end + 1))) where
      currency_at : (drop (last + 1) line ≡ f.currency) × (last + 1 ≤ length line)
      currency_at =
          let currency = next-fields line (end + 1) f.price f.currency [] price_fields.0 in
          let place : end + 1 + length f.price + 1 ≡ last + 1 = omega (arith, g, ap length price_is) in
          (subst (λ n. drop n line ≡ f.currency) place (line_alone _ f.currency currency.0), omega (arith, currency.1))

      three : length f.currency ≡ 3
      three = currency_size f.currency f.currency_form

      pub currency_inside : last + 1 + 3 ≤ length line
      currency_inside = omega (arith, currency_at.1, ap length currency_at.0, length-drop (last + 1) line, three)

      pub code_is : currency_code (take 3 (drop (last + 1) line)) ≡ currency_code_in line
      unfolding currency_code_in
      code_is =
          ap (λ l. currency_code (take 3 l)) currency_at.0
          ∙ ap currency_code (take_all 3 f.currency (omega (arith, three)) ∙ sym (currency_is f))

-- the code of three bytes
pub code_three : (line : List ℕ) (at : ℕ) → at + 3 ≤ length line
    → (get_or line at 0 * 256 + get_or line (at + 1) 0) * 256 + get_or line (at + 2) 0 ≡ currency_code (take 3 (drop at line))
unfolding currency_code code_from
code_three line at h =
    let first = drop-next line at 0 (omega arith) in
    let second = drop-next line (at + 1) 0 (omega arith) in
    let third = drop-next line (at + 2) 0 (omega arith) in
    let x = get_or line at 0 in
    let y = get_or line (at + 1) 0 in
    let z = get_or line (at + 2) 0 in
    let two : at + 1 + 1 ≡ at + 2 = omega arith in
    let bytes : take 3 (drop at line) ≡ x ∷ y ∷ z ∷ [] =
    ap (take 3) first ∙ ap (λ (l : List ℕ). x ∷ take 2 l) second
    ∙ ap (λ n. x ∷ y ∷ take 1 (drop n line)) two ∙ ap (λ (l : List ℕ). x ∷ y ∷ take 1 l) third in
    let whole : (x * 256 + y) * 256 + z ≡ ((0 * 256 + x) * 256 + y) * 256 + z = omega arith in
    whole ∙ ap currency_code (sym bytes)
