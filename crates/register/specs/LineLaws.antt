-- What the form of a line tells of its bytes, how its fields are found one after the other, and lines with a currency written behind them. Assumes
-- nothing.
use Rattle.std.specs.Prelude.{Bool, ◌&&◌, ◌||◌, ◌≡◌, eqb, leb, take, drop}
use Rattle.std.proofs.Math.Bool.{true, false, not, false≢true}
use mathlib.Core.List.{List, [], ◌∷◌, ◌++◌}
use Rattle.std.proofs.Math.Path.{refl, sym, ap}
use Rattle.std.proofs.Common.{◌∙◌, length-drop, drop-drop}
use Prim.Native.Nat.{ℕ, zero, suc, ◌+◌, ◌*◌, ◌-◌, ◌≤◌, ◌<◌}
use native.Mathlib.Omega.{arith}
use Rattle.std.proofs.Math.ListN.{length, get_or}
use borrow.Author.Tests.{eqb-true, eq-eqb, ne_eqb, leb-true, leb-false, le-leb}
use Rattle.base.specs.Choice.{both_true, both_pass, same_truth, test_cases}
use Rattle.base.specs.ListLaws.{all_imply}
use Rattle.base.specs.Lists.{all, begins, same, total}
use Rattle.base.specs.Text.{bytes}
use Rattle.cards.specs.ByteLaws.{digit_range, in_between, letter_range, name-byte, within}
use Rattle.cards.specs.Bytes.{between, comma, is_digit, is_letter, is_name_byte}
use Rattle.cards.specs.Cards.{on_first}
use Rattle.values.specs.Conversion.{decimal, digit_of}
use Rattle.register.specs.Line.{
  fields,
  is_contract,
  is_grain,
  is_decimal,
  is_number,
  is_tonnes,
  is_price,
  each,
  is_line,
  is_currency,
  is_record,
  has_form,
  contract_of,
  currency_of,
  with_currency,
}

-- v with so many zeros behind it
unfoldable scale : ℕ → ℕ → ℕ
scale zero v = v
scale (suc n) v = scale n (v * 10)

scale-more : (n v w : ℕ) → v ≤ w → scale n v ≤ scale n w
unfolding scale
scale-more zero v w h = h
scale-more (suc n) v w h = scale-more n (v * 10) (w * 10) (omega arith)

scale-longer : (n k v : ℕ) → n ≤ k → scale n v ≤ scale k v
unfolding scale
scale-longer zero zero v h = omega arith
scale-longer zero (suc k) v h =
    let rest = scale-longer zero k (v * 10) (omega arith) in
    omega arith
scale-longer (suc n) zero v h = absurd (omega arith)
scale-longer (suc n) (suc k) v h = scale-longer n k (v * 10) (omega arith)

-- the value of digits behind a value: not below it with as many zeros, and below the next one
decimal_low : (v : ℕ) (s : List ℕ) → scale (length s) v ≤ decimal v s
unfolding scale decimal
decimal_low v [] = omega arith
decimal_low v (b ∷ s) =
    let rest = decimal_low (v * 10 + digit_of b) s in
    let more = scale-more (length s) (v * 10) (v * 10 + digit_of b) (omega arith) in
    omega arith

pub decimal-least : (v : ℕ) (s : List ℕ) → v ≤ decimal v s
unfolding scale
decimal-least v s =
    let low = decimal_low v s in
    let more = scale-longer 0 (length s) v (omega arith) in
    omega arith

pub digit_value : (b : ℕ) → is_digit b ≡ true → digit_of b ≡ b - 48
unfolding digit_of
digit_value b e =
    let range = digit_range b e in
    rw (ne_eqb b 32 (λ is. omega arith))

decimal_high : (v : ℕ) (s : List ℕ) → all is_digit s ≡ true → decimal v s < scale (length s) (v + 1)
unfolding scale decimal all
decimal_high v [] a = omega arith
decimal_high v (b ∷ s) a =
    let parts = both_true (is_digit b) (all is_digit s) a in
    let range = digit_range b parts.0 in
    let value = digit_value b parts.0 in
    let rest = decimal_high (v * 10 + digit_of b) s parts.1 in
    let more = scale-more (length s) (v * 10 + digit_of b + 1) ((v + 1) * 10) (omega arith) in
    omega arith

-- the first digit of a number isn't 0
pub lead : (b : ℕ) (s : List ℕ) → not (begins (bytes "0") (b ∷ s)) ≡ not (eqb b 48)
unfolding begins bytes same
lead b s = test_cases (λ t. not (t && true) ≡ not t) (eqb b 48) (λ _. refl) (λ _. refl)

-- A decimal number without leading zeros is at most 9 .. 9 exactly when it has no more digits.
module _ (k most : ℕ) (size : most + 1 ≡ scale k 1) where
  number_short : (f : List ℕ) → is_decimal f ≡ true → between 1 most (decimal 0 f) ≡ between 1 k (length f)
  unfolding is_decimal between decimal scale all
  number_short [] e = refl
  number_short (b ∷ s) e =
      let parts = both_true (all is_digit (b ∷ s)) (not (begins (bytes "0") (b ∷ s))) e in
      let digits = both_true (is_digit b) (all is_digit s) parts.0 in
      let range = digit_range b digits.0 in
      let value = digit_value b digits.0 in
      let some : ¬ (b ≡ 48) = λ is. false≢true (sym (ap not (eq-eqb b 48 is)) ∙ (sym (lead b s) ∙ parts.1)) in
      let n = length s in
      let d = 0 + digit_of b in
      let low = decimal_low d s in
      let high = decimal_high d s digits.1 in
      let one = scale-more n 1 d (omega arith) in
      let ten = scale-more n (d + 1) 10 (omega arith) in
      same_truth (between 1 most (decimal d s)) (between 1 k (suc n))
      (λ fits. let h = (within 1 most (decimal d s) fits).1 in
      in_between 1 k (suc n) (omega arith)
      (test_cases (λ _. suc n ≤ k) (leb (suc n) k) (leb-true (suc n) k)
      (λ e'. absurd (let longer = scale-longer k n 1 (omega (arith, leb-false (suc n) k e')) in omega arith))))
      (λ few. let h = (within 1 k (suc n) few).1 in
      let longer = scale-longer (suc n) k 1 h in
      in_between 1 most (decimal d s) (let z = scale-longer 0 n 1 (omega arith) in omega arith) (omega arith))

  -- such a number, by its digits
  number_digits : (f : List ℕ) → is_number most f ≡ (is_decimal f && between 1 k (length f))
  unfolding is_number
  number_digits f =
      test_cases (λ t. (is_decimal f ≡ t) → (t && between 1 most (decimal 0 f)) ≡ (t && between 1 k (length f))) (is_decimal f)
      (λ e _. number_short f e) (λ _ _. refl) refl

pub tonnes_digits : (f : List ℕ) → is_tonnes f ≡ (is_decimal f && between 1 5 (length f))
unfolding is_tonnes scale
tonnes_digits = number_digits 5 99_999 refl

pub price_digits : (f : List ℕ) → is_price f ≡ (is_decimal f && between 1 6 (length f))
unfolding is_price scale
price_digits = number_digits 6 999_999 refl

-- The fields of a line: there is one more than there are commas, and its bytes are theirs and the commas.
sizes : (l : List ℕ) → suc (length l) ≡ total (λ f. suc (length f)) (fields l)
unfolding fields on_first total
sizes [] = refl
sizes (b ∷ l) =
    let rest = sizes l in
    test_cases (λ t. suc (suc (length l)) ≡ total {A = List ℕ} (λ f. suc (length f))
    (elim t [ true ↦ [] ∷ fields l | false ↦ on_first b (fields l) ])) (eqb b comma)
    (λ _. omega arith)
    (λ _. longer (fields l) rest)
  where
    longer : (fs : List (List ℕ)) → suc (length l) ≡ total (λ f. suc (length f)) fs
        → suc (suc (length l)) ≡ total (λ f. suc (length f)) (on_first b fs)
    longer [] e = absurd (omega arith)
    longer (f ∷ fs) e = omega arith

-- a test that all bytes of all fields pass, and the comma, is passed by all bytes of the line
pub fields-all : (p : ℕ → Bool) → p comma ≡ true → (l : List ℕ) → all (all p) (fields l) ≡ true → all p l ≡ true
unfolding fields on_first all
fields-all p c [] a = refl
fields-all p c (b ∷ l) a =
    test_cases (λ t. (eqb b comma ≡ t) → all (all p) (elim t [ true ↦ [] ∷ fields l | false ↦ on_first b (fields l) ]) ≡ true
    → (p b && all p l) ≡ true) (eqb b comma)
    (λ is _ h. both_pass (ap p (eqb-true b comma is) ∙ c) (fields-all p c l h))
    (λ _ _ h. let parts = joins (fields l) h in both_pass parts.0 (fields-all p c l parts.1))
    refl a
  where
    joins : (fs : List (List ℕ)) → all (all p) (on_first b fs) ≡ true → (p b ≡ true) × (all (all p) fs ≡ true)
    joins [] h = let first = both_true (p b && true) true h in ((both_true (p b) true first.0).0, refl)
    joins (f ∷ fs) h =
        let parts = both_true (p b && all p f) (all (all p) fs) h in
        let first = both_true (p b) (all p f) parts.0 in
        (first.0, both_pass first.1 parts.1)

-- What a line of good form is: four fields, each with its form, and a currency or none behind them.
pub record LineFormed (line : List ℕ) : Type 0 where
  pub contract : List ℕ
  pub grain : List ℕ
  pub tonnes : List ℕ
  pub price : List ℕ
  pub more : List (List ℕ)
  pub parts : fields line ≡ contract ∷ grain ∷ tonnes ∷ price ∷ more
  pub contract_form : is_contract contract ≡ true
  pub grain_form : is_grain grain ≡ true
  pub tonnes_form : is_tonnes tonnes ≡ true
  pub price_form : is_price price ≡ true
  pub more-form : all is_currency more ≡ true
  pub more_few : length more ≤ 1

-- fields that pass their tests: the first passes the first, the others theirs; and without tests there are none
record First (t : List ℕ → Bool) (ts : List (List ℕ → Bool)) (fs : List (List ℕ)) : Type 0 where
  field : List ℕ
  rest : List (List ℕ)
  is : fs ≡ field ∷ rest
  passes : t field ≡ true
  others : each ts rest ≡ true

each_first : (t : List ℕ → Bool) (ts : List (List ℕ → Bool)) (fs : List (List ℕ)) → each (t ∷ ts) fs ≡ true → First t ts fs
unfolding each
each_first t ts [] e = absurd (false≢true e)
each_first t ts (f ∷ fs) e =
    let parts = both_true (t f) (each ts fs) e in
    record { field = f; rest = fs; is = refl; passes = parts.0; others = parts.1 }

pub each_none : (fs : List (List ℕ)) → each [] fs ≡ true → fs ≡ []
unfolding each
each_none [] e = refl
each_none (f ∷ fs) e = absurd (false≢true e)

-- a line whose fields pass the tests of the four and of what stands behind them
module _ (line : List ℕ) (ts : List (List ℕ → Bool))
    (all_of : (fs : List (List ℕ)) → each ts fs ≡ true → (all is_currency fs ≡ true) × (length fs ≤ 1)) where
  formed_by : each (is_contract ∷ is_grain ∷ is_tonnes ∷ is_price ∷ ts) (fields line) ≡ true → LineFormed line
  formed_by e =
      let one = each_first is_contract (is_grain ∷ is_tonnes ∷ is_price ∷ ts) (fields line) e in
      let two = each_first is_grain (is_tonnes ∷ is_price ∷ ts) one.rest one.others in
      let three = each_first is_tonnes (is_price ∷ ts) two.rest two.others in
      let four = each_first is_price ts three.rest three.others in
      let first : List ℕ → List (List ℕ) → List (List ℕ) = λ f fs. f ∷ fs in
      let behind = all_of four.rest four.others in
      record {
        contract = one.field;
        grain = two.field;
        tonnes = three.field;
        price = four.field;
        more = four.rest;
        parts = one.is ∙ ap (first one.field) (two.is ∙ ap (first two.field) (three.is ∙ ap (first three.field) four.is));
        contract_form = one.passes;
        grain_form = two.passes;
        tonnes_form = three.passes;
        price_form = four.passes;
        more-form = behind.0;
        more_few = behind.1;
      }

no_more : (fs : List (List ℕ)) → each [] fs ≡ true → (all is_currency fs ≡ true) × (length fs ≤ 1)
unfolding all
no_more fs e = let none = each_none fs e in (ap (all is_currency) none, omega (arith, ap length none))

one_more : (fs : List (List ℕ)) → each (is_currency ∷ []) fs ≡ true → (all is_currency fs ≡ true) × (length fs ≤ 1)
unfolding all
one_more fs e =
    let one = each_first is_currency [] fs e in
    let none = each_none one.rest one.others in
    let is : fs ≡ one.field ∷ [] = one.is ∙ ap (λ (l : List (List ℕ)). one.field ∷ l) none in
    (ap (all is_currency) is ∙ both_pass one.passes refl, omega (arith, ap length is))

-- one of the two forms
pub form_cases : {A : Type 0} (line : List ℕ) → has_form line ≡ true → (is_line line ≡ true → A) → (is_record line ≡ true → A) → A
unfolding has_form
form_cases {A} line e four five =
    test_cases (λ t. is_line line ≡ t → (t || is_record line) ≡ true → A) (is_line line) (λ is _ _. four is) (λ _ _ is. five is) refl e

pub line-form : (line : List ℕ) → is_line line ≡ true → has_form line ≡ true
unfolding has_form
line-form line e = rw e

pub record_form : (line : List ℕ) → is_record line ≡ true → has_form line ≡ true
unfolding has_form
record_form line e = test_cases (λ t. (t || is_record line) ≡ true) (is_line line) (λ _. refl) (λ _. e)

-- as many fields as tests
pub each-count : (ts : List (List ℕ → Bool)) (fs : List (List ℕ)) → each ts fs ≡ true → length fs ≡ length ts
unfolding each
each-count [] [] e = refl
each-count [] (f ∷ fs) e = absurd (false≢true e)
each-count (t ∷ ts) [] e = absurd (false≢true e)
each-count (t ∷ ts) (f ∷ fs) e = ap suc (each-count ts fs (both_true (t f) (each ts fs) e).1)

pub formed : (line : List ℕ) → has_form line ≡ true → LineFormed line
unfolding is_line is_record
formed line e = form_cases line e (formed_by line [] no_more) (formed_by line (is_currency ∷ []) one_more)

-- a byte that isn't zero
unfoldable pub is_text : ℕ → Bool
is_text b = not (eqb b 0)

module _ {line : List ℕ} (f : LineFormed line) where
  contract_size : (1 ≤ length f.contract) × (length f.contract ≤ 8)
  unfolding is_contract
  contract_size = within 1 8 (length f.contract) (both_true _ _ f.contract_form).0

  pub contract_is : contract_of line ≡ f.contract
  unfolding contract_of
  contract_is = ap (λ fs. get_or fs 0 []) f.parts

-- a currency has three bytes, so the fields behind the price have four at most, with their comma
pub currency_size : (c : List ℕ) → is_currency c ≡ true → length c ≡ 3
unfolding is_currency
currency_size c e = eqb-true (length c) 3 (both_true (eqb (length c) 3) (all is_letter c) e).0

more_size : (fs : List (List ℕ)) → all is_currency fs ≡ true → total (λ f. suc (length f)) fs ≡ 4 * length fs
unfolding all total
more_size [] a = refl
more_size (f ∷ fs) a =
    let parts = both_true (is_currency f) (all is_currency fs) a in
    let rest = more_size fs parts.1 in
    omega (arith, currency_size f parts.0)

-- how many bytes a line has: 24 at most, and 4 more with a currency; none is empty
module _ {line : List ℕ} (f : LineFormed line) where
  size_by : (1 ≤ length line) × (length line ≤ 24 + 4 * length f.more)
  unfolding is_grain total
  size_by =
      let c = contract_size f in
      let g = eqb-true (length f.grain) 2 (both_true _ _ f.grain_form).0 in
      let t = within 1 5 (length f.tonnes) (both_true (is_decimal f.tonnes) _ (sym (tonnes_digits f.tonnes) ∙ f.tonnes_form)).1 in
      let p = within 1 6 (length f.price) (both_true (is_decimal f.price) _ (sym (price_digits f.price) ∙ f.price_form)).1 in
      let m = more_size f.more f.more-form in
      let whole = sizes line ∙ ap (total (λ x. suc (length x))) f.parts in
      (omega arith, omega arith)

-- W2 the longest line has 24 bytes, W10 with its currency 28, and no line is empty
pub line_size_lem : (line : List ℕ) → has_form line ≡ true → (1 ≤ length line) × (length line ≤ 28)
line_size_lem line e = let f = formed line e in let size = size_by f in (size.0, omega (arith, size.1, f.more_few))

pub line_short : (line : List ℕ) → is_line line ≡ true → length line ≤ 24
unfolding is_line
line_short line e =
    let f = formed_by line [] no_more e in
    let none = each-count (is_contract ∷ is_grain ∷ is_tonnes ∷ is_price ∷ []) (fields line) e in
    omega (arith, (size_by f).1, ap length f.parts, none)

-- W2.3 no byte of a line is below the comma
unfoldable pub above_comma : ℕ → Bool
above_comma b = leb comma b

plain : (b : ℕ) → 48 ≤ b → above_comma b ≡ true
unfolding above_comma comma
plain b h = le-leb 44 b (omega arith)

pub digit_plain : (b : ℕ) → is_digit b ≡ true → above_comma b ≡ true
digit_plain b d = plain b (digit_range b d).0

pub number_bytes : (most : ℕ) (f : List ℕ) → is_number most f ≡ true → all is_digit f ≡ true
unfolding is_number is_decimal
number_bytes most f e = (both_true (all is_digit f) _ (both_true (is_decimal f) _ e).0).0

number_plain : (most : ℕ) (f : List ℕ) → is_number most f ≡ true → all above_comma f ≡ true
number_plain most f e = all_imply is_digit above_comma digit_plain f (number_bytes most f e)

pub currency_letters : (c : List ℕ) → is_currency c ≡ true → all is_letter c ≡ true
unfolding is_currency
currency_letters c e = (both_true (eqb (length c) 3) (all is_letter c) e).1

pub currency_plain : (c : List ℕ) → is_currency c ≡ true → all above_comma c ≡ true
currency_plain c e = all_imply is_letter above_comma (λ b h. let range = letter_range b h in plain b (omega arith)) c (currency_letters c e)

pub line_plain : (line : List ℕ) → has_form line ≡ true → all above_comma line ≡ true
unfolding is_contract is_grain is_tonnes is_price all above_comma comma
line_plain line e =
    let f = formed line e in
    let c = all_imply is_name_byte above_comma (λ b h. plain b (name-byte b h).0) f.contract
    (both_true (between 1 8 (length f.contract)) _ f.contract_form).1 in
    let g = all_imply is_letter above_comma (λ b h. let range = letter_range b h in plain b (omega arith)) f.grain
    (both_true (eqb (length f.grain) 2) _ f.grain_form).1 in
    let t = number_plain 99_999 f.tonnes f.tonnes_form in
    let p = number_plain 999_999 f.price f.price_form in
    let m = all_imply is_currency (all above_comma) currency_plain f.more f.more-form in
    fields-all above_comma refl line (rw f.parts (both_pass c (both_pass g (both_pass t (both_pass p m)))))

-- so none is zero
plain_text : (b : ℕ) → above_comma b ≡ true → is_text b ≡ true
unfolding above_comma is_text comma
plain_text b h = ap not (ne_eqb b 0 (λ z. omega (arith, leb-true 44 b h)))

pub line_text : (line : List ℕ) → has_form line ≡ true → all is_text line ≡ true
line_text line e = all_imply above_comma is_text plain_text line (line_plain line e)

pub currency_text : (c : List ℕ) → is_currency c ≡ true → all is_text c ≡ true
currency_text c e = all_imply above_comma is_text plain_text c (currency_plain c e)

-- there is a first field
abbrev pub first_field : List ℕ → List ℕ
first_field l = get_or (fields l) 0 []

pub put_first : (b : ℕ) (fs : List (List ℕ)) → get_or (on_first b fs) 0 [] ≡ b ∷ get_or fs 0 []
unfolding on_first
put_first b [] = refl
put_first b (f ∷ fs) = refl

put_some : (b : ℕ) (fs : List (List ℕ)) → on_first b fs ≡ get_or (on_first b fs) 0 [] ∷ drop 1 (on_first b fs)
unfolding on_first
put_some b [] = refl
put_some b (f ∷ fs) = refl

pub some_field : (l : List ℕ) → fields l ≡ first_field l ∷ drop 1 (fields l)
unfolding fields
some_field [] = refl
some_field (b ∷ l) =
    test_cases
    (λ t. (let fs = elim t as (λ _. List (List ℕ)) [ true ↦ [] ∷ fields l | false ↦ on_first b (fields l) ] in fs ≡ get_or fs 0 [] ∷ drop 1 fs))
    (eqb b comma) (λ _. refl) (λ _. put_some b (fields l))

-- The fields behind the first one, from the byte behind its comma on.
pub put_rest : (b : ℕ) (fs : List (List ℕ)) → drop 1 (on_first b fs) ≡ drop 1 fs
unfolding on_first
put_rest b [] = refl
put_rest b (f ∷ fs) = refl

next_more : (l : List ℕ) (f : List ℕ) (fs : List (List ℕ)) → drop 1 (fields l) ≡ f ∷ fs
    → (fields (drop (suc (length (first_field l))) l) ≡ f ∷ fs) × (suc (length (first_field l)) ≤ length l)
unfolding fields
next_more [] f fs e = absurd (omega (arith, ap length e))
next_more (b ∷ l) f fs e =
    test_cases
    (λ t.
    (let gs = elim t as (λ _. List (List ℕ)) [ true ↦ [] ∷ fields l | false ↦ on_first b (fields l) ] in
    drop 1 gs ≡ f ∷ fs → (fields (drop (suc (length (get_or gs 0 []))) (b ∷ l)) ≡ f ∷ fs) × (suc (length (get_or gs 0 [])) ≤ suc (length l))))
    (eqb b comma) (λ _ h. (h, omega arith))
    (λ _ h.
    let rest = next_more l f fs (sym (put_rest b (fields l)) ∙ h) in
    let first = put_first b (fields l) in
    (ap (λ g. fields (drop (suc (length g)) (b ∷ l))) first ∙ rest.0, omega (arith, ap length first, rest.1)))
    e

pub next-fields : (line : List ℕ) (at : ℕ) (f g : List ℕ) (fs : List (List ℕ)) → fields (drop at line) ≡ f ∷ g ∷ fs
    → (fields (drop (at + length f + 1) line) ≡ g ∷ fs) × (at + length f + 1 ≤ length line)
next-fields line at f g fs e =
    let first : first_field (drop at line) ≡ f = ap (λ gs. get_or gs 0 []) e in
    let more = next_more (drop at line) g fs (ap (drop 1) e) in
    let place : at + suc (length (first_field (drop at line))) ≡ at + length f + 1 = omega (arith, ap length first) in (
      ap (λ n. fields (drop n line)) (sym place) ∙ ap fields (sym (drop-drop (suc (length (first_field (drop at line)))) at line)) ∙ more.0,
      omega (arith, more.1, length-drop at line),
    )

-- The fields from a place on, found by a run of bytes that pass a test; no comma passes it.
module _ (p : ℕ → Bool) (c : p comma ≡ false) where
  not_comma : (x : ℕ) → p x ≡ true → eqb x comma ≡ false
  not_comma x e = ne_eqb x comma (λ is. false≢true (sym c ∙ (ap p (sym is) ∙ e)))

  -- bytes that all pass, with nothing behind them, with a comma, with another byte
  pub run-whole : (xs : List ℕ) → all p xs ≡ true → fields xs ≡ xs ∷ []
  unfolding fields on_first all
  run-whole [] a = refl
  run-whole (x ∷ xs) a =
      let parts = both_true (p x) (all p xs) a in
      rw (fields, not_comma x parts.0, run-whole xs parts.1)

  pub run-comma : (xs ys : List ℕ) → all p xs ≡ true → fields (xs ++ (comma ∷ ys)) ≡ xs ∷ fields ys
  unfolding fields on_first all
  run-comma [] ys a = rw (fields, eq-eqb comma comma refl)
  run-comma (x ∷ xs) ys a =
      let parts = both_true (p x) (all p xs) a in
      rw (fields, not_comma x parts.0, run-comma xs ys parts.1)

  pub run-other : (xs : List ℕ) (b : ℕ) (ys : List ℕ) → all p xs ≡ true → p b ≡ false → eqb b comma ≡ false
      → all p (first_field (xs ++ (b ∷ ys))) ≡ false
  unfolding fields all
  run-other [] b ys a fails other = rw (fields, other, put_first b (fields ys), all, fails)
  run-other (x ∷ xs) b ys a fails other =
      let parts = both_true (p x) (all p xs) a in
      rw (fields, not_comma x parts.0, put_first x (fields (xs ++ (b ∷ ys))), all, parts.0) (run-other xs b ys parts.1 fails other)

-- tests on fields of which the first doesn't pass; and where no field is left, or one too many
pub first_fails : (t : List ℕ → Bool) (ts : List (List ℕ → Bool)) (l : List ℕ) → t (first_field l) ≡ false → each (t ∷ ts) (fields l) ≡ false
unfolding each
first_fails t ts l e = rw (some_field l, e)

-- a field without a comma behind it is all that is left
pub field_alone : (l : List ℕ) → drop 1 (fields l) ≡ [] → first_field l ≡ l
unfolding fields on_first
field_alone [] e = refl
field_alone (b ∷ l) e =
    test_cases
    (λ t.
    (let gs = elim t as (λ _. List (List ℕ)) [ true ↦ [] ∷ fields l | false ↦ on_first b (fields l) ] in
    drop 1 gs ≡ [] → get_or gs 0 [] ≡ b ∷ l))
    (eqb b comma) (λ _ h. absurd (omega (arith, ap length (sym (some_field l) ∙ h))))
    (λ _ h. put_first b (fields l) ∙ ap (λ f. b ∷ f) (field_alone l (sym (put_rest b (fields l)) ∙ h)))
    e

-- a line begins with its contract
pub contract_front : (line : List ℕ) → take (length (contract_of line)) line ≡ contract_of line
unfolding contract_of fields
contract_front [] = refl
contract_front (b ∷ line) =
    test_cases
    (λ t. (let f = get_or (elim t as (λ _. List (List ℕ)) [ true ↦ [] ∷ fields line | false ↦ on_first b (fields line) ]) 0 [] in
    take (length f) (b ∷ line) ≡ f))
    (eqb b comma) (λ _. refl)
    (λ _. ap (λ f. take (length f) (b ∷ line)) (put_first b (fields line)) ∙ ap (λ l. b ∷ l) (contract_front line)
    ∙ sym (put_first b (fields line)))

-- a contract has 1 to 8 bytes, letters or digits
pub record Contract (line : List ℕ) : Type 0 where
  pub some : 1 ≤ length (contract_of line)
  pub short : length (contract_of line) ≤ 8
  pub names : all is_name_byte (contract_of line) ≡ true

pub contract_form : (line : List ℕ) → has_form line ≡ true → Contract line
unfolding is_contract
contract_form line e =
    let f = formed line e in
    let size = contract_size f in
    let is = contract_is f in
    record {
      some = omega (arith, ap length is);
      short = omega (arith, ap length is);
      names = ap (all is_name_byte) is ∙ (both_true (between 1 8 (length f.contract)) _ f.contract_form).1;
    }

-- A line and a record exclude each other: they have four fields and five.
pub not_both : (line : List ℕ) → is_line line ≡ true → is_record line ≡ false
unfolding is_line is_record
not_both line e =
    test_cases (λ t. is_record line ≡ t → t ≡ false) (is_record line)
    (λ is _. absurd (omega (arith, each-count _ (fields line) e, each-count _ (fields line) is))) (λ _ _. refl) refl

on_first-append : (b : ℕ) (fs gs : List (List ℕ)) → ¬ (fs ≡ []) → on_first b (fs ++ gs) ≡ on_first b fs ++ gs
unfolding on_first
on_first-append b [] gs n = absurd (n refl)
on_first-append b (f ∷ fs) gs n = refl

fields_some : (l : List ℕ) → ¬ (fields l ≡ [])
fields_some l e = omega (arith, ap length (sym (some_field l) ∙ e))

-- A line with a currency behind it has its fields and that one more.
module _ (c : List ℕ) (is : is_currency c ≡ true) where
  each-behind : (ts : List (List ℕ → Bool)) (fs : List (List ℕ)) → each ts fs ≡ true → each (ts ++ (is_currency ∷ [])) (fs ++ (c ∷ [])) ≡ true
  unfolding each
  each-behind [] [] e = both_pass is refl
  each-behind [] (f ∷ fs) e = absurd (false≢true e)
  each-behind (t ∷ ts) [] e = absurd (false≢true e)
  each-behind (t ∷ ts) (f ∷ fs) e =
      let parts = both_true (t f) (each ts fs) e in
      both_pass parts.0 (each-behind ts fs parts.1)

  pub written-fields : (line : List ℕ) → fields (with_currency c line) ≡ fields line ++ (c ∷ [])
  unfolding with_currency fields comma is_letter between
  written-fields [] = ap (λ fs. [] ∷ fs) (run-whole is_letter refl c (currency_letters c is))
  written-fields (b ∷ line) =
      test_cases
      (λ t. elim t as (λ _. List (List ℕ)) [ true ↦ [] ∷ fields (line ++ (44 ∷ c)) | false ↦ on_first b (fields (line ++ (44 ∷ c))) ]
      ≡ elim t as (λ _. List (List ℕ)) [ true ↦ [] ∷ fields line | false ↦ on_first b (fields line) ] ++ (c ∷ []))
      (eqb b 44)
      (λ _. ap (λ (fs : List (List ℕ)). [] ∷ fs) (written-fields line))
      (λ _. ap (on_first b) (written-fields line) ∙ on_first-append b (fields line) (c ∷ []) (fields_some line))

  pub written_contract : (line : List ℕ) → contract_of (with_currency c line) ≡ contract_of line
  unfolding contract_of
  written_contract line =
      let first : List (List ℕ) → List ℕ = λ fs. get_or fs 0 [] in
      ap first (written-fields line ∙ ap (λ fs. fs ++ (c ∷ [])) (some_field line)) ∙ sym (ap first (some_field line))

  pub written_record : (line : List ℕ) → is_line line ≡ true → is_record (with_currency c line) ≡ true
  unfolding is_line is_record
  written_record line e =
      ap (each (is_contract ∷ is_grain ∷ is_tonnes ∷ is_price ∷ is_currency ∷ [])) (written-fields line)
      ∙ each-behind (is_contract ∷ is_grain ∷ is_tonnes ∷ is_price ∷ []) (fields line) e

-- A register record: five fields, each with its form.
pub record RecordFormed (line : List ℕ) : Type 0 where
  pub contract : List ℕ
  pub grain : List ℕ
  pub tonnes : List ℕ
  pub price : List ℕ
  pub currency : List ℕ
  pub parts : fields line ≡ contract ∷ grain ∷ tonnes ∷ price ∷ currency ∷ []
  pub grain_form : is_grain grain ≡ true
  pub tonnes_form : is_tonnes tonnes ≡ true
  pub price_form : is_price price ≡ true
  pub currency_form : is_currency currency ≡ true

only : (fs : List (List ℕ)) → length fs ≡ 1 → fs ≡ get_or fs 0 [] ∷ []
only [] e = absurd (omega (arith, e))
only (f ∷ []) e = refl
only (f ∷ g ∷ fs) e = absurd (omega (arith, e))

pub recorded : (line : List ℕ) → is_record line ≡ true → RecordFormed line
unfolding is_record all
recorded line e =
    let f = formed line (record_form line e) in
    let five = each-count (is_contract ∷ is_grain ∷ is_tonnes ∷ is_price ∷ is_currency ∷ []) (fields line) e in
    let last : f.more ≡ get_or f.more 0 [] ∷ [] = only f.more (omega (arith, five, ap length f.parts)) in
    record {
      contract = f.contract;
      grain = f.grain;
      tonnes = f.tonnes;
      price = f.price;
      currency = get_or f.more 0 [];
      parts = f.parts ∙ ap (λ (fs : List (List ℕ)). f.contract ∷ f.grain ∷ f.tonnes ∷ f.price ∷ fs) last;
      grain_form = f.grain_form;
      tonnes_form = f.tonnes_form;
      price_form = f.price_form;
      currency_form = (both_true (is_currency (get_or f.more 0 [])) true (sym (ap (all is_currency) last) ∙ f.more-form)).0;
    }

pub currency_is : {line : List ℕ} (r : RecordFormed line) → currency_of line ≡ r.currency
unfolding currency_of
currency_is r = ap (λ fs. get_or fs 4 []) r.parts
