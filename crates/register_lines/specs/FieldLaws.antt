-- Fields found by runs of bytes: each field's form by its run, the fields one after the other, and how many there are.
-- Assumes nothing.
use Rattle.std.specs.Prelude.{Bool, ◌&&◌, ◌||◌, ◌≡◌, take, drop}
use Rattle.std.proofs.Math.Bool.{true, false, cond, not, and_comm, and-false, and-true}
use Rattle.std.proofs.lemmas.Bool.{false≢true}
use mathlib.Core.List.{List, [], ◌∷◌, ◌++◌, append-nil}
use Rattle.std.proofs.Math.Path.{refl, ap, ap₂}
use Rattle.std.proofs.Common.{sym, subst, ◌∙◌, length-take-le, take-append-drop}
use Prim.Native.Nat.{ℕ, zero, suc, ◌+◌}
use native.Mathlib.Omega.{arith}
use Rattle.std.proofs.Math.Dec.{eqb}
use Rattle.std.proofs.Math.ListN.{length, get_or}
use borrow.Author.Tests.{eqb-true}
use Rattle.std.proofs.lemmas.List.Sums.{prefix_len-le-length, prefix_len_stops}
use Rattle.base.specs.Choice.{both_pass, both_true, cond_cases, same_truth, test_cases}
use Rattle.base.specs.Lists.{all, begins, is_nil}
use Rattle.base.specs.Text.{bytes}
use Rattle.cards.specs.Bytes.{between, comma, is_digit, is_letter, is_name_byte}
use Rattle.register.specs.Line.{fields, is_contract, is_grain, is_decimal, is_tonnes, is_price, each, is_line, is_currency, is_record, has_form, contract_of}
use Rattle.register.specs.LineLaws.{
  currency_letters,
  each_none,
  field_alone,
  not_both,
  run-whole,
  run-comma,
  run-other,
  first_fails,
  some_field,
  first_field,
  lead,
  number_bytes,
  tonnes_digits,
  price_digits,
}
use Rattle.register_lines.specs.Fields.{RunOfBytes, fields_behind, field_count_of, field_count, fields_counted, fields_ended, is_count, ContractFound}
use Rattle.register_lines.specs.Fields.{behind_comma, behind_field, behind_grain, behind_number, behind_run, number_run}
use Rattle.register_lines.specs.declared.Fields.{Fields}
use Rattle.register_lines.specs.declared.Fields.TheVariants.{Four, Five}
use Rattle.std.specs.Prelude.{Option, Some, None}
use Rattle.std.specs.Borrow.{Bor}
use Rattle.std.specs.Option.{MatchOption, option_and_then, option_map}
use lib.Pointwise.{pointwise}
use Rattle.std.specs.Bool.{then_some}
use Rattle.std.specs.List.{prefix_len}
use Rattle.std.specs.Char.{is_ascii_digit, is_ascii_uppercase}

one_more : (n : ℕ) → 1 + n ≡ suc n
one_more n = omega arith

-- whether bytes begin with one that passes
unfoldable starts : (p : ℕ → Bool) (rest : List ℕ) → Bool
starts p [] = false
starts p (b ∷ bs) = p b

-- the run of bytes that a list begins with
module _ (p : ℕ → Bool) where
  front_pass : (l : List ℕ) → all p (take (prefix_len p l) l) ≡ true
  unfolding all
  front_pass [] = refl
  front_pass (b ∷ bs) =
      cond_cases (λ n. all p (take n (b ∷ bs)) ≡ true) (p b)
      (λ e. rw one_more (both_pass e (front_pass bs))) (λ _. refl)

  run_front : (l : List ℕ) → RunOfBytes p l (prefix_len p l)
  run_front l =
      record {
        inside = prefix_len-le-length p l;
        pass = front_pass l;
        stop = λ more. prefix_len_stops p l 0 more;
      }

  -- nothing that passes stands behind it
  run_stops : (l : List ℕ) (n : ℕ) → RunOfBytes p l n → starts p (drop n l) ≡ false
  unfolding starts all
  run_stops [] zero r = refl
  run_stops [] (suc n) r = refl
  run_stops (b ∷ bs) zero r = r.stop (omega arith)
  run_stops (b ∷ bs) (suc n) r =
      run_stops bs n (record {
        inside = omega (arith, r.inside);
        pass = (both_true (p b) (all p (take n bs)) r.pass).1;
        stop = λ more. r.stop (omega (arith, more));
      })

-- the runs that the code counts
pub names_run : (line : List ℕ) → RunOfBytes is_name_byte line (prefix_len (λ b. is_ascii_uppercase b || is_ascii_digit b) line)
unfolding is_name_byte is_letter is_digit between
names_run line = run_front (λ b. is_ascii_uppercase b || is_ascii_digit b) line

pub letters_counted : (l : List ℕ) → prefix_len is_ascii_uppercase l ≡ prefix_len is_letter l
unfolding is_letter between
letters_counted l = refl

pub digits_counted : (l : List ℕ) → prefix_len is_ascii_digit l ≡ prefix_len is_digit l
unfolding is_digit between
digits_counted l = refl

-- whether a number has a leading zero, its first byte tells
number_led : (k : ℕ) (run : List ℕ) → (not (begins (bytes "0") run) && between 1 k (length run)) ≡ number_run k run
unfolding between
number_led k [] = and-false (not (begins (bytes "0") []))
number_led k (b ∷ bs) = rw (lead b bs) (and_comm (not (eqb b 48)) (between 1 k (length (b ∷ bs))))

-- what stands behind a comma, as the library strips it
pub comma_stripped : (l : List ℕ) (r : Option (Bor (List ℕ)))
    → MatchOption r (pointwise eqb (take 1 l) (44 ∷ []) ≡ false)
    (λ x. (pointwise eqb (take 1 l) (44 ∷ []) ≡ true) × (x.now ≡ drop 1 l) × (length x.now + 1 ≡ length l))
    → option_map (λ x. x.now) r ≡ behind_comma l
unfolding behind_comma comma
comma_stripped [] None h = refl
comma_stripped [] (Some x) h = absurd (false≢true h.0)
comma_stripped (b ∷ bs) None h = rw (sym (and-true (eqb b 44)) ∙ h) refl
comma_stripped (b ∷ bs) (Some x) h = rw (sym (and-true (eqb b 44)) ∙ h.0) (ap (λ l. Some l) h.1)

-- a field behind a comma, by what the code counts, tests and hands on
module _ (p : ℕ → Bool) (passes : List ℕ → Bool) (rest : List ℕ) where
  pub field_missing : None ≡ behind_comma rest → None ≡ behind_field p passes rest
  unfolding behind_field
  field_missing e = ap (option_and_then (behind_run p passes)) e

  pub field_there : (field : List ℕ) → Some field ≡ behind_comma rest → (n : ℕ) → n ≡ prefix_len p field → (t : Bool) → t ≡ passes (take n field)
      → (behind : Bor (List ℕ)) → behind.now ≡ drop n field → option_map (λ x. x.now) (then_some t behind) ≡ behind_field p passes rest
  unfolding behind_field
  field_there field e n is t passed behind at =
      chosen t ∙ ap₂ {C = Option (List ℕ)} (λ u l. cond u (Some l) None) passed at
      ∙ ap (λ k. cond (passes (take k field)) (Some (drop k field)) None) is
      ∙ ap (option_and_then (behind_run p passes)) e
    where
      chosen : (u : Bool) → option_map (λ x. x.now) (then_some u behind) ≡ cond u (Some behind.now) None
      chosen true = refl
      chosen false = refl

-- the form of a field whose bytes are of its class
contract_run : (run : List ℕ) → all is_name_byte run ≡ true → is_contract run ≡ between 1 8 (length run)
unfolding is_contract
contract_run run a = rw (a, and-true)

grain_run : (run : List ℕ) → all is_letter run ≡ true → is_grain run ≡ eqb (length run) 2
unfolding is_grain
grain_run run a = rw (a, and-true)

number_run_lem : (k : ℕ) (run : List ℕ) → all is_digit run ≡ true → (is_decimal run && between 1 k (length run)) ≡ number_run k run
unfolding is_decimal
number_run_lem k run a = rw a (number_led k run)

tonnes_run : (run : List ℕ) → all is_digit run ≡ true → is_tonnes run ≡ number_run 5 run
tonnes_run run a = tonnes_digits run ∙ number_run_lem 5 run a

price_run : (run : List ℕ) → all is_digit run ≡ true → is_price run ≡ number_run 6 run
price_run run a = price_digits run ∙ number_run_lem 6 run a

-- what holds whichever way a test comes out
either : {A : Type 0} (test : Bool) → (test ≡ true → A) → (test ≡ false → A) → A
either {A} = test_cases (λ _. A)

-- A run, and what stands behind it: nothing, a comma, or another byte that doesn't pass.
module _ (p : ℕ → Bool) (c : p comma ≡ false) (run : List ℕ) (a : all p run ≡ true) where
  -- the run is the last field
  ends : fields (run ++ []) ≡ run ∷ []
  ends = ap fields (append-nil run) ∙ run-whole p c run a

  -- the run is a field, and a comma stands behind it
  goes_on : (b : ℕ) (bs : List ℕ) → eqb b comma ≡ true → fields (run ++ (b ∷ bs)) ≡ run ∷ fields bs
  goes_on b bs e = ap (λ x. fields (run ++ (x ∷ bs))) (eqb-true b comma e) ∙ run-comma p c run bs a

  module _ (t : List ℕ → Bool) (of : (f : List ℕ) → t f ≡ true → all p f ≡ true) where
    -- with another byte behind the run, the tests fail at the first field
    breaks : (ts : List (List ℕ → Bool)) (b : ℕ) (bs : List ℕ) → p b ≡ false → eqb b comma ≡ false → each (t ∷ ts) (fields (run ++ (b ∷ bs))) ≡ false
    breaks ts b bs s e =
        let f = first_field (run ++ (b ∷ bs)) in
        first_fails t ts (run ++ (b ∷ bs))
        (test_cases (λ v. v ≡ false) (t f) (λ is. absurd (false≢true (sym (run-other p c run b bs a s e) ∙ of f is))) (λ _. refl))

    -- a field with others to come: the run passes its test, and a comma and the others stand behind it
    field_then : (u : List ℕ → Bool) (us : List (List ℕ → Bool)) (rest : List ℕ) → starts p rest ≡ false
        → each (t ∷ u ∷ us) (fields (run ++ rest)) ≡ (t run && fields_behind (u ∷ us) rest)
    unfolding each fields_behind starts
    field_then u us [] s = rw ends
    field_then u us (b ∷ bs) s =
        either (eqb b comma)
        (λ e. rw (goes_on b bs e, e))
        (λ e. rw (breaks (u ∷ us) b bs s e, e) (sym (and-false (t run))))

    -- the last field: the run passes its test, and nothing stands behind it
    field_last : (rest : List ℕ) → starts p rest ≡ false → each (t ∷ []) (fields (run ++ rest)) ≡ (t run && is_nil rest)
    unfolding each starts is_nil
    field_last [] s = rw ends
    field_last (b ∷ bs) s =
        either (eqb b comma)
        (λ e. rw (goes_on b bs e, some_field bs))
        (λ e. rw (breaks [] b bs s e) (sym (and-false (t run))))

-- no comma is of a class
comma-name : is_name_byte comma ≡ false
unfolding is_name_byte is_letter is_digit between comma
comma-name = refl

comma_letter : is_letter comma ≡ false
unfolding is_letter between comma
comma_letter = refl

comma_digit : is_digit comma ≡ false
unfolding is_digit between comma
comma_digit = refl

-- a field that has its form has only bytes of its class
contract_bytes : (f : List ℕ) → is_contract f ≡ true → all is_name_byte f ≡ true
unfolding is_contract
contract_bytes f e = (both_true (between 1 8 (length f)) (all is_name_byte f) e).1

grain_bytes : (f : List ℕ) → is_grain f ≡ true → all is_letter f ≡ true
unfolding is_grain
grain_bytes f e = (both_true (eqb (length f) 2) (all is_letter f) e).1

tonnes_bytes : (f : List ℕ) → is_tonnes f ≡ true → all is_digit f ≡ true
unfolding is_tonnes
tonnes_bytes = number_bytes 99_999

price_bytes : (f : List ℕ) → is_price f ≡ true → all is_digit f ≡ true
unfolding is_price
price_bytes = number_bytes 999_999

-- a test that four fields and five begin with
count_then : (t four five : Bool) → field_count_of (t && four) (t && five) ≡ cond t (field_count_of four five) None
count_then true four five = refl
count_then false four five = refl

-- A field behind a comma, as the code finds it: what follows it tells how many fields there are, and nothing does where it isn't found.
module _ (p : ℕ → Bool) (c : p comma ≡ false) (passes t : List ℕ → Bool) (of : (f : List ℕ) → t f ≡ true → all p f ≡ true)
    (same : (run : List ℕ) → all p run ≡ true → t run ≡ passes run) where
  -- a test of four fields and one of five, each by this field and what follows
  found : (fours fives : List (List ℕ → Bool)) (four five : List ℕ → Bool)
      → ((run rest : List ℕ) → all p run ≡ true → starts p rest ≡ false → each (t ∷ fours) (fields (run ++ rest)) ≡ (t run && four rest))
      → ((run rest : List ℕ) → all p run ≡ true → starts p rest ≡ false → each (t ∷ fives) (fields (run ++ rest)) ≡ (t run && five rest))
      → (rest : List ℕ) → field_count_of (fields_behind (t ∷ fours) rest) (fields_behind (t ∷ fives) rest)
      ≡ option_and_then (λ r. field_count_of (four r) (five r)) (behind_field p passes rest)
  unfolding fields_behind behind_field behind_comma
  found fours fives four five f g [] = refl
  found fours fives four five f g (b ∷ bs) =
      either (eqb b comma)
      (λ e.
      let n = prefix_len p bs in
      let run = take n bs in
      let rest = drop n bs in
      let a = front_pass p bs in
      let s = run_stops p bs n (run_front p bs) in
      let whole : bs ≡ run ++ rest = sym (take-append-drop n bs) in
      rw e
      (ap₂ field_count_of (ap (λ l. each (t ∷ fours) (fields l)) whole ∙ f run rest a s) (ap (λ l. each (t ∷ fives) (fields l)) whole ∙ g run rest a s)
      ∙ count_then (t run) (four rest) (five rest)
      ∙ ap (λ k. cond k (field_count_of (four rest) (five rest)) None) (same run a)
      ∙ chosen (passes run) rest (λ r. field_count_of (four r) (five r))))
      (λ e. rw e refl)
    where
      chosen : (k : Bool) (rest : List ℕ) (count : List ℕ → Option Fields) → cond k (count rest) None ≡ option_and_then count (cond k (Some rest) None)
      chosen true rest count = refl
      chosen false rest count = refl

module _ (rest : List ℕ) where
  grain_then : fields_counted (is_grain ∷ is_tonnes ∷ is_price ∷ []) rest ≡ option_and_then (fields_counted (is_tonnes ∷ is_price ∷ [])) (behind_grain rest)
  unfolding fields_counted
  grain_then =
      let four = is_price ∷ [] in
      let five = is_price ∷ is_currency ∷ [] in
      found is_letter comma_letter (λ run. eqb (length run) 2) is_grain grain_bytes grain_run (is_tonnes ∷ four) (is_tonnes ∷ five)
      (fields_behind (is_tonnes ∷ four)) (fields_behind (is_tonnes ∷ five))
      (λ run l a. field_then is_letter comma_letter run a is_grain grain_bytes is_tonnes four l)
      (λ run l a. field_then is_letter comma_letter run a is_grain grain_bytes is_tonnes five l) rest

  tonnes_then : fields_counted (is_tonnes ∷ is_price ∷ []) rest ≡ option_and_then (fields_counted (is_price ∷ [])) (behind_number 5 rest)
  unfolding fields_counted
  tonnes_then =
      found is_digit comma_digit (number_run 5) is_tonnes tonnes_bytes tonnes_run (is_price ∷ []) (is_price ∷ is_currency ∷ [])
      (fields_behind (is_price ∷ [])) (fields_behind (is_price ∷ is_currency ∷ []))
      (λ run l a. field_then is_digit comma_digit run a is_tonnes tonnes_bytes is_price [] l)
      (λ run l a. field_then is_digit comma_digit run a is_tonnes tonnes_bytes is_price (is_currency ∷ []) l) rest

  price_then : fields_counted (is_price ∷ []) rest ≡ option_and_then fields_ended (behind_number 6 rest)
  unfolding fields_counted fields_ended
  price_then =
      found is_digit comma_digit (number_run 6) is_price price_bytes price_run [] (is_currency ∷ []) is_nil (fields_behind (is_currency ∷ []))
      (λ run l a. field_last is_digit comma_digit run a is_price price_bytes l)
      (λ run l a. field_then is_digit comma_digit run a is_price price_bytes is_currency [] l) rest

  pub grain_found : (r : Option (List ℕ)) → r ≡ behind_grain rest
      → fields_counted (is_grain ∷ is_tonnes ∷ is_price ∷ []) rest ≡ option_and_then (fields_counted (is_tonnes ∷ is_price ∷ [])) r
  grain_found r e = grain_then ∙ ap (option_and_then (fields_counted (is_tonnes ∷ is_price ∷ []))) (sym e)

  pub tonnes_found : (r : Option (List ℕ)) → r ≡ behind_number 5 rest
      → fields_counted (is_tonnes ∷ is_price ∷ []) rest ≡ option_and_then (fields_counted (is_price ∷ [])) r
  tonnes_found r e = tonnes_then ∙ ap (option_and_then (fields_counted (is_price ∷ []))) (sym e)

  pub price_found : (r : Option (List ℕ)) → r ≡ behind_number 6 rest → fields_counted (is_price ∷ []) rest ≡ option_and_then fields_ended r
  price_found r e = price_then ∙ ap (option_and_then fields_ended) (sym e)

-- the currency ends the line: it is all that stands behind its comma
currency_alone : (l : List ℕ) → each (is_currency ∷ []) (fields l) ≡ is_currency l
unfolding each
currency_alone l =
    same_truth (each (is_currency ∷ []) (fields l)) (is_currency l)
    (λ e. let parts : (is_currency (first_field l) ≡ true) × (each [] (drop 1 (fields l)) ≡ true) =
    both_true (is_currency (first_field l)) (each [] (drop 1 (fields l))) (sym (ap (each (is_currency ∷ [])) (some_field l)) ∙ e) in
    ap is_currency (sym (field_alone l (each_none (drop 1 (fields l)) parts.1))) ∙ parts.0)
    (λ e. rw (run-whole is_letter comma_letter l (currency_letters l e)) (both_pass e refl))

-- what ends a line behind its price: nothing, or a comma and a currency
pub ended_here : (rest : List ℕ) → eqb (length rest) 0 ≡ true → Some Four ≡ fields_ended rest
unfolding fields_ended is_nil
ended_here [] e = refl
ended_here (b ∷ bs) e = absurd (omega (arith, eqb-true (length (b ∷ bs)) 0 e))

module _ (rest : List ℕ) (some : eqb (length rest) 0 ≡ false) where
  ended_some : fields_ended rest ≡ option_and_then (λ field. cond (is_currency field) (Some Five) None) (behind_comma rest)
  unfolding fields_ended fields_behind behind_comma is_nil
  ended_some = by_first rest some
    where
      by_first : (l : List ℕ) → eqb (length l) 0 ≡ false
          → fields_ended l ≡ option_and_then (λ field. cond (is_currency field) (Some Five) None) (behind_comma l)
      by_first [] e = absurd (false≢true (sym e))
      by_first (b ∷ bs) e = either (eqb b comma) (λ is. rw (is, currency_alone bs) refl) (λ no. rw no refl)

  pub ended_comma : (field : List ℕ) → Some field ≡ behind_comma rest → (t : Bool) → t ≡ is_currency field → then_some t Five ≡ fields_ended rest
  ended_comma field e t is =
      chosen t ∙ ap (λ u. cond u (Some Five) None) is ∙ ap (option_and_then (λ f. cond (is_currency f) (Some Five) None)) e ∙ sym ended_some
    where
      chosen : (u : Bool) → then_some u Five ≡ cond u (Some Five) None
      chosen true = refl
      chosen false = refl

  pub ended_other : None ≡ behind_comma rest → None ≡ fields_ended rest
  ended_other e = ap (option_and_then (λ f. cond (is_currency f) (Some Five) None)) e ∙ sym ended_some

-- the line by its first run
module _ (line : List ℕ) (n : ℕ) (r : RunOfBytes is_name_byte line n) where
  abbrev run : List ℕ
  run = take n line

  run_size : length run ≡ n
  run_size = length-take-le n line r.inside

  contract_then : (us : List (List ℕ → Bool))
      → each (is_contract ∷ is_grain ∷ us) (fields line) ≡ (between 1 8 n && fields_behind (is_grain ∷ us) (drop n line))
  contract_then us =
      ap (λ l. each (is_contract ∷ is_grain ∷ us) (fields l)) (sym (take-append-drop n line))
      ∙ field_then is_name_byte comma-name run r.pass is_contract contract_bytes is_grain us (drop n line) (run_stops is_name_byte line n r)
      ∙ ap (λ t. t && fields_behind (is_grain ∷ us) (drop n line)) (contract_run run r.pass ∙ ap (between 1 8) run_size)

  line_counted : field_count line ≡ cond (between 1 8 n) (fields_counted (is_grain ∷ is_tonnes ∷ is_price ∷ []) (drop n line)) None
  unfolding field_count fields_counted is_line is_record
  line_counted =
      let four = is_tonnes ∷ is_price ∷ [] in
      let five = is_tonnes ∷ is_price ∷ is_currency ∷ [] in
      ap₂ field_count_of (contract_then four) (contract_then five)
      ∙ count_then (between 1 8 n) (fields_behind (is_grain ∷ four) (drop n line)) (fields_behind (is_grain ∷ five) (drop n line))

  -- of a line that has its form, the run is its contract
  first_size : (us : List (List ℕ → Bool)) → each (is_contract ∷ is_grain ∷ us) (fields line) ≡ true → n ≡ length (contract_of line)
  unfolding contract_of fields_behind
  first_size us e = goes (drop n line) (take-append-drop n line) (both_true (between 1 8 n) _ (sym (contract_then us) ∙ e)).1
    where
      goes : (rest : List ℕ) → run ++ rest ≡ line → fields_behind (is_grain ∷ us) rest ≡ true → n ≡ length (contract_of line)
      goes [] whole h = absurd (false≢true h)
      goes (b ∷ bs) whole h =
          let here = (both_true (eqb b comma) (each (is_grain ∷ us) (fields bs)) h).0 in
          sym run_size
          ∙ ap (λ fs. length (get_or fs 0 [])) (sym (goes_on is_name_byte comma-name run r.pass b bs here) ∙ ap fields whole)

  pub contract_size : has_form line ≡ true → n ≡ length (contract_of line)
  unfolding has_form is_line is_record
  contract_size e =
      either (is_line line) (first_size (is_tonnes ∷ is_price ∷ []))
      (λ f. first_size (is_tonnes ∷ is_price ∷ is_currency ∷ []) (sym (ap (λ t. t || is_record line) f) ∙ e))

-- the contract, as the code finds it
module _ (line : List ℕ) where
  pub contract_found : (n : ℕ) → ContractFound line (Some n) → field_count line ≡ fields_counted (is_grain ∷ is_tonnes ∷ is_price ∷ []) (drop n line)
  unfolding ContractFound
  contract_found n k = line_counted line n k.0 ∙ rw k.1 refl

  pub no_contract : ContractFound line None → field_count line ≡ None
  unfolding ContractFound
  no_contract k = line_counted line k.0 k.1 ∙ rw k.2 refl

  pub contract_told : (n : ℕ) → n ≡ prefix_len (λ b. is_ascii_uppercase b || is_ascii_digit b) line → (t : Bool) → t ≡ between 1 8 n
      → ContractFound line (then_some t n)
  unfolding ContractFound
  contract_told n is true e = (subst (RunOfBytes is_name_byte line) (sym is) (names_run line), sym e)
  contract_told n is false e = (n, subst (RunOfBytes is_name_byte line) (sym is) (names_run line), sym e)

-- the number of fields tells a line's form, and the form tells the number
module _ (line : List ℕ) where
  pub count_none : field_count line ≡ None → has_form line ≡ false
  unfolding field_count has_form
  count_none = none (is_line line) (is_record line)
    where
      none : (a b : Bool) → field_count_of a b ≡ None → (a || b) ≡ false
      none true b e = cc
      none false true e = cc
      none false false e = refl

  pub count_some : (n : Fields) → field_count line ≡ Some n → has_form line ≡ true
  unfolding field_count has_form
  count_some n = some (is_line line) (is_record line)
    where
      some : (a b : Bool) → field_count_of a b ≡ Some n → (a || b) ≡ true
      some true b e = refl
      some false true e = refl
      some false false e = cc

  -- how many fields, as tests
  pub four-fields : is_count Four (field_count line) ≡ is_line line
  unfolding field_count is_count
  four-fields = four (is_line line) (is_record line)
    where
      four : (a b : Bool) → is_count Four (field_count_of a b) ≡ a
      four true b = refl
      four false true = refl
      four false false = refl

  pub five_fields : is_count Five (field_count line) ≡ is_record line
  unfolding field_count is_count
  five_fields = five (is_line line) (is_record line) (not_both line)
    where
      five : (a b : Bool) → (a ≡ true → b ≡ false) → is_count Five (field_count_of a b) ≡ b
      five true b e = sym (e refl)
      five false true e = refl
      five false false e = refl
