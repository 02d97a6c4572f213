-- Codes are in the order of the currencies, the lowest above the last one is the next in order, and the sums of a code are those of its currency's
-- lines. Assumes nothing.
use Rattle.std.specs.Prelude.{Bool, ◌&&◌, ◌||◌, ◌⊎◌, ◌≡◌, eqb, leb, take, drop}
use Rattle.std.proofs.Math.Bool.{true, false, cond}
use Rattle.std.proofs.lemmas.Bool.{false≢true}
use mathlib.Core.List.{List, [], ◌∷◌, map}
use Rattle.std.proofs.Math.Logic.{inl, inr, ⊎_elim}
use Rattle.std.proofs.Math.Path.{refl, ap, ap₂}
use Rattle.std.proofs.Common.{sym, ◌∙◌, arith, drop_of_length-le, get_or-drop}
use Prim.Native.Nat.{ℕ, zero, suc, ◌+◌, ◌*◌, ◌/◌, ◌%◌, ◌<◌, ◌≤◌}
use Rattle.std.proofs.Math.Nat.{zero-add}
use Rattle.std.proofs.Math.Dec.{ltb}
use Rattle.std.proofs.Math.ListN.{length, get_or}
use borrow.Author.Tests.{eq-eqb, eqb-false, eqb-true, le-leb, le-ltb, leb-true, lt-ltb, ltb-false, ltb-true}
use Rattle.std.specs.Int.{to_be_bytes, w32}
use Rattle.std.specs.Prelude.{Some, None}
use Rattle.std.proofs.lemmas.List.{get_or-map, length-map}
use Rattle.register_report.specs.Codes.{CodeFound}
use Rattle.register_report.specs.Sums.{codes_in}
use Rattle.register_report.specs.declared.Worth.{Worth}
use Rattle.base.specs.Choice.{both_pass, both_true, cond_cases, either_true, same_truth, test_cases, true_behind}
use Rattle.base.specs.ListLaws.{all_among, all_drop, all_imply, all_inside, drop-next, same_true}
use Rattle.base.specs.Lists.{all, among, any, keep, same, total}
use Rattle.cards.specs.ByteLaws.{letter_range}
use Rattle.cards.specs.Bytes.{is_letter}
use Rattle.register.specs.Line.{currency_of, is_currency, is_record}
use Rattle.register.specs.LineLaws.{currency_letters, currency_size}
use Rattle.register.specs.OrderLaws.{before-other, currencies-any, currencies_order}
use Rattle.register.specs.Register.{Lines}
use Rattle.register.specs.Report.{letter_before, currencies, in_order, lines_of}
use Rattle.register.specs.ReportLaws.{currencies-form, record_currency}
use Rattle.register_report.specs.Codes.{code_from, currency_code_in, currency_code, code_count, lowest_code, no_code, sum_of, word_of}

-- Words of one length are in the order of their codes.
unfoldable is_byte : ℕ → Bool
is_byte b = ltb b 256

record Alike (u v : List ℕ) : Type 0 where
  size : length u ≡ length v
  left : all is_byte u ≡ true
  right : all is_byte v ≡ true

-- what stands in front is higher than all behind it
code_above : (p q : ℕ) (u v : List ℕ) → p < q → Alike u v → code_from p u < code_from q v
unfolding code_from all is_byte
code_above p q [] [] h a = h
code_above p q [] (b ∷ v) h a = absurd (omega (arith, a.size))
code_above p q (a ∷ u) [] h s = absurd (omega (arith, s.size))
code_above p q (a ∷ u) (b ∷ v) h s =
    let left = both_true (is_byte a) (all is_byte u) s.left in
    let right = both_true (is_byte b) (all is_byte v) s.right in
    let low = ltb-true a 256 left.0 in
    code_above (p * 256 + a) (q * 256 + b) u v (omega arith)
    (record { size = omega (arith, s.size); left = left.1; right = right.1 })

code_order : (p : ℕ) (u v : List ℕ) → Alike u v → ltb (code_from p u) (code_from p v) ≡ letter_before u v
unfolding code_from all letter_before
code_order p [] [] s = le-ltb p p (omega arith)
code_order p [] (b ∷ v) s = absurd (omega (arith, s.size))
code_order p (a ∷ u) [] s = absurd (omega (arith, s.size))
code_order p (a ∷ u) (b ∷ v) s =
    let left = both_true (is_byte a) (all is_byte u) s.left in
    let right = both_true (is_byte b) (all is_byte v) s.right in
    let rest : Alike u v = record { size = omega (arith, s.size); left = left.1; right = right.1 } in
    let back : Alike v u = record { size = sym rest.size; left = rest.right; right = rest.left } in
    test_cases (λ t. (ltb a b ≡ t) → ltb (code_from (p * 256 + a) u) (code_from (p * 256 + b) v) ≡ (t || (eqb a b && letter_before u v))) (ltb a b)
    (λ e _. lt-ltb _ _ (code_above (p * 256 + a) (p * 256 + b) u v (let h = ltb-true a b e in omega arith) rest))
    (λ e _.
    test_cases (λ t. (eqb a b ≡ t) → ltb (code_from (p * 256 + a) u) (code_from (p * 256 + b) v) ≡ (t && letter_before u v)) (eqb a b)
    (λ is _. ap (λ x. ltb (code_from (p * 256 + a) u) (code_from (p * 256 + x) v)) (sym (eqb-true a b is)) ∙ code_order (p * 256 + a) u v rest)
    (λ other _.
    let more : p * 256 + b < p * 256 + a = (let h = ltb-false a b e in let differ = eqb-false a b other in omega arith) in
    let above = code_above (p * 256 + b) (p * 256 + a) v u more back in
    le-ltb (code_from (p * 256 + a) u) (code_from (p * 256 + b) v) (omega arith))
    refl)
    refl

letters-bytes : (c : List ℕ) → is_currency c ≡ true → all is_byte c ≡ true
unfolding is_byte
letters-bytes c form = all_imply is_letter is_byte (λ b h. lt-ltb b 256 (let range = letter_range b h in omega arith)) c (currency_letters c form)

alike : (a b : List ℕ) → is_currency a ≡ true → is_currency b ≡ true → Alike a b
alike a b f g =
    record { size = currency_size a f ∙ sym (currency_size b g); left = letters-bytes a f; right = letters-bytes b g }

pub code_before : (a b : List ℕ) → is_currency a ≡ true → is_currency b ≡ true → ltb (currency_code a) (currency_code b) ≡ letter_before a b
unfolding currency_code
code_before a b f g = code_order 0 a b (alike a b f g)

pub code_same : (a b : List ℕ) → is_currency a ≡ true → is_currency b ≡ true → eqb (currency_code a) (currency_code b) ≡ same a b
code_same a b f g =
    same_truth (eqb (currency_code a) (currency_code b)) (same a b)
    (λ e.
    let is = eqb-true (currency_code a) (currency_code b) e in
    let first : letter_before a b ≡ false = sym (code_before a b f g) ∙ le-ltb (currency_code a) (currency_code b) (omega arith) in
    let last : letter_before b a ≡ false = sym (code_before b a g f) ∙ le-ltb (currency_code b) (currency_code a) (omega arith) in
    test_cases (λ t. (same a b ≡ t) → t ≡ true) (same a b) (λ _ _. refl)
    (λ _ other. absurd (false≢true (sym last ∙ before-other a b other first))) refl)
    (λ e. eq-eqb (currency_code a) (currency_code b) (ap currency_code (same_true a b e)))

-- A currency has three bytes. Its code is above 0, within three bytes, and has the currency's bytes.
pub code_range : (c : List ℕ) → is_currency c ≡ true → (0 < currency_code c) × (currency_code c < no_code)
unfolding currency_code code_from all
code_range c form = bounds c (currency_size c form) (currency_letters c form)
  where
    bounds : (c : List ℕ) → length c ≡ 3 → all is_letter c ≡ true → (0 < currency_code c) × (currency_code c < no_code)
    bounds [] e a = absurd (omega (arith, e))
    bounds (x ∷ []) e a = absurd (omega (arith, e))
    bounds (x ∷ y ∷ []) e a = absurd (omega (arith, e))
    bounds (x ∷ y ∷ z ∷ []) e a =
        let one = both_true (is_letter x) _ a in
        let two = both_true (is_letter y) _ one.1 in
        let three = both_true (is_letter z) _ two.1 in
        let first = letter_range x one.0 in
        let second = letter_range y two.0 in
        let third = letter_range z three.0 in
        (omega arith, omega arith)
    bounds (x ∷ y ∷ z ∷ w ∷ ws) e a = absurd (omega (arith, e))

pub code_word : (c : List ℕ) → is_currency c ≡ true → word_of (currency_code c) ≡ c
unfolding currency_code code_from all word_of
code_word c form = bytes_are c (currency_size c form) (currency_letters c form)
  where
    bytes_are : (c : List ℕ) → length c ≡ 3 → all is_letter c ≡ true → word_of (currency_code c) ≡ c
    bytes_are [] e a = absurd (omega (arith, e))
    bytes_are (x ∷ []) e a = absurd (omega (arith, e))
    bytes_are (x ∷ y ∷ []) e a = absurd (omega (arith, e))
    bytes_are (x ∷ y ∷ z ∷ []) e a =
        let one = both_true (is_letter x) _ a in
        let two = both_true (is_letter y) _ one.1 in
        let three = both_true (is_letter z) _ two.1 in
        let first = letter_range x one.0 in
        let second = letter_range y two.0 in
        let third = letter_range z three.0 in
        ap₂ {C = List ℕ} ◌∷◌ (omega arith) (ap₂ {C = List ℕ} ◌∷◌ (omega arith) (ap₂ {C = List ℕ} ◌∷◌ (omega arith) refl))
    bytes_are (x ∷ y ∷ z ∷ w ∷ ws) e a = absurd (omega (arith, e))

-- A number among others: it is the first, or among the rest.
module _ (x c : ℕ) (cs : List ℕ) where
  among_first : x ≡ c → among x (c ∷ cs) ≡ true
  unfolding among
  among_first is = ap (λ t. t || among x cs) (eq-eqb x c is)

  among-rest : among x cs ≡ true → among x (c ∷ cs) ≡ true
  unfolding among
  among-rest e = true_behind (eqb x c) (among x cs) e

  among_cases : among x (c ∷ cs) ≡ true → (x ≡ c) ⊎ (among x cs ≡ true)
  unfolding among
  among_cases e = ⊎_elim (λ is. inl (eqb-true x c is)) (λ rest. inr rest) (either_true (eqb x c) (among x cs) e)

-- The lowest number above the last one: none above it is lower, and it is one of them or what it was at first.
record Lowest (last next : ℕ) (codes : List ℕ) (r : ℕ) : Type 0 where
  within : r ≤ next
  each : (x : ℕ) → among x codes ≡ true → last < x → r ≤ x
  is : (r ≡ next) ⊎ ((among r codes ≡ true) × (last < r))

-- of one more in front: it is taken, or left
module _ (last next code : ℕ) (codes : List ℕ) (r : ℕ) where
  lowest_taken : last < code → code < next → Lowest last code codes r → Lowest last next (code ∷ codes) r
  lowest_taken above below rest =
      record {
        within = omega (arith, rest.within);
        each = λ x e h. ⊎_elim (λ is. omega (arith, is, rest.within)) (λ found. rest.each x found h) (among_cases x code codes e);
        is = inr (
          ⊎_elim (λ is. among_first r code codes is) (λ found. among-rest r code codes found.0) rest.is,
          ⊎_elim (λ is. omega (arith, is)) (λ found. found.1) rest.is,
        );
      }

  lowest-left : (last < code → next ≤ code) → Lowest last next codes r → Lowest last next (code ∷ codes) r
  lowest-left high rest =
      record {
        within = rest.within;
        each = λ x e h.
            ⊎_elim (λ is. let first = high (omega (arith, is)) in omega (arith, is, rest.within)) (λ found. rest.each x found h)
            (among_cases x code codes e);
        is = ⊎_elim (λ is. inl is) (λ found. inr (among-rest r code codes found.0, found.1)) rest.is;
      }

lowest-found : (last next : ℕ) (codes : List ℕ) → Lowest last next codes (lowest_code last next codes)
unfolding lowest_code among
lowest-found last next [] = record { within = omega arith; each = λ x e. absurd (false≢true e); is = inl refl }
lowest-found last next (code ∷ codes) =
    let with_it = lowest-found last code codes in
    let without = lowest-found last next codes in
    test_cases (λ t. (ltb last code && ltb code next) ≡ t → Lowest last next (code ∷ codes) (lowest_code last (cond t code next) codes))
    (ltb last code && ltb code next)
    (λ _ e. let tests = both_true (ltb last code) (ltb code next) e in
    lowest_taken last next code codes _ (ltb-true last code tests.0) (ltb-true code next tests.1) with_it)
    (λ _ e. lowest-left last next code codes _
    (λ above. ltb-false code next (ap (λ t. t && ltb code next) (sym (lt-ltb last code above)) ∙ e)) without)
    refl

-- Numbers of which each is below all behind it; those up to a place, and those behind it.
unfoldable ascend : List ℕ → Bool
ascend [] = true
ascend (x ∷ xs) = all (ltb x) xs && ascend xs

module _ (d : ℕ) where
  up_to : (xs : List ℕ) → ascend xs ≡ true → (j : ℕ) → j < length xs → all (λ x. leb x (get_or xs j d)) (take (suc j) xs) ≡ true
  unfolding ascend all
  up_to [] a j h = absurd (omega arith)
  up_to (x ∷ xs) a zero h = both_pass (le-leb x x (omega arith)) refl
  up_to (x ∷ xs) a (suc j) h =
      let parts = both_true (all (ltb x) xs) (ascend xs) a in
      let less = ltb-true x (get_or xs j d) (all_inside (ltb x) xs d parts.0 j (omega arith)) in
      both_pass (le-leb x (get_or xs j d) (omega arith)) (up_to xs parts.1 j (omega arith))

  behind : (xs : List ℕ) → ascend xs ≡ true → (j : ℕ) → j < length xs
      → (all (ltb (get_or xs j d)) (drop (suc j) xs) ≡ true) × (ascend (drop (suc j) xs) ≡ true)
  unfolding ascend all
  behind [] a j h = absurd (omega arith)
  behind (x ∷ xs) a zero h = both_true (all (ltb x) xs) (ascend xs) a
  behind (x ∷ xs) a (suc j) h = behind xs (both_true (all (ltb x) xs) (ascend xs) a).1 j (omega arith)

-- of ascending numbers, parted at the last one, the next is the first behind it
module _ (last : ℕ) (codes done rest : List ℕ) (parted : (x : ℕ) → among x codes ≡ (among x done || among x rest))
    (passed : all (λ x. leb x last) done ≡ true) (above : all (ltb last) rest ≡ true) (small : all (λ x. ltb x no_code) rest ≡ true)
    (order : ascend rest ≡ true) where
  in_rest : (x : ℕ) → among x codes ≡ true → last < x → among x rest ≡ true
  in_rest x e h =
      ⊎_elim (λ old. let low = leb-true x last (all_among (λ y. leb y last) x done passed old) in absurd (omega arith)) (λ new. new)
      (either_true (among x done) (among x rest) (sym (parted x) ∙ e))

  lowest-next : lowest_code last no_code codes ≡ get_or rest 0 no_code
  unfolding all among ascend
  lowest-next = first rest in_rest above small order parted
    where
      first : (rest : List ℕ) → ((x : ℕ) → among x codes ≡ true → last < x → among x rest ≡ true) → all (ltb last) rest ≡ true
          → all (λ x. ltb x no_code) rest ≡ true → ascend rest ≡ true → ((x : ℕ) → among x codes ≡ (among x done || among x rest))
          → lowest_code last no_code codes ≡ get_or rest 0 no_code
      first [] found above small order parted =
          let r = lowest-found last no_code codes in
          ⊎_elim (λ is. is) (λ one. absurd (false≢true (found (lowest_code last no_code codes) one.0 one.1))) r.is
      first (w ∷ ws) found above small order parted =
          let r = lowest-found last no_code codes in
          let is-above = ltb-true last w (both_true (ltb last w) _ above).0 in
          let is-small = ltb-true w no_code (both_true (ltb w no_code) _ small).0 in
          let there = r.each w (parted w ∙ true_behind (among w done) _ (among_first w w ws refl)) is-above in
          ⊎_elim (λ is. absurd (omega arith))
          (λ one.
          ⊎_elim (λ is. is)
          (λ later. let more = ltb-true w (lowest_code last no_code codes)
          (all_among (ltb w) (lowest_code last no_code codes) ws (both_true (all (ltb w) ws) (ascend ws) order).0 later) in
          absurd (omega arith))
          (among_cases (lowest_code last no_code codes) w ws (found (lowest_code last no_code codes) one.0 one.1)))
          r.is

among_parted : (x i : ℕ) (xs : List ℕ) → among x xs ≡ (among x (take i xs) || among x (drop i xs))
unfolding among
among_parted x zero xs = refl
among_parted x (suc i) [] = refl
among_parted x (suc i) (y ∷ xs) = ap (λ t. eqb x y || t) (among_parted x i xs) ∙ sym (or_right (eqb x y) (among x (take i xs)) (among x (drop i xs)))
  where
    or_right : (a b c : Bool) → ((a || b) || c) ≡ (a || (b || c))
    or_right true b c = refl
    or_right false b c = refl

-- The codes of the currencies held, in order: they ascend, are those of the lines, and lie in three bytes.
unfoldable pub codes_of : Lines → List ℕ
codes_of held = map currency_code (currencies held)

words-ascend : (ws : List (List ℕ)) → all is_currency ws ≡ true → in_order ws ≡ true → ascend (map currency_code ws) ≡ true
unfolding all in_order ascend
words-ascend [] a o = refl
words-ascend (w ∷ ws) a o =
    let forms = both_true (is_currency w) (all is_currency ws) a in
    let parts = both_true (all (letter_before w) ws) (in_order ws) o in
    both_pass (first ws forms.1 parts.0 forms.0) (words-ascend ws forms.1 parts.1)
  where
    first : (ws : List (List ℕ)) → all is_currency ws ≡ true → all (letter_before w) ws ≡ true → is_currency w ≡ true
        → all (ltb (currency_code w)) (map currency_code ws) ≡ true
    first [] a o f = refl
    first (v ∷ ws) a o f =
        let forms = both_true (is_currency v) (all is_currency ws) a in
        let parts = both_true (letter_before w v) (all (letter_before w) ws) o in
        both_pass (code_before w v f forms.0 ∙ parts.0) (first ws forms.1 parts.1 f)

words_range : (ws : List (List ℕ)) → all is_currency ws ≡ true
    → (all (ltb 0) (map currency_code ws) ≡ true) × (all (λ x. ltb x no_code) (map currency_code ws) ≡ true)
unfolding all
words_range [] a = (refl, refl)
words_range (w ∷ ws) a =
    let forms = both_true (is_currency w) (all is_currency ws) a in
    let rest = words_range ws forms.1 in
    let range = code_range w forms.0 in
    (both_pass (lt-ltb 0 (currency_code w) range.0) rest.0, both_pass (lt-ltb (currency_code w) no_code range.1) rest.1)

among-any : {A : Type 0} (x : ℕ) (f : A → ℕ) (ws : List A) → among x (map f ws) ≡ any (λ w. eqb x (f w)) ws
unfolding among any
among-any x f [] = refl
among-any x f (w ∷ ws) = ap (λ t. eqb x (f w) || t) (among-any x f ws)

among-lines : (x : ℕ) (held : Lines) → among x (map currency_code_in held) ≡ among x (codes_of held)
unfolding codes_of currency_code_in
among-lines x held =
    among-any x currency_code_in held ∙ sym (currencies-any (λ w. eqb x (currency_code w)) held) ∙ sym (among-any x currency_code (currencies held))

-- so the lowest of all lines' codes is the first currency's, and the lowest above a currency's is that of the next
module _ (held : Lines) (good : all is_record held ≡ true) where
  ascending : ascend (codes_of held) ≡ true
  unfolding codes_of
  ascending = words-ascend (currencies held) (currencies-form held good) (currencies_order held)

  ranging : (all (ltb 0) (codes_of held) ≡ true) × (all (λ x. ltb x no_code) (codes_of held) ≡ true)
  unfolding codes_of
  ranging = words_range (currencies held) (currencies-form held good)

  pub first_code : lowest_code 0 no_code (map currency_code_in held) ≡ get_or (codes_of held) 0 no_code
  unfolding all among
  first_code = lowest-next 0 (map currency_code_in held) [] (codes_of held) (λ x. among-lines x held) refl ranging.0 ranging.1 ascending

  pub next_code_lem : (j : ℕ) → j < length (codes_of held)
      → lowest_code (get_or (codes_of held) j no_code) no_code (map currency_code_in held) ≡ get_or (codes_of held) (j + 1) no_code
  next_code_lem j h =
      let cs = codes_of held in
      let later = behind no_code cs ascending j h in
      let place : suc j + 0 ≡ j + 1 = omega arith in
      lowest-next (get_or cs j no_code) (map currency_code_in held) (take (suc j) cs) (drop (suc j) cs)
      (λ x. among-lines x held ∙ among_parted x (suc j) cs) (up_to no_code cs ascending j h) later.0
      (all_drop (λ x. ltb x no_code) (suc j) cs ranging.1) later.1
      ∙ get_or-drop (suc j) cs 0 no_code
      ∙ ap (λ i. get_or cs i no_code) place

-- The sums of a code are those of its currency's lines.
module _ (c : List ℕ) (form : is_currency c ≡ true) where
  of_currency : (line : List ℕ) → is_record line ≡ true → eqb (currency_code_in line) (currency_code c) ≡ same (currency_of line) c
  unfolding currency_code_in
  of_currency line e = code_same (currency_of line) c (record_currency line e) form

  pub sum-lines : (f : List ℕ → ℕ) (held : Lines) → all is_record held ≡ true
      → sum_of (currency_code c) (map currency_code_in held) (map f held) ≡ total f (lines_of c held)
  unfolding sum_of lines_of keep total all
  sum-lines f [] good = refl
  sum-lines f (line ∷ held) good =
      let parts = both_true (is_record line) (all is_record held) good in
      let rest = sum-lines f held parts.1 in
      let kept = lines_of c held in
      ap₂ {C = ℕ} (λ t n. cond t (f line) 0 + n) (of_currency line parts.0) rest
      ∙ test_cases (λ t. cond t (f line) 0 + total f kept ≡ total f (elim t [ true ↦ line ∷ kept | false ↦ kept ])) (same (currency_of line) c)
      (λ _. refl) (λ _. zero-add (total f kept))

  pub count-lines : (held : Lines) → all is_record held ≡ true → code_count (currency_code c) (map currency_code_in held) ≡ length (lines_of c held)
  unfolding code_count lines_of keep total all
  count-lines [] good = refl
  count-lines (line ∷ held) good =
      let parts = both_true (is_record line) (all is_record held) good in
      let rest = count-lines held parts.1 in
      let kept = lines_of c held in
      ap₂ {C = ℕ} (λ t n. cond t 1 0 + n) (of_currency line parts.0) rest
      ∙ test_cases (λ t. cond t 1 0 + length kept ≡ length {A = List ℕ} (elim t [ true ↦ line ∷ kept | false ↦ kept ])) (same (currency_of line) c)
      (λ _. omega arith) (λ _. zero-add (length kept))

-- They are not large, and are made up place by place.
pub sum_small : (code most : ℕ) (codes xs : List ℕ) → all (λ x. leb x most) xs ≡ true → sum_of code codes xs ≤ most * length codes
unfolding sum_of all
sum_small code most [] xs a = omega arith
sum_small code most (c ∷ codes) [] a = omega arith
sum_small code most (c ∷ codes) (x ∷ xs) a =
    let parts = both_true (leb x most) (all (λ x. leb x most) xs) a in
    let rest = sum_small code most codes xs parts.1 in
    let small = leb-true x most parts.0 in
    cond_cases (λ n. n + sum_of code codes xs ≤ most * suc (length codes)) (eqb c code) (λ _. omega arith) (λ _. omega arith)

pub count_small : (code : ℕ) (codes : List ℕ) → code_count code codes ≤ length codes
unfolding code_count total
count_small code [] = omega arith
count_small code (c ∷ codes) =
    let rest = count_small code codes in
    cond_cases (λ n. n + code_count code codes ≤ suc (length codes)) (eqb c code) (λ _. omega arith) (λ _. omega arith)

module _ (code : ℕ) (codes : List ℕ) (k : ℕ) (h : k < length codes) (t : Bool) (e : eqb (get_or codes k 0) code ≡ t) where
  pub count_next : code_count code (drop k codes) ≡ cond t 1 0 + code_count code (drop (k + 1) codes)
  unfolding code_count total
  count_next = ap (code_count code) (drop-next codes k 0 h) ∙ ap (λ u. cond u 1 0 + code_count code (drop (k + 1) codes)) e

  pub sum-next : (xs : List ℕ) → length xs ≡ length codes
      → sum_of code (drop k codes) (drop k xs) ≡ cond t (get_or xs k 0) 0 + sum_of code (drop (k + 1) codes) (drop (k + 1) xs)
  unfolding sum_of
  sum-next xs size =
      ap₂ {C = ℕ} (sum_of code) (drop-next codes k 0 h) (drop-next xs k 0 (omega arith))
      ∙ ap (λ u. cond u (get_or xs k 0) 0 + sum_of code (drop (k + 1) codes) (drop (k + 1) xs)) e

-- The lowest number is found place by place.
module _ (last next : ℕ) (codes : List ℕ) (k : ℕ) where
  pub lowest-again : k < length codes → (t : Bool) → (ltb last (get_or codes k 0) && ltb (get_or codes k 0) next) ≡ t → (new : ℕ)
      → new ≡ cond t (get_or codes k 0) next → lowest_code last new (drop (k + 1) codes) ≡ lowest_code last next (drop k codes)
  unfolding lowest_code
  lowest-again h t e new is =
      let code = get_or codes k 0 in
      ap (λ n. lowest_code last n (drop (k + 1) codes)) is
      ∙ ap (λ u. lowest_code last (cond u code next) (drop (k + 1) codes)) (sym e)
      ∙ ap (lowest_code last next) (sym (drop-next codes k 0 h))

  pub lowest_end : length codes ≤ k → lowest_code last next (drop k codes) ≡ next
  unfolding lowest_code
  lowest_end h = ap (lowest_code last next) (drop_of_length-le codes h)

pub lowest_within : (last next : ℕ) (codes : List ℕ) → lowest_code last next codes ≤ next
lowest_within last next codes = (lowest-found last next codes).within

-- the lowest of the codes of lines
module _ (last next : ℕ) (worths : List Worth) (k : ℕ) where
  pub code_again : k < length worths → (d : Worth) → (t : Bool)
      → (ltb last (get_or worths k d).code && ltb (get_or worths k d).code next) ≡ t → (new : ℕ)
      → new ≡ cond t (get_or worths k d).code next → lowest_code last new (drop (k + 1) (codes_in worths)) ≡ lowest_code last next (drop k (codes_in worths))
  code_again h d t e new is =
      let here : get_or (codes_in worths) k 0 ≡ (get_or worths k d).code = get_or-map (λ w. w.code) worths k d 0 h in
      lowest-again last next (codes_in worths) k (omega (arith, length-map worths (λ w. w.code))) t
      (ap (λ c. ltb last c && ltb c next) here ∙ e) new (is ∙ ap (λ c. cond t c next) (sym here))

  pub code_end : length worths ≤ k → lowest_code last next (drop k (codes_in worths)) ≡ next
  code_end h = lowest_end last next (codes_in worths) k (omega (arith, length-map worths (λ w. w.code)))

-- what was found, as an option
module _ (code : ℕ) where
  pub some_found : (next : ℕ) → code ≡ next → next < no_code → CodeFound code (Some next)
  unfolding CodeFound
  some_found next e small = (sym e, small)

  pub none_found : (next : ℕ) → code ≡ next → code ≤ no_code → no_code ≤ next → CodeFound code None
  unfolding CodeFound
  none_found next e most high = omega arith

  pub found_is : (found : ℕ) → CodeFound code (Some found) → (found ≡ code) × (found < no_code)
  unfolding CodeFound
  found_is found f = f

  pub none_is : CodeFound code None → code ≡ no_code
  unfolding CodeFound
  none_is f = f

-- the three lower bytes of a code are its currency
pub word_put : (code : ℕ) → code < no_code → take 3 (drop 1 (to_be_bytes w32 code)) ≡ word_of code
unfolding word_of
word_put code h =
    let high : code / 65_536 % 256 ≡ code / 65_536 = omega arith in
    ap (λ b. b ∷ code / 256 % 256 ∷ code % 256 ∷ []) high
