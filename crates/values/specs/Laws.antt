-- The text of a number is digits, is read back as the number, has no leading zero, and is as long as asked for. Assumes nothing.
use Rattle.std.specs.Prelude.{Bool, cond, ◌&&◌, ◌≡◌, refl, leb, ltb, eqb, ℤ, pos, negsuc, neg_ℤ, nat_abs, length, take, get_or, replicate}
use Rattle.std.proofs.Math.Bool.{true, false, and-eq-true_iff}
use Rattle.std.proofs.Common.{true≢false, sym, ◌∙◌, ap, pow-suc, arith, length-append, length-take-le, ltb-true, ltb-false, leb-true, leb-false, eqb-true, le-leb, ne_eqb, lt-ltb, le-ltb}
use Rattle.std.proofs.lemmas.Bool.{false≢true}
use mathlib.Core.List.{List, [], ◌∷◌, ◌++◌}
use Prim.Native.Nat.{ℕ, zero, suc, ◌+◌, ◌*◌, ◌-◌, ◌/◌, ◌%◌, ◌^◌, ◌≤◌, ◌<◌}
use Rattle.std.proofs.Math.Dec.{leb-suc-zero}
use Rattle.std.proofs.lemmas.List.{length-replicate}
use Rattle.base.specs.Choice.{test_cases, cond_cases}
use Rattle.base.specs.Edition.{Edition}
use Rattle.base.specs.ListLaws.{all_append}
use Rattle.base.specs.Lists.{same, begins, all, is_nil}
use Rattle.base.specs.Text.{bytes}
use Rattle.values.specs.Conversion.{is_digit_or_blank, is_signed, unsigned_part, is_numeric, digit_of, decimal, signed_by}
use Rattle.values.specs.Conversion.{number_of, digits_with, digits, sign_of, filled, text_of, longest_string}
use Rattle.values.specs.Numbers.{is_negative, is_in_range, held}
use Rattle.values.specs.Result.{Result, done, stop}

-- what holds of one digit, and of one more behind the digits of the quotient by ten, holds of the digits of every number
module _ (P : ℕ → List ℕ → Type 0) (one : (n : ℕ) → n < 10 → P n ((48 + n) ∷ []))
    (more : (n : ℕ) (s : List ℕ) → 10 ≤ n → P (n / 10) s → P n (s ++ ((48 + n % 10) ∷ []))) where
  -- with any fuel from the number up
  digits_with_induction : (fuel n : ℕ) → n ≤ fuel → P n (digits_with fuel n)
  unfolding digits_with
  digits_with_induction zero n enough = one n (omega arith)
  digits_with_induction (suc k) n enough =
      let h = digits_with_induction k (n / 10) (omega arith) in
      test_cases (λ small. P n (elim small [ true ↦ (48 + n) ∷ [] | false ↦ digits_with k (n / 10) ++ ((48 + n % 10) ∷ []) ]))
      (ltb n 10) (λ e. one n (ltb-true n 10 e)) (λ e. more n (digits_with k (n / 10)) (ltb-false n 10 e) h)

  -- with the fuel that is taken
  digits_induction : (n : ℕ) → P n (digits n)
  unfolding digits
  digits_induction n = digits_with_induction n n (omega arith)

-- any fuel from the number up gives its digits
pub digits_fuel : (fuel n : ℕ) → n ≤ fuel → digits_with fuel n ≡ digits n
unfolding digits_with
digits_fuel fuel n = digits_induction (λ m s. (k : ℕ) → m ≤ k → digits_with k m ≡ s) one more n fuel
  where
    one : (m : ℕ) → m < 10 → (k : ℕ) → m ≤ k → digits_with k m ≡ (48 + m) ∷ []
    one m small zero enough = refl
    one m small (suc k) enough = rw (lt-ltb m 10 small, digits_with)

    more : (m : ℕ) (s : List ℕ) → 10 ≤ m → ((k : ℕ) → m / 10 ≤ k → digits_with k (m / 10) ≡ s) → (k : ℕ) → m ≤ k
        → digits_with k m ≡ s ++ ((48 + m % 10) ∷ [])
    more m s large h zero enough = absurd (omega arith)
    more m s large h (suc k) enough = rw (le-ltb m 10 large, h k (omega arith), digits_with)

-- V9 one digit
pub digits_small : (n : ℕ) → n < 10 → digits n ≡ (48 + n) ∷ []
unfolding digits_with
digits_small n small = sym (digits_fuel (suc n) n (omega arith)) ∙ rw (lt-ltb n 10 small, digits_with)

-- V9 "each digit after those of the quotient by ten"
pub digits_large : (n : ℕ) → 10 ≤ n → digits n ≡ digits (n / 10) ++ ((48 + n % 10) ∷ [])
unfolding digits_with
digits_large n large =
    sym (digits_fuel (suc n) n (omega arith)) ∙ rw (le-ltb n 10 large, digits_fuel n (n / 10) (omega arith), digits_with)

-- V9 "without leading zeros": only the digits of 0 begin with 0
pub digits-first : (n : ℕ) (s : List ℕ) → digits n ≡ 48 ∷ s → n ≡ 0
digits-first n s e = digits_induction (λ m t. (get_or t 0 48 ≡ 48 → m ≡ 0)) (λ m small f. omega arith) more n (ap (λ t. get_or t 0 48) e)
  where
    more : (m : ℕ) (t : List ℕ) → 10 ≤ m → (get_or t 0 48 ≡ 48 → m / 10 ≡ 0) → get_or (t ++ ((48 + m % 10) ∷ [])) 0 48 ≡ 48 → m ≡ 0
    more m [] large h f = omega (arith, h refl)
    more m (b ∷ t) large h f = omega (arith, h f)

-- a number below a power of ten has no more digits than that has zeros
pub digits-length : (k n : ℕ) → n < 10 ^ suc k → length (digits n) ≤ suc k
digits-length k n = digits_induction (λ m s. (j : ℕ) → m < 10 ^ suc j → length s ≤ suc j) (λ m small j h. omega arith) more n k
  where
    more : (m : ℕ) (s : List ℕ) → 10 ≤ m → ((j : ℕ) → m / 10 < 10 ^ suc j → length s ≤ suc j) → (j : ℕ) → m < 10 ^ suc j
        → length (s ++ ((48 + m % 10) ∷ [])) ≤ suc j
    more m s large h zero below = absurd (omega arith)
    more m s large h (suc j) below =
        let quotient : m / 10 < 10 ^ suc j = omega (arith, rw (pow-suc 10 (suc j)) at below) in
        simp length-append (omega (arith, h j quotient))

-- V9 all of them are digits
pub digits-digits : (n : ℕ) → all (λ b. leb 48 b && leb b 57) (digits n) ≡ true
unfolding all
digits-digits = digits_induction (λ n s. all is_one s ≡ true) (λ d small. one d small) more
  where
    is_one : ℕ → Bool
    is_one b = leb 48 b && leb b 57

    one : (d : ℕ) → d < 10 → all is_one ((48 + d) ∷ []) ≡ true
    one d small = rw (le-leb 48 (48 + d) (omega arith), le-leb (48 + d) 57 (omega arith))

    more : (n : ℕ) (s : List ℕ) → 10 ≤ n → all is_one s ≡ true → all is_one (s ++ ((48 + n % 10) ∷ [])) ≡ true
    more n s large h = all_append is_one s ((48 + n % 10) ∷ []) h (one (n % 10) (omega arith))

-- digits and blanks, at least one, that read as the number n
pub record ReadsAs (s : List ℕ) (n : ℕ) : Type 0 where
  pub some : is_nil s ≡ false
  pub numeric : all is_digit_or_blank s ≡ true
  pub value : decimal 0 s ≡ n

-- digits behind others are read from what those read as
decimal-append : (v : ℕ) (s t : List ℕ) → decimal v (s ++ t) ≡ decimal (decimal v s) t
unfolding decimal
decimal-append v [] t = refl
decimal-append v (b ∷ s) t = decimal-append (v * 10 + digit_of b) s t

-- with something behind it a list is not empty
append_not_nil : (s t : List ℕ) → is_nil t ≡ false → is_nil (s ++ t) ≡ false
unfolding is_nil
append_not_nil [] t h = h
append_not_nil (b ∷ s) t h = refl

-- one digit reads as its value
digit_reads : (d : ℕ) → d < 10 → ReadsAs ((48 + d) ∷ []) d
unfolding is_nil all is_digit_or_blank decimal digit_of
digit_reads d small =
    record {
      some = refl;
      numeric = rw (le-leb 48 (48 + d) (omega arith), le-leb (48 + d) 57 (omega arith));
      value = rw (ne_eqb (48 + d) 32 (λ e. omega arith)) (omega arith);
    }

-- the digits of a number read as the number
pub digits-read : (n : ℕ) → ReadsAs (digits n) n
unfolding decimal
digits-read = digits_induction (λ n s. ReadsAs s n) digit_reads more
  where
    more : (n : ℕ) (s : List ℕ) → 10 ≤ n → ReadsAs s (n / 10) → ReadsAs (s ++ ((48 + n % 10) ∷ [])) n
    more n s large h =
        let last : ReadsAs ((48 + n % 10) ∷ []) (n % 10) = digit_reads (n % 10) (omega arith) in
        record {
          some = append_not_nil s ((48 + n % 10) ∷ []) last.some;
          numeric = all_append is_digit_or_blank s ((48 + n % 10) ∷ []) h.numeric last.numeric;
          value = decimal-append 0 s ((48 + n % 10) ∷ []) ∙ rw h.value (omega arith);
        }

-- the byte that fills reads as 0
abbrev Fills : ℕ → Type 0
Fills b = (is_digit_or_blank b ≡ true) × (digit_of b ≡ 0)

-- what fills in front of digits changes nothing of what they read as
fill_reads : (k b : ℕ) (s : List ℕ) (n : ℕ) → Fills b → ReadsAs s n → ReadsAs (replicate k b ++ s) n
unfolding is_nil all decimal
fill_reads zero b s n fills h = h
fill_reads (suc k) b s n fills h =
    let rest = fill_reads k b s n fills h in
    record {
      some = refl;
      numeric = (and-eq-true_iff (is_digit_or_blank b) (all is_digit_or_blank (replicate k b ++ s))).1 (fills.0, rest.numeric);
      value = ap (λ d. decimal (0 * 10 + d) (replicate k b ++ s)) fills.1 ∙ rest.value;
    }

-- digits and blanks begin with no other byte
begins-other : (c : ℕ) (s : List ℕ) (n : ℕ) → is_digit_or_blank c ≡ false → ReadsAs s n → begins (c ∷ []) s ≡ false
unfolding begins same is_nil all
begins-other c [] n other r = absurd (true≢false r.some)
begins-other c (b ∷ s) n other r =
    let first = ((and-eq-true_iff (is_digit_or_blank b) (all is_digit_or_blank s)).0 r.numeric).0 in
    rw (ne_eqb b c (λ e. false≢true (sym other ∙ ap is_digit_or_blank (sym e) ∙ first)))

-- a number from 0 up is not negative
not_negative : (n : ℕ) → is_negative (pos n) ≡ false
unfolding is_negative
not_negative n = leb-suc-zero n

-- a number is its size with its sign
signed_size : (m : ℤ) → signed_by (is_negative m) (nat_abs m) ≡ m
unfolding signed_by is_negative
signed_size (pos n) = rw (not_negative n)
signed_size (negsuc n) = refl

-- a number in its range is held
held_in_range : (e : Edition) (m : ℤ) → nat_abs m ≤ e.limit → held e m ≡ done m 0
unfolding held is_in_range
held_in_range e m h = rw (le-leb (nat_abs m) e.limit h)

-- the sign of a number, before digits, is found
begins_minus : (m : ℤ) (s : List ℕ) (n : ℕ) → ReadsAs s n → begins (bytes "-") (sign_of m ++ s) ≡ is_negative m
unfolding begins same bytes is_digit_or_blank is_negative sign_of
begins_minus (pos k) s n r = rw (not_negative k) (begins-other 45 s n refl r)
begins_minus (negsuc k) s n r = refl

-- behind the sign of a number the digits are left
unsigned_signed : (m : ℤ) (s : List ℕ) (n : ℕ) → ReadsAs s n → unsigned_part (sign_of m ++ s) ≡ s
unfolding unsigned_part is_signed begins same bytes is_digit_or_blank is_negative sign_of
unsigned_signed (pos k) s n r = rw (not_negative k, begins-other 43 s n refl r, begins-other 45 s n refl r)
unsigned_signed (negsuc k) s n r = refl

-- the sign of a number, before what reads as its size, makes the number
pub number_of_signed : (e : Edition) (m : ℤ) (s : List ℕ) → nat_abs m ≤ e.limit → ReadsAs s (nat_abs m)
    → number_of e (sign_of m ++ s) ≡ done m 0
unfolding number_of is_numeric
number_of_signed e m s h r =
    let n = nat_abs m in
    rw (unsigned_signed m s n r, begins_minus m s n r, r.some, r.numeric, r.value, signed_size m, held_in_range e m h)

-- V9 STRING(m) is the sign and the digits
pub text_plain : (m : ℤ) → text_of (pos 0) m ≡ done (sign_of m ++ digits (nat_abs m)) 0
unfolding text_of
text_plain m = refl

-- NUMBER of STRING(m) is m
pub number_of_text : (e : Edition) (m : ℤ) → nat_abs m ≤ e.limit → number_of e (sign_of m ++ digits (nat_abs m)) ≡ done m 0
number_of_text e m h = number_of_signed e m (digits (nat_abs m)) h (digits-read (nat_abs m))

-- a zero and a blank fill
zero_or_blank : (test : Bool) → Fills (cond test 32 48)
unfolding is_digit_or_blank digit_of
zero_or_blank test = cond_cases Fills test (λ e. (refl, refl)) (λ e. (refl, refl))

-- how many bytes STRING(m) has
abbrev plain_length : ℤ → ℕ
plain_length m = length (sign_of m) + length (digits (nat_abs m))

-- the ways STRING(n,m) may go: all digits behind k bytes that fill, stopped, cut off
data Way (n m : ℤ) : Result (List ℕ) → Type 0 where
  whole : (k b : ℕ) → Fills b → (¬ (nat_abs n ≡ 0) → plain_length m + k ≡ nat_abs n)
      → Way n m (done (sign_of m ++ (replicate k b ++ digits (nat_abs m))) 0)
  stopped : Way n m (stop 20)
  cut : nat_abs n < plain_length m → Way n m (done (take (nat_abs n) (sign_of m ++ digits (nat_abs m))) 1)

-- STRING(n,m) goes one of them
text_way : (n m : ℤ) → Way n m (text_of n m)
unfolding text_of filled
text_way n m =
    let size = nat_abs n in
    let longer = plain_length m in
    let fits : longer ≤ size → ¬ (size ≡ 0) → longer + (size - longer) ≡ size = λ h _. omega arith in
    cond_cases (Way n m) (eqb size 0) (λ e. whole 0 48 (zero_or_blank false) (λ nonzero. absurd (nonzero (eqb-true size 0 e)))) (λ _.
    cond_cases (Way n m) (ltb longest_string size) (λ _. stopped) (λ _.
    cond_cases (Way n m) (leb longer size)
    (λ e. whole (size - longer) (cond (is_negative n) 32 48) (zero_or_blank (is_negative n)) (fits (leb-true longer size e)))
    (λ e. cut (leb-false longer size e))))

-- NUMBER of STRING(n,m) is m where nothing was cut off
pub number_of_filled : (e : Edition) (n m : ℤ) (s : List ℕ) → nat_abs m ≤ e.limit → text_of n m ≡ done s 0 → number_of e s ≡ done m 0
number_of_filled e n m s h = back (text_way n m)
  where
    back : {w : Result (List ℕ)} → Way n m w → w ≡ done s 0 → number_of e s ≡ done m 0
    back (whole k b fills size) q =
        let t = replicate k b ++ digits (nat_abs m) in
        cc (number_of_signed e m t h (fill_reads k b (digits (nat_abs m)) (nat_abs m) fills (digits-read (nat_abs m))))
    back stopped q = cc
    back (cut short) q = cc

-- V10 "else |n| bytes"
pub text_length : (n m : ℤ) (s : List ℕ) (k : ℕ) → text_of n m ≡ done s k → ¬ (nat_abs n ≡ 0) → length s ≡ nat_abs n
text_length n m s k q nonzero = sized (text_way n m) q
  where
    sized : {w : Result (List ℕ)} → Way n m w → w ≡ done s k → length s ≡ nat_abs n
    sized (whole j b fills size) q =
        let t = sign_of m ++ (replicate j b ++ digits (nat_abs m)) in
        let long : length t ≡ nat_abs n = simp (length-append, length-replicate) (omega (arith, size nonzero)) in
        cc
    sized stopped q = cc
    sized (cut short) q =
        let t = sign_of m ++ digits (nat_abs m) in
        let long : length (take (nat_abs n) t) ≡ nat_abs n = length-take-le (nat_abs n) t (simp length-append (omega arith)) in
        cc

-- a number and its negative are equally far from 0
pub abs_negative : (n : ℕ) → nat_abs (neg_ℤ (pos n)) ≡ n
abs_negative zero = refl
abs_negative (suc n) = refl
