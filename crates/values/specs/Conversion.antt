-- Document 01, "Values": substrings, NUMERIC, NUMBER and STRING. Assumes nothing.
use Rattle.std.specs.Prelude.{Bool, true, false, cond, not, ◌&&◌, ◌||◌, List, [], ◌∷◌, ◌++◌, ℕ, zero, suc, ◌+◌, ◌*◌, ◌-◌, ◌/◌, ◌%◌, leb, ltb, eqb, ℤ, pos, neg_ℤ, nat_abs, length, take, drop, replicate}
use Rattle.base.specs.Edition.{Edition}
use Rattle.base.specs.Limits as Limits
use Rattle.base.specs.Lists.{begins, all, is_nil}
use Rattle.base.specs.Text.{bytes}
use Rattle.values.specs.Numbers.{is_negative, held}
use Rattle.values.specs.Result.{Result, done, stop}

-- V1 "strings hold 0 to 1,024 bytes"
unfoldable pub longest_string : ℕ
longest_string = Limits.string_bytes

-- V3 "`S$n` is the first n bytes of S, all if shorter."; V4 "Negative n: a note, and null"
unfoldable pub substring : List ℕ → ℤ → Result (List ℕ)
substring s n = cond (is_negative n) (done [] 1) (done (take (nat_abs n) s) 0)

unfoldable pub is_digit_or_blank : ℕ → Bool
is_digit_or_blank b = (leb 48 b && leb b 57) || eqb b 32

unfoldable pub is_signed : List ℕ → Bool
is_signed s = begins (bytes "+") s || begins (bytes "-") s

unfoldable pub unsigned_part : List ℕ → List ℕ
unsigned_part s = cond (is_signed s) (drop 1 s) s

-- V7 "NUMERIC: an optional sign, then one or more digits or blanks; null and a negative substring are not."
unfoldable pub is_numeric : List ℕ → Bool
is_numeric s = not (is_nil (unsigned_part s)) && all is_digit_or_blank (unsigned_part s)

-- V8 "NUMBER reads blanks as zeros"
unfoldable pub digit_of : ℕ → ℕ
digit_of b = cond (eqb b 32) 0 (b - 48)

unfoldable pub decimal : ℕ → List ℕ → ℕ
decimal v [] = v
decimal v (b ∷ s) = decimal (v * 10 + digit_of b) s

unfoldable pub signed_by : Bool → ℕ → ℤ
signed_by true n = neg_ℤ (pos n)
signed_by false n = pos n

-- V8 "a string that isn't numeric gives a note and 0"
unfoldable pub number_of : Edition → List ℕ → Result ℤ
number_of e s =
    cond (is_numeric s)
    (held e (signed_by (begins (bytes "-") s) (decimal 0 (unsigned_part s))))
    (done (pos 0) 1)

-- V9 "digits without leading zeros, each digit after those of the quotient by ten"; as many quotients are taken as fuel allows
unfoldable pub digits_with : (fuel n : ℕ) → List ℕ
digits_with zero n = (48 + n) ∷ []
digits_with (suc k) n =
    elim (ltb n 10) [ true ↦ (48 + n) ∷ [] | false ↦ digits_with k (n / 10) ++ ((48 + n % 10) ∷ []) ]

unfoldable pub digits : ℕ → List ℕ
digits n = digits_with n n

-- V9 "sign if negative"
unfoldable pub sign_of : ℤ → List ℕ
sign_of m = cond (is_negative m) (bytes "-") []

-- V10 "|n| bytes, zeros, or blanks if n < 0, put between sign and digits; if the text is longer, its first |n| bytes and a note"
unfoldable pub filled : (size fill : ℕ) (sign digits : List ℕ) → Result (List ℕ)
filled size fill sign digits =
    let longer = length sign + length digits in
    cond (leb longer size)
    (done (sign ++ (replicate (size - longer) fill ++ digits)) 0)
    (done (take size (sign ++ digits)) 1)

-- V9, V10 STRING(n,m): "n = 0 as before"; Q20 "|n| in STRING(n,m), exceeds 1,024 bytes"
unfoldable pub text_of : (n m : ℤ) → Result (List ℕ)
text_of n m =
    cond (eqb (nat_abs n) 0) (done (sign_of m ++ digits (nat_abs m)) 0)
    (cond (ltb longest_string (nat_abs n)) (stop 20)
    (filled (nat_abs n) (cond (is_negative n) 32 48) (sign_of m) (digits (nat_abs m))))
