-- Currencies as numbers, and columns of numbers: a code, tonnes and a value for each line. Assumes nothing.
use Rattle.std.specs.Prelude.{cond, ◌&&◌, List, [], ◌∷◌, ℕ, ◌+◌, ◌*◌, ◌/◌, ◌%◌, eqb, ltb}
use Rattle.std.specs.Prelude.{Option, Some, None, ◌≡◌, ◌<◌}
use Rattle.base.specs.Lists.{total}
use Rattle.register.specs.Line.{currency_of}

-- the number of a currency: of its bytes the first is the highest
unfoldable pub code_from : (v : ℕ) → List ℕ → ℕ
code_from v [] = v
code_from v (b ∷ bs) = code_from (v * 256 + b) bs

unfoldable pub currency_code : (currency : List ℕ) → ℕ
currency_code currency = code_from 0 currency

unfoldable pub currency_code_in : (line : List ℕ) → ℕ
currency_code_in line = currency_code (currency_of line)

-- the three bytes of a code
unfoldable pub word_of : (code : ℕ) → List ℕ
word_of code = code / 65_536 ∷ code / 256 % 256 ∷ code % 256 ∷ []

-- a number above every code of three bytes
abbrev pub no_code : ℕ
no_code = 16_777_216

-- the lowest of some numbers above the last one, or `next` where none of them is below it
abbrev pub lower : (last next code : ℕ) → ℕ
lower last next code = cond (ltb last code && ltb code next) code next

unfoldable pub lowest_code : (last next : ℕ) → (codes : List ℕ) → ℕ
lowest_code last next [] = next
lowest_code last next (code ∷ codes) = lowest_code last (lower last next code) codes

-- how many places have a code, and the sum of the numbers in these places
unfoldable pub code_count : (code : ℕ) → (codes : List ℕ) → ℕ
code_count code = total (λ c. cond (eqb c code) 1 0)

unfoldable pub sum_of : (code : ℕ) → (codes numbers : List ℕ) → ℕ
sum_of code [] numbers = 0
sum_of code (c ∷ codes) [] = 0
sum_of code (c ∷ codes) (x ∷ numbers) = cond (eqb c code) x 0 + sum_of code codes numbers

-- the lowest code found, or none
unfoldable pub CodeFound : (code : ℕ) → Option ℕ → Type 0
CodeFound code (Some found) = (found ≡ code) × (found < no_code)
CodeFound code None = code ≡ no_code
