-- Numbers in bytes, low byte first, and integers as numbers. Assumes nothing.
use Rattle.std.specs.Prelude.{List, [], ◌∷◌, ℕ, zero, suc, ◌+◌, ◌*◌, ◌/◌, ◌%◌, ◌^◌, ℤ, pos, nat_abs, ◌+ℤ◌, ◌-ℤ◌, get_or}

-- a number in so many bytes
unfoldable pub in_bytes : ℕ → ℕ → List ℕ
in_bytes zero n = []
in_bytes (suc k) n = n % 256 ∷ in_bytes k (n / 256)

-- the number that so many bytes from a place on hold
unfoldable pub numeral_at : ℕ → List ℕ → ℕ → ℕ
numeral_at zero b at = 0
numeral_at (suc k) b at = get_or b at 0 + 256 * numeral_at k b (at + 1)

-- An integer is kept as a number with this much added, which is enough for 48 bits.
unfoldable pub bias : ℕ
bias = 2 ^ 47

unfoldable pub biased : ℤ → ℕ
biased z = nat_abs (z +ℤ pos bias)

unfoldable pub unbiased : ℕ → ℤ
unbiased n = pos n -ℤ pos bias
