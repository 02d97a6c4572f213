-- What the tests on bytes tell of them. Assumes nothing.
use Rattle.std.specs.Prelude.{true, ◌||◌, ◌≡◌, ℕ, ◌≤◌, leb}
use Rattle.std.proofs.Common.{arith, le-leb, leb-true}
use Rattle.base.specs.Choice.{both_pass, both_true, test_cases}
use Rattle.cards.specs.Bytes.{between, is_digit, is_letter, is_name_byte}

pub within : (low high b : ℕ) → between low high b ≡ true → (low ≤ b) × (b ≤ high)
unfolding between
within low high b e =
    let parts = both_true (leb low b) (leb b high) e in
    (leb-true low b parts.0, leb-true b high parts.1)

pub in_between : (low high b : ℕ) → low ≤ b → b ≤ high → between low high b ≡ true
unfolding between
in_between low high b l h = both_pass (le-leb low b l) (le-leb b high h)

pub name-byte : (b : ℕ) → is_name_byte b ≡ true → (48 ≤ b) × (b ≤ 90)
unfolding is_name_byte is_letter is_digit
name-byte b =
    test_cases (λ t. (t || between 48 57 b) ≡ true → (48 ≤ b) × (b ≤ 90)) (between 65 90 b)
    (λ e _. let range = within 65 90 b e in (omega arith, omega arith))
    (λ _ e. let range = within 48 57 b e in (omega arith, omega arith))

pub letter_range : (b : ℕ) → is_letter b ≡ true → (65 ≤ b) × (b ≤ 90)
unfolding is_letter
letter_range b e = within 65 90 b e

pub digit_range : (b : ℕ) → is_digit b ≡ true → (48 ≤ b) × (b ≤ 57)
unfolding is_digit
digit_range b e = within 48 57 b e
