-- Document 01, "Cards": the class of a byte, and the bytes that the definitions name. Assumes nothing.
use Rattle.std.specs.Prelude.{Bool, true, false, cond, ◌&&◌, ◌||◌, List, ℕ, leb, eqb}
use Rattle.base.specs.Lists.{among}
use Rattle.base.specs.Text.{bytes}

-- C7 "letter A-Z, digit, blank, mark (`= + - * / ( ) , " [ ] < > $`), other data 32-126, refused"
pub data Class : Type 0 where
  letter digit blank mark other_byte refused_byte : Class

unfoldable pub between : ℕ → ℕ → ℕ → Bool
between low high b = leb low b && leb b high

unfoldable pub marks : List ℕ
marks = bytes "=+-*/(),\"[]<>$"

unfoldable pub is_letter : ℕ → Bool
is_letter b = between 65 90 b

unfoldable pub is_digit : ℕ → Bool
is_digit b = between 48 57 b

-- a byte that may stand in a name
unfoldable pub is_name_byte : ℕ → Bool
is_name_byte b = is_letter b || is_digit b

unfoldable pub is_blank : ℕ → Bool
is_blank b = eqb b 32

-- C7 "A table of 256 entries gives each byte its class": its rule by ranges
unfoldable pub class_of : ℕ → Class
class_of b =
    cond (is_letter b) letter
    (cond (is_digit b) digit
    (cond (is_blank b) blank
    (cond (among b marks) mark
    (cond (between 32 126 b) other_byte
    refused_byte))))

unfoldable pub is_refused : Class → Bool
is_refused letter = false
is_refused digit = false
is_refused blank = false
is_refused mark = false
is_refused other_byte = false
is_refused refused_byte = true

-- the byte that ends a line or a record
unfoldable pub newline : ℕ
newline = 10

unfoldable pub quote : ℕ
quote = 34

unfoldable pub comma : ℕ
comma = 44

unfoldable pub star : ℕ
star = 42

unfoldable pub slash : ℕ
slash = 47
