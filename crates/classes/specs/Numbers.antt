-- The numbers of the classes of bytes in the class table. Assumes nothing.
use Rattle.std.specs.Prelude.{Bool, ℕ, eqb}
use Rattle.cards.specs.Bytes.{Class, letter, digit, blank, mark, other_byte, refused_byte, class_of}

unfoldable pub class_number : Class → ℕ
class_number letter = 0
class_number digit = 1
class_number blank = 2
class_number mark = 3
class_number other_byte = 4
class_number refused_byte = 5

-- the table's number for a byte is that of a class
abbrev pub has_number : Class → ℕ → Bool
has_number c b = eqb (class_number (class_of b)) (class_number c)
