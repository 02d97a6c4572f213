-- How far counts and places go while a deck is read. Assumes nothing.
use Rattle.std.specs.Prelude.{ℕ}

-- Cards, places in a text, and items, elements and literal bytes counted stay within it, so that no sum or range made of them leaves 64 bits.
abbrev pub far_enough : ℕ
far_enough = 8_589_934_592
