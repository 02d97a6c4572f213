-- The sizes and the card rule that an edition of the language fixes. Every definition that depends on one takes the edition as a
-- parameter, so that two editions can stand side by side. Assumes nothing.
use Rattle.std.specs.Prelude.{List, ℕ, take}

pub record Edition : Type 0 where
  -- numbers and constants run from -limit to limit
  pub limit : ℕ
  -- the bytes of a table
  pub table_size : ℕ
  -- columns 1 to 72 of a line
  pub columns : List ℕ → List ℕ

-- document 01: V1 "Numbers run from -8,388,607 to 8,388,607", Q2 a table of 28,672 bytes, C3 "A shorter line ends its card where it ends.": it
-- is not filled up to column 72
unfoldable pub edition1 : Edition
edition1 = record { limit = 8_388_607; table_size = 28_672; columns = take 72 }
