-- A number of four bytes and a row of a pattern written among other bytes. Assumes nothing.
use Rattle.std.specs.Prelude.{List, ◌⊎◌, ◌≡◌, ℕ, ◌+◌, ◌≤◌, ◌<◌, ◌^◌, length, get_or}
use Rattle.scanning.specs.Call.{number4}
use Rattle.scan.specs.Rows.{row_element}
use Rattle.scan.specs.declared.Element.{Element}
use Rattle.scan.specs.declared.Element.TheVariants.{Part, Fixed, Free}

-- the numbers of an element's row have four bytes
unfoldable pub RowSmall : Element → Type 0
RowSmall (Part from to) = (from < 2 ^ 32) × (to < 2 ^ 32)
RowSmall (Fixed n) = n < 2 ^ 32
RowSmall Free = Unit {0}

-- the number n stands at a place, and all other bytes are as they were
pub record Put4 (old new : List ℕ) (at n : ℕ) : Type 0 where
  pub size : length new ≡ length old
  pub here : number4 new at ≡ n
  pub other : (m : ℕ) → (m < at) ⊎ (at + 4 ≤ m) → get_or new m 0 ≡ get_or old m 0

-- row i is this element, and the rows before it are as they were
pub record PutRow (old new : List ℕ) (i : ℕ) (e : Element) : Type 0 where
  pub size : length new ≡ length old
  pub here : row_element new i ≡ e
  pub kept : (j : ℕ) → j < i → row_element new j ≡ row_element old j
