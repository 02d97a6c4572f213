-- The key of a name: its bytes as one number, the first byte lowest. Assumes nothing.
use Rattle.std.specs.Prelude.{Bool, true, List, [], ◌∷◌, ◌≡◌, ℕ, ◌+◌, ◌*◌, ◌≤◌, length}
use Rattle.base.specs.Lists.{all}
use Rattle.cards.specs.Bytes.{between}

unfoldable pub key_of : List ℕ → ℕ
key_of [] = 0
key_of (b ∷ bs) = 256 * key_of bs + b

-- a byte that a key shows: zeros behind a name's bytes are no part of it
unfoldable pub is_key_byte : ℕ → Bool
is_key_byte b = between 1 255 b

-- a label that its key shows
pub record LabelKey (label : List ℕ) (key : ℕ) : Type 0 where
  pub is : key ≡ key_of label
  pub clean : all is_key_byte label ≡ true
  pub short : length label ≤ 8
