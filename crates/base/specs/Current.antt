-- The edition that the code is written for. Code and its laws cite `current` and the names of its sizes here; definitions take any edition.
-- Assumes nothing.
use Rattle.std.specs.Prelude.{◌≡◌, refl, ℕ}
use Rattle.base.specs.Edition.{Edition, edition1}

unfoldable pub current : Edition
unfolding edition1
current = edition1

-- its sizes, as numbers
abbrev pub limit : ℕ
limit = 8_388_607

abbrev pub table_size : ℕ
table_size = 28_672

pub limit_is : current.limit ≡ limit
unfolding current
limit_is = refl

pub table_size-is : current.table_size ≡ table_size
unfolding current
table_size-is = refl
