-- What the benchmark's replacements leave of a store: each is one string of it with a stretch replaced. Assumes nothing.
use Rattle.std.specs.Prelude.{Bool, cond, ◌&&◌, List, ℕ, zero, suc, ◌+◌, ◌-◌, ◌%◌, leb, length, min}
use Rattle.encoding.specs.BufferLaws.{store_with}
use Rattle.encoding.specs.Buffers.{store_keeps}
use Rattle.store.specs.Clauses.{string_of, string_replaced}

-- whether n bytes of a string can give way to v: it has so many, and the new string fits its cell
abbrev pub is_replaceable : List ℕ → ℕ → List ℕ → Bool
is_replaceable old n v = leb n (length old) && leb (length old - n + length v) 1024

-- where n bytes lie that begin at a place, or are the string's last ones
abbrev pub place_in : List ℕ → (from n : ℕ) → ℕ
place_in old from n = min from (length old - n)

-- a store with n bytes of one string replaced
unfoldable pub replaced_at : List ℕ → (place from n : ℕ) → List ℕ → List ℕ
replaced_at store place from n v =
    let old = string_of store place in
    let at = place_in old from n in
    cond (is_replaceable old n v) (store_with store place (string_replaced old at (at + n) v)) store

-- so many times, one string after the other
unfoldable pub replaced_times : List ℕ → (from n : ℕ) → List ℕ → ℕ → List ℕ
replaced_times store from n v zero = store
replaced_times store from n v (suc times) = replaced_at (replaced_times store from n v times) (times % 32) from n v

-- so many in a good store; one that isn't good stays
unfoldable pub replaced_if_good : List ℕ → (from n : ℕ) → List ℕ → ℕ → List ℕ
replaced_if_good store from n v times = cond (store_keeps store) (replaced_times store from n v times) store
