-- Laws of the benchmark's replacements: a good store stays good, and what each test decides. Assumes nothing.
use Rattle.std.specs.Prelude.{Bool, true, false, cond, ◌≡◌, refl, leb}
use mathlib.Core.List.{List}
use Prim.Native.Nat.{ℕ, zero, suc, ◌+◌, ◌-◌, ◌%◌, ◌<◌, ◌≤◌}
use native.Mathlib.Omega.{arith}
use Rattle.std.proofs.Common.{ap, add-one, length-append, le-leb, leb-true}
use Rattle.std.proofs.Math.Bool.{and-eq-true_iff}
use Rattle.std.proofs.Math.ListN.{length, length-drop}
use Rattle.std.proofs.Math.Nat.{min-le_right}
use Rattle.std.proofs.Math.Seq.{length-take-le}
use Rattle.std.proofs.lemmas.Bool.{lt-leb}
use Rattle.encoding.specs.BufferLaws.{StoreGood, store_with, with_good}
use Rattle.encoding.specs.Buffers.{store_keeps}
use Rattle.store.specs.Clauses.{string_of, string_replaced}
use Rattle.replace_bench.specs.Replacements.{is_replaceable, place_in, replaced_at, replaced_times, replaced_if_good}

-- the new string fits its cell
new_fits : (old : List ℕ) (from n : ℕ) (v : List ℕ) → n ≤ length old → length old - n + length v ≤ 1024
    → length (string_replaced old (place_in old from n) (place_in old from n + n) v) ≤ 1024
new_fits old from n v h k =
    let at = place_in old from n in
    let low : at ≤ length old - n = min-le_right from (length old - n) in
    simp (length-append, length-drop, length-take-le at old (omega (arith, low))) (omega (arith, low))

cond_good : (b : Bool) (x y : List ℕ) → (b ≡ true → StoreGood x) → StoreGood y → StoreGood (cond b x y)
cond_good true x y h k = h refl
cond_good false x y h k = k

-- a good store stays good
at_good : (store : List ℕ) (place from n : ℕ) (v : List ℕ) → StoreGood store → StoreGood (replaced_at store place from n v)
unfolding replaced_at
at_good store place from n v g =
    let old = string_of store place in
    let at = place_in old from n in
    cond_good (is_replaceable old n v) (store_with store place (string_replaced old at (at + n) v)) store
    (λ e.
    let p = (and-eq-true_iff (leb n (length old)) (leb (length old - n + length v) 1024)).0 e in
    with_good store g place (string_replaced old at (at + n) v) (new_fits old from n v (leb-true _ _ p.0) (leb-true _ _ p.1))) g

pub times_good : (store : List ℕ) (from n : ℕ) (v : List ℕ) (times : ℕ) → StoreGood store → StoreGood (replaced_times store from n v times)
unfolding replaced_times
times_good store from n v zero g = g
times_good store from n v (suc times) g = at_good (replaced_times store from n v times) (times % 32) from n v (times_good store from n v times g)

-- a string that hasn't n bytes stays, and one that would be too long
pub at_kept_short : (store : List ℕ) (place from n : ℕ) (v : List ℕ) → length (string_of store place) < n → replaced_at store place from n v ≡ store
unfolding replaced_at
at_kept_short store place from n v h = rw (lt-leb _ _ h) refl

pub at_kept_full : (store : List ℕ) (place from n : ℕ) (v : List ℕ) → n ≤ length (string_of store place)
    → 1024 < length (string_of store place) - n + length v → replaced_at store place from n v ≡ store
unfolding replaced_at
at_kept_full store place from n v h k = rw (le-leb _ _ h, lt-leb _ _ k) refl

-- else the stretch is replaced
pub at_replaced : (store : List ℕ) (place from n : ℕ) (v : List ℕ) → n ≤ length (string_of store place)
    → length (string_of store place) - n + length v ≤ 1024
    → replaced_at store place from n v
    ≡ store_with store place (string_replaced (string_of store place) (place_in (string_of store place) from n)
    (place_in (string_of store place) from n + n) v)
unfolding replaced_at
at_replaced store place from n v h k = rw (le-leb _ _ h, le-leb _ _ k) refl

-- what the look at the store decides
pub bad_stays : (store : List ℕ) (from n : ℕ) (v : List ℕ) (times : ℕ) → store_keeps store ≡ false
    → replaced_if_good store from n v times ≡ store
unfolding replaced_if_good
bad_stays store from n v times e = rw e refl

pub good_replaced : (store : List ℕ) (from n : ℕ) (v : List ℕ) (times : ℕ) → store_keeps store ≡ true
    → replaced_if_good store from n v times ≡ replaced_times store from n v times
unfolding replaced_if_good
good_replaced store from n v times e = rw e refl

-- one more, behind so many
pub once_more : (store : List ℕ) (from n : ℕ) (v : List ℕ) (times : ℕ)
    → replaced_times store from n v (times + 1) ≡ replaced_at (replaced_times store from n v times) (times % 32) from n v
unfolding replaced_times
once_more store from n v times = ap (replaced_times store from n v) (add-one times)
