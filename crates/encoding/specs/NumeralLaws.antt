-- Bytes that stand at a place of a list, and what is read there: a number in bytes is read back as the number, written again as those bytes, and an
-- integer kept as a number as the integer. Assumes nothing.
use Rattle.std.specs.Prelude.{true, false, ◌&&◌, List, [], ◌∷◌, ◌++◌, map, ◌≡◌, refl, ℕ, zero, suc, ◌+◌, ◌*◌, ◌-◌, ◌/◌, ◌%◌, ◌^◌, ◌≤◌, ◌<◌, ltb, ℤ, pos, negsuc, nat_abs, length, take, drop, get_or}
use Rattle.std.proofs.Common.{append_assoc, sym, ◌∙◌, ap, ap₂, subst, add-zero, pow-suc, arith, ne_eqb, get_or-drop, get_or-take, drop-drop, ltb-true, ltb-false, lt-ltb, le-ltb, le-leb}
use Rattle.std.proofs.Math.Nat.{div-div-eq-div-mul}
use Rattle.std.proofs.Math.Seq.{drop-append_seam, take-append_seam}
use Rattle.std.specs.Int.{to_le_bytes, w64}
use Rattle.base.specs.Choice.{cond_cases, test_cases}
use Rattle.base.specs.Current.{current, limit}
use Rattle.base.specs.ListLaws.{drop-next}
use Rattle.base.specs.Lists.{is_zero, all}
use Rattle.values.specs.Numbers.{is_in_range}
use Rattle.encoding.specs.Numerals.{in_bytes, numeral_at, bias, biased, unbiased}

-- the bytes bs stand in the list t from a place on
pub record BytesStand (t : List ℕ) (at : ℕ) (bs : List ℕ) : Type 0 where
  pub behind : List ℕ
  pub here : drop at t ≡ bs ++ behind

-- what stands at a place stands at the same place otherwise written
pub stands_moved : (t : List ℕ) {at place : ℕ} {bs : List ℕ} → at ≡ place → BytesStand t at bs → BytesStand t place bs
stands_moved t {bs = bs} e s = subst (λ (n : ℕ). BytesStand t n bs) e s

-- of two rows of bytes the first stands at the place
pub stands_front : (t : List ℕ) {at : ℕ} (xs ys : List ℕ) → BytesStand t at (xs ++ ys) → BytesStand t at xs
stands_front t xs ys s = record { behind = ys ++ s.behind; here = s.here ∙ append_assoc xs ys s.behind }

-- and the second behind the first
pub stands_back : (t : List ℕ) {at : ℕ} (xs ys : List ℕ) → BytesStand t at (xs ++ ys) → BytesStand t (at + length xs) ys
stands_back t {at} xs ys s =
    record {
      behind = s.behind;
      here = sym (drop-drop (length xs) at t) ∙ rw (s.here, append_assoc xs ys s.behind) (drop-append_seam xs (ys ++ s.behind));
    }

-- the first byte that stands at a place is read there
pub byte-read : (t : List ℕ) (at b : ℕ) (bs : List ℕ) → BytesStand t at (b ∷ bs) → get_or t at 0 ≡ b
byte-read t at b bs s = ap (λ (n : ℕ). get_or t n 0) (sym (add-zero at)) ∙ sym (get_or-drop at t 0 0) ∙ rw s.here

-- the bytes that stand at a place are cut out there
pub bytes_read : (t : List ℕ) (at : ℕ) (bs : List ℕ) → BytesStand t at bs → take (length bs) (drop at t) ≡ bs
bytes_read t at bs s = rw s.here (take-append_seam bs s.behind)

-- a number that its bytes can hold is read where they stand
pub number_read : (k : ℕ) (t : List ℕ) (at n : ℕ) → n < 256 ^ k → BytesStand t at (in_bytes k n) → numeral_at k t at ≡ n
unfolding in_bytes numeral_at
number_read zero t at n h s = omega arith
number_read (suc k) t at n h s =
    let small : n / 256 < 256 ^ k = omega (arith, rw (pow-suc 256 k) at h) in
    let rest : BytesStand t (at + 1) (in_bytes k (n / 256)) = stands_back t (n % 256 ∷ []) (in_bytes k (n / 256)) s in
    rw (byte-read t at (n % 256) (in_bytes k (n / 256)) s, number_read k t (at + 1) (n / 256) small rest) (omega arith)

-- and behind the bytes before it, where others stand too
pub number_behind : (k : ℕ) (t : List ℕ) (at n : ℕ) (before after : List ℕ) → n < 256 ^ k → BytesStand t at (before ++ (in_bytes k n ++ after))
    → numeral_at k t (at + length before) ≡ n
number_behind k t at n before after h s =
    number_read k t (at + length before) n h (stands_front t (in_bytes k n) after (stands_back t before (in_bytes k n ++ after) s))

-- so many bytes are made of a number
pub bytes_size : (k n : ℕ) → length (in_bytes k n) ≡ k
unfolding in_bytes
bytes_size zero n = refl
bytes_size (suc k) n = ap suc (bytes_size k (n / 256))

-- the kit's eight bytes of a number
pub eight_bytes : (n : ℕ) → to_le_bytes w64 n ≡ in_bytes 8 n
unfolding in_bytes
eight_bytes n =
    let two : n / 256 / 256 ≡ n / 65536 = div-div-eq-div-mul n 256 256 in
    let three : n / 65536 / 256 ≡ n / 16777216 = div-div-eq-div-mul n 65536 256 in
    let four : n / 16777216 / 256 ≡ n / 4294967296 = div-div-eq-div-mul n 16777216 256 in
    let five : n / 4294967296 / 256 ≡ n / 1099511627776 = div-div-eq-div-mul n 4294967296 256 in
    let six : n / 1099511627776 / 256 ≡ n / 281474976710656 = div-div-eq-div-mul n 1099511627776 256 in
    let seven : n / 281474976710656 / 256 ≡ n / 72057594037927936 = div-div-eq-div-mul n 281474976710656 256 in
    rw (two, three, four, five, six, seven) refl

-- a number that is read in a list of bytes, written again, is the bytes that stand there
pub number_written : (t : List ℕ) → ((i : ℕ) → get_or t i 0 < 256) → (k at : ℕ) → at + k ≤ length t
    → in_bytes k (numeral_at k t at) ≡ take k (drop at t)
unfolding in_bytes numeral_at
number_written t bytes zero at h = refl
number_written t bytes (suc k) at h =
    let b = get_or t at 0 in
    let m = numeral_at k t (at + 1) in
    let small = bytes at in
    let low : (b + 256 * m) % 256 ≡ b = omega arith in
    let high : (b + 256 * m) / 256 ≡ m = omega arith in
    rw (low, high, number_written t bytes k (at + 1) (omega arith)) (ap (take (suc k)) (sym (drop-next t at 0 (omega arith))))

-- the first bytes of a list tell the numbers in them
pub numeral-front : (k m : ℕ) (t : List ℕ) (at : ℕ) → at + k ≤ m → numeral_at k (take m t) at ≡ numeral_at k t at
unfolding numeral_at
numeral-front zero m t at h = refl
numeral-front (suc k) m t at h = rw (get_or-take m t at 0 (omega arith), numeral-front k m t (at + 1) (omega arith)) refl

-- a number is zero as all its bytes are
zero_both : (b n : ℕ) → is_zero (b + 256 * n) ≡ (is_zero b && is_zero n)
zero_both zero zero = refl
zero_both zero (suc n) = ne_eqb (0 + 256 * suc n) 0 (λ z. omega (arith, z)) ∙ sym (ne_eqb (suc n) 0 (λ z. omega (arith, z)))
zero_both (suc b) n =
    ne_eqb (suc b + 256 * n) 0 (λ z. omega (arith, z)) ∙ ap (λ t. t && is_zero n) (sym (ne_eqb (suc b) 0 (λ z. omega (arith, z))))

pub numeral-zero : (k : ℕ) (t : List ℕ) (at : ℕ) → at + k ≤ length t → is_zero (numeral_at k t at) ≡ all is_zero (take k (drop at t))
unfolding numeral_at all
numeral-zero zero t at h = refl
numeral-zero (suc k) t at h =
    zero_both (get_or t at 0) (numeral_at k t (at + 1))
    ∙ ap (λ z. is_zero (get_or t at 0) && z) (numeral-zero k t (at + 1) (omega arith))
    ∙ ap (λ (l : List ℕ). all is_zero (take (suc k) l)) (sym (drop-next t at 0 (omega arith)))

-- an integer that is small enough is kept in 6 bytes
pub biased_small : (z : ℤ) → nat_abs z < bias → biased z < 2 ^ 48
unfolding biased bias
biased_small (pos n) h = omega arith
biased_small (negsuc n) h = rw (le-ltb (2 ^ 47) (suc n) (omega arith)) (omega arith)

-- an integer that is small enough is read back
pub unbiased-biased : (z : ℤ) → nat_abs z < bias → unbiased (biased z) ≡ z
unfolding biased unbiased bias
unbiased-biased (pos n) h = rw (le-ltb (n + 2 ^ 47) (2 ^ 47) (omega arith)) (ap pos (omega arith))
unbiased-biased (negsuc n) h =
    rw (le-ltb (2 ^ 47) (suc n) (omega arith), lt-ltb (2 ^ 47 - suc n) (2 ^ 47) (omega arith)) (ap negsuc (omega arith))

-- a number that is read as an integer is the one it is kept as
pub biased-unbiased : (n : ℕ) → biased (unbiased n) ≡ n
unfolding biased unbiased bias
biased-unbiased n = cond_cases (λ z. biased z ≡ n) (ltb n (2 ^ 47)) below above
  where
    below : ltb n (2 ^ 47) ≡ true → biased (negsuc (2 ^ 47 - suc n)) ≡ n
    below e = rw (le-ltb (2 ^ 47) (suc (2 ^ 47 - suc n)) (omega (arith, ltb-true))) (omega (arith, ltb-true n (2 ^ 47) e))

    above : ltb n (2 ^ 47) ≡ false → biased (pos (n - 2 ^ 47)) ≡ n
    above e = omega (arith, ltb-false n (2 ^ 47) e)

-- numbers are written as they were read
pub numbers-same : (ns : List ℕ) → map biased (map unbiased ns) ≡ ns
numbers-same [] = refl
numbers-same (n ∷ ns) = ap₂ {C = List ℕ} ◌∷◌ (biased-unbiased n) (numbers-same ns)

-- how far an integer is from 0, by the number that keeps it
pub size_low : (n : ℕ) → n < 2 ^ 47 → nat_abs (unbiased n) ≡ 2 ^ 47 - n
unfolding unbiased bias
size_low n h = rw (lt-ltb n (2 ^ 47) h) (omega arith)

pub size_high : (n : ℕ) → 2 ^ 47 ≤ n → nat_abs (unbiased n) ≡ n - 2 ^ 47
unfolding unbiased bias
size_high n h = rw (le-ltb n (2 ^ 47) h)

-- the words that keep the least number in range and the greatest, and those between them
abbrev pub lowest : ℕ
lowest = 2 ^ 47 - limit

abbrev pub highest : ℕ
highest = 2 ^ 47 + limit

pub number_between_lem : (n : ℕ) → lowest ≤ n → n ≤ highest → is_in_range current (unbiased n) ≡ true
unfolding is_in_range current
number_between_lem n low high =
    le-leb (nat_abs (unbiased n)) limit
    (test_cases (λ _. nat_abs (unbiased n) ≤ limit) (ltb n (2 ^ 47)) (λ e. omega (arith, size_low n (ltb-true n (2 ^ 47) e)))
    (λ e. omega (arith, size_high n (ltb-false n (2 ^ 47) e))))
