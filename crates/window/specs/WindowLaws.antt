-- The window as bytes and back: the image of prices keeps the rules and is read as these prices; a window that keeps them is the image of the prices
-- that are read. Assumes nothing.
use mathlib.Core.List.{append-nil}
use Rattle.std.specs.Prelude.{Bool, true, false, not, ◌&&◌, List, [], ◌∷◌, ◌++◌, ◌≡◌, ℕ, zero, suc, ◌+◌, ◌*◌, ◌-◌, ◌≤◌, ◌<◌, ◌^◌, leb, length, take, drop, get_or, replicate}
use Rattle.std.proofs.Common.{refl, sym, ap, ap₂, ◌∙◌, subst, arith, append_assoc, eqb-true, ne_eqb, leb-true, le-leb, length-drop, length-take, take-append-drop}
use Rattle.std.proofs.Math.ListN.{length-append}
use Rattle.std.proofs.Math.Seq.{drop-append_seam, drop-drop, length-take-le, take-add}
use Rattle.std.proofs.Math.Nat.{min-le_right}
use Rattle.std.proofs.lemmas.List.{length-replicate, replicate-append-replicate}
use Rattle.std.specs.List.{prefix_len}
use Rattle.std.proofs.lemmas.List.Sums.{take_while-cons, prefix_len-le-length}
use Rattle.std.proofs.lemmas.List.Folds.{length-prefix_len}
use Rattle.base.specs.Choice.{both_true, both_pass}
use Rattle.base.specs.ListLaws.{all_both, all-zeros, all_append, all_imply, zeros_are}
use Rattle.base.specs.Lists.{all, is_zero}
use Rattle.encoding.specs.NumeralLaws.{BytesStand, bytes_size, number_read, number_written, numeral-front, numeral-zero, stands_front, stands_back}
use Rattle.encoding.specs.Numerals.{in_bytes}
use Rattle.window.specs.PriceLaws.{Holdable, price_bounds}
use Rattle.window.specs.Prices.{Prices, most_prices, price_in_range}
use Rattle.window.specs.Window.{window_size, price_size, numbers_image, window_image, numbers_from, window_numbers, before_zero, prices_in, sound_numbers, window_keeps}

-- The size of images, and one behind the other.
pub prices_size : (prices : Prices) → length (numbers_image prices) ≡ price_size * length prices
unfolding numbers_image
prices_size [] = refl
prices_size (price ∷ prices) =
    omega (arith, length-append (in_bytes price_size price) (numbers_image prices), bytes_size price_size price, prices_size prices)

pub image_append : (xs ys : Prices) → numbers_image (xs ++ ys) ≡ numbers_image xs ++ numbers_image ys
unfolding numbers_image
image_append [] ys = refl
image_append (x ∷ xs) ys =
    ap (λ l. in_bytes price_size x ++ l) (image_append xs ys) ∙ sym (append_assoc (in_bytes price_size x) (numbers_image xs) (numbers_image ys))

zeros_written : (n : ℕ) → numbers_image (replicate n 0) ≡ replicate (price_size * n) 0
unfolding numbers_image in_bytes
zeros_written zero = refl
zeros_written (suc n) =
    let more : price_size + price_size * n ≡ price_size * suc n = omega arith in
    ap (λ (l : List ℕ). replicate price_size 0 ++ l) (zeros_written n)
    ∙ replicate-append-replicate {A = ℕ} price_size (price_size * n) 0
    ∙ ap (λ m. replicate m 0) more

-- the window's numbers: the prices held, and zeros behind them
abbrev pub with_zeros : Prices → List ℕ
with_zeros prices = prices ++ replicate (most_prices - length prices) 0

pub image-with_zeros : (prices : Prices) → numbers_image (with_zeros prices) ≡ window_image prices
unfolding window_image
image-with_zeros prices =
    image_append prices (replicate (most_prices - length prices) 0) ∙ ap (λ l. numbers_image prices ++ l) (zeros_written (most_prices - length prices))

pub zeros_length : (prices : Prices) → length prices ≤ most_prices → length (with_zeros prices) ≡ most_prices
zeros_length prices h =
    omega (arith, length-append prices (replicate (most_prices - length prices) 0), length-replicate {A = ℕ} (most_prices - length prices) 0)

pub image_size : (prices : Prices) → length prices ≤ most_prices → length (window_image prices) ≡ window_size
image_size prices h = ap length (sym (image-with_zeros prices)) ∙ prices_size (with_zeros prices) ∙ ap (λ n. price_size * n) (zeros_length prices h)

-- The numbers of a window: how many, those from a place on, and whether all are zero.
pub numbers_length : (n : ℕ) (window : List ℕ) (at : ℕ) → length (numbers_from n window at) ≡ n
unfolding numbers_from
numbers_length zero window at = refl
numbers_length (suc n) window at = ap suc (numbers_length n window (at + price_size))

pub numbers_drop : (n : ℕ) (window : List ℕ) (at k : ℕ) → drop k (numbers_from n window at) ≡ numbers_from (n - k) window (at + price_size * k)
unfolding numbers_from
numbers_drop n window at zero =
    let here : at ≡ at + price_size * 0 = omega arith in
    let whole : n ≡ n - 0 = omega arith in
    ap₂ (λ m place. numbers_from m window place) whole here
numbers_drop zero window at (suc k) =
    let none : 0 ≡ 0 - suc k = omega arith in
    ap (λ m. numbers_from m window (at + price_size * suc k)) none
numbers_drop (suc n) window at (suc k) =
    let there : at + price_size + price_size * k ≡ at + price_size * suc k = omega arith in
    let fewer : n - k ≡ suc n - suc k = omega arith in
    numbers_drop n window (at + price_size) k ∙ ap₂ (λ m place. numbers_from m window place) fewer there

pub numbers_zero : (n : ℕ) (window : List ℕ) (at : ℕ) → at + price_size * n ≤ length window
    → all is_zero (numbers_from n window at) ≡ all is_zero (take (price_size * n) (drop at window))
unfolding numbers_from all
numbers_zero zero window at h = refl
numbers_zero (suc n) window at h =
    let rest = drop at window in
    let more : price_size + price_size * n ≡ price_size * suc n = omega arith in
    ap₂ {C = Bool} ◌&&◌ (numeral-zero price_size window at (omega arith))
    (numbers_zero n window (at + price_size) (omega arith)
    ∙ ap (λ (l : List ℕ). all is_zero (take (price_size * n) l)) (sym (drop-drop price_size at window)))
    ∙ sym (all_both is_zero (take price_size rest) (take (price_size * n) (drop price_size rest)))
    ∙ ap (all is_zero) (sym (take-add price_size (price_size * n) rest) ∙ ap (λ m. take m rest) more)

-- Numbers that eight bytes can hold are read where they stand.
small : ℕ → Bool
small n = leb (n + 1) (256 ^ 8)

numbers_read : (ns : List ℕ) (window : List ℕ) (at : ℕ) → all small ns ≡ true → BytesStand window at (numbers_image ns)
    → numbers_from (length ns) window at ≡ ns
unfolding numbers_from numbers_image all small
numbers_read [] window at e s = refl
numbers_read (n ∷ ns) window at e s =
    let both : (small n ≡ true) × (all small ns ≡ true) = both_true _ _ e in
    let number = in_bytes price_size n in
    let behind : BytesStand window (at + price_size) (numbers_image ns) =
    subst (λ k. BytesStand window (at + k) (numbers_image ns)) (bytes_size price_size n) (stands_back window number (numbers_image ns) s) in
    ap₂ {C = List ℕ} ◌∷◌
    (number_read price_size window at n (omega (arith, leb-true (n + 1) (256 ^ 8) both.0)) (stands_front window number (numbers_image ns) s))
    (numbers_read ns window (at + price_size) both.1 behind)

price_small : (price : ℕ) → price_in_range price ≡ true → small price ≡ true
unfolding small
price_small price e = le-leb (price + 1) (256 ^ 8) (omega (arith, price_bounds price e))

zero_small : (n : ℕ) → is_zero n ≡ true → small n ≡ true
unfolding small
zero_small n e = le-leb (n + 1) (256 ^ 8) (omega (arith, eqb-true n 0 e))

zeros_small : (prices : Prices) → all price_in_range prices ≡ true → all small (with_zeros prices) ≡ true
zeros_small prices e =
    let zeros : List ℕ = replicate (most_prices - length prices) 0 in
    all_append small prices zeros (all_imply price_in_range small price_small prices e)
    (all_imply is_zero small zero_small zeros (all-zeros (most_prices - length prices)))

-- The numbers before the first zero: a zero ends them; any other is one of them, and prices in a row are.
pub before_end : (n : ℕ) (numbers : List ℕ) → is_zero n ≡ true → before_zero (n ∷ numbers) ≡ []
unfolding before_zero
before_end n numbers e = take_while-cons (λ n. not (is_zero n)) n numbers ∙ rw e refl

pub before_more : (n : ℕ) (numbers : List ℕ) → is_zero n ≡ false → before_zero (n ∷ numbers) ≡ n ∷ before_zero numbers
unfolding before_zero
before_more n numbers e = take_while-cons (λ n. not (is_zero n)) n numbers ∙ rw e refl

pub price_some : (price : ℕ) → price_in_range price ≡ true → is_zero price ≡ false
price_some price e = ne_eqb price 0 (λ z. omega (arith, z, price_bounds price e))

pub before_append : (prices rest : List ℕ) → all price_in_range prices ≡ true → before_zero (prices ++ rest) ≡ prices ++ before_zero rest
unfolding all
before_append [] rest e = refl
before_append (price ∷ prices) rest e =
    let both : (price_in_range price ≡ true) × (all price_in_range prices ≡ true) = both_true _ _ e in
    before_more price (prices ++ rest) (price_some price both.0) ∙ ap (λ (l : List ℕ). price ∷ l) (before_append prices rest both.1)

before_none : (zeros : List ℕ) → all is_zero zeros ≡ true → before_zero zeros ≡ []
unfolding before_zero all
before_none [] z = refl
before_none (n ∷ zeros) z = before_end n zeros (both_true (is_zero n) (all is_zero zeros) z).0

-- the numbers before the first zero, and those behind them
before_front : (numbers : List ℕ) → before_zero numbers ++ drop (length (before_zero numbers)) numbers ≡ numbers
unfolding before_zero
before_front numbers =
    let p : ℕ → Bool = λ n. not (is_zero n) in
    ap (λ k. before_zero numbers ++ drop k numbers) (length-prefix_len p numbers) ∙ take-append-drop (prefix_len p numbers) numbers

before_few : (numbers : List ℕ) → length (before_zero numbers) ≤ length numbers
unfolding before_zero
before_few numbers = omega (arith, length-prefix_len (λ n. not (is_zero n)) numbers, prefix_len-le-length (λ n. not (is_zero n)) numbers)

-- prices with zeros behind them: they are read, and keep the rules
before_read : (prices zeros : List ℕ) → all price_in_range prices ≡ true → all is_zero zeros ≡ true → before_zero (prices ++ zeros) ≡ prices
before_read prices zeros e z = before_append prices zeros e ∙ ap (λ (l : List ℕ). prices ++ l) (before_none zeros z) ∙ append-nil prices

zeros_sound : (prices zeros : List ℕ) → all price_in_range prices ≡ true → all is_zero zeros ≡ true → sound_numbers (prices ++ zeros) ≡ true
unfolding sound_numbers
zeros_sound prices zeros e z = rw (before_read prices zeros e z, drop-append_seam prices zeros) (both_pass e z)

-- The first law of a round trip: the image of prices, whatever lies behind it, keeps the rules and is read as these prices.
module _ (prices : Prices) (h : Holdable prices) (rest : List ℕ) where
  numbers-back : window_numbers (window_image prices ++ rest) ≡ with_zeros prices
  numbers-back =
      let ns = with_zeros prices in
      let image : BytesStand (window_image prices ++ rest) 0 (numbers_image ns) =
      record { behind = rest; here = ap (λ l. l ++ rest) (sym (image-with_zeros prices)) } in
      subst (λ n. numbers_from n (window_image prices ++ rest) 0 ≡ ns) (zeros_length prices h.few)
      (numbers_read ns (window_image prices ++ rest) 0 (zeros_small prices h.each) image)

  pub image-read : prices_in (window_image prices ++ rest) ≡ prices
  unfolding prices_in
  image-read =
      ap before_zero numbers-back
      ∙ before_read prices (replicate (most_prices - length prices) 0) h.each (all-zeros (most_prices - length prices))

  pub image_sound : window_keeps (window_image prices ++ rest) ≡ true
  unfolding window_keeps
  image_sound =
      let size : window_size ≤ length (window_image prices ++ rest) =
      omega (arith, length-append (window_image prices) rest, image_size prices h.few) in
      both_pass (le-leb window_size (length (window_image prices ++ rest)) size)
      (ap sound_numbers numbers-back
      ∙ zeros_sound prices (replicate (most_prices - length prices) 0) h.each (all-zeros (most_prices - length prices)))

-- The second: a window that keeps the rules holds prices that can be held, and its numbers are these and zeros.
module _ (window : List ℕ) (e : window_keeps window ≡ true) where
  pub keeps_size : window_size ≤ length window
  unfolding window_keeps
  keeps_size = leb-true window_size (length window) (both_true (leb window_size (length window)) (sound_numbers (window_numbers window)) e).0

  keeps_parts : (all price_in_range (prices_in window) ≡ true) × (all is_zero (drop (length (prices_in window)) (window_numbers window)) ≡ true)
  unfolding window_keeps sound_numbers prices_in
  keeps_parts = both_true _ _ (both_true (leb window_size (length window)) (sound_numbers (window_numbers window)) e).1

  pub read_holdable : Holdable (prices_in window)
  unfolding prices_in
  read_holdable =
      record { each = keeps_parts.0; few = omega (arith, before_few (window_numbers window), numbers_length most_prices window 0) }

  pub numbers-are : window_numbers window ≡ with_zeros (prices_in window)
  unfolding prices_in
  numbers-are =
      let prices = prices_in window in
      let zeros = drop (length prices) (window_numbers window) in
      let count : length zeros ≡ most_prices - length prices =
      omega (arith, length-drop (length prices) (window_numbers window), numbers_length most_prices window 0) in
      sym (before_front (window_numbers window)) ∙ ap (λ (l : List ℕ). prices ++ l) (zeros_are zeros keeps_parts.1 ∙ ap (λ n. replicate n 0) count)

-- The first 256 bytes alone tell the numbers.
numbers_front : (n m : ℕ) (window : List ℕ) (at : ℕ) → at + price_size * n ≤ m → numbers_from n (take m window) at ≡ numbers_from n window at
unfolding numbers_from
numbers_front zero m window at h = refl
numbers_front (suc n) m window at h =
    ap₂ {C = List ℕ} ◌∷◌ (numeral-front price_size m window at (omega arith)) (numbers_front n m window (at + price_size) (omega arith))

pub same_numbers : (w z : List ℕ) → take window_size w ≡ take window_size z → window_numbers w ≡ window_numbers z
same_numbers w z e =
    sym (numbers_front most_prices window_size w 0 (omega arith))
    ∙ ap (λ (l : List ℕ). numbers_from most_prices l 0) e
    ∙ numbers_front most_prices window_size z 0 (omega arith)

pub same_keeps : (w z : List ℕ) → take window_size w ≡ take window_size z → window_keeps w ≡ true → window_keeps z ≡ true
unfolding window_keeps
same_keeps w z e k =
    let both : (leb window_size (length w) ≡ true) × (sound_numbers (window_numbers w) ≡ true) = both_true _ _ k in
    let size : window_size ≤ length w = leb-true window_size (length w) both.0 in
    let room : window_size ≤ length z =
    omega (arith, length-take-le window_size w size, ap length e, length-take window_size z, min-le_right window_size (length z)) in
    both_pass (le-leb window_size (length z) room) (ap sound_numbers (sym (same_numbers w z e)) ∙ both.1)

-- A window of bytes that keeps the rules is the image of its prices.
module _ (window : List ℕ) (byte : (i : ℕ) → get_or window i 0 < 256) where
  numbers_written : (n at : ℕ) → at + price_size * n ≤ length window → numbers_image (numbers_from n window at) ≡ take (price_size * n) (drop at window)
  unfolding numbers_image numbers_from
  numbers_written zero at h = refl
  numbers_written (suc n) at h =
      let more : price_size + price_size * n ≡ price_size * suc n = omega arith in
      ap₂ {C = List ℕ} ◌++◌ (number_written window byte price_size at (omega arith))
      (numbers_written n (at + price_size) (omega arith) ∙ ap (take (price_size * n)) (sym (drop-drop price_size at window)))
      ∙ sym (take-add price_size (price_size * n) (drop at window))
      ∙ ap (λ m. take m (drop at window)) more

  pub read-image : window_keeps window ≡ true → window_image (prices_in window) ≡ take window_size window
  read-image e =
      sym (image-with_zeros (prices_in window))
      ∙ ap numbers_image (sym (numbers-are window e))
      ∙ numbers_written most_prices 0 (keeps_size window e)
