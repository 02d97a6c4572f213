-- Writing the prices of a window. Assumes nothing.
use mathlib.Core.List.{append-nil}
use Rattle.std.specs.Prelude.{List, [], ◌∷◌, ◌++◌, ◌≡◌, ℕ, ◌+◌, ◌*◌, ◌-◌, ◌≤◌, ◌<◌, length, take, drop, get_or, replicate}
use Rattle.std.proofs.Common.{sym, ap, ap₂, ◌∙◌, arith, add-one, length-take-le}
use Rattle.std.proofs.Math.Seq.{take-suc}
use Rattle.encoding.specs.Numerals.{in_bytes}
use Rattle.encoding.specs.Splices.{splice, splice-behind}
use Rattle.window.specs.Calls.{window_with}
use Rattle.window.specs.Prices.{Prices, most_prices}
use Rattle.window.specs.Window.{window_size, price_size, numbers_image, window_image}
use Rattle.window.specs.WindowLaws.{image_append, image_size, prices_size}

-- so many prices can be written to a window
pub record RoomFor (window : List ℕ) (prices : Prices) : Type 0 where
  pub size : window_size ≤ length window
  pub few : length prices ≤ most_prices

-- one price more behind those written
pub write_more : (window : List ℕ) (prices : Prices) (k : ℕ) → k < length prices
    → splice (splice window 0 (numbers_image (take k prices))) (price_size * k) (in_bytes price_size (get_or prices k 0))
    ≡ splice window 0 (numbers_image (take (k + 1) prices))
unfolding numbers_image
write_more window prices k inside =
    let front = numbers_image (take k prices) in
    let price = get_or prices k 0 in
    let number = in_bytes price_size price in
    let place : 0 + length front ≡ price_size * k = omega (arith, prices_size (take k prices), length-take-le k prices (omega (arith, inside))) in
    let image : front ++ number ≡ numbers_image (take (k + 1) prices) =
    ap (λ (l : List ℕ). front ++ l) (sym (append-nil number))
    ∙ sym (image_append (take k prices) (price ∷ []))
    ∙ ap numbers_image (sym (take-suc prices k 0 inside) ∙ ap (λ n. take n prices) (sym (add-one k))) in
    ap (λ at. splice (splice window 0 front) at number) (sym place)
    ∙ splice-behind window 0 front number (omega arith)
    ∙ ap (splice window 0) image

-- and zeros behind all
pub write_all : (window : List ℕ) (prices : Prices) → length prices ≤ most_prices
    → splice (splice window 0 (numbers_image prices)) (price_size * length prices) (replicate (window_size - price_size * length prices) 0)
    ≡ window_with window prices
unfolding window_with window_image splice
write_all window prices few =
    let front = numbers_image prices in
    let zeros : List ℕ = replicate (window_size - price_size * length prices) 0 in
    let place : 0 + length front ≡ price_size * length prices = omega (arith, prices_size prices) in
    let count : window_size - price_size * length prices ≡ price_size * (most_prices - length prices) = omega (arith, few) in
    let image : front ++ zeros ≡ window_image prices = ap (λ n. front ++ replicate n 0) count in
    let end : 0 + length (front ++ zeros) ≡ window_size = omega (arith, ap length image, image_size prices few) in
    ap (λ at. splice (splice window 0 front) at zeros) (sym place)
    ∙ splice-behind window 0 front zeros (omega arith)
    ∙ ap₂ (λ (l : List ℕ) n. l ++ drop n window) image end
