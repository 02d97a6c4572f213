-- `window_calls::write_prices` meets its contract. The loop's invariant: the prices before this one stand at the front.
use Rattle.std.proofs.Common.{arith, refl, ℕ, List, ◌≡◌, ◌<◌, ◌*◌, ◌-◌, length, take, get_or, replicate, take_all, sym, ap, ap₂, ◌∙◌}
use Rattle.encoding.specs.NumeralLaws.{eight_bytes}
use Rattle.encoding.specs.Numerals.{in_bytes}
use Rattle.encoding.specs.Splices.{splice, splice_nil}
use Rattle.window.specs.Window.{numbers_image}
use Rattle.window_calls.specs.WriteLaws.{write_more, write_all}
use Rattle.window_calls.proofs.write_prices.Goals as goal

pub loop-price-init : goal.loop-price-init
unfolding numbers_image
loop-price-init c = (refl, sym (splice_nil c.args.window.now 0))

pub loop-price-preserved : goal.loop-price-preserved
loop-price-preserved c =
    let l = c.loop-price in
    let i = l.invariant in
    let same = c.as_slice-price-items.ensures.value in
    let inside : l.price-index < length c.args.prices.now.items = omega (arith, c.loop-price-test.true, ap length same) in (
      omega (arith, i.0),
      c.write.ensures
          ∙ ap (splice l.window l.at) (c.to_le_bytes.ensures ∙ eight_bytes (get_or c.as_slice-price-items.result.now l.price-index 0))
          ∙ ap₂ (λ (w : List ℕ) at. splice w at (in_bytes 8 (get_or c.as_slice-price-items.result.now l.price-index 0))) i.1 i.0
          ∙ ap (λ (p : List ℕ). splice (splice c.args.window.now 0 (numbers_image (take l.price-index c.args.prices.now.items))) (8 * l.price-index)
          (in_bytes 8 (get_or p l.price-index 0))) same
          ∙ write_more c.args.window.now c.args.prices.now.items l.price-index inside,
    )

pub returns : goal.returns
returns c =
    let l = c.loop-price in
    let i = l.invariant in
    let prices = c.args.prices.now.items in
    let end : l.price-index ≡ length prices =
    omega (arith, c.loop-price-test.false, l.auto.price-index-end, ap length c.as_slice-price-items.ensures.value) in
    let at : l.at ≡ 8 * length prices = i.0 ∙ ap (λ n. 8 * n) end in
    let whole : take l.price-index prices ≡ prices = take_all l.price-index prices (omega (arith, end)) in
    c.blank.ensures
    ∙ ap₂ (λ (w : List ℕ) place. splice w place (replicate (256 - place) 0)) (i.1 ∙ ap (λ (p : List ℕ). splice c.args.window.now 0 (numbers_image p)) whole) at
    ∙ write_all c.args.window.now prices c.requires.few
