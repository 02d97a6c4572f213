-- Reading a window number by number. Assumes nothing.
use mathlib.Core.List.{append-nil}
use Rattle.std.specs.Prelude.{Bool, true, false, cond, List, [], ◌∷◌, ◌++◌, ◌≡◌, ℕ, suc, ◌+◌, ◌*◌, ◌-◌, ◌≤◌, ◌<◌, leb, length, take, drop}
use Rattle.std.specs.Prelude.{Option, Some, None}
use Rattle.std.proofs.Common.{refl, sym, ap, ◌∙◌, subst, arith, ap₂, eq-eqb, ne_eqb, append_assoc, le-leb, take-append-drop, length-take-le, drop_of_length-le}
use Rattle.std.proofs.lemmas.Bool.{false≢true, lt-leb}
use Rattle.std.proofs.lemmas.Option.{none-some}
use Rattle.std.specs.Option.{unwrap_or}
use Rattle.std.proofs.Math.ListN.{length-append}
use Rattle.std.proofs.Math.Seq.{drop-append_seam, take_at}
use Rattle.std.specs.Bool.{then_some}
use Rattle.arrayvec.specs.ArrayVec.{ArrayVec}
use Rattle.base.specs.Choice.{both_pass, both_true, test_cases}
use Rattle.base.specs.ListLaws.{all_append, all_behind}
use Rattle.base.specs.Lists.{all, is_zero}
use Rattle.encoding.specs.Numerals.{numeral_at}
use Rattle.window.specs.PriceLaws.{Holdable}
use Rattle.window.specs.Prices.{Prices, most_prices, price_in_range}
use Rattle.window.specs.Window.{window_size, price_size, numbers_from, window_numbers, before_zero, prices_in, sound_numbers, window_keeps}
use Rattle.window.specs.WindowLaws.{read_holdable, numbers_length, numbers_drop, numbers_zero, before_end, before_more, before_append}
use Rattle.window_calls.specs.Reading.{held_prices, prices_of}

-- the prices before number k of a window that is large enough
pub record PricesReadTo (window : List ℕ) (k : ℕ) (prices : Prices) : Type 0 where
  pub size : window_size ≤ length window
  pub read : prices ≡ take k (window_numbers window)
  pub each : all price_in_range prices ≡ true

-- prices where a test passes
pub prices_then : (t : Bool) (prices : ArrayVec ℕ) → prices_of (then_some t prices) ≡ cond t (Some prices.items) None
prices_then true prices = refl
prices_then false prices = refl

-- a window that is too small
pub read_small : (window : List ℕ) → length window < window_size → held_prices window ≡ None
unfolding held_prices window_keeps
read_small window h = rw (lt-leb window_size (length window) h) refl

module _ (window : List ℕ) where
  pub read_none : window_size ≤ length window → PricesReadTo window 0 []
  unfolding all
  read_none h = record { size = h; read = refl; each = refl }

  module _ (k : ℕ) (prices : Prices) (r : PricesReadTo window k prices) where
    -- the numbers are the prices read and those behind, and whether they keep the rules hangs on these
    behind : List ℕ
    behind = numbers_from (most_prices - k) window (price_size * k)

    numbers : window_numbers window ≡ prices ++ behind
    unfolding behind
    numbers =
        let here : 0 + price_size * k ≡ price_size * k = omega arith in
        sym (take-append-drop k (window_numbers window))
        ∙ ap₂ {C = List ℕ} ◌++◌ (sym r.read)
        (numbers_drop most_prices window 0 k ∙ ap (numbers_from (most_prices - k) window) here)

    found : prices_in window ≡ prices ++ before_zero behind
    unfolding prices_in
    found = ap before_zero numbers ∙ before_append prices behind r.each

    pub read_count : k ≤ most_prices → length prices ≡ k
    read_count h = ap length r.read ∙ length-take-le k (window_numbers window) (omega (arith, h, numbers_length most_prices window 0))

    large : leb window_size (length window) ≡ true
    large = le-leb window_size (length window) r.size

    -- number k
    module _ (inside : k < most_prices) (number : ℕ) (is : number ≡ numeral_at price_size window (price_size * k)) where
      after : List ℕ
      after = numbers_from (most_prices - (k + 1)) window (price_size * (k + 1))

      next : behind ≡ number ∷ after
      unfolding behind after numbers_from
      next =
          let more : most_prices - k ≡ suc (most_prices - (k + 1)) = omega (arith, inside) in
          let there : price_size * k + price_size ≡ price_size * (k + 1) = omega arith in
          ap (λ n. numbers_from n window (price_size * k)) more
          ∙ ap₂ (λ n at. n ∷ numbers_from (most_prices - (k + 1)) window at) (sym is) there

      -- a zero ends the prices: they are held if nothing else stands behind
      pub read_zero : number ≡ 0
          → held_prices window ≡ cond (all is_zero (take (window_size - price_size * k) (drop (price_size * k) window))) (Some prices) None
      unfolding held_prices window_keeps sound_numbers prices_in behind
      read_zero e =
          let are : before_zero (window_numbers window) ≡ prices =
          found ∙ ap (λ (l : List ℕ). prices ++ l) (ap before_zero next ∙ before_end number after (eq-eqb number 0 e)) ∙ append-nil prices in
          let rest : drop (length prices) (window_numbers window) ≡ behind = ap (drop (length prices)) numbers ∙ drop-append_seam prices behind in
          let count : price_size * (most_prices - k) ≡ window_size - price_size * k = omega (arith, inside) in
          let zeros : all is_zero behind ≡ all is_zero (take (window_size - price_size * k) (drop (price_size * k) window)) =
          numbers_zero (most_prices - k) window (price_size * k) (omega (arith, inside, r.size))
          ∙ ap (λ n. all is_zero (take n (drop (price_size * k) window))) count in
          rw (large, are, rest, r.each, zeros) refl

      -- another number that is no price breaks the rules
      pub read_bad : ¬ (number ≡ 0) → price_in_range number ≡ false → held_prices window ≡ None
      unfolding held_prices window_keeps sound_numbers prices_in all
      read_bad some bad =
          let are : before_zero (window_numbers window) ≡ prices ++ (number ∷ before_zero after) =
          found ∙ ap (λ (l : List ℕ). prices ++ l) (ap before_zero next ∙ before_more number after (ne_eqb number 0 some)) in
          let read : List ℕ = number ∷ before_zero after in
          let broken : all price_in_range (prices ++ read) ≡ false =
          test_cases (λ t. t ≡ false) (all price_in_range (prices ++ read))
          (λ e.
          let last : all price_in_range read ≡ true = all_behind price_in_range prices read e in
          absurd (false≢true (sym bad ∙ (both_true (price_in_range number) (all price_in_range (before_zero after)) last).0)))
          (λ _. refl) in
          rw (large, are, broken) refl

      -- a price is read behind the others
      pub read_more : price_in_range number ≡ true → PricesReadTo window (k + 1) (prices ++ (number ∷ []))
      unfolding all behind
      read_more good =
          let split : window_numbers window ≡ (prices ++ (number ∷ [])) ++ after =
          numbers ∙ ap (λ (l : List ℕ). prices ++ l) next ∙ sym (append_assoc prices (number ∷ []) after) in
          let count : length (prices ++ (number ∷ [])) ≡ k + 1 = omega (arith, length-append prices (number ∷ []), read_count (omega (arith, inside))) in
          record {
            size = r.size;
            read = sym (ap (take (k + 1)) split ∙ take_at (prices ++ (number ∷ [])) after (k + 1) count);
            each = all_append price_in_range prices (number ∷ []) r.each (both_pass good refl);
          }

    -- all are read
    pub read_all : k ≡ most_prices → held_prices window ≡ Some prices
    unfolding held_prices window_keeps sound_numbers prices_in behind numbers_from before_zero all
    read_all e =
        let none : behind ≡ [] = ap (λ n. numbers_from (most_prices - n) window (price_size * k)) e in
        let whole : window_numbers window ≡ prices = numbers ∙ ap (λ (l : List ℕ). prices ++ l) none ∙ append-nil prices in
        let are : before_zero (window_numbers window) ≡ prices = found ∙ ap (λ (l : List ℕ). prices ++ l) (ap before_zero none) ∙ append-nil prices in
        let rest : drop (length prices) (window_numbers window) ≡ [] = ap (drop (length prices)) whole ∙ drop_of_length-le prices (omega arith) in
        rw (large, are, rest, r.each) refl

-- What was read of a window, and that it can be held.
pub record PricesHeld (window : List ℕ) (prices : Prices) : Type 0 where
  pub keeps : window_keeps window ≡ true
  pub are : prices ≡ prices_in window
  pub can : Holdable prices

module _ (window : List ℕ) (r : Option (ArrayVec ℕ)) (read : prices_of r ≡ held_prices window) where
  pub read_held : (prices : ArrayVec ℕ) → r ≡ Some prices → PricesHeld window prices.items
  unfolding held_prices
  read_held prices e =
      test_cases (λ t. window_keeps window ≡ t → Some prices.items ≡ cond t (Some (prices_in window)) None → PricesHeld window prices.items)
      (window_keeps window)
      (λ k _ same.
      let are : prices.items ≡ prices_in window = ap (λ o. unwrap_or o []) same in
      record { keeps = k; are = are; can = subst Holdable (sym are) (read_holdable window k) })
      (λ _ _ same. absurd (none-some prices.items (sym same)))
      refl (ap prices_of (sym e) ∙ read)

  pub read_broken : r ≡ None → window_keeps window ≡ false
  unfolding held_prices
  read_broken e =
      test_cases (λ t. None ≡ cond t (Some (prices_in window)) None → t ≡ false) (window_keeps window)
      (λ _ same. absurd (none-some (prices_in window) same)) (λ _ _. refl) (ap prices_of (sym e) ∙ read)
