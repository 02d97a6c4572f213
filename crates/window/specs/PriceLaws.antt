-- Laws of prices: the last 32 of a list are told by the last 32 of its beginning and the price behind it; what counts with one offered more; lowest
-- and highest are held and bound the others; the sum's bound. Assumes nothing.
use mathlib.Core.List.{append-nil}
use Rattle.std.specs.Prelude.{Bool, true, false, List, [], ◌∷◌, ◌++◌, ◌≡◌, ◌||◌, eqb, leb, ℕ, ◌+◌, ◌*◌, ◌-◌, ◌≤◌, ◌<◌, length, drop, min, max}
use Rattle.std.proofs.Common.{refl, sym, ap, ◌∙◌, arith, inl, inr, eq-eqb, leb-true, leb-false, le-leb, length-drop}
use Rattle.std.proofs.Math.ListN.{length-append}
use Rattle.std.proofs.Math.Nat.{min-eq_left, min-eq_right, max-eq_left, max-eq_right}
use Rattle.std.proofs.Math.Seq.{drop-drop, drop-append-le}
use Rattle.std.proofs.lemmas.List.Sums.{sum_by-cons}
use Rattle.std.specs.List.{sum, fold}
use Rattle.base.specs.Choice.{both_true, both_pass, either_true, true_behind, test_cases}
use Rattle.base.specs.ListLaws.{all_append, all_drop, keep_all, keep_append}
use Rattle.base.specs.Lists.{all, among, keep}
use Rattle.cards.specs.Bytes.{between}
use Rattle.window.specs.Prices.{Prices, price_limit, most_prices, price_in_range, prices_counted, last_prices, with_price, lowest_price, highest_price, summary_of, four_zeros}

-- prices that a window can hold
pub record Holdable (prices : Prices) : Type 0 where
  pub each : all price_in_range prices ≡ true
  pub few : length prices ≤ most_prices

-- no prices
pub holdable-none : Holdable []
unfolding all
holdable-none = record { each = refl; few = omega arith }

-- W13.6 "an empty window" answers "four zeros"
pub summary-none : summary_of [] ≡ four_zeros
unfolding summary_of lowest_price highest_price
summary-none = refl

-- at most 32 prices are the last 32, and there are never more
pub last_few : (prices : Prices) → length prices ≤ most_prices → last_prices prices ≡ prices
unfolding last_prices
last_few prices h =
    let none : length prices - most_prices ≡ 0 = omega arith in
    ap (λ n. drop n prices) none

pub last_length : (prices : Prices) → length (last_prices prices) ≤ most_prices
unfolding last_prices
last_length prices = omega (arith, length-drop (length prices - most_prices) prices)

-- a price behind the last 32 and one behind all: the last 32 are the same
pub last_with : (prices : Prices) (price : ℕ) → with_price (last_prices prices) price ≡ last_prices (prices ++ (price ∷ []))
unfolding with_price last_prices
last_with prices price =
    let n = length prices - most_prices in
    let held = drop n prices in
    let one : List ℕ = price ∷ [] in
    let front : drop n (prices ++ one) ≡ held ++ one = drop-append-le n prices one (omega arith) in
    let count : n + (length (held ++ one) - most_prices) ≡ length (prices ++ one) - most_prices =
    omega (arith, length-append held one, length-append prices one, length-drop n prices) in
    ap (drop (length (held ++ one) - most_prices)) (sym front)
    ∙ drop-drop (length (held ++ one) - most_prices) n (prices ++ one)
    ∙ ap (λ m. drop m (prices ++ one)) count

-- a price in range behind others that can be held
pub with_holdable : (prices : Prices) (price : ℕ) → Holdable prices → price_in_range price ≡ true → Holdable (with_price prices price)
unfolding with_price last_prices all
with_holdable prices price h e =
    let more = prices ++ (price ∷ []) in
    record {
      each = all_drop price_in_range (length more - most_prices) more (all_append price_in_range prices (price ∷ []) h.each (both_pass e refl));
      few = last_length more;
    }

-- what counts of the prices offered, with one more: it counts too, or nothing more does
counted_more : (offered : Prices) (price : ℕ) (counts : Bool) → price_in_range price ≡ counts
    → prices_counted (offered ++ (price ∷ [])) ≡ prices_counted offered ++ (elim counts as (λ _. Prices) [ true ↦ price ∷ [] | false ↦ [] ])
unfolding prices_counted keep
counted_more offered price counts e =
    keep_append price_in_range offered (price ∷ [])
    ∙ ap (λ t. prices_counted offered ++ (elim t as (λ _. Prices) [ true ↦ price ∷ [] | false ↦ [] ])) e

pub counted_with : (offered : Prices) (price : ℕ) → price_in_range price ≡ true
    → prices_counted (offered ++ (price ∷ [])) ≡ prices_counted offered ++ (price ∷ [])
counted_with offered price e = counted_more offered price true e

pub counted_without : (offered : Prices) (price : ℕ) → price_in_range price ≡ false → prices_counted (offered ++ (price ∷ [])) ≡ prices_counted offered
counted_without offered price e = counted_more offered price false e ∙ append-nil (prices_counted offered)

pub counted_all : (prices : Prices) → all price_in_range prices ≡ true → prices_counted prices ≡ prices
unfolding prices_counted
counted_all prices e = keep_all price_in_range prices e

-- the bounds of a price
pub price_bounds : (price : ℕ) → price_in_range price ≡ true → (1 ≤ price) × (price ≤ price_limit)
unfolding price_in_range between
price_bounds price e =
    let both = both_true _ _ e in
    (leb-true 1 price both.0, leb-true price price_limit both.1)

-- A number that is one of some prices and bounds them all.
pub record Extreme (bounds : ℕ → ℕ → Bool) (number : ℕ) (prices : Prices) : Type 0 where
  pub held : among number prices ≡ true
  pub bound : all (bounds number) prices ≡ true

-- A choice of the one of two numbers that bounds the other.
record Chooses (bounds : ℕ → ℕ → Bool) (choice : ℕ → ℕ → ℕ) : Type 0 where
  pub first : (a b : ℕ) → bounds a b ≡ true → choice a b ≡ a
  pub second : (a b : ℕ) → bounds a b ≡ false → choice a b ≡ b
  pub other : (a b : ℕ) → bounds a b ≡ false → bounds b a ≡ true
  pub own : (a : ℕ) → bounds a a ≡ true
  pub further : (a b c : ℕ) → bounds a b ≡ true → bounds b c ≡ true → bounds a c ≡ true

module _ (bounds : ℕ → ℕ → Bool) (choice : ℕ → ℕ → ℕ) (c : Chooses bounds choice) where
  -- one more number, which is bounded or bounds, may stand before or behind the first
  extreme_first : (n a b : ℕ) (prices : Prices) → bounds a b ≡ true → Extreme bounds n (a ∷ prices) → Extreme bounds n (a ∷ (b ∷ prices))
  unfolding among all
  extreme_first n a b prices e h =
      let parts : (bounds n a ≡ true) × (all (bounds n) prices ≡ true) = both_true _ _ h.bound in
      record {
        held = elim (either_true (eqb n a) (among n prices) h.held) [
          | inl is ↦ rw is refl
          | inr is ↦ true_behind (eqb n a) (eqb n b || among n prices) (true_behind (eqb n b) (among n prices) is)
        ];
        bound = both_pass parts.0 (both_pass (c.further n a b parts.0 e) parts.1);
      }

  extreme_second : (n a b : ℕ) (prices : Prices) → bounds b a ≡ true → Extreme bounds n (b ∷ prices) → Extreme bounds n (a ∷ (b ∷ prices))
  unfolding among all
  extreme_second n a b prices e h =
      let parts : (bounds n b ≡ true) × (all (bounds n) prices ≡ true) = both_true _ _ h.bound in
      record {
        held = true_behind (eqb n a) (eqb n b || among n prices) h.held;
        bound = both_pass (c.further n b a parts.0 e) h.bound;
      }

  folded : (price : ℕ) (prices : Prices) → Extreme bounds (fold choice price prices) (price ∷ prices)
  unfolding among all
  folded price [] = record { held = rw (eq-eqb price price refl) refl; bound = both_pass (c.own price) refl }
  folded price (next ∷ prices) =
      test_cases (λ t. bounds price next ≡ t → Extreme bounds (fold choice (choice price next) prices) (price ∷ (next ∷ prices))) (bounds price next)
      (λ e _. rw (c.first price next e) (extreme_first (fold choice price prices) price next prices e (folded price prices)))
      (λ e _. rw (c.second price next e)
      (extreme_second (fold choice next prices) price next prices (c.other price next e) (folded next prices)))
      refl

min_chooses : Chooses leb min
min_chooses =
    record {
      first = λ a b e. min-eq_left (leb-true a b e);
      second = λ a b e. min-eq_right (omega (arith, leb-false a b e));
      other = λ a b e. le-leb b a (omega (arith, leb-false a b e));
      own = λ a. le-leb a a (omega arith);
      further = λ a b c h g. le-leb a c (omega (arith, leb-true a b h, leb-true b c g));
    }

max_chooses : Chooses (λ a b. leb b a) max
max_chooses =
    record {
      first = λ a b e. max-eq_left (leb-true b a e);
      second = λ a b e. max-eq_right (omega (arith, leb-false b a e));
      other = λ a b e. le-leb a b (omega (arith, leb-false b a e));
      own = λ a. le-leb a a (omega arith);
      further = λ a b c h g. le-leb c a (omega (arith, leb-true b a h, leb-true c b g));
    }

-- the lowest of some prices is one of them and not above any, the highest one of them and not below any
pub lowest_is : (prices : Prices) → 0 < length prices → Extreme leb (lowest_price prices) prices
unfolding lowest_price
lowest_is [] h = absurd (omega arith)
lowest_is (price ∷ prices) h = folded leb min min_chooses price prices

pub highest_is : (prices : Prices) → 0 < length prices → Extreme (λ a b. leb b a) (highest_price prices) prices
unfolding highest_price
highest_is [] h = absurd (omega arith)
highest_is (price ∷ prices) h = folded (λ a b. leb b a) max max_chooses price prices

-- the sum of prices in range is not above their count times the highest price
pub sum_most : (prices : Prices) → all price_in_range prices ≡ true → sum prices ≤ price_limit * length prices
unfolding all
sum_most [] e = omega arith
sum_most (price ∷ prices) e =
    let both : (price_in_range price ≡ true) × (all price_in_range prices ≡ true) = both_true _ _ e in
    omega (arith, sum_most prices both.1, price_bounds price both.0, sum_by-cons (λ x. x) price prices)

pub sum_bound : (prices : Prices) → Holdable prices → sum prices ≤ 31_999_968
sum_bound prices h = omega (arith, sum_most prices h.each, h.few)
