-- The calls on a window that holds the last 32 of the prices that count: what they answer, and which prices it holds then. The rules hold exactly of
-- what calls make of an empty window. A call that keeps its equation keeps its whole promise. Assumes nothing.
use mathlib.Core.List.{append-nil}
use Rattle.std.specs.Prelude.{true, false, cond, List, [], ◌∷◌, ◌++◌, ◌≡◌, ℕ, ◌<◌, get_or, take, drop, replicate}
use Rattle.std.proofs.Common.{refl, sym, ap, ◌∙◌, subst, arith, append_assoc, take_all, take-append-drop}
use Rattle.std.proofs.Math.Seq.{take_at}
use Rattle.std.proofs.lemmas.List.{length-replicate}
use Rattle.base.specs.Choice.{both_true, test_cases}
use Rattle.base.specs.Lists.{all, keep}
use Rattle.window.specs.Calls.{TakeCalled, price_turned_down, window_with, price_taken, take_call, AskCalled, ask_call}
use Rattle.window.specs.Claims.{Observed, observed_take, observed_ask, Linked, Empty, History, worked_out, ListClaim, TakePromise, AskPromise}
use Rattle.window.specs.PriceLaws.{Holdable, holdable-none, with_holdable, summary-none, last_few, last_with, counted_with, counted_without, counted_all}
use Rattle.window.specs.Prices.{Prices, price_in_range, prices_counted, last_prices, with_price, summary_of, four_zeros}
use Rattle.window.specs.Window.{window_size, before_zero, numbers_image, window_image, prices_in, window_keeps}
use Rattle.window.specs.WindowLaws.{image_size, image-read, image_sound, read_holdable, read-image, same_numbers, same_keeps}

-- What each call is, as it goes.
module _ (window : List ℕ) where
  module _ (price : ℕ) where
    pub take_broken : window_keeps window ≡ false → take_call window price ≡ price_turned_down 14 window
    unfolding take_call
    take_broken e = rw e refl

    pub take_refused : window_keeps window ≡ true → price_in_range price ≡ false → take_call window price ≡ price_turned_down 25 window
    unfolding take_call
    take_refused e f = rw (e, f) refl

    pub take_does : window_keeps window ≡ true → price_in_range price ≡ true → take_call window price ≡ price_taken window price
    unfolding take_call
    take_does e f = rw (e, f) refl

    -- whatever holds of all three ways holds of the call
    take_ways : (P : TakeCalled → Type 0) → P (price_turned_down 14 window) → P (price_turned_down 25 window) → P (price_taken window price)
        → P (take_call window price)
    take_ways P broken refused done =
        test_cases (λ k. window_keeps window ≡ k → P (take_call window price)) (window_keeps window)
        (λ k _.
        test_cases (λ p. price_in_range price ≡ p → P (take_call window price)) (price_in_range price)
        (λ p _. subst P (sym (take_does k p)) done)
        (λ p _. subst P (sym (take_refused k p)) refused) refl)
        (λ k _. subst P (sym (take_broken k)) broken) refl

  pub ask_broken : window_keeps window ≡ false → ask_call window ≡ record { number = 14; summary = four_zeros }
  unfolding ask_call
  ask_broken e = rw e refl

  pub ask_does : window_keeps window ≡ true → ask_call window ≡ record { number = 0; summary = summary_of (prices_in window) }
  unfolding ask_call
  ask_does e = rw e refl

-- a call turned down changes nothing and answers four zeros
turned_down : (window : List ℕ) (price : ℕ) → ¬ ((take_call window price).number ≡ 0)
    → ((take_call window price).left ≡ window) × ((take_call window price).summary ≡ four_zeros)
unfolding price_turned_down price_taken
turned_down window price =
    take_ways window price (λ x. ¬ (x.number ≡ 0) → (x.left ≡ window) × (x.summary ≡ four_zeros))
    (λ _. (refl, refl)) (λ _. (refl, refl)) (λ n. absurd (n refl))

asking_zeros : (window : List ℕ) → ¬ ((ask_call window).number ≡ 0) → (ask_call window).summary ≡ four_zeros
unfolding ask_call
asking_zeros window =
    test_cases
    (λ t. let back = cond {A = AskCalled} t (record { number = 0; summary = summary_of (prices_in window) }) (record { number = 14; summary = four_zeros }) in
    ¬ (back.number ≡ 0) → back.summary ≡ four_zeros)
    (window_keeps window) (λ _ n. absurd (n refl)) (λ _ _. refl)

-- A window that keeps its rules and holds the last 32 of the prices offered that count.
pub record WindowHeld (window : List ℕ) (offered : Prices) : Type 0 where
  pub keeps : window_keeps window ≡ true
  pub holds : prices_in window ≡ last_prices (prices_counted offered)

-- what stands behind the first 256 bytes doesn't count
same_held : (w z : List ℕ) (offered : Prices) → take window_size w ≡ take window_size z → WindowHeld w offered → WindowHeld z offered
unfolding prices_in
same_held w z offered e h =
    record { keeps = same_keeps w z e h.keeps; holds = ap before_zero (sym (same_numbers w z e)) ∙ h.holds }

-- all zeros is the empty window, and asking it answers four zeros
pub zeros-image : window_image [] ≡ replicate window_size 0
unfolding window_image numbers_image
zeros-image = refl

pub empty_held : (window : List ℕ) → Empty window → WindowHeld window []
unfolding last_prices prices_counted keep
empty_held window e =
    let whole : window_image [] ++ drop window_size window ≡ window =
    ap (λ l. l ++ drop window_size window) (zeros-image ∙ sym e) ∙ take-append-drop window_size window in
    record {
      keeps = subst (λ w. window_keeps w ≡ true) whole (image_sound [] holdable-none (drop window_size window));
      holds = subst (λ w. prices_in w ≡ []) whole (image-read [] holdable-none (drop window_size window));
    }

-- A price offered to such a window, with what came back: W13.5 and W13.3; and the window left holds the last 32 with it.
record Taken (offered : Prices) (price : ℕ) (back : TakeCalled) : Type 0 where
  pub number : back.number ≡ cond (price_in_range price) 0 25
  pub summary : back.summary ≡ cond (price_in_range price) (worked_out (offered ++ (price ∷ []))) four_zeros
  pub held : WindowHeld back.left (offered ++ (price ∷ []))

-- The calls on such a window.
module _ (window : List ℕ) (offered : Prices) (h : WindowHeld window offered) where
  module _ (price : ℕ) (in_range : price_in_range price ≡ true) where
    -- the prices held with it are the last 32, and can be held
    held_more : with_price (prices_in window) price ≡ last_prices (prices_counted (offered ++ (price ∷ [])))
    held_more =
        ap (λ (l : Prices). with_price l price) h.holds
        ∙ last_with (prices_counted offered) price
        ∙ ap last_prices (sym (counted_with offered price in_range))

    can_more : Holdable (with_price (prices_in window) price)
    can_more = with_holdable (prices_in window) price (read_holdable window h.keeps) in_range

    price_held : WindowHeld (price_taken window price).left (offered ++ (price ∷ []))
    unfolding price_taken window_with
    price_held =
        let prices = with_price (prices_in window) price in
        record {
          keeps = image_sound prices can_more (drop window_size window);
          holds = image-read prices can_more (drop window_size window) ∙ held_more;
        }

    price_image : take window_size (price_taken window price).left ≡ window_image (last_prices (prices_counted (offered ++ (price ∷ []))))
    unfolding price_taken window_with
    price_image =
        let prices = with_price (prices_in window) price in
        take_at (window_image prices) (drop window_size window) window_size (image_size prices can_more.few) ∙ ap window_image held_more

  taken : (price : ℕ) (back : TakeCalled) → back ≡ take_call window price → Taken offered price back
  unfolding price_turned_down price_taken worked_out
  taken price back does =
      test_cases (λ t. price_in_range price ≡ t → Taken offered price back) (price_in_range price)
      (λ p _.
      let is = does ∙ take_does window price h.keeps p in
      record {
        number = ap (λ (x : TakeCalled). x.number) is ∙ ap (λ t. cond t 0 25) (sym p);
        summary = ap (λ (x : TakeCalled). x.summary) is ∙ ap summary_of (held_more price p)
            ∙ ap (λ t. cond t (worked_out (offered ++ (price ∷ []))) four_zeros) (sym p);
        held = subst (λ (x : TakeCalled). WindowHeld x.left (offered ++ (price ∷ []))) (sym is) (price_held price p);
      })
      (λ p _.
      let is = does ∙ take_refused window price h.keeps p in
      record {
        number = ap (λ (x : TakeCalled). x.number) is ∙ ap (λ t. cond t 0 25) (sym p);
        summary = ap (λ (x : TakeCalled). x.summary) is ∙ ap (λ t. cond t (worked_out (offered ++ (price ∷ []))) four_zeros) (sym p);
        held = subst (λ (x : TakeCalled). WindowHeld x.left (offered ++ (price ∷ []))) (sym is)
            (record { keeps = h.keeps; holds = h.holds ∙ ap last_prices (sym (counted_without offered price p)) });
      })
      refl

  asked : (back : AskCalled) → back ≡ ask_call window → (back.number ≡ 0) × (back.summary ≡ worked_out offered)
  unfolding worked_out
  asked back does =
      let is = does ∙ ask_does window h.keeps in
      (ap (λ (x : AskCalled). x.number) is, ap (λ (x : AskCalled). x.summary) is ∙ ap summary_of h.holds)

-- W13.6 "an empty window" answers "four zeros"
pub empty_asked : (window : List ℕ) → Empty window → ask_call window ≡ record { number = 0; summary = four_zeros }
unfolding last_prices prices_counted keep
empty_asked window e =
    let h = empty_held window e in
    ask_does window h.keeps ∙ ap (λ s. record { number = 0; summary = s }) (ap summary_of h.holds ∙ summary-none)

-- A list of calls on a window that holds the last 32 of these prices, and one call more, of which the claim holds whatever was offered before it.
list_claim : (window : List ℕ) (offered : Prices) (calls : List Observed) (given : List ℕ) (call : Observed) → WindowHeld window offered
    → Linked window calls given
    → ((all_offered : Prices) → WindowHeld given all_offered → ListClaim all_offered (call ∷ []))
    → ListClaim offered (calls ++ (call ∷ []))
unfolding Linked ListClaim
list_claim window offered [] given call h same last = last offered (same_held window given offered same h)
list_claim window offered (observed_take w price back ∷ calls) given call h (at, does, linked) last =
    let t = taken w offered (same_held window w offered at h) price back does in
    (t.number, t.summary, list_claim back.left (offered ++ (price ∷ [])) calls given call t.held linked last)
list_claim window offered (observed_ask w back ∷ calls) given call h (at, does, linked) last =
    let here = same_held window w offered at h in
    let is = asked w offered here back does in
    (is.0, is.1, list_claim w offered calls given call here linked last)

-- the claim of every history that ends with a call
carries : (window : List ℕ) (call : Observed) → ((offered : Prices) → WindowHeld window offered → ListClaim offered (call ∷ []))
    → (h : History window) → ListClaim [] (h.calls ++ (call ∷ []))
carries window call last h = list_claim h.start [] h.calls window call (empty_held h.start h.empty) h.linked last

-- A call that keeps its equation keeps its whole promise.
pub take_promise : (window : List ℕ) (price : ℕ) (back : TakeCalled) → back ≡ take_call window price → TakePromise window price back
unfolding ListClaim
take_promise window price back does =
    record {
      does = does;
      keeps = subst (λ (x : TakeCalled). ¬ (x.number ≡ 0) → (x.left ≡ window) × (x.summary ≡ four_zeros)) (sym does) (turned_down window price);
      list = carries window (observed_take window price back)
          (λ offered h. let t = taken window offered h price back does in (t.number, t.summary, tt));
    }

pub ask_promise : (window : List ℕ) (back : AskCalled) → back ≡ ask_call window → AskPromise window back
unfolding ListClaim
ask_promise window back does =
    record {
      does = does;
      zeros = subst (λ (x : AskCalled). ¬ (x.number ≡ 0) → x.summary ≡ four_zeros) (sym does) (asking_zeros window);
      list = carries window (observed_ask window back) (λ offered h. let is = asked window offered h back does in (is.0, is.1, tt));
    }

-- The rules hold exactly of what calls make of an empty window: what they leave keeps the rules, and holds the last 32 of the prices offered that
-- count.
unfoldable pub prices_offered : List Observed → Prices
prices_offered [] = []
prices_offered (observed_take given price back ∷ calls) = price ∷ prices_offered calls
prices_offered (observed_ask given back ∷ calls) = prices_offered calls

linked_held : (window : List ℕ) (offered : Prices) (calls : List Observed) (left : List ℕ) → WindowHeld window offered → Linked window calls left
    → WindowHeld left (offered ++ prices_offered calls)
unfolding Linked prices_offered
linked_held window offered [] left h same =
    subst (WindowHeld left) (sym (append-nil offered)) (same_held window left offered same h)
linked_held window offered (observed_take w price back ∷ calls) left h (at, does, linked) =
    let t = taken w offered (same_held window w offered at h) price back does in
    subst (WindowHeld left) (append_assoc offered (price ∷ []) (prices_offered calls))
    (linked_held back.left (offered ++ (price ∷ [])) calls left t.held linked)
linked_held window offered (observed_ask w back ∷ calls) left h (at, does, linked) =
    linked_held w offered calls left (same_held window w offered at h) linked

pub history_held : (window : List ℕ) (h : History window) → WindowHeld window (prices_offered h.calls)
history_held window h = linked_held h.start [] h.calls window (empty_held h.start h.empty) h.linked

-- And each window of bytes that keeps the rules is left by calls: of its prices, one after another, from zeros on.
unfoldable pub takes : (window : List ℕ) → Prices → List Observed
takes window [] = []
takes window (price ∷ prices) = let back = take_call window price in observed_take window price back ∷ takes back.left prices

record TakesLeft (window : List ℕ) (offered : Prices) (calls : List Observed) : Type 0 where
  pub left : List ℕ
  pub linked : Linked window calls left
  pub image : take window_size left ≡ window_image (last_prices (prices_counted offered))

takes_left : (window : List ℕ) (offered prices : Prices) → WindowHeld window offered
    → take window_size window ≡ window_image (last_prices (prices_counted offered)) → all price_in_range prices ≡ true
    → TakesLeft window (offered ++ prices) (takes window prices)
unfolding takes Linked all
takes_left window offered [] h image e =
    record { left = window; linked = refl; image = image ∙ ap (λ (l : Prices). window_image (last_prices (prices_counted l))) (sym (append-nil offered)) }
takes_left window offered (price ∷ prices) h image e =
    let both : (price_in_range price ≡ true) × (all price_in_range prices ≡ true) = both_true _ _ e in
    let back = take_call window price in
    let is : back ≡ price_taken window price = take_does window price h.keeps both.0 in
    let next : take window_size back.left ≡ window_image (last_prices (prices_counted (offered ++ (price ∷ [])))) =
    ap (λ (x : TakeCalled). take window_size x.left) is ∙ price_image window offered h price both.0 in
    let rest = takes_left back.left (offered ++ (price ∷ [])) prices (taken window offered h price back refl).held next both.1 in
    record {
      left = rest.left;
      linked = (refl, refl, rest.linked);
      image = rest.image ∙ ap (λ (l : Prices). window_image (last_prices (prices_counted l))) (append_assoc offered (price ∷ []) prices);
    }

linked_to : (window : List ℕ) (calls : List Observed) (left other : List ℕ) → take window_size left ≡ take window_size other → Linked window calls left
    → Linked window calls other
unfolding Linked
linked_to window [] left other same e = e ∙ same
linked_to window (observed_take w price back ∷ calls) left other same (at, does, linked) =
    (at, does, linked_to back.left calls left other same linked)
linked_to window (observed_ask w back ∷ calls) left other same (at, does, linked) = (at, does, linked_to w calls left other same linked)

-- a window of zeros
zeros_empty : Empty (replicate window_size 0)
zeros_empty = take_all window_size (replicate window_size 0) (omega (arith, length-replicate {A = ℕ} window_size 0))

pub keeps_history : (window : List ℕ) → ((i : ℕ) → get_or window i 0 < 256) → window_keeps window ≡ true
    → (h : History window) × (h.calls ≡ takes (replicate window_size 0) (prices_in window))
unfolding last_prices prices_counted keep
keeps_history window byte e =
    let start : List ℕ = replicate window_size 0 in
    let prices = prices_in window in
    let h = read_holdable window e in
    let left = takes_left start [] prices (empty_held start zeros_empty) (zeros_empty ∙ sym zeros-image) h.each in
    let same : take window_size left.left ≡ take window_size window =
    left.image ∙ ap window_image (ap last_prices (counted_all prices h.each) ∙ last_few prices h.few) ∙ read-image window byte e in (
      record {
        start = start;
        empty = zeros_empty;
        calls = takes start prices;
        linked = linked_to start (takes start prices) left.left window same left.linked;
      },
      refl,
    )
