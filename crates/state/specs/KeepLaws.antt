-- Laws of the state's check and of its start: the two words for a test of every element, a number in range by the word that keeps it.
-- Assumes nothing.
use Rattle.std.specs.Prelude.{Bool, ◌&&◌, List, [], ◌∷◌, map, ◌≡◌, ltb, leb, length, take, drop, replicate}
use Rattle.std.specs.List.{list_all}
use Rattle.std.proofs.Common.{refl, ap, sym, ◌∙◌, leb-true, leb-false, arith}
use Rattle.std.proofs.lemmas.Bool.{lt-leb}
use Rattle.std.proofs.lemmas.List.Folds.{list_all-map}
use Prim.Native.Nat.{ℕ, ◌<◌}
use Rattle.base.specs.Choice.{cond_cases, test_cases}
use Rattle.base.specs.Current.{current, limit}
use Rattle.base.specs.Lists.{all}
use Rattle.calls.specs.Calls.{StartCalled, start_call}
use Rattle.encoding.specs.Buffers.{store_size, first_state, state_left, returns_at, numbers_at, status_number, numbers_in}
use Rattle.encoding.specs.NumeralLaws.{size_low, size_high, lowest, highest, number_between_lem}
use Rattle.encoding.specs.Numerals.{bias, biased, unbiased}
use Rattle.encoding.specs.Splices.{splice}
use Rattle.machine.specs.State.{most_numbers, fresh, fresh_memory}
use Rattle.machine.specs.Step.{most_returns}
use Rattle.values.specs.Numbers.{is_in_range}

-- every element passes, by either word
pub all-list : {A : Type 0} (f : A → Bool) (l : List A) → list_all f l ≡ all f l
unfolding all
all-list f [] = refl
all-list f (x ∷ xs) = ap (λ t. f x && t) (all-list f xs)

-- a word keeps a number in range where it lies between two
pub number_between : (n : ℕ) → (leb lowest n && leb n highest) ≡ is_in_range current (unbiased n)
unfolding is_in_range current
number_between n =
    let in_range = is_in_range current (unbiased n) in
    test_cases (λ t. (t && leb n highest) ≡ in_range) (leb lowest n)
    (λ l.
    test_cases (λ t. t ≡ in_range) (leb n highest)
    (λ h. sym (number_between_lem n (leb-true lowest n l) (leb-true n highest h)))
    (λ h. let high : highest < n = omega (arith, leb-false n highest h) in sym (lt-leb _ limit (omega (arith, size_high n (omega arith))))))
    (λ l. let low : n < lowest = omega (arith, leb-false lowest n l) in sym (lt-leb _ limit (omega (arith, size_low n (omega arith)))))

-- the numbers are in range where each of their words keeps one that is
pub numbers-all : (state : List ℕ)
    → list_all (λ n. is_in_range current (unbiased n)) (take 32 (drop 21 state)) ≡ all (is_in_range current) (numbers_in state)
unfolding numbers_in numbers_at most_numbers
numbers-all state =
    sym (list_all-map (is_in_range current) unbiased (take 32 (drop 21 state)))
    ∙ all-list (is_in_range current) (map unbiased (take 32 (drop 21 state)))

-- zeros with 32 numbers that are 0 written over them are the state before the first step
pub started : splice (replicate 64 0) 21 (replicate 32 140_737_488_355_328) ≡ first_state
unfolding splice first_state state_left returns_at numbers_at status_number most_returns most_numbers fresh fresh_memory biased bias
started = refl

-- whatever the store, starting gives that state
pub start_state : (store : List ℕ) → (start_call store).state ≡ first_state
unfolding start_call
start_state store = cond_cases (λ (s : StartCalled). s.state ≡ first_state) (ltb (length store) store_size) (λ _. refl) (λ _. refl)
