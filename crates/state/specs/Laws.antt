-- What the writes of a step are to the machine: numbers that leave a machine's state, kept so by each write. A step starts from numbers
-- that hold the machine (holding-leaves), has one law for each write, and ends at state_left (leaves_all). Assumes nothing.
use Rattle.std.specs.Prelude.{true, false, cond, ◌≡◌, eqb, ℤ, drop}
use mathlib.Core.List.{List, [], ◌∷◌, ◌++◌, map, reverse, reverse-cons, reverse-reverse}
use Rattle.std.proofs.Math.Path.{refl, sym, ap}
use Rattle.std.proofs.Common.{◌∙◌, subst, take-append-drop, drop-cons, length-take-le, get_or-drop, get_or-take, ext_get_or, take-take, eqb-true}
use Prim.Native.Nat.{ℕ, zero, suc, ◌+◌, ◌-◌, ◌≤◌, ◌<◌}
use Rattle.std.proofs.Math.Numerals.{add-one}
use native.Mathlib.Omega.{arith}
use Rattle.std.proofs.Math.ListN.{length, take, get_or, set, length-drop, length-set}
use Rattle.std.proofs.lemmas.List.{length-reverse}
use Rattle.std.proofs.Math.Seq.{take-suc-set, take-set-le, take-set-lt, drop-set-lt, drop-set-add, take_at, get_or-append_seam, get_or-set_other}
use Rattle.base.specs.Choice.{cond_cases, test_cases}
use Rattle.base.specs.Edition.{Edition}
use Rattle.base.specs.ListLaws.{length_stretch, get_or_stretch}
use Rattle.encoding.specs.Buffers.{returns_at, numbers_at, status_number, status_of, returns_in, numbers_in, state_keeps, state_in, state_left}
use Rattle.calls.specs.Calls.{Buffers}
use Rattle.calls.specs.GivenLaws.{StateInRange, state_in_range, returns-count}
use Rattle.calls.specs.Holding.{Holding}
use Rattle.encoding.specs.NumeralLaws.{numbers-same}
use Rattle.encoding.specs.Numerals.{biased}
use Rattle.calls.specs.StopLaws.{five_front, behind_five}
use Rattle.syntax.specs.Program.{Program}
use Rattle.machine.specs.State.{running, finished, stopped, is_running, Memory, State, most_numbers, with_number, going_to, with_returns, with_input, with_output, with_status}
use Rattle.machine.specs.Step.{most_returns, returning}

-- the five numbers in front
abbrev pub front_of : (input : List ℕ) → State → List ℕ
front_of input c =
    status_number c.status ∷ (c.next ∷ (length c.returns ∷ ((length input - length c.input) ∷ (length c.output ∷ []))))

-- The numbers left say what the machine c holds; in places that don't count they are those of the state that a step was given.
pub record StateLeaves (state input : List ℕ) (c : State) (left : List ℕ) : Type 0 where
  pub same_size : length left ≡ length state
  pub size : length left ≡ 64
  pub few : length c.returns ≤ 16
  pub front : take 5 left ≡ front_of input c
  pub returns : take (length c.returns) (drop 5 left) ≡ reverse c.returns
  pub unheld : (i : ℕ) → 5 + length c.returns ≤ i → i < 21 → get_or left i 0 ≡ get_or state i 0
  pub numbers : take 32 (drop 21 left) ≡ map biased c.memory.numbers
  pub behind : drop 53 left ≡ drop 53 state

-- a number set in front of them leaves the numbers as they are
pub numbers_stay : (state : List ℕ) (i x : ℕ) → i < 21 → numbers_in (set state i x) ≡ numbers_in state
unfolding numbers_in numbers_at
numbers_stay state i x h = rw (drop-set-lt 21 state i x h)

-- the numbers in front, the returns held and not, the numbers and the rest
parts : (l : List ℕ) (n : ℕ) → n ≤ 16
    → l ≡ take 5 l ++ (take n (drop 5 l) ++ (take (16 - n) (drop (5 + n) l) ++ (take 32 (drop 21 l) ++ drop 53 l)))
parts l n few = rw (behind_five l n few) (sym (take-append-drop 5 l))

-- two stretches with the same numbers are the same
same_stretch : (l r : List ℕ) (at n : ℕ) → length l ≡ length r → at + n ≤ length l
    → ((i : ℕ) → at ≤ i → i < at + n → get_or l i 0 ≡ get_or r i 0)
    → take n (drop at l) ≡ take n (drop at r)
same_stretch l r at n sizes fits same =
    let left : length (take n (drop at l)) ≡ n = length_stretch l at n fits in
    let right : length (take n (drop at r)) ≡ n = length_stretch r at n (omega arith) in
    ext_get_or 0 (take n (drop at l)) (take n (drop at r)) (left ∙ sym right)
    (λ i h.
    let below : i < n = omega arith in
    rw (get_or_stretch l at n i below, get_or_stretch r at n i below) (same (at + i) (omega arith) (omega arith)))

-- they are what is left of the state
pub leaves_all : {state input : List ℕ} {c : State} {left : List ℕ} → StateLeaves state input c left → left ≡ state_left state input c
unfolding state_left returns_at numbers_at most_returns most_numbers
leaves_all {state} {input} {c} {left} g =
    let n = length c.returns in
    let few : n ≤ 16 = g.few in
    let places : 5 + n + (16 - n) ≡ 21 = omega arith in
    let unheld = same_stretch left state (5 + n) (16 - n) g.same_size (omega (arith, g.size)) (λ i h k. g.unheld i h (omega arith)) in
    parts left n few ∙ (λ i. g.front i ++ (g.returns i ++ (unheld i ++ (g.numbers i ++ g.behind i))))

-- a machine runs where its status number is 0
pub running_number : (n : ℕ) → eqb n 0 ≡ is_running (status_of n)
unfolding status_of is_running
running_number n =
    test_cases (λ t. t ≡ is_running (cond t running (cond (eqb n 1) finished stopped))) (eqb n 0) (λ _. refl)
    (λ _. cond_cases (λ x. false ≡ is_running x) (eqb n 1) (λ _. refl) (λ _. refl))

-- the first five numbers
five : (l : List ℕ) → 5 ≤ length l → take 5 l ≡ get_or l 0 0 ∷ (get_or l 1 0 ∷ (get_or l 2 0 ∷ (get_or l 3 0 ∷ (get_or l 4 0 ∷ []))))
five l h = ap (take 5) (drop-cons l 0 0 (omega arith) ∙ ap (λ (r : List ℕ). get_or l 0 0 ∷ r) (five_front l h))

-- the state as it is given to a step leaves the machine that is given, if that runs
module _ (e : Edition) (steps : ℕ) (store state input output : List ℕ) (size : length state ≡ 64)
    (facts : StateInRange e steps (length input) (length output) state) where
  given_leaves : get_or state 0 0 ≡ 0 → StateLeaves state input (state_in store state input output) state
  unfolding state_in returns_in numbers_in returns_at numbers_at most_returns most_numbers status_number status_of
  given_leaves runs =
      let n = get_or state 2 0 in
      let held = take n (drop 5 state) in
      let few : n ≤ 16 = facts.count in
      let status : get_or state 0 0 ≡ status_number (status_of (get_or state 0 0)) = rw runs in
      let count : length (reverse held) ≡ n = returns-count state (omega arith) in
      let place : get_or state 3 0 ≡ length input - length (drop (get_or state 3 0) input) = simp length-drop (omega (arith, facts.place)) in
      let written = sym (length-take-le (get_or state 4 0) output facts.written) in
      record {
        same_size = refl;
        size = size;
        few = omega arith;
        front =
            five state (omega arith)
            ∙ (λ i. status i ∷ (get_or state 1 0 ∷ (sym count i ∷ (place i ∷ (written i ∷ [])))));
        returns = ap (λ (k : ℕ). take k (drop 5 state)) count ∙ sym (reverse-reverse held);
        unheld = λ i h k. refl;
        numbers = sym (numbers-same (take 32 (drop 21 state)));
        behind = refl;
      }

pub holding-leaves : {e : Edition} {p : Program} {lent : ℕ} {input : List ℕ} {c : State} {b : Buffers}
    → Holding e p lent input c b
    → is_running c.status ≡ true
    → StateLeaves b.state input c b.state
unfolding state_in
holding-leaves {e} {p} {lent} {input} {c} {b} h runs =
    let keeps = ap (λ (n : ℕ). state_keeps e (length p.steps) (length input) n b.state) h.output_length ∙ h.state_good in
    let facts = state_in_range e (length p.steps) (length input) (length b.output) b.state keeps in
    let status = running_number (get_or b.state 0 0) ∙ ap (λ (m : State). is_running m.status) h.given ∙ runs in
    subst (λ (m : State). StateLeaves b.state input m b.state) h.given
    (given_leaves e (length p.steps) b.store b.state input b.output h.state_length facts (eqb-true _ _ status))

-- numbers with one set are kept as numbers with one set
set-map : (zs : List ℤ) (i : ℕ) (z : ℤ) → set (map biased zs) i (biased z) ≡ map biased (set zs i z)
set-map [] i z = refl
set-map (y ∷ zs) zero z = refl
set-map (y ∷ zs) (suc i) z = ap (λ (l : List ℕ). biased y ∷ l) (set-map zs i z)

-- The writes of a step, each from numbers that leave a machine to numbers that leave the machine behind it.
module _ {state input : List ℕ} {c : State} {left : List ℕ} (g : StateLeaves state input c left) where
  -- a number in front is set, which is no part of returns and numbers
  front-set : (i x : ℕ) (d : State) → i < 5 → d.returns ≡ c.returns → d.memory.numbers ≡ c.memory.numbers
      → set (front_of input c) i x ≡ front_of input d
      → StateLeaves state input d (set left i x)
  front-set i x d h returns numbers fronts =
      record {
        same_size = length-set left i x ∙ g.same_size;
        size = length-set left i x ∙ g.size;
        few = rw returns g.few;
        front = take-set-lt 5 left i x h ∙ ap (λ (l : List ℕ). set l i x) g.front ∙ fronts;
        returns = rw (drop-set-lt 5 left i x h, returns) g.returns;
        unheld = rw returns (λ j low high. get_or-set_other left i j x 0 (λ e. omega arith) ∙ g.unheld j low high);
        numbers = rw (drop-set-lt 21 left i x (omega arith), numbers) g.numbers;
        behind = drop-set-lt 53 left i x (omega arith) ∙ g.behind;
      }

  -- go_to: whatever becomes of strings
  pub leaves_going : (k : ℕ) (m : Memory) → m.numbers ≡ c.memory.numbers → StateLeaves state input (going_to k m c) (set left 1 k)
  unfolding going_to
  leaves_going k m same = front-set 1 k (going_to k m c) (omega arith) refl same refl

  -- finish and stop
  pub leaves_finished : StateLeaves state input (with_status finished c) (set left 0 1)
  unfolding with_status status_number
  leaves_finished = front-set 0 1 (with_status finished c) (omega arith) refl refl refl

  pub leaves_stopped : StateLeaves state input (with_status stopped c) (set left 0 2)
  unfolding with_status status_number
  leaves_stopped = front-set 0 2 (with_status stopped c) (omega arith) refl refl refl

  -- take_input: the bytes behind the place are left
  pub leaves_input : (place : ℕ) (rest : List ℕ) → place ≡ length input - length rest
      → StateLeaves state input (with_input rest c) (set left 3 place)
  unfolding with_input
  leaves_input place rest e =
      front-set 3 place (with_input rest c) (omega arith) refl refl (ap (λ (n : ℕ). set (front_of input c) 3 n) e)

  -- put_output
  pub leaves_output : (n : ℕ) (output : List ℕ) → n ≡ length output → StateLeaves state input (with_output output c) (set left 4 n)
  unfolding with_output
  leaves_output n output e =
      front-set 4 n (with_output output c) (omega arith) refl refl (ap (λ (k : ℕ). set (front_of input c) 4 k) e)

  -- what one of the five numbers in front is
  pub leaves-front : (i : ℕ) → i < 5 → get_or left i 0 ≡ get_or (front_of input c) i 0
  leaves-front i h = sym (get_or-take 5 left i 0 h) ∙ ap (λ (l : List ℕ). get_or l i 0) g.front

  -- set_number
  number_set_lem : (i : ℕ) (z : ℤ) → i < 32 → StateLeaves state input (going_to c.next (with_number c.memory i z) c) (set left (21 + i) (biased z))
  unfolding going_to with_number
  number_set_lem i z h =
      let x = biased z in
      let n = length c.returns in
      let few : n ≤ 16 = g.few in
      let at : 21 + i ≡ 5 + (16 + i) = omega arith in
      record {
        same_size = length-set left (21 + i) x ∙ g.same_size;
        size = length-set left (21 + i) x ∙ g.size;
        few = few;
        front = take-set-le 5 left (21 + i) x (omega arith) ∙ g.front;
        returns =
            ap (λ (j : ℕ). take n (drop 5 (set left j x))) at
            ∙ ap (take n) (drop-set-add 5 left (16 + i) x)
            ∙ take-set-le n (drop 5 left) (16 + i) x (omega arith)
            ∙ g.returns;
        unheld = λ j low high. get_or-set_other left (21 + i) j x 0 (λ e. omega arith) ∙ g.unheld j low high;
        numbers =
            ap (take 32) (drop-set-add 21 left i x)
            ∙ take-set-lt 32 (drop 21 left) i x h
            ∙ ap (λ (l : List ℕ). set l i x) g.numbers
            ∙ set-map c.memory.numbers i z;
        behind = drop-set-lt 53 left (21 + i) x (omega arith) ∙ g.behind;
      }

  -- push_return
  pub leaves_push : (k : ℕ) → length c.returns < 16
      → StateLeaves state input (with_returns (k ∷ c.returns) c) (set (set left (5 + get_or left 2 0) k) 2 (get_or left 2 0 + 1))
  unfolding with_returns
  leaves_push k room =
      let n = length c.returns in
      let held = set left (5 + n) k in
      rw (leaves-front 2 (omega arith), add-one n)
      (record {
        same_size = length-set held 2 (suc n) ∙ length-set left (5 + n) k ∙ g.same_size;
        size = length-set held 2 (suc n) ∙ length-set left (5 + n) k ∙ g.size;
        few = omega arith;
        front =
            take-set-lt 5 held 2 (suc n) (omega arith)
            ∙ ap (λ (l : List ℕ). set l 2 (suc n)) (take-set-le 5 left (5 + n) k (omega arith) ∙ g.front);
        returns =
            ap (take (suc n)) (drop-set-lt 5 held 2 (suc n) (omega arith) ∙ drop-set-add 5 left n k)
            ∙ take-suc-set (drop 5 left) n k (simp length-drop (omega (arith, g.size)))
            ∙ ap (λ (l : List ℕ). l ++ (k ∷ [])) g.returns
            ∙ sym (reverse-cons k c.returns);
        unheld =
            λ i low high.
            get_or-set_other held 2 i (suc n) 0 (λ e. omega arith)
            ∙ get_or-set_other left (5 + n) i k 0 (λ e. omega arith)
            ∙ g.unheld i (omega arith) high;
        numbers =
            ap (take 32) (drop-set-lt 21 held 2 (suc n) (omega arith) ∙ drop-set-lt 21 left (5 + n) k (omega arith)) ∙ g.numbers;
        behind = drop-set-lt 53 held 2 (suc n) (omega arith) ∙ drop-set-lt 53 left (5 + n) k (omega arith) ∙ g.behind;
      })

-- set_number, and go_to behind it
pub leaves_number : {state input : List ℕ} {c : State} {left : List ℕ} → StateLeaves state input c left
    → (i : ℕ) (z : ℤ) (k : ℕ) → i < 32
    → StateLeaves state input (going_to k (with_number c.memory i z) c) (set (set left (21 + i) (biased z)) 1 k)
unfolding going_to with_number
leaves_number {c = c} g i z k h = leaves_going (number_set_lem g i z h) k (with_number c.memory i z) refl

-- pop_return, and go_to behind it: the state is still as it was given
module _ {state input : List ℕ} {c : State} (g : StateLeaves state input c state) where
  -- what the latest return and the others are
  module _ (k : ℕ) (rs : List ℕ) (e : c.returns ≡ k ∷ rs) where
    held_last : take (suc (length rs)) (drop 5 state) ≡ reverse rs ++ (k ∷ [])
    held_last = rw e at g.returns ∙ reverse-cons k rs

    popped : StateLeaves state input (with_returns rs c) (set state 2 (length rs))
    unfolding with_returns
    popped =
        let m = length rs in
        let few : suc m ≤ 16 = rw e at g.few in
        let held : take m (drop 5 state) ≡ reverse rs =
        sym (take-take m (suc m) (drop 5 state) (omega arith))
        ∙ ap (take m) held_last
        ∙ take_at (reverse rs) (k ∷ []) m (length-reverse rs) in
        record {
          same_size = length-set state 2 m;
          size = length-set state 2 m ∙ g.size;
          few = omega arith;
          front = take-set-lt 5 state 2 m (omega arith) ∙ ap (λ (l : List ℕ). set l 2 m) g.front;
          returns = ap (take m) (drop-set-lt 5 state 2 m (omega arith)) ∙ held;
          unheld = λ i low high. get_or-set_other state 2 i m 0 (λ q. omega arith);
          numbers = ap (take 32) (drop-set-lt 21 state 2 m (omega arith)) ∙ g.numbers;
          behind = drop-set-lt 53 state 2 m (omega arith);
        }

    latest : get_or state (5 + length rs) 0 ≡ k
    latest =
        let m = length rs in
        sym (get_or-drop 5 state m 0)
        ∙ sym (get_or-take (suc m) (drop 5 state) m 0 (omega arith))
        ∙ ap (λ (l : List ℕ). get_or l m 0) held_last
        ∙ ap (λ (j : ℕ). get_or (reverse rs ++ (k ∷ [])) j 0) (sym (length-reverse rs))
        ∙ get_or-append_seam (reverse rs) k [] 0

  -- the state that pop_return leaves, with the step it gives as the next
  abbrev returned : List ℕ
  returned = set (set state 2 (get_or state 2 0 - 1)) 1 (get_or state (5 + (get_or state 2 0 - 1)) 0)

  return_by : (rs : List ℕ) → c.returns ≡ rs → 0 < length rs → StateLeaves state input (returning rs c) returned
  unfolding going_to with_returns returning
  return_by [] e h = absurd (omega arith)
  return_by (k ∷ rs) e h =
      let count : get_or state 2 0 - 1 ≡ length rs = omega (arith, leaves-front g 2 (omega arith), ap length e) in
      rw (count, latest k rs e) (leaves_going (popped k rs e) k c.memory refl)

  pub leaves_return : 0 < length c.returns → StateLeaves state input (returning c.returns c) returned
  leaves_return h = return_by c.returns refl h
