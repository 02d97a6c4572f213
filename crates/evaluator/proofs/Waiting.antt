-- The numbers that wait for an operator. Assumes nothing.
use mathlib.Core.Bool.{true, and-eq-true_iff}
use mathlib.Core.List.{List, [], ◌∷◌}
use mathlib.Core.Path.{◌≡◌, refl, sym, ap, ap₂, ◌∙◌}
use Prim.Native.Nat.{ℕ, zero, suc, ◌+◌, ◌-◌, ◌≤◌, ◌<◌}
use native.Mathlib.Nat.{add-zero}
use native.Mathlib.Numerals.{add-one}
use native.Mathlib.Omega.{arith}
use lib.Dec.{leb, ltb}
use lib.IntN.{ℤ}
use lib.ListN.{length, set, replicate, length-set, length-replicate}
use lib.Seq.{get_or-set_same, get_or-set_other}
use borrow.Author.Tests.{eqb-true, ltb-true, leb-true}
use Rattle.base.specs.Current.{current}
use Rattle.encoding.specs.Rules.{balanced, most_waiting}
use Rattle.numbers.specs.Numbers.{IntInRange}
use Rattle.numbers.specs.declared.Int.{Int}
use Rattle.values.specs.declared.Noted.{Noted}
use Rattle.syntax.specs.Program as Program
use Rattle.machine.specs.Bounds.{set_everywhere, replicate_everywhere}
use Rattle.machine.specs.Expressions.{operand_in, operation, combined, sign_in, item_in}
use Rattle.machine.specs.State.{Memory}
use Rattle.decoder.specs.Meaning.{item_meaning}
use Rattle.decoder.specs.declared.Item.{Item}
use Rattle.decoder.specs.declared.Item.TheVariants as items
use Rattle.values.specs.Result.{Result, done, stop, with_notes, pure, ◌>>=◌}
use Rattle.evaluator.specs.Waiting.{blank, signed_as, latest_first, waiting_in, Waits, Pushable, OnTop, FindsWaiting, waiting_after}
use Rattle.evaluator.specs.declared.Stack.{Stack}

-- a number put behind the last one waiting
waiting-set : (w : List Int) (at : ℕ) (z : Int) (n : ℕ) → n ≤ at → latest_first (set w at z) n ≡ latest_first w n
waiting-set w at z zero h = refl
waiting-set w at z (suc n) h =
    ap₂ (λ (x : Int) (l : List ℤ). x.value ∷ l) (get_or-set_other w at n z blank (λ e. omega arith)) (waiting-set w at z n (omega arith))

waiting-put : (w : List Int) (at : ℕ) (z : Int) → at < length w → latest_first (set w at z) (at + 1) ≡ z.value ∷ latest_first w at
waiting-put w at z h =
    ap (latest_first (set w at z)) (add-one at)
    ∙ ap₂ (λ (x : Int) (l : List ℤ). x.value ∷ l) (get_or-set_same w at z blank h) (waiting-set w at z at (omega arith))

-- a number put on top
module _ {s : Stack} {z : Int} (p : Pushable s z) where
  abbrev above : Stack
  above = record { numbers = set s.numbers s.count z; count = s.count + 1 }

  pub push-top : OnTop z s above
  push-top =
      record {
        count = refl;
        numbers = waiting-put s.numbers s.count z (omega (arith, p.waits.size, p.room));
      }

  pub push-waits : Waits above
  push-waits =
      record {
        size = length-set s.numbers s.count z ∙ p.waits.size;
        most = omega (arith, p.room);
        range = set_everywhere IntInRange s.numbers s.count z blank p.number p.waits.range;
      }

pub waits_none : Waits (record { numbers = replicate 64 blank; count = 0 })
waits_none =
    record {
      size = length-replicate 64 blank;
      most = omega arith;
      range = replicate_everywhere IntInRange 64 blank (omega arith);
    }

-- what balance tells of an item and of those behind it
pub balanced-more : (known : ℕ) (x : Item) (is : List Program.Item) → balanced known (item_meaning x ∷ is) ≡ true
    → FindsWaiting known x × (balanced (waiting_after known x) is ≡ true)
unfolding balanced most_waiting
balanced-more known (items.Operand a) is h =
    let both = (and-eq-true_iff (ltb known 64) (balanced (suc known) is)).0 h in
    (ltb-true known 64 both.0, ap (λ (k : ℕ). balanced k is) (add-one known) ∙ both.1)
balanced-more known (items.Operator o) is h =
    let both = (and-eq-true_iff (leb 2 known) (balanced (known - 1) is)).0 h in
    (leb-true 2 known both.0, both.1)
balanced-more known (items.Sign s) is h =
    let both = (and-eq-true_iff (leb 1 known) (balanced known is)).0 h in
    (leb-true 1 known both.0, both.1)

pub balanced_end : (known : ℕ) → balanced known [] ≡ true → known ≡ 1
unfolding balanced
balanced_end known h = eqb-true known 1 h

-- what each kind of item makes of the numbers waiting
module _ (m : Memory) {s : Stack} where
  pub operand_takes : (a : Program.Operand) {v : Noted Int} {t : Stack} → operand_in current m a ≡ done v.value.value v.notes → OnTop v.value s t
      → done (waiting_in t) v.notes ≡ item_in current m (waiting_in s) (Program.operand a)
  unfolding item_in ◌>>=◌ with_notes pure
  operand_takes a {v} e top =
      ap (λ l. done l v.notes) top.numbers
      ∙ ap (done (v.value.value ∷ waiting_in s)) (sym (add-zero v.notes))
      ∙ sym (ap (λ (w : Result ℤ). w >>= λ z. pure (z ∷ waiting_in s)) e)

  -- two numbers are taken from the top
  module _ (o : Program.Operator) {a b : Int} {one two : Stack} (first : OnTop b one s) (second : OnTop a two one) where
    operated : item_in current m (waiting_in s) (Program.operator o)
        ≡ (operation current o a.value b.value >>= λ z. pure (z ∷ waiting_in two))
    unfolding item_in combined
    operated = ap (combined (operation current o)) (first.numbers ∙ ap (λ l. b.value ∷ l) second.numbers)

    pub operator_takes : {v : Noted Int} {t : Stack} → operation current o a.value b.value ≡ done v.value.value v.notes → OnTop v.value two t
        → done (waiting_in t) v.notes ≡ item_in current m (waiting_in s) (Program.operator o)
    unfolding ◌>>=◌ with_notes pure
    operator_takes {v} e top =
        ap (λ l. done l v.notes) top.numbers
        ∙ ap (done (v.value.value ∷ waiting_in two)) (sym (add-zero v.notes))
        ∙ sym (operated ∙ ap (λ (w : Result ℤ). w >>= λ z. pure (z ∷ waiting_in two)) e)

    pub operator_stops : {k : ℕ} → operation current o a.value b.value ≡ stop k
        → stop k ≡ item_in current m (waiting_in s) (Program.operator o)
    unfolding ◌>>=◌
    operator_stops e = sym (operated ∙ ap (λ (w : Result ℤ). w >>= λ z. pure (z ∷ waiting_in two)) e)

  pub sign_takes : (g : Program.Sign) {y z : Int} {one t : Stack} → OnTop z one s → y.value ≡ signed_as g z.value → OnTop y one t
      → done (waiting_in t) 0 ≡ item_in current m (waiting_in s) (Program.sign g)
  unfolding item_in sign_in pure
  sign_takes Program.positive {one = one} first e top =
      ap (λ l. done l 0) (top.numbers ∙ ap (λ x. x ∷ waiting_in one) e ∙ sym first.numbers)
  sign_takes Program.negative {one = one} first e top =
      ap (λ l. done l 0) (top.numbers ∙ ap (λ x. x ∷ waiting_in one) e)
      ∙ ap (λ l. done (sign_in Program.negative l) 0) (sym first.numbers)

pub operand_stops : (m : Memory) (s : Stack) (a : Program.Operand) {k : ℕ} → operand_in current m a ≡ stop k
    → stop k ≡ item_in current m (waiting_in s) (Program.operand a)
unfolding item_in ◌>>=◌
operand_stops m s a e = sym (ap (λ (w : Result ℤ). w >>= λ z. pure (z ∷ waiting_in s)) e)
