-- A numeric expression, item by item: the whole comes to what the waiting numbers and the items left come to. Assumes nothing.
use mathlib.Core.Bool.{true}
use mathlib.Core.List.{List, ◌∷◌}
use mathlib.Core.Path.{◌≡◌, sym, ap, ap₂, subst, ◌∙◌}
use Prim.Native.Nat.{ℕ, ◌+◌, ◌*◌, ◌-◌, ◌≤◌, ◌<◌}
use native.Mathlib.Omega.{arith}
use lib.ListN.{replicate}
use Rattle.base.specs.Current.{current}
use Rattle.encoding.specs.ReadingLaws.{items_more, items_none}
use Rattle.encoding.specs.Rules.{balanced}
use Rattle.encoding.specs.Table.{items_at}
use Rattle.encoding.specs.TableReading.{cell_at, item_of_cell, read_items}
use Rattle.syntax.specs.Program as Program
use Rattle.machine.specs.Expressions.{item_in, numeric_in}
use Rattle.machine.specs.State.{Memory}
use Rattle.decoder.specs.Meaning.{item_meaning}
use Rattle.decoder.specs.declared.Item.{Item}
use Rattle.values.specs.Result.{done, stop}
use Rattle.evaluator.specs.Notes.{few_done, few_item}
use Rattle.numbers.specs.declared.Int.{Int}
use Rattle.evaluator.specs.Waiting.{blank, waiting_in, Waits, OnTop, FindsWaiting, waiting_after, known_worked, WaitingCounted, ItemTaken}
use Rattle.evaluator.specs.declared.Stack.{Stack}
use Rattle.std.specs.Prelude as std
use Rattle.std.specs.Prelude.{Ok, Err}
use Rattle.values.specs.Stops.{stop_number}
use Rattle.values.specs.declared.Stop.{Stop}
use Rattle.evaluator.proofs.Waiting.{waits_none, balanced-more, balanced_end}
use Rattle.evaluator.proofs.Working.{numeric_from, numeric_begins, numeric_more, numeric_stops, numeric_ends}

pub record Valuing (m : Memory) (t : List ℕ) (from count : ℕ) (s : Stack) (notes at : ℕ) : Type 0 where
  pub waits : Waits s
  pub few : notes + 2 * (from + count - at) ≤ 2 * count
  pub sides : balanced s.count (read_items t at (from + count - at)) ≡ true
  pub same : numeric_in current m (read_items t from count)
      ≡ numeric_from m notes (waiting_in s) (read_items t at (from + count - at))

pub valuing_begins : (m : Memory) (t : List ℕ) (from count : ℕ) → balanced 0 (read_items t from count) ≡ true
    → Valuing m t from count (record { numbers = replicate 64 blank; count = 0 }) 0 from
valuing_begins m t from count h =
    let all : from + count - from ≡ count = omega arith in
    record {
      waits = waits_none;
      few = omega arith;
      sides = rw all h;
      same = rw all (numeric_begins m (read_items t from count));
    }

module _ {m : Memory} {t : List ℕ} {from count : ℕ} {s : Stack} {notes at : ℕ} (v : Valuing m t from count s notes at) where
  abbrev left : ℕ
  left = from + count - at

  -- in the end one number waits, and is the value
  pub valuing_one : from + count ≤ at → s.count ≡ 1
  valuing_one h = balanced_end s.count (ap (balanced s.count) (sym (items_none t at left (omega arith))) ∙ v.sides)

  pub valuing_ends : from + count ≤ at → {z : Int} {below : Stack} → OnTop z below s
      → numeric_in current m (read_items t from count) ≡ done z.value notes
  valuing_ends h {z} {below} top =
      v.same
      ∙ ap₂ (numeric_from m notes) top.numbers (items_none t at left (omega arith))
      ∙ numeric_ends m notes z.value (waiting_in below)

  -- the item that is next
  module _ (some : at < from + count) (x : Item) (read : item_meaning x ≡ item_of_cell (cell_at t (items_at + 8 * at))) where
    abbrev rest : List Program.Item
    rest = read_items t (at + 1) (from + count - (at + 1))

    items-here : read_items t at left ≡ item_meaning x ∷ rest
    items-here =
        let one : left - 1 ≡ from + count - (at + 1) = omega arith in
        items_more t at left (omega arith)
        ∙ ap₂ (λ (i : Program.Item) (n : ℕ). i ∷ read_items t (at + 1) n) (sym read) one

    balance : FindsWaiting s.count x × (balanced (waiting_after s.count x) rest ≡ true)
    balance = balanced-more s.count x rest (ap (balanced s.count) (sym items-here) ∙ v.sides)

    pub valuing_finds : FindsWaiting s.count x
    valuing_finds = balance.0

    here : numeric_in current m (read_items t from count) ≡ numeric_from m notes (waiting_in s) (item_meaning x ∷ rest)
    here = v.same ∙ ap (numeric_from m notes (waiting_in s)) items-here

    -- and what was made of it
    module _ {r : std.Result ℕ Stop} {after : Stack}
        (taken : ItemTaken r after (waiting_after s.count x) (item_in current m (waiting_in s) (item_meaning x))) where
      worked : {k : std.Result ℕ Stop} → r ≡ k → item_in current m (waiting_in s) (item_meaning x) ≡ known_worked k after
      worked e = sym taken.work ∙ ap (λ (a : std.Result ℕ Stop). known_worked a after) e

      pub valuing_noted : {more : ℕ} → r ≡ Ok more → more ≤ 2
      valuing_noted e = few_done (few_item current m (waiting_in s) (item_meaning x)) (worked e)

      pub valuing_stops : {k : Stop} → r ≡ Err k → numeric_in current m (read_items t from count) ≡ stop (stop_number k)
      valuing_stops {k} e = here ∙ numeric_stops m notes (stop_number k) (waiting_in s) (item_meaning x) rest (worked e)

      pub valuing_more : {more : ℕ} → r ≡ Ok more → Valuing m t from count after (notes + more) (at + 1)
      valuing_more {more} e =
          let counted : after.count ≡ waiting_after s.count x =
          subst (λ (k : std.Result ℕ Stop). WaitingCounted k after (waiting_after s.count x)) e taken.counted in
          record {
            waits = taken.waits;
            few = omega (arith, v.few, valuing_noted e);
            sides = ap (λ (k : ℕ). balanced k rest) counted ∙ balance.1;
            same = here ∙ numeric_more m notes more (waiting_in s) (waiting_in after) (item_meaning x) rest (worked e);
          }
