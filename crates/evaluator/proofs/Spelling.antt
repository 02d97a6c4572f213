-- A string expression, element by element: the whole comes to the bytes so far and what the elements left come to. Assumes nothing.
use mathlib.Core.List.{List, [], ◌∷◌, ◌++◌}
use mathlib.Core.Path.{◌≡◌, refl, sym, ap, ap₂, subst, ◌∙◌}
use Prim.Native.Nat.{ℕ, ◌+◌, ◌*◌, ◌-◌, ◌≤◌, ◌<◌}
use native.Mathlib.Omega.{arith}
use lib.ListN.{length, length-append}
use Rattle.base.specs.Current.{current, table_size}
use Rattle.encoding.specs.ReadingLaws.{elements-more, elements_none}
use Rattle.encoding.specs.Table.{elements_at}
use Rattle.encoding.specs.TableReading.{cell_at, read_elements}
use Rattle.numbers.specs.Text.{Text}
use Rattle.std.specs.Prelude.{Ok, Err}
use Rattle.values.specs.Stops.{stop_number}
use Rattle.values.specs.declared.Noted.{Noted}
use Rattle.values.specs.declared.Stop.{Stop}
use Rattle.syntax.specs.Program as Program
use Rattle.machine.specs.Expressions.{element_in, string_in}
use Rattle.machine.specs.State.{Memory}
use Rattle.decoder.specs.Meaning.{element_meaning}
use Rattle.decoder.specs.Reading.{ElementDecoded}
use Rattle.decoder.specs.declared.Element.{Element}
use Rattle.values.specs.Result.{stop}
use Rattle.evaluator.specs.Notes.{few_done, few_element}
use Rattle.evaluator.specs.Appending.{AppendedText, Appends}
use Rattle.evaluator.specs.Values.{KeepsValue, ValueSpells}
use Rattle.evaluator.proofs.Working.{string_from, string-begins, string-more, string_stops, string_ends_lem}

pub record Spelling (m : Memory) (t : List ℕ) (from count : ℕ) (out : List ℕ) (size notes at : ℕ) : Type 0 where
  pub value : List ℕ
  pub long : size ≡ length value
  pub kept : KeepsValue out value
  pub room : length out ≡ 1024
  pub short : size + table_size * (from + count - at) ≤ table_size * count
  pub few : notes + (from + count - at) ≤ count
  pub same : string_in current m (read_elements t from count) ≡ string_from m notes value (read_elements t at (from + count - at))

pub spelling_begins : (m : Memory) (t : List ℕ) (from count : ℕ) (out : List ℕ) → length out ≡ 1024
    → Spelling m t from count out 0 0 from
spelling_begins m t from count out room =
    let all : from + count - from ≡ count = omega arith in
    record {
      value = [];
      long = refl;
      kept = refl;
      room = room;
      short = omega arith;
      few = omega arith;
      same = rw all (string-begins m (read_elements t from count));
    }

module _ {m : Memory} {t : List ℕ} {from count : ℕ} {out : List ℕ} {size notes at : ℕ}
    (v : Spelling m t from count out size notes at) where
  abbrev left : ℕ
  left = from + count - at

  pub spelling_ends : from + count ≤ at → ValueSpells size notes out (string_in current m (read_elements t from count))
  spelling_ends h =
      record {
        value = v.value;
        work = v.same ∙ ap (string_from m notes v.value) (elements_none t at left (omega arith)) ∙ string_ends_lem m notes v.value;
        size = v.long;
        kept = v.kept;
      }

  -- the element that is next
  module _ (some : at < from + count) (x : Element) (read : ElementDecoded t (cell_at t (elements_at + 8 * at)) x) where
    abbrev rest : List Program.Element
    rest = read_elements t (at + 1) (from + count - (at + 1))

    here : string_in current m (read_elements t from count) ≡ string_from m notes v.value (element_meaning t x ∷ rest)
    here =
        let one : left - 1 ≡ from + count - (at + 1) = omega arith in
        v.same
        ∙ ap (string_from m notes v.value)
        (elements-more t at left (omega arith)
        ∙ ap₂ (λ (y : Program.Element) (n : ℕ). y ∷ read_elements t (at + 1) n) (sym read.means) one)

    -- and what was made of it
    module _ {r : Text} {after : List ℕ} (adding : Appends r out after size (element_in current m (element_meaning t x))) where
      abbrev AddedAs : Text → Type 0
      AddedAs a = AppendedText a out after size (element_in current m (element_meaning t x))

      pub spelling_noted : {a : Noted ℕ} → r ≡ Ok a → (a.value ≤ table_size) × (a.notes ≤ 1)
      spelling_noted e =
          let a = subst AddedAs e adding.added in
          (a.short, few_done (few_element current m (element_meaning t x)) a.work)

      pub spelling_stops : {s : Stop} → r ≡ Err s → string_in current m (read_elements t from count) ≡ stop (stop_number s)
      spelling_stops {s} e =
          here ∙ string_stops m notes (stop_number s) v.value (element_meaning t x) rest (subst AddedAs e adding.added)

      pub spelling_more : {more : Noted ℕ} → r ≡ Ok more
          → Spelling m t from count after (size + more.value) (notes + more.notes) (at + 1)
      spelling_more {more} e =
          let a = subst AddedAs e adding.added in
          let bounds = spelling_noted e in
          record {
            value = v.value ++ a.value;
            long = omega (arith, length-append v.value a.value, v.long, a.size);
            kept = a.follows v.value (sym v.long) v.kept;
            room = adding.room;
            short = omega (arith, v.short, bounds.0);
            few = omega (arith, v.few, bounds.1);
            same = here ∙ string-more m notes more.notes v.value a.value (element_meaning t x) rest a.work;
          }
