-- Laws of the row of each kind of element, with the place that its piece is to name. Assumes nothing.
use Rattle.std.specs.Prelude.{true, false, ◌≡◌, refl, ℤ, Ok, Err, nat_abs, set}
use mathlib.Core.List.{List, [], ◌++◌}
use Rattle.std.proofs.Math.Option.{none, some}
use Rattle.std.proofs.Common.{sym, ◌∙◌, add-zero, drop-drop, lt-ltb}
use Rattle.std.proofs.Math.Path.{ap}
use Prim.Native.Nat.{ℕ, ◌+◌, ◌*◌, ◌<◌, ◌^◌}
use native.Mathlib.Omega.{arith}
use Rattle.std.proofs.Math.ListN.{length, take, drop}
use Rattle.base.specs.Current.{current}
use Rattle.encoding.specs.Splices.{splice}
use Rattle.evaluator.specs.Appending.{AppendsAll}
use Rattle.syntax.specs.Program as Program
use Rattle.machine.specs.Expressions.{element_in}
use Rattle.machine.specs.Scanning.{Valued, fixed_at, valued_in}
use Rattle.machine.specs.State.{Memory}
use Rattle.scan.specs.declared.Element.TheVariants as lines
use Rattle.scanning.specs.Splits.{string, fixed, free}
use Rattle.effects.specs.Fillers.{named_string}
use Rattle.effects.specs.Leaving.{BufferSpells, Completion}
use Rattle.values.specs.Numbers.{is_negative}
use Rattle.values.specs.Result.{Result, done, with_notes, pure, ◌>>=◌}
use Rattle.values.specs.ResultLaws.{stopped}
use Rattle.values.specs.Stops.{stop_number}
use Rattle.scan_statement.specs.PatternLaws.{row_fixed, row_free, row_null}
use Rattle.scan_statement.specs.Patterns.{ElementRowPut, ElementRowPutBy, Stands, ValueBy}
use Rattle.scan_statement.specs.Putting.{PutRow}

-- a string appended to an empty buffer is what the buffer spells
added_spells : (before after : List ℕ) (n notes : ℕ) (w : Result (List ℕ)) (a : AppendsAll before after 0 n notes w) → BufferSpells after n a.value
added_spells before after n notes w a =
    record { size = sym a.size; bytes = ap (λ (j : ℕ). take j after) a.size ∙ a.follows [] refl refl }

-- bytes that row i's place among the values was lent for
module _ (values bytes : List ℕ) (i k : ℕ) (strings : length values ≡ 20480) (room : length bytes ≡ 1024) (size : k ≡ 1024) where
  abbrev back : List ℕ
  back = take (1024 * i) values ++ (bytes ++ drop k (drop (1024 * i) values))

  back-splice : back ≡ splice values (1024 * i) bytes
  unfolding splice
  back-splice =
      let end : 1024 * i + k ≡ 1024 * i + length bytes = omega arith in
      ap (λ (l : List ℕ). take (1024 * i) values ++ (bytes ++ l))
      (drop-drop k (1024 * i) values ∙ ap (λ (j : ℕ). drop j values) end)

  -- a value appended there to nothing stands there
  pub added_stands : {before : List ℕ} {n notes : ℕ} {w : Result (List ℕ)} (a : AppendsAll before bytes 0 n notes w) → Stands values back i n a.value
  added_stands {before} {n} {notes} {w} a =
      record { strings = strings; bytes = bytes; room = room; left_is = back-splice; spells = added_spells before bytes n notes w a }

module _ (values rows rows_left names : List ℕ) (i : ℕ) where
  -- a fixed filler whose length is negative
  pub fixed_negative : (s : ℕ) (z : ℤ) → is_negative z ≡ true → PutRow rows rows_left i (lines.Part 0 0)
      → ElementRowPut values values rows rows_left names (set names i 32) i 1 (fixed_at s z)
  unfolding fixed_at named_string
  fixed_negative s z e p =
      record {
        valued = record { names = none; element = string [] };
        work = rw e refl;
        row = row_null values rows rows_left i p;
        place = 32;
        places = refl;
        name = refl;
      }

  -- one whose length is not
  pub fixed_natural : (s : ℕ) (z : ℤ) (n : ℕ) → is_negative z ≡ false → n ≡ nat_abs z → n < 2 ^ 32 → s < 32 → PutRow rows rows_left i (lines.Fixed n)
      → ElementRowPut values values rows rows_left names (set names i s) i 0 (fixed_at s z)
  unfolding fixed_at named_string pure
  fixed_natural s z n e is small known p =
      record {
        valued = record { names = some s; element = fixed n };
        work = rw (e, is) refl;
        row = row_fixed values rows rows_left i n small p;
        place = s;
        places = refl;
        name = rw (lt-ltb s 32 known) refl;
      }

  module _ (m : Memory) where
    pub free_put : (s : ℕ) → s < 32 → PutRow rows rows_left i lines.Free
        → ElementRowPut values values rows rows_left names (set names i s) i 0 (valued_in current m (Program.free_filler s))
    unfolding valued_in named_string pure
    free_put s known p =
        record {
          valued = record { names = some s; element = free };
          work = refl;
          row = row_free values rows rows_left i p;
          place = s;
          places = refl;
          name = rw (lt-ltb s 32 known) refl;
        }

    -- a value
    pub value_put : (r : Completion) (left : List ℕ) (x : Program.Element) → ValueBy r values left rows rows_left i (element_in current m x)
        → ElementRowPutBy r values left rows rows_left names (set names i 32) i (valued_in current m (Program.value x))
    unfolding valued_in named_string pure ◌>>=◌ with_notes
    value_put (Ok notes) left x p =
        let v : List ℕ → Valued = λ w. record { names = none; element = string w } in
        record {
          valued = v p.value;
          work = ap (λ w. w >>= λ u. pure (v u)) p.work ∙ ap (done (v p.value)) (add-zero notes);
          row = p.row;
          place = 32;
          places = refl;
          name = refl;
        }
    value_put (Err s) left x p = stopped (element_in current m x) (λ w. pure (record { names = none; element = string w })) (stop_number s) p
