-- A pattern's values, element by element: the whole comes to the values so far and what the elements left come to. Assumes nothing.
use Rattle.std.specs.Prelude.{false, Ok, Err, ◌||◌, ◌≡◌, refl, ℕ, ◌+◌, ◌*◌, ◌-◌, ◌≤◌, ◌<◌, eqb, length}
use mathlib.Core.List.{List, [], ◌∷◌, ◌++◌, append_assoc, append-nil}
use Rattle.std.proofs.Math.Path.{sym, ap, subst}
use Rattle.std.proofs.Common.{ap₂, ◌∙◌, add-zero, ne_eqb}
use native.Mathlib.Omega.{arith}
use Rattle.base.specs.Choice.{cond_cases}
use Rattle.base.specs.Current.{current}
use Rattle.encoding.specs.ReadingLaws.{patterns_more, patterns_none}
use Rattle.encoding.specs.Table.{elements_at}
use Rattle.encoding.specs.TableReading.{cell_at, read_pattern, pattern_of_cell}
use Rattle.evaluator.specs.Notes.{FewNotes, few_bind, few_done, few_element}
use Rattle.syntax.specs.Program as Program
use Rattle.syntax.specs.Program.{value, free_filler, fixed_filler}
use Rattle.machine.specs.Expressions.{element_in, length_in}
use Rattle.machine.specs.Scanning.{Valued, fixed_at, pattern_in, valued_in}
use Rattle.machine.specs.State.{Memory}
use Rattle.decoder.specs.Holds.{PatternHolds}
use Rattle.decoder.specs.Meaning.{pattern_meaning}
use Rattle.decoder.specs.Reading.{PatternRead}
use Rattle.decoder.specs.declared.PatternElement.{PatternElement}
use Rattle.decoder.specs.declared.PatternElement.TheVariants.{Value, Free, Fixed}
use Rattle.effects.specs.Fillers.{filler_of, is_filler}
use Rattle.effects.specs.Leaving.{Completion}
use Rattle.values.specs.Numbers.{is_negative}
use Rattle.values.specs.Result.{Result, done, stop, with_notes, pure, ◌>>=◌}
use Rattle.values.specs.ResultLaws.{notes_none, notes_more, bind_notes, pure-done}
use Rattle.values.specs.Stops.{stop_number}
use Rattle.values.specs.declared.Stop.{Stop}
use Rattle.scan_statement.specs.PatternLaws.{rowed-all, rowed-more, rowed_none}
use Rattle.scan_statement.specs.Patterns.{AllPut, ElementPut, ElementRowPutBy, Rowed, values_of}

-- a value in front of others, and then those so far in front of all
pure-front : (us : List Valued) (v : Valued) (w : Result (List Valued))
    → ((w >>= λ vs. pure (v ∷ vs)) >>= λ vs. pure (us ++ vs)) ≡ (w >>= λ vs. pure ((us ++ (v ∷ [])) ++ vs))
unfolding ◌>>=◌ with_notes pure
pure-front us v (done vs n) =
    ap (λ (l : List Valued). done l (n + 0 + 0)) (sym (append_assoc us (v ∷ []) vs)) ∙ ap (done ((us ++ (v ∷ [])) ++ vs)) (add-zero (n + 0))
pure-front us v (stop k) = refl

module _ (m : Memory) where
  -- what a pattern comes to from the values so far and the elements that are left, with the notes so far
  unfoldable pub valued_from : ℕ → List Valued → List Program.PatternElement → Result (List Valued)
  valued_from notes us xs = with_notes notes (pattern_in current m xs >>= λ vs. pure (us ++ vs))

  values_begin : (xs : List Program.PatternElement) → pattern_in current m xs ≡ valued_from 0 [] xs
  unfolding valued_from
  values_begin xs = sym (notes_none (pattern_in current m xs >>= λ vs. pure vs) ∙ pure-done (pattern_in current m xs))

  values-more : (notes more : ℕ) (us : List Valued) (v : Valued) (x : Program.PatternElement) (xs : List Program.PatternElement)
      → valued_in current m x ≡ done v more → valued_from notes us (x ∷ xs) ≡ valued_from (notes + more) (us ++ (v ∷ [])) xs
  unfolding valued_from pattern_in ◌>>=◌
  values-more notes more us v x xs e =
      let rest = pattern_in current m xs in
      let front : (vs : List Valued) → Result (List Valued) = λ vs. pure (us ++ vs) in
      ap (λ w. with_notes notes ((w >>= λ u. rest >>= λ vs. pure (u ∷ vs)) >>= front)) e
      ∙ ap (with_notes notes) (bind_notes more (rest >>= λ vs. pure (v ∷ vs)) front ∙ ap (with_notes more) (pure-front us v rest))
      ∙ notes_more notes more (rest >>= λ vs. pure ((us ++ (v ∷ [])) ++ vs))

  values_stop : (notes k : ℕ) (us : List Valued) (x : Program.PatternElement) (xs : List Program.PatternElement)
      → valued_in current m x ≡ stop k → valued_from notes us (x ∷ xs) ≡ stop k
  unfolding valued_from pattern_in ◌>>=◌ with_notes
  values_stop notes k us x xs e =
      ap (λ w. with_notes notes ((w >>= λ u. pattern_in current m xs >>= λ vs. pure (u ∷ vs)) >>= λ vs. pure (us ++ vs))) e

  values_end : (notes : ℕ) (us : List Valued) → valued_from notes us [] ≡ done us notes
  unfolding valued_from pattern_in ◌>>=◌ with_notes pure
  values_end notes us = ap (λ v. done v (notes + 0)) (append-nil us) ∙ ap (done us) (add-zero notes)

  -- an element gives one note at most
  pub few_valued : (x : Program.PatternElement) → FewNotes 1 (valued_in current m x)
  unfolding valued_in fixed_at pure
  few_valued (value x) = few_bind 1 0 (element_in current m x) _ (few_element current m x) (λ v. omega arith)
  few_valued (free_filler s) = omega arith
  few_valued (fixed_filler s n) = cond_cases (FewNotes 1) (is_negative (length_in m n)) (λ _. omega arith) (λ _. omega arith)

-- the elements of a stretch hold, in a pattern of which this string is searched
abbrev pub AllHold : (t : List ℕ) → (from count searched : ℕ) → Type 0
AllHold t from count searched =
    (k : ℕ) (x : PatternElement) → from ≤ k → k < from + count → PatternRead t (cell_at t (elements_at + 8 * k)) x → PatternHolds searched x

-- an element that holds is no filler with the name of the string searched
holds_clear : (t : List ℕ) (searched : ℕ) → searched < 32 → (x : PatternElement) → PatternHolds searched x
    → eqb searched (filler_of (pattern_meaning t x)) ≡ false
holds_clear t searched known (Value x) h = ne_eqb searched 32 (λ e. omega arith)
holds_clear t searched known (Free s) h = ne_eqb searched s (λ e. h.other (sym e))
holds_clear t searched known (Fixed s n) h = ne_eqb searched s (λ e. h.0.other (sym e))

-- the values of the first i elements are known
pub record RowsValued (m : Memory) (t : List ℕ) (from count : ℕ) (values rows names : List ℕ) (notes i : ℕ) : Type 0 where
  pub valued : List Valued
  pub rows_are : Rowed (values_of values i) rows names i valued
  pub most : i ≤ count
  pub few : notes ≤ i
  pub same : pattern_in current m (read_pattern t from count) ≡ valued_from m notes valued (read_pattern t (from + i) (count - i))
  pub clear : (searched : ℕ) → searched < 32 → AllHold t from count searched
      → is_filler searched (read_pattern t from count) ≡ is_filler searched (read_pattern t (from + i) (count - i))

pub valuing_begins : (m : Memory) (t : List ℕ) (from count : ℕ) (values rows names : List ℕ)
    → RowsValued m t from count values rows names 0 0
valuing_begins m t from count values rows names =
    let whole : count ≡ count - 0 = omega arith in
    record {
      valued = [];
      rows_are = rowed_none values rows names;
      most = omega arith;
      few = omega arith;
      same =
          values_begin m (read_pattern t from count)
          ∙ ap₂ (λ (j k : ℕ). valued_from m 0 [] (read_pattern t j k)) (sym (add-zero from)) whole;
      clear = λ searched _ _. ap₂ (λ (j k : ℕ). is_filler searched (read_pattern t j k)) (sym (add-zero from)) whole;
    }

module _ {m : Memory} {t : List ℕ} {from count : ℕ} {values rows names : List ℕ} {notes i : ℕ}
    (v : RowsValued m t from count values rows names notes i) where
  pub valuing_ends : count ≤ i → AllPut t values rows names (record { from = from; count = count }) notes (pattern_in current m (read_pattern t from count))
  unfolding is_filler
  valuing_ends h =
      let all : i ≡ count = omega (arith, v.most) in
      record {
        valued = v.valued;
        work = v.same ∙ ap (valued_from m notes v.valued) (patterns_none t (from + i) (count - i) (omega arith)) ∙ values_end m notes v.valued;
        few = omega (arith, v.few);
        rows_are = subst (λ (k : ℕ). Rowed values rows names k v.valued) all (rowed-all values rows names i v.valued v.rows_are);
        clear =
            λ searched known p.
            v.clear searched known (λ k x low high read. p.each k x (record { low = low; high = high }) read)
            ∙ ap (is_filler searched) (patterns_none t (from + i) (count - i) (omega arith));
      }

  -- the element that is next
  module _ (some : i < count) (few : count ≤ 20) (x : PatternElement) (read : PatternRead t (cell_at t (elements_at + 8 * (from + i))) x) where
    abbrev rest : List Program.PatternElement
    rest = read_pattern t (from + (i + 1)) (count - (i + 1))

    first : read_pattern t (from + i) (count - i) ≡ pattern_meaning t x ∷ rest
    first =
        let next : from + i + 1 ≡ from + (i + 1) = omega arith in
        let fewer : count - i - 1 ≡ count - (i + 1) = omega arith in
        patterns_more t (from + i) (count - i) (omega arith)
        ∙ ap₂ (λ (j k : ℕ). pattern_of_cell t (cell_at t (elements_at + 8 * (from + i))) ∷ read_pattern t j k) next fewer
        ∙ ap (λ (y : Program.PatternElement). y ∷ rest) (sym read.means)

    here : pattern_in current m (read_pattern t from count) ≡ valued_from m notes v.valued (pattern_meaning t x ∷ rest)
    here = v.same ∙ ap (valued_from m notes v.valued) first

    cleared : (searched : ℕ) → searched < 32 → AllHold t from count searched
        → is_filler searched (read_pattern t from count) ≡ is_filler searched rest
    unfolding is_filler
    cleared searched known h =
        v.clear searched known h
        ∙ ap (is_filler searched) first
        ∙ ap (λ b. b || is_filler searched rest) (holds_clear t searched known x (h (from + i) x (omega arith) (omega arith) read))

    module _ {r : Completion} {left rows_left names_left : List ℕ}
        (p : ElementPut r values left rows rows_left names names_left i (valued_in current m (pattern_meaning t x))) where
      abbrev PutAs : Completion → Type 0
      PutAs d = ElementRowPutBy d values left rows rows_left names names_left i (valued_in current m (pattern_meaning t x))

      pub valuing_noted : {more : ℕ} → r ≡ Ok more → more ≤ 1
      valuing_noted e = few_done (few_valued m (pattern_meaning t x)) (subst PutAs e p.put).work

      pub valuing_stops : {s : Stop} → r ≡ Err s → pattern_in current m (read_pattern t from count) ≡ stop (stop_number s)
      valuing_stops {s} e = here ∙ values_stop m notes (stop_number s) v.valued (pattern_meaning t x) rest (subst PutAs e p.put)

      pub valuing_more : {more : ℕ} → r ≡ Ok more → length left ≡ 20480 → length rows ≡ 240 → length names ≡ 20
          → RowsValued m t from count left rows_left names_left (notes + more) (i + 1)
      valuing_more {more} e strings lines places =
          let q = subst PutAs e p.put in
          record {
            valued = v.valued ++ (q.valued ∷ []);
            rows_are =
                rowed-more values rows names i v.valued v.rows_are left rows_left names_left q.valued q.row (omega arith)
                strings lines q.place q.places places q.name;
            most = omega arith;
            few = omega (arith, v.few, valuing_noted e);
            same = here ∙ values-more m notes more v.valued q.valued (pattern_meaning t x) rest q.work;
            clear = cleared;
          }
