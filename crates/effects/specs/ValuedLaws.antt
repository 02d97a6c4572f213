-- Laws of statements that value an expression and keep it. Assumes nothing.
use Rattle.std.specs.Prelude.{cond, ◌≡◌, ℕ, ◌+◌, ◌≤◌, ◌<◌, min, leb, ℤ, length, take, get_or, set}
use mathlib.Core.List.{List, ◌++◌, append-nil}
use Rattle.std.proofs.Math.Path.{refl, sym, ap}
use Rattle.std.proofs.Common.{subst, ◌∙◌, add-zero, arith, take_all, le-leb, le-ltb, leb-false, leb-true, lt-ltb}
use Rattle.std.proofs.Math.Nat.{min-eq_left, min-eq_right}
use Rattle.std.proofs.Math.IntN.{nat_abs}
use Rattle.std.proofs.Math.ListN.{drop}
use Rattle.std.proofs.Math.Seq.{drop-length}
use Rattle.std.proofs.lemmas.Bool.{lt-leb}
use Rattle.base.specs.Choice.{test_cases}
use Rattle.base.specs.Current.{current}
use Rattle.store.specs.Clauses.{string_of, string_replaced}
use Rattle.evaluator.specs.Notes.{few_done, few_elements_spelt}
use Rattle.evaluator.specs.Values as Values
use Rattle.syntax.specs.Program as Program
use Rattle.machine.specs.Expressions.{length_in, string_in}
use Rattle.machine.specs.Scanning.{Searched, restricted, searched_in, storing}
use Rattle.machine.specs.State.{Memory, string_at, with_output}
use Rattle.machine.specs.Step.{put_record, set_string_in, shortened}
use Rattle.decoder.specs.Meaning.{elements_meaning}
use Rattle.decoder.specs.declared.Stretch.{Stretch}
use Rattle.values.specs.Conversion.{longest_string}
use Rattle.values.specs.Numbers.{is_negative}
use Rattle.values.specs.Result.{Result, done, stop, pure, with_notes, ◌>>=◌}
use Rattle.effects.specs.Leaving.{Completion, memory_of, LeavesStore, Sets, BufferSpells, Wrote, Full}
use Rattle.effects.specs.Valued.{RecordPut, Unput, RecordPutBy, ValueRecorded, ValueStored, tail_notes}

-- a buffer that spells the value of an expression spells it here
pub spelt : {n notes : ℕ} {out : List ℕ} {w : Result (List ℕ)} (s : Values.ValueSpells n notes out w) → BufferSpells out n s.value
spelt {out = out} s = record { size = sym s.size; bytes = ap (λ (j : ℕ). take j out) s.size ∙ s.kept }

-- a value that is spelt is stored, as it is or turned round
pub kept_leaves : (f : List ℕ → List ℕ) (r : Completion) (store left : List ℕ) (place from to : ℕ) (after : List ℕ) (zs : List ℤ)
    {n notes : ℕ} {out : List ℕ} {w : Result (List ℕ)} (s : Values.ValueSpells n notes out w) → BufferSpells after n (f s.value)
    → Sets r store left place from to after n notes
    → LeavesStore r store left zs (w >>= λ v. storing place (string_replaced (string_of store place) from to (f v)) (memory_of store zs))
unfolding ◌>>=◌
kept_leaves f r store left place from to after zs s p h =
    subst (λ x. LeavesStore r store left zs (x >>= λ v. storing place (string_replaced (string_of store place) from to (f v)) (memory_of store zs)))
    (sym s.work) (h (f s.value) zs p)

-- a string replacement sets what a scan of its part would search, or makes a note of a negative length
module _ (m : Memory) (xs : List Program.Element) where
  abbrev pub set_where : Result Searched → Result Memory
  set_where (done x n) = string_in current m xs >>= λ v. storing x.place (x.before ++ (v ++ x.behind)) m
  set_where (stop k) = done m 1

  pub set-searched : (p : Program.Part) → set_string_in current m p xs ≡ set_where (searched_in m Program.forward p)
  unfolding set_string_in searched_in restricted pure
  set-searched (Program.whole s) =
      let old = string_at m s in
      let same : (v : List ℕ) → v ≡ v ++ drop (length old) old =
      λ v. sym (ap (λ (l : List ℕ). v ++ l) (drop-length old) ∙ append-nil v) in
      λ i.
      string_in current m xs >>= λ v. storing s (same v i) m
  set-searched (Program.first s n) =
      let z = length_in m n in
      test_cases
      (λ x. cond x (done m 1) (string_in current m xs >>= λ v. storing s (v ++ drop (nat_abs z) (string_at m s)) m)
      ≡ set_where (cond x (stop 17) (pure (restricted Program.forward s (nat_abs z) (string_at m s))))) (is_negative z) (λ _. refl) (λ _. refl)

-- a record of the bytes that a buffer spells
shortened_as : (v : List ℕ) (n : ℕ) (value : List ℕ) → length v ≡ 1024 → BufferSpells v n value
    → shortened value ≡ done (take (min n 1024) v) (tail_notes n)
unfolding shortened tail_notes longest_string
shortened_as v n value room s =
    test_cases (λ _. shortened value ≡ done (take (min n 1024) v) (tail_notes n)) (leb n 1024)
    (λ e.
    let few : n ≤ 1024 = leb-true n 1024 e in
    let all : take (min n 1024) v ≡ value =
    ap (λ (j : ℕ). take j v) (min-eq_left few) ∙ s.bytes ∙ take_all 1024 value (omega (arith, s.size)) in
    rw (s.size, le-leb _ _ few, le-ltb _ _ few, all))
    (λ e.
    let more : 1024 < n = leb-false n 1024 e in
    let least : 1024 ≤ n = omega arith in
    let all : take (min n 1024) v ≡ take 1024 value =
    ap (λ (j : ℕ). take j v) (min-eq_right least)
    ∙ take_all 1024 v (omega arith)
    ∙ sym (take_all n v (omega arith))
    ∙ s.bytes in
    rw (s.size, lt-leb _ _ more, lt-ltb _ _ more, all))

module _ (state output v : List ℕ) (n notes : ℕ) (room : length v ≡ 1024) where
  -- one that is put
  pub recorded : (more : ℕ) → more ≡ tail_notes n → (to : ℕ) (left : List ℕ) → Wrote output left (get_or state 4 0) to (take (min n 1024) v)
      → (value : List ℕ) → BufferSpells v n value
      → RecordPut state (set state 4 to) output left (notes + more) (λ c. with_notes notes (shortened value >>= λ w. put_record (length output) w c))
  unfolding ◌>>=◌ with_notes
  recorded more e to left p value s =
      record {
        reaches = to;
        state_is = refl;
        size = p.size;
        order = p.order;
        inside = p.inside;
        rest = p.rest;
        work =
            λ c q.
            ap (λ x. with_notes notes (x >>= λ w. put_record (length output) w c)) (shortened_as v n value room s)
            ∙ ap (λ x. with_notes notes (with_notes (tail_notes n) x)) (p.work c q)
            ∙ ap (λ (k : ℕ). done (with_output (take to left) c) (notes + k)) (add-zero (tail_notes n) ∙ sym e);
      }

  -- one that there is no room for
  pub not_recorded : (k : ℕ) (left : List ℕ) → Full output left (get_or state 4 0) k (take (min n 1024) v) → (value : List ℕ) → BufferSpells v n value
      → Unput state state output left k (λ c. with_notes notes (shortened value >>= λ w. put_record (length output) w c))
  unfolding ◌>>=◌ with_notes
  not_recorded k left p value s =
      record {
        state_same = refl;
        same = p.same;
        work =
            λ c q.
            ap (λ x. with_notes notes (x >>= λ w. put_record (length output) w c)) (shortened_as v n value room s)
            ∙ ap (λ x. with_notes notes (with_notes (tail_notes n) x)) (p.work c q);
      }

-- how many notes come with a string expression of so many elements
pub few_notes : (table : List ℕ) (s : Stretch) (m : Memory) {n notes : ℕ} {out : List ℕ}
    → Values.ValueSpells n notes out (string_in current m (elements_meaning table s)) → notes ≤ s.count
few_notes table s m p =
    few_done (few_elements_spelt current m table s.from s.count) p.work

-- a record of a value that is spelt
pub spelt_puts : (r : Completion) (state state_left output left : List ℕ) {out : List ℕ} {n notes : ℕ} {w : Result (List ℕ)} → Values.ValueSpells n notes out w
    → ValueRecorded r state state_left output left out n notes
    → RecordPutBy r state state_left output left (λ c. w >>= λ v. shortened v >>= λ u. put_record (length output) u c)
unfolding ◌>>=◌
spelt_puts r state state_left output left s h =
    subst (λ (x : Result (List ℕ)). RecordPutBy r state state_left output left (λ c. x >>= λ v. shortened v >>= λ u. put_record (length output) u c))
    (sym s.work) (h s.value (spelt s))

-- a stored string, by another name of the work
pub stored_as : (r : Completion) (store left state : List ℕ) (w u : Result Memory) → u ≡ w → ValueStored r store left state w → ValueStored r store left state u
stored_as r store left state w u e s = subst (ValueStored r store left state) (sym e) s
