-- A string that is no filler stays while fillers are made null and named; so does the string that a scan searches. Assumes nothing.
use Rattle.std.specs.Prelude.{false, refl, ℕ, zero, suc, ◌<◌, eqb, length, drop, get_or}
use mathlib.Core.List.{List, [], ◌∷◌}
use Rattle.std.proofs.Math.Option.{Option, none, some}
use Rattle.std.proofs.Math.Path.{◌≡◌, subst}
use Rattle.std.proofs.Common.{sym, ap, ◌∙◌, arith, get_or-set_other, lt-ltb}
use Rattle.std.proofs.lemmas.Bool.{eqb-false}
use Rattle.base.specs.Choice.{cond_cases, neither_true}
use Rattle.base.specs.Edition.{Edition}
use Rattle.store.specs.Clauses.{string_of}
use Rattle.syntax.specs.Program.{PatternElement, value, free_filler, fixed_filler}
use Rattle.machine.specs.Ends.{both-done, done_value}
use Rattle.machine.specs.Expressions.{element_in, length_in}
use Rattle.machine.specs.Scanning.{Valued, fixed_at, named, naming, pattern_in, valued_in, without_fillers}
use Rattle.machine.specs.State.{Memory, string_at, with_string}
use Rattle.decoder.specs.Meaning.{patterns_meaning}
use Rattle.decoder.specs.declared.Stretch.{Stretch}
use Rattle.values.specs.Numbers.{is_negative}
use Rattle.values.specs.Result.{Result, done, pure}
use Rattle.effects.specs.Fillers.{PlacesNamed, PiecesNamed, Nulled, filler_of, is_filler, lengths_in, named_string, nobody}
use Rattle.effects.specs.Leaving.{memory_of}

-- another string set
other-set : (m : Memory) (s : ℕ) (v : List ℕ) (i : ℕ) → (i ≡ s → ⊥) → string_at (with_string m s v) i ≡ string_at m i
unfolding string_at with_string
other-set m s v i h = get_or-set_other m.strings s i v [] h

-- what is no filler is not made null
pub null_others : (xs : List PatternElement) (m : Memory) (i : ℕ) → is_filler i xs ≡ false → string_at (without_fillers xs m) i ≡ string_at m i
unfolding without_fillers is_filler
null_others [] m i e = refl
null_others (value x ∷ xs) m i e = null_others xs m i (neither_true (eqb i 32) (is_filler i xs) e).1
null_others (free_filler s ∷ xs) m i e =
    let both = neither_true (eqb i s) (is_filler i xs) e in
    null_others xs (with_string m s []) i both.1 ∙ other-set m s [] i (eqb-false i s both.0)
null_others (fixed_filler s n ∷ xs) m i e =
    let both = neither_true (eqb i s) (is_filler i xs) e in
    null_others xs (with_string m s []) i both.1 ∙ other-set m s [] i (eqb-false i s both.0)

-- no piece is to name this string
unfoldable pub Unnamed : ℕ → List Valued → Type 0
Unnamed i [] = Unit {0}
Unnamed i (v ∷ vs) = (v.names ≡ some i → ⊥) × Unnamed i vs

named_other : (name : Option ℕ) (piece : List ℕ) (m : Memory) (i : ℕ) → (name ≡ some i → ⊥)
    → string_at (named name piece m) i ≡ string_at m i
unfolding named
named_other none piece m i h = refl
named_other (some s) piece m i h = other-set m s piece i (λ e. h (ap some (sym e)))

pub naming_others : (vs : List Valued) (rest ls : List ℕ) (m : Memory) (i : ℕ) → Unnamed i vs
    → string_at (naming vs rest ls m) i ≡ string_at m i
unfolding naming Unnamed
naming_others [] rest ls m i h = refl
naming_others (v ∷ vs) rest [] m i h = refl
naming_others (v ∷ vs) rest (l ∷ ls) m i h =
    naming_others vs _ ls _ i h.1 ∙ named_other v.names _ m i h.0

module _ (e : Edition) (m : Memory) (i : ℕ) where
  -- a filler's piece names the filler alone
  filler_names : (s : ℕ) → eqb i s ≡ false → some s ≡ some i → ⊥
  filler_names s h q = let z : i ≡ s = cc in eqb-false i s h z

  none_names : none ≡ some i → ⊥
  none_names q = let z : ◌≡◌ {A = ℕ} 0 1 = cc in omega arith

  valued_names : (x : PatternElement) (v : Valued) (n : ℕ) → valued_in e m x ≡ done v n → eqb i (filler_of x) ≡ false
      → v.names ≡ some i → ⊥
  unfolding valued_in fixed_at pure
  valued_names (value x) v n q h k =
      let parts = both-done (element_in e m x) _ v n q in
      none_names (ap (λ u. u.names) (done_value parts.is_behind) ∙ k)
  valued_names (free_filler s) v n q h k = filler_names s h (ap (λ u. u.names) (done_value q) ∙ k)
  valued_names (fixed_filler s z) v n q h k =
      cond_cases (λ (w : Result Valued). w ≡ done v n → ⊥) (is_negative (length_in m z))
      (λ _ r. none_names (ap (λ u. u.names) (done_value r) ∙ k))
      (λ _ r. filler_names s h (ap (λ u. u.names) (done_value r) ∙ k))
      q

  -- so the pieces of a pattern name its fillers alone
  pub pattern_names : (xs : List PatternElement) (vs : List Valued) (n : ℕ) → pattern_in e m xs ≡ done vs n → is_filler i xs ≡ false
      → Unnamed i vs
  unfolding pattern_in is_filler Unnamed pure
  pattern_names [] [] n q h = tt
  pattern_names [] (v ∷ vs) n q h = let z : ◌≡◌ {A = ℕ} 0 1 = cc in absurd (omega arith)
  pattern_names (x ∷ xs) vs n q h =
      let both = neither_true (eqb i (filler_of x)) (is_filler i xs) h in
      let one = both-done (valued_in e m x) _ vs n q in
      let two = both-done (pattern_in e m xs) _ vs one.notes one.is_behind in
      subst (Unnamed i) (done_value two.is_behind) (
        valued_names x one.front one.front_notes one.is_front both.0,
        pattern_names xs two.front two.front_notes two.is_front both.1,
      )

-- where no element names string i, the one at a place doesn't
unnamed_at : (vs : List Valued) (i k : ℕ) → Unnamed i vs → k < length vs → (get_or vs k nobody).names ≡ some i → ⊥
unfolding Unnamed
unnamed_at [] i k u h = absurd (omega arith)
unnamed_at (v ∷ vs) i zero u h = u.0
unnamed_at (v ∷ vs) i (suc k) u h = unnamed_at vs i k u.1 (omega arith)

-- so no place that they name is that string's
pub place_apart : (names : List ℕ) (vs : List Valued) → PlacesNamed names vs → (i : ℕ) → i < 32 → Unnamed i vs
    → (k : ℕ) → k < length vs → get_or names k 0 ≡ i → ⊥
unfolding named_string
place_apart names vs p i h u k j e =
    unnamed_at vs i k u j (p.each k j ∙ ap named_string e ∙ rw (lt-ltb i 32 h))

-- behind a scan that made its fillers null every other string of the store is as it was
pub nulled_other : (table : List ℕ) (s : Stretch) (store nulled : List ℕ) → Nulled table s store nulled
    → (i : ℕ) → is_filler i (patterns_meaning table s) ≡ false → string_of nulled i ≡ string_of store i
unfolding string_at
nulled_other table s store nulled n i e =
    ap (λ m. string_at m i) (sym (n.work [])) ∙ null_others (patterns_meaning table s) (memory_of store []) i e

-- and behind one that then named them
pub others_stay : (table : List ℕ) (s : Stretch) (store nulled left reference names answer : List ℕ) (count : ℕ)
    → Nulled table s store nulled → PiecesNamed nulled left reference names answer count
    → (vs : List Valued) → length vs ≡ count → PlacesNamed names vs → (i : ℕ) → is_filler i (patterns_meaning table s) ≡ false → Unnamed i vs
    → string_of left i ≡ string_of store i
unfolding string_at
others_stay table s store nulled left reference names answer count n p vs size ns i e u =
    let at : Memory → List ℕ = λ m. string_at m i in
    ap at (sym (p.work vs [] size ns))
    ∙ naming_others vs (drop (get_or answer 1 0) reference) (lengths_in answer count) (memory_of nulled []) i u
    ∙ nulled_other table s store nulled n i e
