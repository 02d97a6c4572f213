-- A memory within its bounds, and that all work of the machine but numeric expressions leaves it so; what turning round changes, and how many bytes
-- a restricted reference has.
-- Assumes nothing.
use mathlib.Core.List.{List, [], ◌∷◌, ◌++◌, map, reverse-reverse}
use Rattle.std.proofs.Math.Option.{Option, none, some}
use Rattle.std.specs.Prelude.{◌≡◌, refl, ℕ, zero, suc, ◌+◌, ◌-◌, ◌≤◌, min, leb, ltb, eqb, ℤ, pos, take, get_or, set, replicate}
use Rattle.std.proofs.Common.{◌∙◌, arith, leb-true}
use Rattle.std.proofs.Math.IntN.{nat_abs}
use Rattle.std.proofs.Math.ListN.{length, drop, length-take, length-drop, length-set, length-replicate}
use Rattle.std.proofs.lemmas.List.{length-reverse}
use Rattle.base.specs.Choice.{cond_cases}
use Rattle.base.specs.Edition.{Edition}
use Rattle.syntax.specs.Program as Program
use Rattle.syntax.specs.Program.{Part, whole, first, literal, part, string_call, PatternElement, value, free_filler, fixed_filler}
use Rattle.syntax.specs.Program.{Direction, forward, backward}
use Rattle.scanning.specs.Splits.{Split}
use Rattle.scanning.specs.Trials.{Scanned, scan}
use Rattle.values.specs.Conversion.{longest_string, substring, sign_of, digits, filled, text_of}
use Rattle.values.specs.Numbers.{is_negative}
use Rattle.values.specs.Result.{pure, stops_step}
use Rattle.machine.specs.Ends.{Ending, ends, stops, AnyValue, ends_bind}
use Rattle.machine.specs.Expressions.{length_in, part_in, element_in, string_in}
use Rattle.machine.specs.Scanning.{Searched, turned, restricted, searched_in, Valued, fixed_at, valued_in, pattern_in}
use Rattle.machine.specs.Scanning.{without_fillers, named, naming, with_replaced, storing, replacing, leaving, scanning_in}
use Rattle.machine.specs.State.{Memory, string_at, number_at, with_string, with_number, most_strings, most_numbers, fresh_memory}
use Rattle.machine.specs.Step.{set_string_in}

-- what holds of every element, and of what is read behind the last, holds behind a set of an element of which it holds
pub set_everywhere : {A : Type 0} (P : A → Type 0) (l : List A) (i : ℕ) (a d : A) → P a → ((j : ℕ) → P (get_or l j d)) → (j : ℕ)
    → P (get_or (set l i a) j d)
set_everywhere P [] i a d h g j = g j
set_everywhere P (x ∷ l) zero a d h g zero = h
set_everywhere P (x ∷ l) zero a d h g (suc j) = g (suc j)
set_everywhere P (x ∷ l) (suc i) a d h g zero = g 0
set_everywhere P (x ∷ l) (suc i) a d h g (suc j) = set_everywhere P l i a d h (λ k. g (suc k)) j

-- what holds of an element holds everywhere in a list of it
pub replicate_everywhere : {A : Type 0} (P : A → Type 0) (n : ℕ) (d : A) → P d → (j : ℕ) → P (get_or (replicate n d) j d)
replicate_everywhere P zero d h j = h
replicate_everywhere P (suc n) d h zero = h
replicate_everywhere P (suc n) d h (suc j) = replicate_everywhere P n d h j

-- 32 strings of at most 1,024 bytes and 32 numbers in range
pub record MemoryBounded (e : Edition) (m : Memory) : Type 0 where
  pub strings : length m.strings ≡ most_strings
  pub short : (s : ℕ) → length (string_at m s) ≤ longest_string
  pub numbers : length m.numbers ≡ most_numbers
  pub held : (i : ℕ) → nat_abs (number_at m i) ≤ e.limit

-- turned round it is as long
pub turned-length : (d : Direction) (r : List ℕ) → length (turned d r) ≡ length r
unfolding turned
turned-length forward r = refl
turned-length backward r = length-reverse r

-- and turned round twice it is as it was
pub turned-twice : (d : Direction) (r : List ℕ) → turned d (turned d r) ≡ r
unfolding turned
turned-twice forward r = refl
turned-twice backward r = reverse-reverse r

-- V5, V3 the restricted reference has n bytes, or all if the string is shorter
pub restricted_size : (d : Direction) (s n : ℕ) (v : List ℕ) → length (restricted d s n v).reference ≡ min n (length v)
unfolding restricted
restricted_size forward s n v = length-take n v
restricted_size backward s n v = rw (length-drop (length v - n) v) (omega arith)

module _ (e : Edition) where
  -- the memory before the first step
  pub fresh_bounded : MemoryBounded e fresh_memory
  unfolding fresh_memory string_at number_at
  fresh_bounded =
      record {
        strings = length-replicate most_strings [];
        short = replicate_everywhere (λ v. length v ≤ longest_string) most_strings [] (omega arith);
        numbers = length-replicate most_numbers (pos 0);
        held = replicate_everywhere (λ z. nat_abs z ≤ e.limit) most_numbers (pos 0) (omega arith);
      }

  -- with a short string put into it
  pub string_bounded : (m : Memory) (s : ℕ) (v : List ℕ) → length v ≤ longest_string → MemoryBounded e m → MemoryBounded e (with_string m s v)
  unfolding with_string string_at number_at
  string_bounded m s v h b =
      record {
        strings = length-set m.strings s v ∙ b.strings;
        short = set_everywhere (λ v. length v ≤ longest_string) m.strings s v [] h b.short;
        numbers = b.numbers;
        held = b.held;
      }

  -- with a number in range put into it
  pub number_bounded : (m : Memory) (i : ℕ) (z : ℤ) → nat_abs z ≤ e.limit → MemoryBounded e m → MemoryBounded e (with_number m i z)
  unfolding with_number string_at number_at
  number_bounded m i z h b =
      record {
        strings = b.strings;
        short = b.short;
        numbers = length-set m.numbers i z ∙ b.numbers;
        held = set_everywhere (λ z. nat_abs z ≤ e.limit) m.numbers i z (pos 0) h b.held;
      }

  fillers_bounded : (xs : List PatternElement) (m : Memory) → MemoryBounded e m → MemoryBounded e (without_fillers xs m)
  unfolding without_fillers
  fillers_bounded [] m b = b
  fillers_bounded (value x ∷ xs) m b = fillers_bounded xs m b
  fillers_bounded (free_filler s ∷ xs) m b = fillers_bounded xs (with_string m s []) (string_bounded m s [] (omega arith) b)
  fillers_bounded (fixed_filler s n ∷ xs) m b = fillers_bounded xs (with_string m s []) (string_bounded m s [] (omega arith) b)

  named_bounded : (name : Option ℕ) (piece : List ℕ) (m : Memory) → length piece ≤ longest_string → MemoryBounded e m
      → MemoryBounded e (named name piece m)
  unfolding named
  named_bounded none piece m h b = b
  named_bounded (some s) piece m h b = string_bounded m s piece h b

  naming_bounded : (vs : List Valued) (rest ls : List ℕ) (m : Memory) → length rest ≤ longest_string → MemoryBounded e m
      → MemoryBounded e (naming vs rest ls m)
  unfolding naming
  naming_bounded [] rest ls m h b = b
  naming_bounded (v ∷ vs) rest [] m h b = b
  naming_bounded (v ∷ vs) rest (l ∷ ls) m h b =
      naming_bounded vs (drop l rest) ls (named v.names (take l rest) m) (simp length-drop (omega arith))
      (named_bounded v.names (take l rest) m (simp length-take (omega arith)) b)

  -- Q20 what is stored is short
  pub storing_bounded : (s : ℕ) (v : List ℕ) (m : Memory) → MemoryBounded e m → Ending (MemoryBounded e) (storing s v m)
  unfolding storing pure stops_step
  storing_bounded s v m b =
      cond_cases (Ending (MemoryBounded e)) (leb (length v) longest_string)
      (λ q. ends (string_bounded m s v (leb-true (length v) longest_string q) b))
      (λ q. stops refl)

  -- a name or substring stops nothing
  pub part_ends_lem : (m : Memory) (p : Part) → Ending AnyValue (part_in m p)
  unfolding part_in substring pure
  part_ends_lem m (whole s) = ends tt
  part_ends_lem m (first s n) = cond_cases (Ending AnyValue) (is_negative (length_in m n)) (λ q. ends tt) (λ q. ends tt)

  text_ends : (n m : ℤ) → Ending AnyValue (text_of n m)
  unfolding text_of filled stops_step
  text_ends n m =
      let longer = length (sign_of m) + length (digits (nat_abs m)) in
      cond_cases (Ending AnyValue) (eqb (nat_abs n) 0) (λ q. ends tt)
      (λ q. cond_cases (Ending AnyValue) (ltb longest_string (nat_abs n)) (λ q. stops refl)
      (λ q. cond_cases (Ending AnyValue) (leb longer (nat_abs n)) (λ q. ends tt) (λ q. ends tt)))

  element_ends : (m : Memory) (x : Program.Element) → Ending AnyValue (element_in e m x)
  unfolding element_in pure
  element_ends m (literal w) = ends tt
  element_ends m (part p) = part_ends_lem m p
  element_ends m (string_call n i) = text_ends (length_in m n) (number_at m i)

  -- a string expression
  pub expression_ends : (m : Memory) (xs : List Program.Element) → Ending AnyValue (string_in e m xs)
  unfolding string_in pure
  expression_ends m [] = ends tt
  expression_ends m (x ∷ xs) =
      ends_bind (element_ends m x) (λ v _. ends_bind (expression_ends m xs) (λ vs _. ends tt))

  valued_ends : (m : Memory) (x : PatternElement) → Ending AnyValue (valued_in e m x)
  unfolding valued_in fixed_at pure
  valued_ends m (value x) = ends_bind (element_ends m x) (λ v _. ends tt)
  valued_ends m (free_filler s) = ends tt
  valued_ends m (fixed_filler s n) = cond_cases (Ending AnyValue) (is_negative (length_in m n)) (λ q. ends tt) (λ q. ends tt)

  pattern_ends : (m : Memory) (xs : List PatternElement) → Ending AnyValue (pattern_in e m xs)
  unfolding pattern_in pure
  pattern_ends m [] = ends tt
  pattern_ends m (x ∷ xs) = ends_bind (valued_ends m x) (λ v _. ends_bind (pattern_ends m xs) (λ vs _. ends tt))

  -- the reference is no longer than its string
  Within : Searched → Type 0
  Within x = length x.reference ≤ longest_string

  restricted_within : (d : Direction) (s n : ℕ) (v : List ℕ) → length v ≤ longest_string → Within (restricted d s n v)
  unfolding Within
  restricted_within d s n v h = omega (arith, restricted_size d s n v)

  searched_within : (m : Memory) (d : Direction) (p : Part) → MemoryBounded e m → Ending Within (searched_in m d p)
  unfolding searched_in pure stops_step
  searched_within m d (whole s) b = ends (restricted_within d s (length (string_at m s)) (string_at m s) (b.short s))
  searched_within m d (first s n) b =
      let z = length_in m n in
      cond_cases (Ending Within) (is_negative z) (λ q. stops refl)
      (λ q. ends (restricted_within d s (nat_abs z) (string_at m s) (b.short s)))

  replacing_bounded : (d : Direction) (x : Searched) (s : Split) (r : Option (List Program.Element)) (m : Memory) → MemoryBounded e m
      → Ending (MemoryBounded e) (replacing e d x s r m)
  unfolding replacing pure
  replacing_bounded d x s none m b = ends b
  replacing_bounded d x s (some xs) m b =
      ends_bind (expression_ends m xs)
      (λ v _. storing_bounded x.place (x.before ++ (turned d (with_replaced (turned d x.reference) s v) ++ x.behind)) m b)

  leaving_bounded : (d : Direction) (x : Searched) (vs : List Valued) (r : Option (List Program.Element)) (m : Memory) (a : Scanned)
      (s : Option Split) → Within x → MemoryBounded e m → Ending (λ l. MemoryBounded e l.memory) (leaving e d x vs r m a s)
  unfolding leaving Within pure
  leaving_bounded d x vs r m a none h b = ends b
  leaving_bounded d x vs r m a (some s) h b =
      let rest = drop s.start (turned d x.reference) in
      let small : length rest ≤ longest_string = simp (length-drop, turned-length) (omega arith) in
      ends_bind (replacing_bounded d x s r (naming vs rest s.lengths m) (naming_bounded vs rest s.lengths m small b))
      (λ left g. ends g)

  -- SCAN and BACKSCAN
  pub scanning_bounded : (m : Memory) (d : Direction) (p : Part) (xs : List PatternElement) (r : Option (List Program.Element))
      → MemoryBounded e m → Ending (λ l. MemoryBounded e l.memory) (scanning_in e m d p xs r)
  unfolding scanning_in
  scanning_bounded m d p xs r b =
      ends_bind (searched_within m d p b)
      (λ x h.
      ends_bind (pattern_ends m xs)
      (λ vs _.
      let a = scan (map (λ v. v.element) vs) (turned d x.reference) in
      leaving_bounded d x vs r (without_fillers xs m) a a.split h (fillers_bounded xs m b)))

  -- a string replacement
  pub replacement_bounded : (m : Memory) (p : Part) (xs : List Program.Element) → MemoryBounded e m → Ending (MemoryBounded e) (set_string_in e m p xs)
  unfolding set_string_in
  replacement_bounded m (whole s) xs b = ends_bind (expression_ends m xs) (λ v _. storing_bounded s v m b)
  replacement_bounded m (first s n) xs b =
      let z = length_in m n in
      cond_cases (Ending (MemoryBounded e)) (is_negative z) (λ q. ends b)
      (λ q. ends_bind (expression_ends m xs) (λ v _. storing_bounded s (v ++ drop (nat_abs z) (string_at m s)) m b))
