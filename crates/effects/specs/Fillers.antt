-- The fillers of a scan in a store: what it is to make them null and to name them. Assumes nothing.
use Rattle.std.specs.Prelude.{Bool, false, cond, ◌||◌, List, [], ◌∷◌, ◌≡◌, ℕ, ◌+◌, ◌-◌, ◌≤◌, ◌<◌, eqb, ltb, ℤ, length, take, drop, get_or}
use Rattle.std.proofs.Math.Option.{Option, none, some}
use Rattle.base.specs.Current.{table_size}
use Rattle.base.specs.Lists.{total}
use Rattle.encoding.specs.BufferLaws.{StoreGood, store_with}
use Rattle.store.specs.Clauses.{string_of}
use Rattle.syntax.specs.Program.{Direction, PatternElement, value, free_filler, fixed_filler}
use Rattle.machine.specs.Scanning.{Valued, without_fillers, naming}
use Rattle.decoder.specs.Meaning.{patterns_meaning}
use Rattle.decoder.specs.declared.Stretch.{Stretch}
use Rattle.scanning.specs.Splits.{free}
use Rattle.effects.specs.Leaving.{memory_of, StoreStays}
use Rattle.effects.specs.References.{CopiedFor, turned_reference}
use Rattle.effects.specs.Valued.{Between}
use Rattle.effects.specs.declared.Span.{Span}

-- the place of a filler; 32, which is none, for a value
abbrev pub filler_of : PatternElement → ℕ
filler_of (value x) = 32
filler_of (free_filler s) = s
filler_of (fixed_filler s n) = s

-- the string that a place names
unfoldable pub named_string : ℕ → Option ℕ
named_string s = cond (ltb s 32) (some s) none

-- the store with a string set, if the place is one
unfoldable pub renamed : List ℕ → ℕ → List ℕ → List ℕ
renamed store s v = cond (ltb s 32) (store_with store s v) store

-- a pattern of a table, and a store with its fillers
pub record Patterned (table store : List ℕ) (s : Stretch) : Type 0 where
  pub bytes : table_size ≤ length table
  pub inside : s.from + s.count ≤ 1024
  pub good : StoreGood store

-- the fillers are null
pub record Nulled (table : List ℕ) (s : Stretch) (store left : List ℕ) : Type 0 where
  pub stays : StoreStays store left
  pub work : (numbers : List ℤ) → without_fillers (patterns_meaning table s) (memory_of store numbers) ≡ memory_of left numbers

-- the lengths of a split's pieces
abbrev pub lengths_in : List ℕ → ℕ → List ℕ
lengths_in answer count = take count (drop 4 answer)

-- the pieces of a split lie in the reference
pub record Nameable (store reference names answer : List ℕ) (count : ℕ) : Type 0 where
  pub good : StoreGood store
  pub few : count ≤ 20
  pub places : count ≤ length names
  pub short : length reference ≤ 1024
  pub pieces : get_or answer 1 0 + total (λ l. l) (lengths_in answer count) ≤ length reference

-- they lie in the bytes of a span, of which a BACKSCAN has a copy; none of them is to name the string that has these bytes
pub record SpanNameable (store : List ℕ) (d : Direction) (at : Span) (copy names answer : List ℕ) (count : ℕ) : Type 0 where
  pub pieces : Nameable store (turned_reference store d at) names answer count
  pub between : Between store at.place at.from at.to
  pub copied : CopiedFor d store at copy
  pub apart : (i : ℕ) → i < count → get_or names i 0 ≡ at.place → ⊥

-- a piece of these bytes
pub record PieceNameable (store : List ℕ) (d : Direction) (at : Span) (copy : List ℕ) (start n : ℕ) : Type 0 where
  pub good : StoreGood store
  pub between : Between store at.place at.from at.to
  pub copied : CopiedFor d store at copy
  pub inside : start + n ≤ at.to - at.from

-- an element that names nothing: what lies behind the last of them
abbrev pub nobody : Valued
nobody = record { names = none; element = free }

-- these places are those that the elements' pieces are to name
pub record PlacesNamed (names : List ℕ) (vs : List Valued) : Type 0 where
  pub each : (i : ℕ) → i < length vs → (get_or vs i nobody).names ≡ named_string (get_or names i 0)

-- the pieces are named
pub record PiecesNamed (store left reference names answer : List ℕ) (count : ℕ) : Type 0 where
  pub stays : StoreStays store left
  pub work : (vs : List Valued) (numbers : List ℤ) → length vs ≡ count → PlacesNamed names vs
      → naming vs (drop (get_or answer 1 0) reference) (lengths_in answer count) (memory_of store numbers) ≡ memory_of left numbers

-- a place is that of a filler
unfoldable pub is_filler : ℕ → List PatternElement → Bool
is_filler i [] = false
is_filler i (x ∷ xs) = eqb i (filler_of x) || is_filler i xs

-- a pattern of a table, and two stores with its fillers
pub record Copying (table from to : List ℕ) (s : Stretch) : Type 0 where
  pub bytes : table_size ≤ length table
  pub inside : s.from + s.count ≤ 1024
  pub source : StoreGood from
  pub good : StoreGood to

-- the fillers are those of the other store, and all other strings are as they were
pub record Copied (table : List ℕ) (s : Stretch) (from to left : List ℕ) : Type 0 where
  pub stays : StoreStays to left
  pub each : (i : ℕ) → i < 32 → string_of left i ≡ cond (is_filler i (patterns_meaning table s)) (string_of from i) (string_of to i)
