-- What a scan searches, as a stretch of a string. Assumes nothing.
use Rattle.std.specs.Prelude as std
use Rattle.std.specs.Prelude.{Ok, Err, List, ◌≡◌, ℕ, ◌-◌, take, drop}
use Rattle.store.specs.Clauses.{string_of}
use Rattle.syntax.specs.Program.{Direction, forward, backward}
use Rattle.machine.specs.Scanning.{Searched, turned}
use Rattle.decoder.specs.Holds.{searched_place}
use Rattle.decoder.specs.declared.Part.{Part}
use Rattle.values.specs.Result.{Result, done, stop}
use Rattle.values.specs.Stops.{stop_number}
use Rattle.values.specs.declared.Stop.{Stop}
use Rattle.effects.specs.Valued.{Between}
use Rattle.effects.specs.declared.Span.{Span}

-- the bytes from..to of a string
abbrev pub stretch_of : List ℕ → (from to : ℕ) → List ℕ
stretch_of v from to = take (to - from) (drop from v)

abbrev pub reference_of : (store : List ℕ) → (place from to : ℕ) → List ℕ
reference_of store place from to = stretch_of (string_of store place) from to

-- the reference as a scan of the bytes of a span looks through it: in a BACKSCAN turned round
abbrev pub turned_reference : (store : List ℕ) → Direction → Span → List ℕ
turned_reference store d at = turned d (reference_of store at.place at.from at.to)

-- a copy of it for a BACKSCAN; a SCAN needs none
unfoldable pub CopiedFor : Direction → (store : List ℕ) → Span → List ℕ → Type 0
CopiedFor forward store at copy = Unit {0}
CopiedFor backward store at copy = copy ≡ turned_reference store backward at

-- a string searched there
abbrev pub searched_at : (place from to : ℕ) → List ℕ → Searched
searched_at place from to v = record { place = place; before = take from v; reference = stretch_of v from to; behind = drop to v }

-- the first or the last n bytes of a string
abbrev pub restricted_by : Direction → (place n size : ℕ) → Span
restricted_by forward place n size = record { place = place; from = 0; to = n }
restricted_by backward place n size = record { place = place; from = size - n; to = size }

-- the reference lies in the string that the statement names
pub record ReferenceFound (store : List ℕ) (place from to : ℕ) (p : Part) (w : Result Searched) : Type 0 where
  pub names : place ≡ searched_place p
  pub between : Between store place from to
  pub work : w ≡ done (searched_at place from to (string_of store place)) 0

-- where it lies, or what stops the run
abbrev pub Refers : std.Result Span Stop → List ℕ → Part → Result Searched → Type 0
Refers (Ok at) store p w = ReferenceFound store at.place at.from at.to p w
Refers (Err s) store p w = w ≡ stop (stop_number s)
