-- Laws of a scan whose reference is known: where it was copied to, and what is left of the work. Assumes nothing.
use Rattle.std.specs.Prelude.{List, ◌≡◌, ℕ, ◌-◌, ◌≤◌, length, take}
use Rattle.std.proofs.Common.{sym, ◌∙◌, arith}
use Rattle.std.proofs.Math.Path.{ap}
use Rattle.base.specs.Current.{current}
use Rattle.encoding.specs.BufferLaws.{StoreGood, good_short}
use Rattle.encoding.specs.Splices.{splice, take-front}
use Rattle.syntax.specs.Program as Program
use Rattle.store.specs.Clauses.{string_of}
use Rattle.evaluator.specs.Memory.{memory_in}
use Rattle.machine.specs.Scanning.{leaving, pattern_in, scanning_in, searched_in, turned, without_fillers}
use Rattle.decoder.specs.Meaning.{part_meaning, patterns_meaning, replacement_meaning}
use Rattle.encoding.specs.Meaning.{direction_meaning}
use Rattle.decoder.specs.declared.Scan.{Scan}
use Rattle.effects.specs.ReferenceLaws.{reference_size}
use Rattle.effects.specs.References.{searched_at, turned_reference}
use Rattle.effects.specs.Valued.{Between}
use Rattle.effects.specs.declared.Span.{Span}
use Rattle.values.specs.Result.{done, stop, ◌>>=◌}
use Rattle.values.specs.ResultLaws.{stopped, notes_none}
use Rattle.scan_statement.specs.Scans.{scanning_of}
use Rattle.scan_statement.specs.Searches.{scan_of}
use Rattle.scan_statement.specs.Stages.{searched_rest}

-- a reference has room in a string's buffer, and is what stands there once it was copied to its front
module _ (store : List ℕ) (at : Span) (b : Between store at.place at.from at.to) where
  pub reference_fits : StoreGood store → at.to - at.from ≤ 1024
  reference_fits g = omega (arith, b.order, b.within, good_short store g at.place)

  pub copied_reference : (d : Program.Direction) (before after : List ℕ) → after ≡ splice before 0 (turned_reference store d at)
      → take (at.to - at.from) after ≡ turned_reference store d at
  copied_reference d before after e =
      let v = turned_reference store d at in
      ap (λ (n : ℕ). take n after) (sym (reference_size store d at b)) ∙ ap (take (length v)) e ∙ take-front before v

module _ (table store state : List ℕ) (s : Scan) where
  -- with a reference, the work is what is left of it
  pub scanning_rest : (at : Span)
      → searched_in (memory_in store state) (direction_meaning s.direction) (part_meaning s.part)
      ≡ done (searched_at at.place at.from at.to (string_of store at.place)) 0
      → scanning_of table store state s
      ≡ searched_rest table store state s.direction at s.pattern (replacement_meaning table s.replacement)
  unfolding scanning_in ◌>>=◌
  scanning_rest at e =
      let d = direction_meaning s.direction in
      let m = memory_in store state in
      let xs = patterns_meaning table s.pattern in
      ap (λ w. w >>= λ x. pattern_in current m xs >>= λ vs.
      leaving current d x vs (replacement_meaning table s.replacement) (without_fillers xs m) (scan_of vs (turned d x.reference))
      (scan_of vs (turned d x.reference)).split) e
      ∙ notes_none (searched_rest table store state s.direction at s.pattern (replacement_meaning table s.replacement))

  -- without one, nothing is left
  pub scanning_stops : (k : ℕ) → searched_in (memory_in store state) (direction_meaning s.direction) (part_meaning s.part) ≡ stop k
      → scanning_of table store state s ≡ stop k
  unfolding scanning_in
  scanning_stops k e = stopped (searched_in (memory_in store state) (direction_meaning s.direction) (part_meaning s.part)) _ k e
