-- `finding::find_split` meets its contract: what is searched are the bytes of the string, or their copy turned round.
use mathlib.Core.List.{List, []}
use mathlib.Core.Path.{◌≡◌, sym, ap, ap₂, subst, ◌∙◌}
use Prim.Native.Nat.{ℕ, ◌-◌}
use lib.ListN.{take}
use lib.Seq.{length-take-le}
use native.Mathlib.Omega.{arith}
use Rattle.encoding.specs.Meaning.{direction_meaning}
use Rattle.encoding.specs.declared.cells.Direction.{Direction}
use Rattle.machine.specs.Scanning.{turned}
use Rattle.syntax.specs.Program.{backward}
use Rattle.scan.specs.Rows.{pattern_of}
use Rattle.scanning.specs.Call.{answer_numbers}
use Rattle.scanning.specs.Trials.{scan}
use Rattle.effects.specs.References.{CopiedFor, stretch_of, turned_reference}
use Rattle.scan_statement.specs.ReferenceLaws.{copied_reference, reference_fits}
use Rattle.scan_statement.specs.SearchLaws.{span_nameable, span_searched}
use Rattle.scan_statement.proofs.finding.find_split.Goals.{After-scan_into, After-scan_into-in-Backward}
use Rattle.scan_statement.proofs.finding.find_split.Goals as goal

-- the answer of each is that of the scan of what is searched
scanned : (c : After-scan_into)
    → c.scan_into.new.answer
    ≡ answer_numbers 0
    (scan (pattern_of c.args.values.now c.args.rows.now c.args.s.pattern.count)
    (turned_reference c.args.store.now (direction_meaning c.args.s.direction) c.args.at))
unfolding turned
scanned c =
    let a = c.args in
    let answers : List ℕ → List ℕ = λ r. answer_numbers 0 (scan (pattern_of a.values.now a.rows.now a.s.pattern.count) r) in
    c.scan_into.ensures
    ∙ ap₂ (λ (d : Direction) (l : List ℕ). answers (turned (direction_meaning d) (stretch_of l a.at.from a.at.to))) (sym c.in-Forward.is)
    c.string-string.ensures.0

-- the copy is the reference turned round
copied : (c : After-scan_into-in-Backward)
    → take (c.args.at.to - c.args.at.from) c.turn_reference.new.out ≡ turned_reference c.args.store.now backward c.args.at
copied c =
    copied_reference c.args.store.now c.args.at c.requires.between backward _ c.turn_reference.new.out c.turn_reference.ensures

scanned-turned : (c : After-scan_into-in-Backward)
    → c.scan_into-in-Backward.new.answer
    ≡ answer_numbers 0
    (scan (pattern_of c.args.values.now c.args.rows.now c.args.s.pattern.count)
    (turned_reference c.args.store.now (direction_meaning c.args.s.direction) c.args.at))
scanned-turned c =
    let a = c.args in
    let answers : List ℕ → List ℕ = λ r. answer_numbers 0 (scan (pattern_of a.values.now a.rows.now a.s.pattern.count) r) in
    c.scan_into-in-Backward.ensures
    ∙ ap answers (copied c)
    ∙ ap (λ (d : Direction). answers (turned_reference a.store.now (direction_meaning d) a.at)) (sym c.in-Backward.is)

pub slice_bounds-turned-end : goal.slice_bounds-turned-end
slice_bounds-turned-end c =
    let fits = reference_fits c.args.store.now c.args.at c.requires.between c.requires.rows_are.good in
    omega (arith, fits, c.turn_reference.array_long)

pub slice_bounds-reference-length : goal.slice_bounds-reference-length
slice_bounds-reference-length c =
    let a = c.args in
    let fits = reference_fits a.store.now a.at c.requires.between c.requires.rows_are.good in
    sym (length-take-le (a.at.to - a.at.from) c.turn_reference.new.out (omega (arith, fits, c.turn_reference.array_long)))

pub name_found-requires : goal.name_found-requires
unfolding CopiedFor
name_found-requires c =
    let a = c.args in
    let none = subst (λ (d : Direction). CopiedFor (direction_meaning d) a.store.now a.at []) (sym c.in-Forward.is) tt in
    span_nameable c.requires (scanned (goal.at.name_found-requires c).After-scan_into) none c.told-names

pub name_found-requires-in-Backward : goal.name_found-requires-in-Backward
unfolding CopiedFor
name_found-requires-in-Backward c =
    let a = c.args in
    let there = (goal.at.name_found-requires-in-Backward c).After-scan_into-in-Backward in
    let copy = take (a.at.to - a.at.from) c.turn_reference.new.out in
    let is = subst (λ (d : Direction). CopiedFor (direction_meaning d) a.store.now a.at copy) (sym c.in-Backward.is) (copied there) in
    span_nameable c.requires (scanned-turned there) is c.told-names

pub returns-in-Forward : goal.returns-in-Forward
returns-in-Forward c =
    span_searched c.requires (scanned (goal.at.returns-in-Forward c).After-scan_into) c.name_found.result c.name_found.ensures.by

pub returns-in-Backward : goal.returns-in-Backward
returns-in-Backward c =
    let named = c.name_found-in-Backward in
    span_searched c.requires (scanned-turned (goal.at.returns-in-Backward c).After-scan_into-in-Backward) named.result named.ensures.by
