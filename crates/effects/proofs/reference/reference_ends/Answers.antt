-- `reference::reference_ends` meets its contract: the whole string or n bytes are searched, or n is negative.
use Rattle.std.proofs.Common.{◌≡◌, refl, sym, ap, ap₂, subst, ◌∙◌, ℕ, min, nat_abs, length, Ok}
use Rattle.std.proofs.lemmas.Result.{err_from_is_err_and}
use Rattle.store.specs.Clauses.{string_of}
use Rattle.evaluator.specs.Memory.{memory_in}
use Rattle.syntax.specs.Program as Program
use Rattle.machine.specs.Expressions.{length_in}
use Rattle.machine.specs.Scanning.{searched_in}
use Rattle.decoder.specs.Holds.{PartHolds}
use Rattle.decoder.specs.Meaning.{length_meaning, part_meaning}
use Rattle.encoding.specs.Meaning.{direction_meaning}
use Rattle.decoder.specs.declared.Part.TheVariants.{Whole, First}
use Rattle.effects.specs.ReferenceLaws.{first_refers, first_stops, whole_refers}
use Rattle.effects.specs.References.{Refers, restricted_by}
use Rattle.effects.proofs.reference.reference_ends.Goals as goal

pub returns-in_err-most-in-First : goal.returns-in_err-most-in-First
returns-in_err-most-in-First c =
    let a = c.args in
    let m = a.memory in
    let asks = c.in_err-most-in-First.ensures m.store.now in
    let p = err_from_is_err_and c.from_residual.result c.from_residual.ensures.1 in
    rw (p.1, p.2, asks.1, c.in-First.is)
    (first_stops (direction_meaning a.d) m.store.now m.state.now c.in-First.place (length_meaning c.in-First.n) asks.0)

pub returns-in-Whole : goal.returns-in-Whole
returns-in-Whole c =
    let a = c.args in
    let store = a.memory.store.now in
    let state = a.memory.state.now in
    let place = c.in-Whole.place in
    let d = direction_meaning a.d in
    let m = memory_in store state in
    let size = length (string_of store place) in
    let is : c.restrict.result ≡ restricted_by d place size size =
    c.restrict.ensures ∙ ap (λ (j : ℕ). restricted_by d place j j) c.string_length-length.ensures.0 in
    subst (λ p. Refers (Ok c.restrict.result) store p (searched_in m d (part_meaning p))) (sym c.in-Whole.is)
    (subst (λ r. Refers (Ok r) store (Whole place) (searched_in m d (Program.whole place))) (sym is)
    (whole_refers d store state place (Whole place) (subst PartHolds c.in-Whole.is c.requires) refl))

pub returns-in_ok-most-in-First : goal.returns-in_ok-most-in-First
returns-in_ok-most-in-First c =
    let a = c.args in
    let store = a.memory.store.now in
    let state = a.memory.state.now in
    let place = c.in-First.place in
    let n = length_meaning c.in-First.n in
    let d = direction_meaning a.d in
    let m = memory_in store state in
    let size = length (string_of store place) in
    let asks = c.in_ok-most-in-First.ensures store in
    let most : c.min.result ≡ min (nat_abs (length_in m n)) size =
    c.min.ensures ∙ ap₂ min asks.1 c.string_length-length-in-First.ensures.0 in
    let is : c.restrict-in-First.result ≡ restricted_by d place (min (nat_abs (length_in m n)) size) size =
    c.restrict-in-First.ensures ∙ ap₂ (λ (j k : ℕ). restricted_by d place j k) most c.string_length-length-in-First.ensures.0 in
    subst (λ p. Refers (Ok c.restrict-in-First.result) store p (searched_in m d (part_meaning p))) (sym c.in-First.is)
    (subst (λ r. Refers (Ok r) store (First place c.in-First.n) (searched_in m d (Program.first place n))) (sym is)
    (first_refers d store state place (First place c.in-First.n) (subst PartHolds c.in-First.is c.requires).0 refl n asks.0))
