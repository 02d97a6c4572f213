-- `evaluator::append_element` meets its contract. A literal lies in the table, a part of a string in the store, and STRING's text in scratch.
use mathlib.Core.List.{List}
use mathlib.Core.Path.{sym, ap₂, subst}
use Prim.Native.Nat.{ℕ}
use Rattle.std.proofs.Common.{Bor}
use Rattle.machine.specs.Expressions.{element_in}
use Rattle.values.specs.Conversion.{text_of}
use Rattle.values.specs.Result.{Result, done, pure}
use Rattle.values.specs.declared.Noted.{Noted}
use Rattle.evaluator.specs.Appending.{Appends}
use Rattle.evaluator.proofs.append_element.Goals as goal

pub append_text-requires-clause-both_in_range : goal.append_text-requires-clause-both_in_range
append_text-requires-clause-both_in_range c =
    let store = c.args.memory.store.now in
    record { left = (c.length_value.ensures store).range; right = (c.number_at.ensures store).range }

pub returns-in-Literal : goal.returns-in-Literal
unfolding element_in pure
returns-in-Literal c =
    let after = c.append_noted.new.out in
    rw c.in-Literal.is
    (subst (λ (v : Noted (Bor (List ℕ))). Appends c.append_noted.result c.args.out.now after c.args.at (done v.value.now v.notes))
    c.plain.ensures c.append_noted.ensures)

pub returns-in-Part : goal.returns-in-Part
unfolding element_in
returns-in-Part c =
    let after = c.append_noted-in-Part.new.out in
    rw c.in-Part.is
    (subst (λ (w : Result (List ℕ)). Appends c.append_noted-in-Part.result c.args.out.now after c.args.at w)
    (sym c.part_bytes.ensures.work) c.append_noted-in-Part.ensures)

pub returns-in-Text : goal.returns-in-Text
unfolding element_in
returns-in-Text c =
    let store = c.args.memory.store.now in
    let after = c.append_text.new.out in
    let n = (c.length_value.ensures store).value in
    let m = (c.number_at.ensures store).value in
    rw c.in-Text.is
    (subst (λ (w : Result (List ℕ)). Appends c.append_text.result c.args.out.now after c.args.at w) (ap₂ text_of n m)
    c.append_text.ensures)
