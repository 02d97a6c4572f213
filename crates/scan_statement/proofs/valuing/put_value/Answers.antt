-- `valuing::put_value` meets its contract: the value is appended to nothing where its row has room for it.
use mathlib.Core.List.{List}
use mathlib.Core.Path.{◌≡◌, subst, ◌∙◌}
use Prim.Native.Nat.{ℕ, ◌+◌, ◌*◌, ◌-◌}
use native.Mathlib.Omega.{arith}
use lib.ListN.{take, drop}
use Rattle.std.proofs.lemmas.Result.{err_from_is_err_and}
use Rattle.base.specs.Current.{current}
use Rattle.base.specs.ListLaws.{length_stretch}
use Rattle.numbers.specs.Text.{Text}
use Rattle.evaluator.specs.Appending.{AppendedText}
use Rattle.evaluator.specs.Memory.{memory_in}
use Rattle.machine.specs.Expressions.{element_in}
use Rattle.decoder.specs.Meaning.{element_meaning}
use Rattle.scan_statement.specs.ElementLaws.{added_stands}
use Rattle.scan_statement.proofs.valuing.put_value.Goals.{After-append_element}
use Rattle.scan_statement.proofs.valuing.put_value.Goals as goal

pub slice_bounds-append_element-end : goal.slice_bounds-append_element-end
slice_bounds-append_element-end c =
    omega (arith, c.requires.few, c.told-values)

pub append_element-requires : goal.append_element-requires
append_element-requires c =
    let at = 1024 * c.args.i in
    let size : at + 1024 - at ≡ 1024 = omega arith in
    record {
      bytes = c.requires.bytes;
      holds = c.requires.holds;
      room = length_stretch c.args.values.now at (at + 1024 - at) (omega (arith, c.requires.few, c.told-values)) ∙ size;
    }

-- what was appended
abbrev lent : After-append_element → List ℕ
lent c =
    let a = c.args in
    let at = 1024 * a.i in
    take (at + 1024 - at) (drop at a.values.now)

adds : (c : After-append_element) {r : Text} → c.append_element.result ≡ r
    → (let a = c.args in
    AppendedText r (lent c) c.append_element.new.out 0
    (element_in current (memory_in a.memory.store.now a.memory.state.now) (element_meaning a.table.now a.x)))
adds c e =
    let a = c.args in
    subst (λ (r : Text). AppendedText r (lent c) c.append_element.new.out 0
    (element_in current (memory_in a.memory.store.now a.memory.state.now) (element_meaning a.table.now a.x)))
    e c.append_element.ensures.added

pub put_string-requires : goal.put_string-requires
put_string-requires c =
    let added = (goal.at.put_string-requires c).After-append_element in
    record { few = c.requires.few; short = (adds added c.in_ok-text.was).short }

pub returns : goal.returns
returns c =
    let added = (goal.at.returns c).After-append_element in
    let a = c.args in
    let at = 1024 * a.i in
    let size : at + 1024 - at ≡ 1024 = omega arith in
    let bytes = c.append_element.new.out in
    let room = c.append_element.ensures.room in
    let value = adds added c.in_ok-text.was in
    record {
      value = value.value;
      work = value.work;
      row = c.put_string.ensures a.values.now _ value.value
          (added_stands a.values.now bytes a.i (at + 1024 - at) c.told-values room size value);
    }

pub returns-in_err-text : goal.returns-in_err-text
returns-in_err-text c =
    let added = (goal.at.returns-in_err-text c).After-append_element in
    let p = err_from_is_err_and c.from_residual.result c.from_residual.ensures.1 in
    rw (p.1, p.2) (adds added c.in_err-text.was)
