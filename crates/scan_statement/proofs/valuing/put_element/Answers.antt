-- `valuing::put_element` meets its contract: each kind of element has its row.
use mathlib.Core.Path.{sym, subst}
use native.Mathlib.Omega.{arith}
use lib.IntN.{ℤ}
use lib.ListN.{set}
use Rattle.base.specs.Current.{current}
use Rattle.evaluator.specs.Memory.{memory_in}
use Rattle.machine.specs.Scanning.{fixed_at, valued_in}
use Rattle.decoder.specs.Holds.{PatternHolds}
use Rattle.decoder.specs.Meaning.{element_meaning, pattern_meaning}
use Rattle.decoder.specs.declared.PatternElement.{PatternElement}
use Rattle.std.specs.Prelude.{Ok}
use Rattle.scan_statement.specs.Putting.{RowSmall}
use Rattle.scan_statement.specs.ElementLaws.{free_put, value_put}
use Rattle.scan_statement.specs.Patterns.{ElementRowPut, ElementRowPutBy}
use Rattle.scan_statement.proofs.valuing.put_element.Goals.{After-put_fixed, After-put_row_of, After-put_value}
use Rattle.scan_statement.proofs.valuing.put_element.Goals as goal

pub put_value-requires : goal.put_value-requires
put_value-requires c =
    record {
      bytes = c.requires.bytes;
      holds = subst (PatternHolds c.requires.searched) c.in-Value.is c.requires.holds;
      few = c.requires.few;
    }

pub overflow_cast-names : goal.overflow_cast-names
overflow_cast-names c =
    let holds = subst (PatternHolds c.requires.searched) c.in-Free.is c.requires.holds in
    record { fits = omega (arith, holds.place) }

pub put_row_of-requires-clause-small : goal.put_row_of-requires-clause-small
unfolding RowSmall
put_row_of-requires-clause-small c = tt

pub length_value-z-requires : goal.length_value-z-requires
length_value-z-requires c =
    let holds = subst (PatternHolds c.requires.searched) c.in-Fixed.is c.requires.holds in record {
      state_numbered = c.args.memory.ready.numbers;
      length_holds = holds.1;
    }

pub put_fixed-requires : goal.put_fixed-requires
put_fixed-requires c =
    let holds = subst (PatternHolds c.requires.searched) c.in-Fixed.is c.requires.holds in
    record {
      range = (c.length_value-z.ensures c.args.memory.store.now).range;
      known = holds.0.place;
      few = c.requires.few;
    }

pub returns-in-Value : goal.returns-in-Value
returns-in-Value c =
    let put = (goal.at.returns-in-Value c).After-put_value in
    let a = c.args in
    let m = memory_in a.memory.store.now a.memory.state.now in
    let e = c.put_value.ensures in
    let values = c.put_value.new.values in
    let rows = c.put_value.new.rows in
    record {
      put =
          subst (λ (x : PatternElement). ElementRowPutBy c.put_value.result a.values.now values a.rows.now rows a.names.now (set a.names.now a.i 32)
          a.i (valued_in current m (pattern_meaning a.table.now x)))
          (sym c.in-Value.is)
          (value_put a.values.now a.rows.now rows a.names.now a.i m c.put_value.result values (element_meaning a.table.now c.in-Value.e) e);
    }

pub returns-in-Free : goal.returns-in-Free
returns-in-Free c =
    let put = (goal.at.returns-in-Free c).After-put_row_of in
    let a = c.args in
    let m = memory_in a.memory.store.now a.memory.state.now in
    let holds = subst (PatternHolds c.requires.searched) c.in-Free.is c.requires.holds in
    let place = c.in-Free.place in
    let rows = c.put_row_of.new.rows in
    record {
      put =
          subst (λ (x : PatternElement). ElementRowPutBy (Ok 0) a.values.now a.values.now a.rows.now rows a.names.now
          (set a.names.now a.i place) a.i (valued_in current m (pattern_meaning a.table.now x)))
          (sym c.in-Free.is)
          (free_put a.values.now a.rows.now rows a.names.now a.i m place holds.place c.put_row_of.ensures);
    }

pub returns-in-Fixed : goal.returns-in-Fixed
unfolding valued_in
returns-in-Fixed c =
    let put = (goal.at.returns-in-Fixed c).After-put_fixed in
    let a = c.args in
    let m = memory_in a.memory.store.now a.memory.state.now in
    let place = c.in-Fixed.place in
    let rows = c.put_fixed.new.rows in
    let names = c.put_fixed.new.names in
    record {
      put =
          subst (λ (x : PatternElement). ElementRowPutBy (Ok c.put_fixed.result) a.values.now a.values.now a.rows.now rows a.names.now
          names a.i (valued_in current m (pattern_meaning a.table.now x)))
          (sym c.in-Fixed.is)
          (subst (λ (z : ℤ). ElementRowPut a.values.now a.values.now a.rows.now rows a.names.now names a.i c.put_fixed.result (fixed_at place z))
          (c.length_value-z.ensures a.memory.store.now).value
          (c.put_fixed.ensures a.values.now));
    }
