-- `extend` puts the parts of extending the environment together.
use mathlib.Core.Path.{refl}
use native.Mathlib.Omega.{arith}
use Rattle.symbols.specs.Entries.{purpose_meaning}
use Rattle.symbols.specs.Environment.{labels_in, routines_in}
use Rattle.statement_checks.proofs.extend.Goals as goal

pub list_names-requires : goal.list_names-requires
unfolding purpose_meaning
list_names-requires c = (omega arith, c.requires.strings)

pub list_names-requires-2 : goal.list_names-requires-2
unfolding purpose_meaning
list_names-requires-2 c = (omega arith, c.requires.numbers)

pub returns : goal.returns
unfolding purpose_meaning labels_in routines_in
returns c =
    let e = c.put_counts.ensures in
    record {
      opened = c.first_routine-opened.result;
      opens = c.first_routine-opened.ensures;
      names = refl;
      strings = rw e c.list_names.ensures;
      numbers = rw e c.list_names-2.ensures;
      labels = rw e c.list_labels.ensures;
      routines = rw e c.extend_routines.ensures;
      statements = rw e;
      steps = rw e;
      ended = rw e;
      scope = rw e c.scope_behind.ensures;
      elements = rw e;
      items = rw e;
      literals = rw e;
      used = c.note_uses.ensures;
    }
