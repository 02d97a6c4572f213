-- `scan_span` meets its contract: the pattern's values stop it, there is no split, the replacement takes the place of the pieces, or it
use mathlib.Core.Path.{◌≡◌, refl, sym, subst}
use Prim.Native.Nat.{ℕ}
use native.Mathlib.Omega.{arith}
use Rattle.std.specs.Prelude.{Ok}
use Rattle.std.proofs.lemmas.Result.{err_from_is_err_and}
use lib.Seq.{length-take-le}
use Rattle.base.specs.Current.{current}
use Rattle.encoding.specs.BufferLaws.{StoreGood}
use Rattle.encoding.specs.Buffers.{numbers_in}
use Rattle.evaluator.specs.Memory.{memory_in}
use Rattle.machine.specs.Scanning.{pattern_in}
use Rattle.decoder.specs.Holds.{PatternsHold}
use Rattle.decoder.specs.Meaning.{patterns_meaning, replacement_meaning}
use Rattle.effects.specs.Leaving.{Completion, LeavesStore}
use Rattle.values.specs.ResultLaws.{stopped}
use Rattle.values.specs.Stops.{stop_number}
use Rattle.scan_statement.specs.Patterns.{AllBy}
use Rattle.scan_statement.specs.SearchLaws.{finds_as}
use Rattle.scan_statement.specs.StageLaws.{between_still, few_stored, findable_searchable, found_counting, missed_scans, pieces_inside}
use Rattle.scan_statement.specs.StageLaws.{replaced_scans, stopped_scans}
use Rattle.scan_statement.specs.Stages.{Findable, replaced_pieces, valued_rest}
use Rattle.scan_statement.proofs.scan_span.Goals.{After-pattern_rows, After-replace_pieces}
use Rattle.scan_statement.proofs.scan_span.Goals as goal

pub pattern_rows-requires : goal.pattern_rows-requires
pattern_rows-requires c =
    record {
      bytes = c.requires.referred.scannable.bytes;
      searched = _;
      pattern = c.requires.referred.scannable.pattern;
    }

-- the pattern's values stand in rows, or stop the scan
all-by : (c : After-pattern_rows) {r : Completion} → c.pattern_rows.result ≡ r
    → (let a = c.args in
    let put = c.pattern_rows.new in
    AllBy r a.table.now put.values put.rows put.names a.s.pattern
    (pattern_in current (memory_in a.store.now a.state.now) (patterns_meaning a.table.now a.s.pattern)))
all-by c e =
    let a = c.args in
    let put = c.pattern_rows.new in
    subst (λ (r : Completion). AllBy r a.table.now put.values put.rows put.names a.s.pattern
    (pattern_in current (memory_in a.store.now a.state.now) (patterns_meaning a.table.now a.s.pattern)))
    e c.pattern_rows.ensures

findable : (c : After-pattern_rows) {notes : ℕ} → c.pattern_rows.result ≡ Ok notes
    → (let a = c.args in
    let put = c.pattern_rows.new in
    Findable a.table.now a.store.now a.state.now a.s.direction a.at a.s.pattern put.values put.rows put.names notes)
findable c e =
    let a = c.args in
    let r = c.requires.referred in
    record {
      bytes = r.scannable.bytes;
      ready = r.scannable.ready;
      between = r.between;
      fillers = subst (λ (k : ℕ). PatternsHold a.table.now k a.s.pattern) (sym r.names) r.scannable.pattern;
      put = all-by c e;
    }

pub keep_fillers-requires : goal.keep_fillers-requires
keep_fillers-requires c =
    record {
      bytes = c.requires.referred.scannable.bytes;
      inside = c.requires.referred.scannable.pattern.inside;
      source = c.requires.referred.scannable.ready.strings;
      good = c.requires.kept_good;
    }

pub slice_bounds-find_split-end : goal.slice_bounds-find_split-end
slice_bounds-find_split-end c = sym c.pattern_rows.array_long

pub slice_bounds-find_split-end-2 : goal.slice_bounds-find_split-end-2
slice_bounds-find_split-end-2 c = sym c.pattern_rows.array_long2

pub find_split-requires : goal.find_split-requires
find_split-requires c = findable_searchable (findable (goal.at.find_split-requires c).After-pattern_rows c.in_ok-notes.was)

pub returns-then-not-find_split : goal.returns-then-not-find_split
returns-then-not-find_split c =
    let q = findable (goal.at.returns-then-not-find_split c).After-pattern_rows c.in_ok-notes.was in record {
      scan_leaves = record {
        scans =
            missed_scans q (replacement_meaning c.args.table.now c.args.s.replacement) c.find_split.ensures.stays
            (finds_as c.find_split.ensures c.if-not-find_split.true q.put.rows_are);
      };
      kept_stays = c.keep_fillers.ensures.good;
    }

pub slice_bounds-replace_pieces-end : goal.slice_bounds-replace_pieces-end
slice_bounds-replace_pieces-end c =
    omega (arith, c.pattern_rows.array_long)

pub slice_bounds-replace_pieces-end-2 : goal.slice_bounds-replace_pieces-end-2
slice_bounds-replace_pieces-end-2 c =
    sym (length-take-le 1024 c.pattern_rows.new.values (omega (arith, c.pattern_rows.array_long)))

pub replace_pieces-requires : goal.replace_pieces-requires
replace_pieces-requires c =
    let q = findable (goal.at.replace_pieces-requires c).After-pattern_rows c.in_ok-notes.was in
    let stays = c.find_split.ensures.stays in
    let found = finds_as c.find_split.ensures c.if-not-find_split.false q.put.rows_are in record {
      replaceable = record {
        bytes = q.bytes;
        ready = record { strings = stays.good; numbers = q.ready.numbers };
        replacement = c.requires.referred.scannable.replacement;
        between = between_still q stays found;
        counting = found_counting q found;
        inside = pieces_inside q stays found;
      };
      out_len = length-take-le 1024 c.pattern_rows.new.values (omega (arith, c.pattern_rows.array_long));
    }

-- what the replacement came to
leaves : (c : After-replace_pieces) {r : Completion} → c.replace_pieces.result ≡ r
    → (let a = c.args in
    let named = c.find_split.new in
    LeavesStore r named.store c.replace_pieces.new.store (numbers_in a.state.now)
    (replaced_pieces a.table.now named.store a.state.now a.s a.at named.answer))
leaves c e =
    let a = c.args in
    let named = c.find_split.new in
    subst (λ (r : Completion). LeavesStore r named.store c.replace_pieces.new.store (numbers_in a.state.now)
    (replaced_pieces a.table.now named.store a.state.now a.s a.at named.answer))
    e c.replace_pieces.ensures.leaves

pub overflow_add-result : goal.overflow_add-result
overflow_add-result c =
    let q = findable (goal.at.overflow_add-result c).After-pattern_rows c.in_ok-notes.was in
    let more =
    few_stored q c.find_split.ensures.stays (finds_as c.find_split.ensures c.if-not-find_split.false q.put.rows_are)
    c.args.s.replacement c.requires.referred.scannable.replacement
    (leaves (goal.at.overflow_add-result c).After-replace_pieces c.in-Ok.is) in
    record { fits = omega (arith, more, q.put.few, q.fillers.few) }

pub copy_fillers-requires : goal.copy_fillers-requires
copy_fillers-requires c =
    let put = leaves (goal.at.copy_fillers-requires c).After-replace_pieces c.in-Err.is in
    let q = findable (goal.at.copy_fillers-requires c).After-pattern_rows c.in_ok-notes.was in
    record {
      bytes = q.bytes;
      inside = q.fillers.inside;
      source = c.keep_fillers.ensures.good;
      good = subst StoreGood (sym put.0) c.find_split.ensures.stays.good;
    }

pub returns-in-Ok : goal.returns-in-Ok
returns-in-Ok c =
    let q = findable (goal.at.returns-in-Ok c).After-pattern_rows c.in_ok-notes.was in record {
      scan_leaves = record {
        scans =
            replaced_scans q c.find_split.ensures.stays (finds_as c.find_split.ensures c.if-not-find_split.false q.put.rows_are)
            c.args.s.replacement (leaves (goal.at.returns-in-Ok c).After-replace_pieces c.in-Ok.is);
      };
      kept_stays = c.keep_fillers.ensures.good;
    }

pub returns-in-Err : goal.returns-in-Err
returns-in-Err c =
    let q = findable (goal.at.returns-in-Err c).After-pattern_rows c.in_ok-notes.was in record {
      scan_leaves = record {
        scans =
            stopped_scans q c.find_split.ensures.stays (finds_as c.find_split.ensures c.if-not-find_split.false q.put.rows_are)
            c.args.s.replacement c.in-Err.stop (leaves (goal.at.returns-in-Err c).After-replace_pieces c.in-Err.is)
            c.keep_fillers.ensures c.copy_fillers.ensures;
      };
      kept_stays = c.keep_fillers.ensures.good;
    }

pub returns-in_err-notes : goal.returns-in_err-notes
returns-in_err-notes c =
    let a = c.args in
    let p = err_from_is_err_and c.from_residual.result c.from_residual.ensures.1 in
    rw (p.1, p.2)
    (record {
      scan_leaves = record {
        scans = (
          refl,
          stopped (pattern_in current (memory_in a.store.now a.state.now) (patterns_meaning a.table.now a.s.pattern))
              (valued_rest a.table.now a.store.now a.state.now a.s.direction a.at a.s.pattern
              (replacement_meaning a.table.now a.s.replacement))
              (stop_number c.in_err-notes.field-0.0) (all-by (goal.at.returns-in_err-notes c).After-pattern_rows c.in_err-notes.was),
        );
      };
      kept_stays = c.requires.kept_good;
    })
