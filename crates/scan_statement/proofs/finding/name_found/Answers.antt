-- `finding::name_found` meets its contract: the bytes searched are there still when the fillers are null.
use mathlib.Core.List.{List}
use mathlib.Core.Path.{subst}
use Prim.Native.Nat.{ℕ}
use Rattle.encoding.specs.Meaning.{direction_meaning}
use Rattle.effects.specs.Fillers.{PiecesNamed}
use Rattle.scan_statement.specs.SearchLaws.{none_named, reference_still, span_still}
use Rattle.scan_statement.proofs.finding.name_found.Goals as goal

pub returns-then-answer-eq0 : goal.returns-then-answer-eq0
returns-then-answer-eq0 c = none_named c.if-answer-eq0.true c.null_fillers.ensures

pub name_fillers-requires : goal.name_fillers-requires
name_fillers-requires c =
    let a = c.args in
    span_still c.null_fillers.ensures (direction_meaning a.d) a.at c.requires.clear (c.requires.pieces c.if-answer-eq0.false)

pub returns : goal.returns
returns c =
    let a = c.args in
    let nulled = c.null_fillers.new.store in
    record {
      by =
          record {
            found = c.if-answer-eq0.false;
            nulled = nulled;
            null = c.null_fillers.ensures;
            pieces =
                subst (λ (r : List ℕ). PiecesNamed nulled c.name_fillers.new.store r a.names.now a.answer.now a.pattern.count)
                (reference_still c.null_fillers.ensures (direction_meaning a.d) a.at c.requires.clear) c.name_fillers.ensures;
          };
    }
