-- `statement_parser::read_statement` notes the label, if there is one, and reads the statement.
use mathlib.Core.Path.{sym, ◌∙◌}
use Rattle.std.proofs.lemmas.Bool.{not-true, not-false}
use Rattle.statement_parser.specs.Labels.{statement_off, statement_plain, statement_unnamed, statement_named}
use Rattle.statement_parser.specs.Labels.{form_unlabelled, form-labelled, starts_labelled}
use Rattle.statement_parser.specs.StageLaws.{form-same}
use Rattle.statement_parser.proofs.read_statement.Goals as goal

pub returns-then-not-packed : goal.returns-then-not-packed
returns-then-not-packed c =
    let a = c.args in
    λ label_bytes _. record { answer = statement_off a.known.now a.text.now label_bytes (not-true _ c.if-not-packed.true) }

pub returns-then-packed-eq0 : goal.returns-then-packed-eq0
returns-then-packed-eq0 c =
    λ label_bytes w.
    form-same
    (statement_plain c.args.known.now c.args.text.now label_bytes w (not-false _ c.if-not-packed.false) c.if-packed-eq0.true)
    (form_unlabelled c.read_form.result c.read_form.ensures)

pub returns-then-not-is_name : goal.returns-then-not-is_name
returns-then-not-is_name c =
    let a = c.args in
    λ label_bytes w.
    record {
      answer =
          statement_unnamed a.known.now a.text.now label_bytes a.packed.whole w c.if-packed-eq0.false
          (sym c.is_name.ensures ∙ c.if-not-is_name.true);
    }

pub read_form-requires-2-clause-starts : goal.read_form-requires-2-clause-starts
read_form-requires-2-clause-starts c = let p = c.requires in starts_labelled p.starts p.names_value c.note-d.ensures

pub returns : goal.returns
returns c =
    λ label_bytes w.
    form-same
    (statement_named c.args.known.now c.args.text.now label_bytes w (not-false _ c.if-not-packed.false)
    c.if-packed-eq0.false (sym c.is_name.ensures ∙ c.if-not-is_name.false))
    (form-labelled c.note-d.ensures c.read_form-2.result
    c.read_form-2.ensures)
