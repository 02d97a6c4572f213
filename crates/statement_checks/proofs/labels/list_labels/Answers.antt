-- `labels::list_labels` notes labels one by one. The invariant: those of the entries passed are noted.
use Rattle.std.proofs.Common.{[], ◌∷◌, ◌≡◌, ◌<◌, ◌∙◌, sym, subst, length, length-append}
use Rattle.symbols.specs.Entries.{entry}
use Rattle.name_checks.specs.Shown.{entry_count, entry_in, entries_to}
use Rattle.name_checks.specs.PairLaws.{entry_comes, entries_end}
use Rattle.statement_checks.proofs.Told.{label_here, label_other}
use Rattle.statement_checks.specs.LabelLaws.{labels_none, labels_more, labels_same}
use Rattle.statement_checks.specs.Labels.{Labelled}
use Rattle.statement_checks.proofs.labels.list_labels.Goals.{In-Some}
use Rattle.statement_checks.proofs.labels.list_labels.Goals as goal

-- the entry that comes
next : (c : In-Some)
    → let l = c.loop-key in
    (length l.yielded < entry_count c.args.entries)
    × (entry c.in-Some.key.now c.in-Some.tag.now ≡ entry_in c.args.entries (length l.yielded))
next c =
    let l = c.loop-key in
    let p = c.in-Some in
    entry_comes c.args.entries c.into_iter-key-iterator.result (cc) (cc) l.yielded l.key-iterator l.yielded_by c.next.result c.next.new.self
    (p.key, p.tag) p.is c.next.ensures.steps

pub loop-key-init : goal.loop-key-init
loop-key-init c =
    let a = c.args in
    labels_none a.labels.now.items a.step a.scope a.entries c.requires

pub loop-key-preserved-then-eq : goal.loop-key-preserved-then-eq
loop-key-preserved-then-eq c =
    let a = c.args in
    let l = c.loop-key in
    let p = c.in-Some in
    subst (λ n. Labelled a.labels.now.items a.step a.scope (entries_to a.entries n) c.note.new.list.items) (sym (length-append l.yielded ((p.key, p.tag) ∷ [])))
    (labels_more a.labels.now.items a.step a.scope a.entries (length l.yielded) _ (next (goal.at.loop-key-preserved-then-eq c).In-Some).1 l.labels.items
    l.invariant _ c.note.new.list.items (label_here a.step a.scope p.key.now p.tag.now (sym c.eq.ensures ∙ c.if-eq.true)) c.note.ensures)

pub loop-key-preserved : goal.loop-key-preserved
loop-key-preserved c =
    let a = c.args in
    let l = c.loop-key in
    let p = c.in-Some in
    subst (λ n. Labelled a.labels.now.items a.step a.scope (entries_to a.entries n) l.labels.items) (sym (length-append l.yielded ((p.key, p.tag) ∷ [])))
    (labels_same a.labels.now.items a.step a.scope a.entries (length l.yielded) _ (next (goal.at.loop-key-preserved c).In-Some).1 l.labels.items
    l.invariant (label_other a.step a.scope p.key.now p.tag.now (sym c.eq.ensures ∙ c.if-eq.false)))

pub returns : goal.returns
returns c =
    let a = c.args in
    let m = a.entries in
    let l = c.loop-key in
    let all =
    entries_end m c.into_iter-key-iterator.result (cc) (cc) l.yielded l.key-iterator l.yielded_by c.next.result c.next.new.self c.in-None.is
    c.next.ensures.steps
    in
    subst (λ n. Labelled a.labels.now.items a.step a.scope (entries_to m n) l.labels.items) all l.invariant
