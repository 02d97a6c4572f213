-- `uses::note_uses` notes uses one by one. The invariant: those of the entries passed are noted.
use Rattle.std.proofs.Common.{[], ◌∷◌, ◌≡◌, ◌<◌, sym, subst, length, length-append, arith}
use Rattle.symbols.specs.Entries.{entry}
use Rattle.name_checks.specs.Shown.{entry_count, entry_in, entries_to}
use Rattle.name_checks.specs.PairLaws.{entry_comes, entries_end}
use Rattle.statement_checks.specs.UseLaws.{uses_start, uses_next}
use Rattle.statement_checks.specs.Uses.{Used}
use Rattle.statement_checks.proofs.uses.note_uses.Goals.{In-Some}
use Rattle.statement_checks.proofs.uses.note_uses.Goals as goal

-- the entry that comes
next : (c : In-Some)
    → let l = c.loop-key in
    (length l.yielded < entry_count c.args.entries)
    × (entry c.in-Some.key.now c.in-Some.tag.now ≡ entry_in c.args.entries (length l.yielded))
next c =
    let l = c.loop-key in
    let p = c.in-Some in
    entry_comes c.args.entries c.into_iter-key-iterator.result (cc) (cc) l.yielded l.key-iterator l.yielded_by c.next.result c.next.new.self
    (p.key, p.tag) p.is c.next.ensures.steps

pub loop-key-init : goal.loop-key-init
loop-key-init c =
    let a = c.args in
    record { few = omega arith; so = uses_start a.uses.now a.scope a.entries }

pub note_use-requires : goal.note_use-requires
note_use-requires c =
    let more = (next (goal.at.note_use-requires c).In-Some).0 in
    omega (arith, c.requires, c.loop-key.invariant.few)

pub loop-key-preserved : goal.loop-key-preserved
loop-key-preserved c =
    let a = c.args in
    let l = c.loop-key in
    let p = c.in-Some in
    let longer = length-append l.yielded ((p.key, p.tag) ∷ []) in
    record {
      few = omega (arith, longer, l.invariant.few, c.note_use.ensures.few);
      so =
          subst (λ i. Used a.uses.now a.scope (entries_to a.entries i) c.note_use.new.uses) (sym longer)
          (uses_next a.uses.now a.scope a.entries (length l.yielded) _ (next (goal.at.loop-key-preserved c).In-Some).1 l.uses _ l.invariant.so
          c.note_use.ensures);
    }

pub returns : goal.returns
returns c =
    let a = c.args in
    let m = a.entries in
    let l = c.loop-key in
    let all =
    entries_end m c.into_iter-key-iterator.result (cc) (cc) l.yielded l.key-iterator l.yielded_by c.next.result c.next.new.self c.in-None.is
    c.next.ensures.steps
    in
    subst (λ n. Used a.uses.now a.scope (entries_to m n) l.uses) all l.invariant.so
