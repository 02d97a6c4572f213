-- `names::enter_names` puts names behind those known. The invariant: those of the entries passed are.
use Rattle.std.proofs.Common.{[], ◌∷◌, ◌≡◌, ◌<◌, ap, sym, ◌∙◌, subst, length, length-append}
use Rattle.std.specs.Bool.{beq}
use Rattle.symbols.specs.Entries.{entry}
use Rattle.name_checks.specs.Names.{Enters}
use Rattle.name_checks.specs.EnteringLaws.{chosen_to, entering_none, entering_room, entering_one, entering_other}
use Rattle.name_checks.specs.Shown.{entry_count, entry_in}
use Rattle.name_checks.specs.PairLaws.{entry_comes, entries_end}
use Rattle.name_checks.proofs.names.enter_names.Goals.{In-Some}
use Rattle.name_checks.proofs.names.enter_names.Goals as goal

-- the entry that comes
next : (c : In-Some)
    → let l = c.loop-key in
    (length l.yielded < entry_count c.args.entries)
    × (entry c.in-Some.key.now c.in-Some.tag.now ≡ entry_in c.args.entries (length l.yielded))
next c =
    let l = c.loop-key in
    let p = c.in-Some in
    entry_comes c.args.entries c.into_iter-key-iterator.result (cc) (cc) l.yielded l.key-iterator l.yielded_by c.next.result c.next.new.self
    (p.key, p.tag) p.is c.next.ensures.steps

pub loop-key-init : goal.loop-key-init
loop-key-init c =
    let a = c.args in
    entering_none a.names.now a.entries a.declared

pub enter_name-requires : goal.enter_name-requires
enter_name-requires c =
    let a = c.args in
    let l = c.loop-key in
    let p = c.in-Some in
    let told = ap (λ t. beq t a.declared) (sym c.is_declared.ensures) in
    entering_room a.names.now a.entries a.declared l.names l.outcome (length l.yielded) l.invariant p.key.now p.tag.now
    (next (goal.at.enter_name-requires c).In-Some) (told ∙ c.if-is_declared-declared.true) c.requires

pub loop-key-preserved-then-is_declared-declared : goal.loop-key-preserved-then-is_declared-declared
loop-key-preserved-then-is_declared-declared c =
    let a = c.args in
    let l = c.loop-key in
    let p = c.in-Some in
    let told = ap (λ t. beq t a.declared) (sym c.is_declared.ensures) in
    rw (length-append l.yielded ((p.key, p.tag) ∷ []), c.and-outcome.ensures)
    (entering_one a.names.now a.entries a.declared l.names l.outcome (length l.yielded) l.invariant p.key.now p.tag.now
    (next (goal.at.loop-key-preserved-then-is_declared-declared c).In-Some) (told ∙ c.if-is_declared-declared.true) c.enter_name.new.names
    c.enter_name.result (rw c.purpose.ensures at c.enter_name.ensures))

pub loop-key-preserved : goal.loop-key-preserved
loop-key-preserved c =
    let a = c.args in
    let l = c.loop-key in
    let p = c.in-Some in
    let told = ap (λ t. beq t a.declared) (sym c.is_declared.ensures) in
    rw (length-append l.yielded ((p.key, p.tag) ∷ []))
    (entering_other a.names.now a.entries a.declared l.names l.outcome (length l.yielded) l.invariant p.key.now p.tag.now
    (next (goal.at.loop-key-preserved c).In-Some) (told ∙ c.if-is_declared-declared.false))

pub returns : goal.returns
returns c =
    let a = c.args in
    let m = a.entries in
    let l = c.loop-key in
    let all =
    entries_end m c.into_iter-key-iterator.result (cc) (cc) l.yielded l.key-iterator l.yielded_by c.next.result c.next.new.self c.in-None.is
    c.next.ensures.steps
    in
    subst (λ i. Enters a.names.now (chosen_to a.names.now m a.declared i) l.names l.outcome) all l.invariant
