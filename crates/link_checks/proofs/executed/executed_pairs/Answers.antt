-- `link_checks::executed::executed_pairs` notes use by use. The invariant: the pairs noted and those of the uses left are all.
use Rattle.std.proofs.Common.{Bool, ◌≡◌, ◌||◌, sym, ap, ap₂, ◌∙◌, rules, arith, length-take}
use Rattle.std.specs.List.{list_any}
use Rattle.std.proofs.Math.Bool.{or-false}
use Rattle.link_checks.proofs.Pairings.{none_noted, is_executed}
use Rattle.link_checks.proofs.Columns.{left, all, makes, one_left, none_left, use_noted, use_passed, all_noted}
use Rattle.link_checks.specs.Pairs.{pair_in}
use Rattle.link_checks.specs.declared.executed.TheConstants.{PLACES}
use Rattle.link_checks.proofs.executed.executed_pairs.Goals as goal

pub loop-key-init : goal.loop-key-init
loop-key-init c =
    let s = c.args.symbols.now in
    let start : left c.into_iter-key-iterator.result ≡ all s.uses = search rules in
    λ a b. ap₂ {C = Bool} (λ p us. p || list_any (makes s.known a b) us) (none_noted PLACES PLACES a b) start

pub loop-key-preserved-then-eq : goal.loop-key-preserved-then-eq
loop-key-preserved-then-eq c =
    let s = c.args.symbols.now in
    let l = c.loop-key in
    let i = c.in-Some in
    let one = one_left l.key-iterator c.next.new.self c.next.result c.next.ensures.steps i.key i.scope i.purpose i.is in
    use_noted s.known (λ a b. list_any (makes s.known a b) (all s.uses)) ((i.key.now, i.scope.now), i.purpose.now) (left c.next.new.self) l.pairs
    (λ a b. ap (λ us. pair_in l.pairs a b || list_any (makes s.known a b) us) (sym one) ∙ l.invariant a b) c.note_use.new.pairs
    (sym (is_executed i.purpose.now) ∙ sym c.eq.ensures ∙ c.if-eq.true) c.note_use.ensures

pub loop-key-preserved : goal.loop-key-preserved
loop-key-preserved c =
    let s = c.args.symbols.now in
    let l = c.loop-key in
    let i = c.in-Some in
    let one = one_left l.key-iterator c.next.new.self c.next.result c.next.ensures.steps i.key i.scope i.purpose i.is in
    use_passed s.known (λ a b. list_any (makes s.known a b) (all s.uses)) ((i.key.now, i.scope.now), i.purpose.now) (left c.next.new.self) l.pairs
    (λ a b. ap (λ us. pair_in l.pairs a b || list_any (makes s.known a b) us) (sym one) ∙ l.invariant a b)
    (sym (is_executed i.purpose.now) ∙ sym c.eq.ensures ∙ c.if-eq.false)

pub returns : goal.returns
returns c =
    let s = c.args.symbols.now in
    let l = c.loop-key in
    let none = none_left l.key-iterator c.next.new.self c.next.result c.next.ensures.steps c.in-None.is in
    λ a b.
    sym (or-false (pair_in l.pairs a b)) ∙ ap (λ us. pair_in l.pairs a b || list_any (makes s.known a b) us) (sym none)
    ∙ l.invariant a b
    ∙ all_noted s a b (omega (arith, length-take s.uses.count s.uses.keys)) (omega (arith, length-take s.uses.count s.uses.scopes))
    (omega (arith, length-take s.uses.count s.uses.purposes))
