-- `card_reader::keys::key_of` answers the key.
use Rattle.std.proofs.lemmas.Iterator.Adapters.{YieldsList-from_rev_slice}
use Rattle.std.proofs.lemmas.Iterator.Consumers.{YieldsList-turn, YieldsList-end}
use Rattle.std.proofs.lemmas.List.{map-append, reverse-reverse}
use Rattle.cards.specs.Cards.{without_blanks}
use Rattle.card_reader.proofs.Labels.{Keyed, keyed_start, keyed-with, keyed_without, keyed_small, seen_few}
use Rattle.card_reader.specs.Keys.{key_of}
use mathlib.Core.List.{List, [], ◌∷◌, reverse}
use mathlib.Core.Path.{ap, sym, subst, ◌∙◌}
use Prim.Native.Nat.{ℕ, ◌+◌, ◌*◌, ◌<◌}
use native.Mathlib.Omega.{arith}
use Rattle.card_reader.proofs.keys.key_of.Goals as goal
use Rattle.card_reader.proofs.keys.key_of.Goals.{In-Some, In-None}

-- the bytes come from the last one back, and there are at most 8
small : (c : In-Some) → c.loop-b.key < 72057594037927936
small c =
    let bytes = c.front.result.now in
    let l = c.loop-b in
    let road = YieldsList-from_rev_slice {s = c.into_iter-b-iterator.result} bytes (cc) in
    let turn = YieldsList-turn road l.yielded l.b-iterator l.yielded_by c.next.result c.next.new.self c.in-Some.b c.in-Some.is c.next.ensures.steps in
    keyed_small l.invariant (seen_few c.args.name.now bytes l.yielded c.front.ensures turn.0)

pub loop-b-init : goal.loop-b-init
loop-b-init c = keyed_start

pub overflow_mul-key : goal.overflow_mul-key
overflow_mul-key c = let few = small (goal.at.overflow_mul-key c).In-Some in omega arith

pub overflow_add-key : goal.overflow_add-key
overflow_add-key c = let few = small (goal.at.overflow_add-key c).In-Some in omega arith

pub loop-b-preserved-then-not-is_blank : goal.loop-b-preserved-then-not-is_blank
loop-b-preserved-then-not-is_blank c =
    let l = c.loop-b in
    let b = c.in-Some.b in
    let other = sym c.is_blank.ensures ∙ c.if-not-is_blank.true in
    subst (λ (seen : List ℕ). Keyed seen (256 * l.key + b.now)) (sym (map-append (λ y. y.now) l.yielded (b ∷ [])))
    (keyed-with l.invariant b.now other (omega arith))

pub loop-b-preserved : goal.loop-b-preserved
loop-b-preserved c =
    let l = c.loop-b in
    let b = c.in-Some.b in
    let blank = sym c.is_blank.ensures ∙ c.if-not-is_blank.false in
    subst (λ (seen : List ℕ). Keyed seen l.key) (sym (map-append (λ y. y.now) l.yielded (b ∷ [])))
    (keyed_without l.invariant b.now blank)

pub returns : goal.returns
returns c =
    let bytes = c.front.result.now in
    let l = c.loop-b in
    let road = YieldsList-from_rev_slice {s = c.into_iter-b-iterator.result} bytes (cc) in
    let end = YieldsList-end road l.yielded l.b-iterator l.yielded_by c.next.result c.next.new.self c.in-None.is c.next.ensures.steps in
    l.invariant.is
    ∙ ap (λ (l : List ℕ). key_of (without_blanks l)) (ap (λ (l : List ℕ). reverse l) end.0 ∙ reverse-reverse bytes ∙ c.front.ensures)
