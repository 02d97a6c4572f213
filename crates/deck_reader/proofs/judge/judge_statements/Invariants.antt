-- `deck_reader::judge::judge_statements`: entry after entry. The invariant: the deck is judged as the rest is from the environment.
use Prim.Native.Nat.{◌+◌, ◌-◌}
use lib.ListN.{length}
use mathlib.Core.Path.{◌≡◌}
use Rattle.card_reader.specs.Packs.{longest_text}
use Rattle.deck_reader.specs.DeckLaws.{DeckJudging}
use Rattle.deck_reader.proofs.judge.judge_statements.Given as goal

abbrev pub invariant-loop-from : goal.invariant-loop-from
invariant-loop-from l =
    DeckJudging l.deck.bytes.now l.symbols l.from l.card × (length l.text ≡ longest_text) × (length l.table ≡ length l.initial.table)

abbrev pub decreases-loop-from : goal.decreases-loop-from
decreases-loop-from l =
    length l.deck.bytes.now + 1 - l.from
