-- `strigol::main`: no more is there of deck and input than is kept.
use Rattle.std.proofs.Common.{ℕ, refl, arith, length-take}
use Rattle.std.proofs.Math.ListN.{length-replicate}
use Rattle.calls.specs.Strigol.{kept_deck, kept_input}
use Rattle.strigol.proofs.main.Goals as goal

pub keep_deck-requires : goal.keep_deck-requires
unfolding kept_deck
keep_deck-requires c = refl

pub keep_input-requires : goal.keep_input-requires
unfolding kept_input
keep_input-requires c = refl

pub run-requires : goal.run-requires
unfolding kept_deck kept_input
run-requires c = record {
  deck_kept = omega (arith, length-take c.in-Ok.kept c.keep_deck.new.to, c.keep_deck.auto.to, length-replicate {A = ℕ} 32769 0);
  input_kept = omega (arith, length-take c.in-Ok-keep_input.kept c.keep_input.new.to, c.keep_input.auto.to, length-replicate {A = ℕ} 32768 0);
}
