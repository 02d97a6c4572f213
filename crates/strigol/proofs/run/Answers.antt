-- `strigol::run`: what is lent to a run of a deck.
use Rattle.std.proofs.Common.{ℕ}
use Rattle.std.proofs.Math.ListN.{length-replicate}
use Rattle.calls.specs.Strigol.{lent_output}
use Rattle.strigol.proofs.run.Goals as goal

pub run_deck-n-requires : goal.run_deck-n-requires
unfolding lent_output
run_deck-n-requires c =
    record { kept_deck_lem = c.requires.deck_kept; kept_input_lem = c.requires.input_kept; room = length-replicate {A = ℕ} 16456 0 }
