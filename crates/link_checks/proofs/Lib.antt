-- Laws that the proofs put together: those of the tests of 11 (Losses), of pairs (Pairings) and the uses that make them (Columns), of rounds
-- (Turns, Reached), and of lists, ranges and arrays place by place (Slices).
pub mod Columns
pub mod Losses
pub mod Pairings
pub mod Reached
pub mod Slices
pub mod Turns
