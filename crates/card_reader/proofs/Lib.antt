-- The proofs of the card reader, and the laws they share: lines (Lines), labels and keys (Labels), packing (Packing), joined lines from the right
-- and from the left (Chains), and what the code holds of them (Parts).
pub mod Chains
pub mod Labels
pub mod Lines
pub mod Packing
pub mod Parts
