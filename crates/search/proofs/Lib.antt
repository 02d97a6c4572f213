-- The proofs of the search, and the laws they share (Laws).
pub mod Laws
