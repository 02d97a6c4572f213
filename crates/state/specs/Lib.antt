-- What the state's functions leave (Clauses), the laws of its check and its start (KeepLaws), and what the writes of a step are to the
-- machine (Laws).
pub mod Clauses
pub mod KeepLaws
pub mod Laws
