-- The memory that a store and a state hold (Memory, Meaning), what the values found in it stand for (Values) with what callers learn from them (Laws) and
-- how many notes they come with (Notes), expressions of one operator (Pairs), and the numbers and bytes that the code keeps on the way (Waiting,
-- Appending).
pub mod Appending
pub mod Laws
pub mod Meaning
pub mod Memory
pub mod Notes
pub mod Pairs
pub mod Values
pub mod Waiting
