-- The laws that several proofs share, and those of a use noted (Noting).
mod Finding
mod Noting
mod Putting
