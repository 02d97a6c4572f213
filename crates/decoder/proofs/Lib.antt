-- The laws that several proofs share.
mod Cells
mod Numbers
mod Steps
