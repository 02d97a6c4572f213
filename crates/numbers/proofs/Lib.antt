-- The laws that several proofs share.
mod Biases
mod Comparisons
mod Numbers
mod Reading
mod Stores
mod Texts
